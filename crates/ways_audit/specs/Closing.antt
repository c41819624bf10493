-- What was found for a day, put at the positions for which it was found.
use Rattle.std.specs.Prelude.{◌≡◌, ℕ, ◌<◌, List, length, slice_index_or}
use Rattle.road_time.specs.declared.road.Report.{Report}
use Rattle.road_time.specs.Day.{given}
use Rattle.road_time.specs.Tolls.{StretchTold}
use Rattle.day_floor.specs.declared.due_slot.Found.{Found}
use Rattle.day_floor.specs.Slots.{found_of}

-- each place has what the findings give for its position
abbrev pub IsPlaced : List Found → List (ℕ × StretchTold) → Type 0
IsPlaced places found = (at : ℕ) (d : Found) (r : Report) → at < length places →
    slice_index_or places at d ≡ found_of (given found (at, r))
