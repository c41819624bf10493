-- What is kept of a tuple that waits to be settled.
use Rattle.std.specs.Prelude.{List, map, length}
use Rattle.road_time.specs.declared.road.Tuple.{Tuple}
use Rattle.road_time.specs.declared.road.Tuple.TheVariants.{Report as ReportTuple, Balance as BalanceTuple}
use Rattle.road_time.specs.declared.road.Tuple.TheVariants.{Spent as SpentTuple, Travel}
use Rattle.road_time.specs.Sights.{Moment, moments_after, Sight, sights_of, previous}
use Rattle.road_time.specs.Stays.{is_told}
use Rattle.road_time.specs.Tolls.{StretchTold}
use Rattle.road_time.specs.Day.{no_finding}
use Rattle.day_floor.specs.Told.{charge_by}
use Rattle.day_floor.specs.declared.due_slot.Found.{Found}
use Rattle.day_floor.specs.declared.due_slot.Due.{Due}
use Rattle.day_floor.specs.declared.due_slot.Due.TheVariants.{Nothing, Report, Balance, Spent}
use Rattle.day_floor.specs.declared.due_slot.Slot.{Slot}

-- a finding of the definitions, as a slot keeps it
abbrev pub found_of : StretchTold → Found
found_of f = record { lav = f.lav; toll = f.toll; alert = f.alert }

-- what a moment calls for, as far as it is known when its tuple comes
abbrev pub due_of : Moment → Due
due_of (before, ReportTuple r) =
    Report r.time r.vid (charge_by (previous (sights_of before r.vid)) r)
    (is_told (previous (sights_of before r.vid)) r)
due_of (before, BalanceTuple time vid qid) = Balance time vid qid
due_of (before, SpentTuple time vid xway qid day) = Spent time vid qid xway day
due_of (before, Travel time) = Nothing

-- what was found for a moment
abbrev pub found_for : (Sight → StretchTold) → Moment → Found
found_for finding (before, ReportTuple r) = found_of (finding (length before, r))
found_for finding (before, BalanceTuple time vid qid) = found_of no_finding
found_for finding (before, SpentTuple time vid xway qid day) = found_of no_finding
found_for finding (before, Travel time) = found_of no_finding

-- the slot of a moment
abbrev pub slot_of : (Sight → StretchTold) → Moment → Slot
slot_of finding m = record { due = due_of m; found = found_for finding m }

-- the slots of tuples that follow others
abbrev pub slots_of : (Sight → StretchTold) → List Tuple → List Tuple → List Slot
slots_of finding before rest = map (slot_of finding) (moments_after before rest)
