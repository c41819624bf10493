-- What is found for the reports that a worker's events tell.
use Rattle.std.specs.Prelude.{ℕ, ◌==◌, ◌&&◌, not, Bool, true, false, List, ◌++◌, Option, Some, None}
use Rattle.std.specs.List.{filter, filter_map}
use Rattle.road_time.specs.declared.road.Report.{Report}
use Rattle.road_time.specs.Notes.{Note}
use Rattle.road_time.specs.Stops.{Stop}
use Rattle.road_time.specs.Entries.{standing_at}
use Rattle.road_time.specs.Rates.{Tariffs}
use Rattle.road_time.specs.Tolls.{notes_of, StretchTold, finding_by}
use Rattle.ways_expressway.specs.declared.lane_event.LaneEvent.{LaneEvent}
use Rattle.ways_expressway.specs.declared.lane_event.LaneEvent.TheVariants.{Seen, Leave}
use Rattle.ways_expressway.specs.declared.finding.Finding.{Finding as CodeFinding}
use Rattle.ways_expressway.specs.Events.{seen, entries}

-- a finding of the code, as the definitions have it: its position, and what is told there
abbrev pub shown : CodeFinding → ℕ × StretchTold
shown f = (f.position, record { lav = f.lav; toll = f.toll; alert = f.alert })

-- what is found for a report at a position, if it is one that is told
abbrev pub found_if : Bool → List Note → (ℕ → List Stop) → Tariffs → ℕ → Report → Option (ℕ × StretchTold)
found_if false notes stops_at tariffs position r = None
found_if true notes stops_at tariffs position r = Some (position, finding_by notes stops_at tariffs r)

-- the finding of an event, if it is a report that begins a stay outside lane 4
abbrev pub finding_of : List Note → (ℕ → List Stop) → Tariffs → LaneEvent → Option (ℕ × StretchTold)
finding_of notes stops_at tariffs (Seen position r begins stopped) =
    found_if (begins && not (r.lane == 4)) notes stops_at tariffs position r
finding_of notes stops_at tariffs (Leave position time vid place) = None

-- the findings of events that come after earlier ones, under the tariffs, each with its position
abbrev pub findings : List LaneEvent → List LaneEvent → Tariffs → List (ℕ × StretchTold)
findings before es tariffs =
    filter_map (finding_of (notes_of (seen (before ++ es))) (standing_at (entries (before ++ es))) tariffs) es

-- the findings at a position
abbrev pub found_at : ℕ → List (ℕ × StretchTold) → List (ℕ × StretchTold)
found_at position found = filter (λ f. f.0 == position) found
