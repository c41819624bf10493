-- In which order events may come.
use Rattle.std.specs.Prelude.{◌≡◌, ℕ, ◌≤◌, true, List, [], ◌∷◌, ◌++◌}
use Rattle.std.specs.List.{AllByRecursion}
use Rattle.road_time.specs.Entries.{is_standing}
use Rattle.ways_expressway.specs.declared.lane_event.LaneEvent.{LaneEvent}
use Rattle.ways_expressway.specs.declared.lane_event.LaneEvent.TheVariants.{Seen, Leave}
use Rattle.ways_expressway.specs.Events.{position_told, time_told, entries}

-- no event is of a later second
abbrev pub NoneAfter : ℕ → List LaneEvent → Type 0
NoneAfter second es = AllByRecursion (λ e. time_told e ≤ second) es

-- an event may come after others: none of them is of a later second, and a vehicle leaves only where it stands
abbrev pub MayFollow : List LaneEvent → LaneEvent → Type 0
MayFollow before (Seen position r begins stopped) = NoneAfter r.time before
MayFollow before (Leave position time vid place) = NoneAfter time before
    × (is_standing (entries before) vid place ≡ true)

-- events may come after others, one by one
abbrev pub MayRun : List LaneEvent → List LaneEvent → Type 0
MayRun before [] = Unit {0}
MayRun before (e ∷ es) = MayFollow before e × MayRun (before ++ e ∷ []) es

-- positions do not fall from event to event
abbrev pub PositionsRise : List LaneEvent → Type 0
PositionsRise [] = Unit {0}
PositionsRise (e ∷ es) = AllByRecursion (λ f. position_told e ≤ position_told f) es × PositionsRise es
