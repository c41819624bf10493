-- Halts: who stands where, from a report after which the vehicle stands up to its next report.
use Rattle.std.specs.Prelude.{ℕ, ◌≤◌, ◌+◌, ◌==◌, ◌&&◌, nat_le, nat_lt, Bool, true, false, List, [], ◌∷◌, ◌++◌, map}
use Rattle.std.specs.Prelude.{reverse, Option, Some, None, if◌then◌else◌}
use Rattle.std.specs.List.{filter, AllByRecursion}
use Rattle.road_time.specs.declared.road.Report.{Report}
use Rattle.road_time.specs.declared.road.Place.{Place}
use Rattle.road_time.specs.declared.road.Stretch.{Stretch}
use Rattle.road_time.specs.Tuples.{place_of, same_place, stretch_around, same_stretch}
use Rattle.road_time.specs.Stops.{stands, Stop}
use Rattle.road_rules.specs.declared.halts.Mark.{Mark}
use Rattle.road_rules.specs.declared.halts.Halt.{Halt}

-- the reports of a vehicle
abbrev pub of_vehicle : ℕ → List Report → List Report
of_vehicle vid reports = filter (λ r. r.vid == vid) reports

-- a report, and whether its vehicle stands after it and the older ones, the newest first
abbrev pub mark_of : Report → List Report → Mark
mark_of r older = record { report = r; stands = stands (r ∷ of_vehicle r.vid older) (place_of r) }

-- each report with whether its vehicle stands after it, the newest first
abbrev pub marks_of : List Report → List Mark
marks_of [] = []
marks_of (r ∷ older) = mark_of r older ∷ marks_of older

-- when a vehicle is reported next, in later reports, the nearest first
abbrev pub next_time : List Mark → ℕ → Option ℕ
next_time [] vid = None
next_time (m ∷ later) vid = if m.report.vid == vid then Some m.report.time else next_time later vid

-- the time for which a vehicle stands after a report, if it does
abbrev pub halt_if : Bool → Report → Option ℕ → List Halt
halt_if false r to = []
halt_if true r to = record { vid = r.vid; place = place_of r; from = r.time; to = to } ∷ []

-- when vehicles stand after their reports, the newest first, where later ones followed
abbrev pub halts_after : List Mark → List Mark → List Halt
halts_after later [] = []
halts_after later (m ∷ older) =
    halt_if m.stands m.report (next_time later m.report.vid) ++ halts_after (m ∷ later) older

-- when each vehicle stands where, by the reports of a day
abbrev pub halts_of : List Report → List Halt
halts_of reports = halts_after [] (marks_of (reverse reports))

-- a second is before another, or there is no other
abbrev pub is_before : ℕ → Option ℕ → Bool
is_before second None = true
is_before second (Some to) = nat_lt second to

-- whether the vehicle stands at the end of a second
abbrev pub covers : ℕ → Halt → Bool
covers second h = nat_le h.from second && is_before second h.to

-- who stands at the end of a second
abbrev pub halting : List Halt → ℕ → List Stop
halting halts second = map (λ h. (h.vid, h.place)) (filter (covers second) halts)

-- Times do not rise
abbrev pub Fall : List Report → Type 0
Fall [] = Unit {0}
Fall (r ∷ older) = AllByRecursion (λ x. x.time ≤ r.time) older × Fall older

-- the halt is in the stretch, and touches the minute that begins at a second
abbrev pub is_about : ℕ → Stretch → Halt → Bool
is_about start stretch h =
    same_stretch (stretch_around h.place) stretch && (nat_lt h.from (start + 60) && is_before start h.to)

-- the halt is in the stretch
abbrev pub is_in : Stretch → Halt → Bool
is_in stretch h = same_stretch (stretch_around h.place) stretch

-- the halt is at the place
abbrev pub is_at : Place → Halt → Bool
is_at place h = same_place h.place place
