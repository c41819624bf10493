-- Laws of events, jobs and findings, which no code runs: whatever the number of workers, they find what the rules find.
use Rattle.std.specs.Prelude.{◌≡◌, ℕ, ◌≤◌, ◌<◌, take, map, ◌==◌, true, List, [], ◌∷◌, ◌++◌, length}
use Rattle.std.specs.List.{AllByRecursion, filter, filter_map, flat_map, range_with_len}
use Rattle.road_time.specs.declared.road.Tuple.{Tuple}
use Rattle.road_time.specs.declared.road.Tuple.TheVariants.{Report as ReportTuple}
use Rattle.road_time.specs.declared.road.Report.{Report}
use Rattle.road_time.specs.declared.road.Stretch.{Stretch}
use Rattle.road_time.specs.declared.road.Place.{Place}
use Rattle.road_time.specs.declared.day.Limits.{Limits}
use Rattle.road_time.specs.Fits.{Fit, IsDay}
use Rattle.road_time.specs.Rates.{Tariffs}
use Rattle.road_time.specs.Ways.{way_of, worker_for}
use Rattle.road_time.specs.Tuples.{reports, stretch_of, same_stretch, stretch_around}
use Rattle.road_time.specs.Sights.{Sight, moments, sights_of, previous}
use Rattle.road_time.specs.Stays.{is_told}
use Rattle.road_time.specs.Stops.{up_to, is_stopped}
use Rattle.road_time.specs.Entries.{is_standing, entries_up_to}
use Rattle.road_time.specs.Tolls.{StretchTold}
use Rattle.road_time.specs.Day.{rules, told_sight, given, charges_between, balance_by, total_by, notices, balance}
use Rattle.road_time.specs.Day.{total, merged}
use Rattle.ways_expressway.specs.declared.lane_event.LaneEvent.{LaneEvent}
use Rattle.ways_expressway.specs.declared.job.Job.{Job}
use Rattle.ways_expressway.specs.declared.job.Done.{Done}
use Rattle.ways_expressway.specs.Ready.{CanRun}
use Rattle.ways_expressway.specs.Results.{IsResultOf, IsResultShaped}
use Rattle.ways_expressway.specs.Events.{events_for, position_told, seen, entries}
use Rattle.ways_expressway.specs.Findings.{findings, found_at}
use Rattle.ways_expressway.specs.Runs.{MayRun, PositionsRise}

-- the reports that are from a stretch
abbrev pub from : Stretch → List Report → List Report
from stretch rs = filter (λ r. same_stretch (stretch_of r) stretch) rs

-- a worker sees all reports from each stretch of its ways, in order
abbrev pub SeenLaw : Type 0
SeenLaw =
    (day : List Tuple) (limits : Limits) → Fit day limits → (width : ℕ) (stretch : Stretch) →
    from stretch (seen (events_for day (worker_for (way_of stretch) width) width)) ≡ from stretch (reports day)

-- a worker reads from its events who is stopped at each place of its ways, at the end of each second
abbrev pub StoppedLaw : Type 0
StoppedLaw =
    (day : List Tuple) (limits : Limits) → Fit day limits → (width : ℕ) (place : Place) (vid second : ℕ) → is_standing
    (entries_up_to second (entries (events_for day (worker_for (way_of (stretch_around place)) width) width))) vid
    place
    ≡ is_stopped (up_to second (reports day)) vid place

-- what a worker finds at the position of a report of its ways that is told, is what the rules tell there over the
-- whole day and under the tariffs
abbrev pub FindingLaw : Type 0
FindingLaw =
    (day : List Tuple) (limits : Limits) → Fit day limits →
    (tariffs : Tariffs) (width : ℕ) (before later : List Tuple) (r : Report) →
    day ≡ before ++ ReportTuple r ∷ later → is_told (previous (sights_of before r.vid)) r ≡ true →
    found_at (length before) (findings [] (events_for day (worker_for (way_of (stretch_of r)) width) width) tariffs)
    ≡ (length before, rules day tariffs (length before, r)) ∷ []

-- the reports of a day that are told and that lie on a worker's ways
abbrev pub told_sights : List Tuple → ℕ → ℕ → List Sight
told_sights day worker width =
    filter (λ s. worker_for (way_of (stretch_of s.1)) width == worker) (filter_map told_sight (moments day))

-- all that a worker finds is what the rules find for those reports, in order
abbrev pub WorkerLaw : Type 0
WorkerLaw =
    (day : List Tuple) (limits : Limits) → Fit day limits → (tariffs : Tariffs) (worker width : ℕ) →
    findings [] (events_for day worker width) tariffs ≡ map (λ s. (s.0, rules day tariffs s))
    (told_sights day worker width)

-- a worker's events may be run from the first one on
abbrev pub RunLaw : Type 0
RunLaw = (day : List Tuple) (limits : Limits) → Fit day limits → (worker width : ℕ) →
    MayRun [] (events_for day worker width)

-- the reports that a worker sees are a fit day
abbrev pub CarriedLaw : Type 0
CarriedLaw = (day : List Tuple) (limits : Limits) → Fit day limits → (worker width : ℕ) →
    Fit (map (λ r. ReportTuple r) (seen (events_for day worker width))) limits

-- the events of a day that the office takes can be run on a new carriage
abbrev pub ReadyLaw : Type 0
ReadyLaw = (day : List Tuple) → IsDay day → (worker width : ℕ) → CanRun [] (events_for day worker width)

-- where events can be run, the first of them can, and the later ones after those
abbrev pub PartsLaw : Type 0
PartsLaw = (before es later : List LaneEvent) → CanRun before (es ++ later) → CanRun before es
    × CanRun (before ++ es) later

-- what is done of a job has the shape of its result
abbrev pub ShapeLaw : Type 0
ShapeLaw = (job : Job) (done : Done) → IsResultOf job done → IsResultShaped job done

-- events in one job or in two give the same findings
abbrev pub JobLaw : Type 0
JobLaw =
    (before es later : List LaneEvent) (tariffs : Tariffs) → MayRun before (es ++ later) →
    findings before (es ++ later) tariffs ≡ findings before es tariffs ++ findings (before ++ es) later tariffs

-- the findings of all workers, of so many
abbrev pub all_findings : List Tuple → Tariffs → ℕ → List (ℕ × StretchTold)
all_findings day tariffs width =
    flat_map (λ worker. findings [] (events_for day worker width) tariffs) (range_with_len 0 width)

-- whatever the number of workers, their findings make the rules' notices
abbrev pub PartitionLaw : Type 0
PartitionLaw =
    (day : List Tuple) (limits : Limits) → Fit day limits → (tariffs : Tariffs) (width : ℕ) → 1 ≤ width →
    (number : ℕ) (kept : ℕ → ℕ → ℕ → ℕ) →
    merged day (all_findings day tariffs width) number kept ≡ notices day tariffs number kept

-- a worker's events are in the order of their positions
abbrev pub PositionLaw : Type 0
PositionLaw =
    (day : List Tuple) (worker width : ℕ) → PositionsRise (events_for day worker width)
    × AllByRecursion (λ e. position_told e < length day) (events_for day worker width)

-- the first event, if there is one, is of no position below n
abbrev pub IsFrom : ℕ → List LaneEvent → Type 0
IsFrom n [] = Unit {0}
IsFrom n (e ∷ es) = n ≤ position_told e

-- the first events of each worker are back, and the next one of each is of no position below n
pub record AreBack (day : List Tuple) (width n : ℕ) (back out : ℕ → List LaneEvent) : Type 0 where
  pub whole : (worker : ℕ) → worker < width → events_for day worker width ≡ back worker ++ out worker
  pub next : (worker : ℕ) → worker < width → IsFrom n (out worker)

-- the findings given are those of the events that are back, in whatever order the workers gave them
abbrev pub AreGiven : Tariffs → ℕ → (ℕ → List LaneEvent) → List (ℕ × StretchTold) → Type 0
AreGiven tariffs width back found =
    (position : ℕ) → found_at position found ≡ found_at position
    (flat_map (λ worker. findings [] (back worker) tariffs) (range_with_len 0 width))

-- the findings given have the positions of those, whatever their values
abbrev pub HaveTheirPositions : Tariffs → ℕ → (ℕ → List LaneEvent) → List (ℕ × StretchTold) → Type 0
HaveTheirPositions tariffs width back found =
    (position : ℕ) → map (λ f. f.0) (found_at position found) ≡ map (λ f. f.0)
    (found_at position (flat_map (λ worker. findings [] (back worker) tariffs) (range_with_len 0 width)))

-- where no event that is out is of a position below n, there is exactly one finding given at each of the first n
-- positions that is told
abbrev pub OneLaw : Type 0
OneLaw =
    (day : List Tuple) (limits : Limits) → Fit day limits → (tariffs : Tariffs) (width : ℕ) → 1 ≤ width → (n : ℕ) →
    n ≤ length day → (back out : ℕ → List LaneEvent) → AreBack day width n back out → (found : List (ℕ × StretchTold)) →
    HaveTheirPositions tariffs width back found →
    (before later : List Tuple) (r : Report) → take n day ≡ before ++ ReportTuple r ∷ later →
    is_told (previous (sights_of before r.vid)) r ≡ true →
    (f : StretchTold) × (found_at (length before) found ≡ (length before, f) ∷ [])

-- and where the findings given are the workers' own, they make the notices of the first n tuples
abbrev pub SettleLaw : Type 0
SettleLaw =
    (day : List Tuple) (limits : Limits) → Fit day limits → (tariffs : Tariffs) (width : ℕ) → 1 ≤ width → (n : ℕ) →
    n ≤ length day → (back out : ℕ → List LaneEvent) → AreBack day width n back out → (found : List (ℕ × StretchTold)) →
    AreGiven tariffs width back found → (number : ℕ) (kept : ℕ → ℕ → ℕ → ℕ) →
    merged (take n day) found number kept ≡ notices (take n day) tariffs number kept

-- and they make the charges of the rules over the whole day between any positions up to n, and with them the accounts
-- at n
abbrev pub AccountLaw : Type 0
AccountLaw =
    (day : List Tuple) (limits : Limits) → Fit day limits → (tariffs : Tariffs) (width : ℕ) → 1 ≤ width → (n : ℕ) →
    n ≤ length day → (back out : ℕ → List LaneEvent) → AreBack day width n back out → (found : List (ℕ × StretchTold)) →
    AreGiven tariffs width back found →
    ((a b : ℕ) → b ≤ n → charges_between (given found) day a b ≡ charges_between (rules day tariffs) day a b)
    × ((vid : ℕ) → balance_by (given found) vid (take n day) ≡ balance day tariffs vid (take n day))
    × (total_by (given found) (take n day) ≡ total day tariffs (take n day))
