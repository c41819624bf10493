-- worked rows of events and findings, which the checker computes
use Rattle.std.proofs.Common.{◌≡◌, ℕ, true, false, List, [], ◌∷◌, ◌++◌, refl, pos, negsuc, Option, Some, None, take}
use Rattle.std.proofs.Common.{drop}
use Rattle.road_time.specs.declared.road.Tuple.{Tuple}
use Rattle.road_time.specs.declared.road.Tuple.TheVariants.{Report as ReportTuple}
use Rattle.road_time.specs.declared.road.Report.{Report}
use Rattle.road_time.specs.Tolls.{StretchTold}
use Rattle.ways_expressway.specs.declared.lane_event.LaneEvent.{LaneEvent}
use Rattle.ways_expressway.specs.declared.lane_event.LaneEvent.TheVariants.{Seen, Leave}
use Rattle.ways_expressway.specs.Events.{events_for}
use Rattle.ways_expressway.specs.Findings.{findings}

-- a report: second, vehicle, speed, expressway, lane, direction, segment, feet
abbrev report : ℕ → ℕ → ℕ → ℕ → ℕ → ℕ → ℕ → ℕ → Report
report time vid spd xway lane dir seg at =
    record { time = time; vid = vid; spd = spd; xway = xway; lane = lane; dir = dir; seg = seg; pos = at }

-- the same as a tuple
abbrev R : ℕ → ℕ → ℕ → ℕ → ℕ → ℕ → ℕ → ℕ → Tuple
R time vid spd xway lane dir seg at = ReportTuple (report time vid spd xway lane dir seg at)

-- a finding: position, toll, alert, average
abbrev F : ℕ → ℕ → Option ℕ → ℕ → ℕ × StretchTold
F position toll alert lav = (position, record { lav = pos lav; toll = toll; alert = alert })

-- a finding without an average
abbrev none : ℕ → ℕ × StretchTold
none position = (position, record { lav = negsuc 0; toll = 0; alert = None })

-- two vehicles at one place at a second
abbrev pair_at : ℕ → List Tuple
pair_at t = R t 1 0 0 2 0 10 55000 ∷ R t 2 0 0 2 0 10 55000 ∷ []

-- stopped on another way: two vehicles stop, and one is seen next on another expressway
abbrev elsewhere : List Tuple
elsewhere =
    pair_at 0 ++ pair_at 30 ++ pair_at 60 ++ pair_at 90
    ++ (R 130 2 50 1 0 0 3 15840 ∷ R 180 3 50 0 1 0 10 52800 ∷ R 240 4 50 0 1 0 10 52800 ∷ [])

-- the worker of the place is told that it was left
elsewhere_left : take 3 (drop 7 (events_for elsewhere 0 64))
    ≡ Seen 7 (report 90 2 0 0 2 0 10 55000) false true ∷ Leave 8 130 2
    (record { xway = 0; dir = 0; lane = 2; seg = 10; pos = 55000 }) ∷ Seen 9 (report 180 3 50 0 1 0 10 52800) true
    false ∷ []
elsewhere_left = refl

-- one worker finds all
elsewhere_one : findings [] (events_for elsewhere 0 1) [] ≡ none 0 ∷ none 1 ∷ none 8 ∷ F 9 0 (Some 10) 0
    ∷ F 10 0 None 16 ∷ []
unfolding Rattle.road_time.specs.Stops.seconds_of
elsewhere_one = refl

-- of sixty-four, the worker of the place finds what is told on its way
elsewhere_here : findings [] (events_for elsewhere 0 64) [] ≡ none 0 ∷ none 1 ∷ F 9 0 (Some 10) 0 ∷ F 10 0 None 16 ∷ []
unfolding Rattle.road_time.specs.Stops.seconds_of
elsewhere_here = refl

-- of three, the worker of the other way finds the other report
elsewhere_there : findings [] (events_for elsewhere 2 3) [] ≡ none 8 ∷ []
unfolding Rattle.road_time.specs.Stops.seconds_of
elsewhere_there = refl

-- an expressway that charges from the first car on
elsewhere_charged : findings [] (events_for elsewhere 0 64) ((0, record { crowd = 0; speed = 100; factor = 3 }) ∷ [])
    ≡ none 0 ∷ none 1 ∷ F 9 0 (Some 10) 0 ∷ F 10 3 None 16 ∷ []
unfolding Rattle.road_time.specs.Stops.seconds_of
elsewhere_charged = refl

-- the same in two jobs
elsewhere_jobs : findings (take 5 (events_for elsewhere 0 64)) (drop 5 (events_for elsewhere 0 64)) []
    ≡ F 9 0 (Some 10) 0 ∷ F 10 0 None 16 ∷ []
unfolding Rattle.road_time.specs.Stops.seconds_of
elsewhere_jobs = refl

-- a job with the leave alone, and then one with each report
abbrev place_left : List LaneEvent
place_left = Leave 8 130 2 (record { xway = 0; dir = 0; lane = 2; seg = 10; pos = 55000 }) ∷ []

-- the events of the pair
abbrev pair_seen : List LaneEvent
pair_seen = take 8 (events_for elsewhere 0 64)

-- the leave finds nothing
leave_alone : findings pair_seen place_left [] ≡ []
leave_alone = refl

-- the first report after it is in a blocked minute
then_blocked : findings (pair_seen ++ place_left) (Seen 9 (report 180 3 50 0 1 0 10 52800) true false ∷ []) []
    ≡ F 9 0 (Some 10) 0 ∷ []
unfolding Rattle.road_time.specs.Stops.seconds_of
then_blocked = refl

-- the second is not
then_free : findings (pair_seen ++ place_left ++ Seen 9 (report 180 3 50 0 1 0 10 52800) true false ∷ [])
    (Seen 10 (report 240 4 50 0 1 0 10 52800) true false ∷ []) [] ≡ F 10 0 None 16 ∷ []
unfolding Rattle.road_time.specs.Stops.seconds_of
then_free = refl

-- stops broken by another way: a report elsewhere stands between four at one place
abbrev broken : List Tuple
broken = pair_at 0 ++ pair_at 30 ++ (R 60 1 0 0 2 0 10 55000 ∷ R 60 2 50 1 1 0 3 15840 ∷ []) ++ pair_at 90
    ++ (R 120 2 0 0 2 0 10 55000 ∷ R 180 3 50 0 1 0 10 52800 ∷ [])

-- nobody is stopped there
broken_here : findings [] (events_for broken 0 64) [] ≡ none 0 ∷ none 1 ∷ F 7 0 None 0 ∷ F 9 0 None 0 ∷ []
unfolding Rattle.road_time.specs.Stops.seconds_of
broken_here = refl
