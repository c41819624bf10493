-- The traffic of a plan: all its crashes and trips, and the file of their tuples.
use Rattle.std.specs.Prelude.{ℕ, zero, suc, ◌+◌, ◌-◌, ◌*◌, List, ◌++◌}
use Rattle.std.specs.List.{flat_map, range_with_len}
use Rattle.rand_pcg.specs.Lcg.{Lcg}
use Rattle.road_time.specs.declared.road.Tuple.{Tuple}
use Rattle.road_time.specs.Order.{by_time}
use Rattle.road_time.specs.Text.{lines_text}
use Rattle.tuples_traffic.specs.declared.plan.GenPlan.{GenPlan}
use Rattle.tuples_traffic.specs.declared.crash.Crash.{Crash}
use Rattle.tuples_traffic.specs.declared.trip.Trip.{Trip}
use Rattle.tuples_traffic.specs.Plans.{end_of}
use Rattle.day_plan.specs.Draws.{seeded}
use Rattle.tuples_traffic.specs.Crashes.{drawn_crash, crash_tuples}
use Rattle.tuples_traffic.specs.Trips.{drawn_trip, trip_tuples}

-- the generator before the draws of a crash
unfoldable pub before_crash : GenPlan → ℕ → Lcg
before_crash plan zero = seeded plan.seed
before_crash plan (suc c) = (drawn_crash plan (before_crash plan c)).1

-- a crash, by its number from 0
unfoldable pub crash_of : GenPlan → ℕ → Crash
crash_of plan c = (drawn_crash plan (before_crash plan c)).0

-- the vehicle of a trip: those of the crashes come first
abbrev pub vid_of_trip : GenPlan → ℕ → ℕ
vid_of_trip plan n = 2 * plan.crashes + 1 + n

-- how many vehicles make a trip
abbrev pub trips : GenPlan → ℕ
trips plan = plan.vehicles - 2 * plan.crashes

-- the generator before the draws of a trip, which come after those of all crashes
unfoldable pub before_trip : GenPlan → ℕ → Lcg
before_trip plan zero = before_crash plan plan.crashes
before_trip plan (suc n) = (drawn_trip plan (vid_of_trip plan n) (before_trip plan n)).1

-- a trip, by its number from 0
unfoldable pub trip_of : GenPlan → ℕ → Trip
trip_of plan n = (drawn_trip plan (vid_of_trip plan n) (before_trip plan n)).0

-- the tuples of the first n crashes
unfoldable pub crash_traffic : GenPlan → ℕ → List Tuple
crash_traffic plan n = flat_map (λ c. crash_tuples (end_of plan) c (crash_of plan c)) (range_with_len 0 n)

-- the tuples of the first n trips
unfoldable pub trip_traffic : GenPlan → ℕ → List Tuple
trip_traffic plan n = flat_map (λ i. trip_tuples (end_of plan) (trip_of plan i)) (range_with_len 0 n)

-- all tuples, vehicle by vehicle, and of each its reports before its requests
unfoldable pub traffic : GenPlan → List Tuple
traffic plan = crash_traffic plan plan.crashes ++ trip_traffic plan (trips plan)

-- the tuples of the file, in the order of Time; those of a second stay in the order of vehicles and types
unfoldable pub generated : GenPlan → List Tuple
generated plan = by_time (traffic plan)

-- the file: a line each
unfoldable pub file_of : GenPlan → List ℕ
file_of plan = lines_text (generated plan)
