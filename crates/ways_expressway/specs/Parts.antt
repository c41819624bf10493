-- What one more note makes of sums and flows, and the flow of a stretch in a minute out of its ring of six.
use Rattle.std.specs.Prelude.{ℕ, ◌≤◌, ◌+◌, ◌-◌, ◌*◌, ◌/◌, ◌%◌, ◌==◌, ◌&&◌, Bool, List, length, sum_by, Option, Some}
use Rattle.std.specs.Prelude.{None, unwrap_or, slice_index_or, if◌then◌else◌}
use Rattle.std.specs.Map.{lookup}
use Rattle.road_time.specs.declared.road.Stretch.{Stretch}
use Rattle.road_time.specs.Tuples.{same_stretch}
use Rattle.road_time.specs.Notes.{Note}
use Rattle.road_time.specs.Lav.{CarFlow}
use Rattle.ways_expressway.specs.declared.this_minute.Car.{Car}
use Rattle.ways_expressway.specs.declared.this_minute.Sum.{Sum}
use Rattle.ways_expressway.specs.declared.window.Flow.{Flow as CodeFlow}
use Rattle.ways_expressway.specs.declared.window.RingSlot.{RingSlot}
use Rattle.ways_expressway.specs.declared.window.Ring.{Ring}

-- a flow of the code, as the definitions have it
abbrev pub shown_flow : CodeFlow → CarFlow
shown_flow f = record { cars = f.cars; speeds12 = f.speeds12 }

-- nothing noted
abbrev pub no_flow : CodeFlow
no_flow = record { cars = 0; speeds12 = 0 }

-- no speed noted
abbrev pub no_sum : Sum
no_sum = record { total = 0; count = 0 }

-- one speed more
abbrev pub more : Sum → ℕ → Sum
more s spd = record { total = s.total + spd; count = s.count + 1 }

-- twelve times the mean
abbrev pub mean12 : Sum → ℕ
mean12 s = (12 * s.total) / s.count

-- a flow with one more note of a vehicle, of which these speeds were noted before
abbrev pub grown : CodeFlow → Sum → ℕ → CodeFlow
grown f before spd =
    record {
      cars = if before.count == 0 then f.cars + 1 else f.cars;
      speeds12 =
          f.speeds12 + mean12 (more before spd) - mean12 before;
    }

-- the speeds of notes
abbrev pub sum_for : List Note → Sum
sum_for ns = record { total = sum_by (λ n. n.spd) ns; count = length ns }

-- a slot's flow, where it is of the minute
abbrev pub slot_flow : RingSlot → ℕ → CodeFlow
slot_flow s m = if s.minute == m then s.flow else no_flow

-- what a ring keeps of a minute
abbrev pub ring_flow : Ring → ℕ → CodeFlow
ring_flow r m = slot_flow (slice_index_or r.slots (m % 6) (record { minute = 0; flow = no_flow })) m

-- what a ring keeps of a minute, or none does
abbrev pub flow_of : Option Ring → ℕ → CodeFlow
flow_of None m = no_flow
flow_of (Some r) m = ring_flow r m

-- whether two are the same vehicle in the same stretch
abbrev pub same_car : Car → Car → Bool
same_car a b = same_stretch a.stretch b.stretch && a.vid == b.vid

-- what is kept of a vehicle in the open minute
abbrev pub sum_in : List (Car × Sum) → Car → Sum
sum_in seen c = unwrap_or (lookup (same_car c) seen) no_sum

-- what is kept of a stretch in a minute
abbrev pub flow_in : List (Stretch × Ring) → Stretch → ℕ → CodeFlow
flow_in rings k m = flow_of (lookup (same_stretch k) rings) m

-- a flow of a day: few cars, and none with a mean above 100
pub record IsSmall (f : CodeFlow) : Type 0 where
  pub few : f.cars ≤ 500000
  pub slow : f.speeds12 ≤ 1200 * f.cars

-- all flows that are kept are those of a day
abbrev pub AreSmall : List (Stretch × Ring) → Type 0
AreSmall rings = (k : Stretch) (m : ℕ) → IsSmall (flow_in rings k m)
