-- Laws of generated traffic, which no code runs.
use Rattle.std.specs.Prelude.{ℕ, ◌≡◌, ◌≤◌, None, length}
use Rattle.road_time.specs.declared.day.TheConstants.Limits.{DAY}
use Rattle.road_time.specs.Fits.{IsDay}
use Rattle.road_time.specs.Reads.{reads}
use Rattle.tuples_traffic.specs.declared.plan.GenPlan.{GenPlan}
use Rattle.tuples_traffic.specs.Plans.{field_out}
use Rattle.tuples_traffic.specs.Turns.{InLineOrder}
use Rattle.tuples_traffic.specs.Traffic.{generated, file_of}

-- the file of a plan in its ranges is accepted whole, however late lines may come, as the day that was generated
abbrev pub AcceptedLaw : Type 0
AcceptedLaw =
    (plan : GenPlan) → field_out plan ≡ None → IsDay (generated plan)
    × ((late : ℕ) → reads (file_of plan) DAY late ≡ record { tuples = generated plan; refused = None })

-- the lines of a generated file stand in the order of Time, vehicle and type, no two alike
abbrev pub LineOrderLaw : Type 0
LineOrderLaw = (plan : GenPlan) → field_out plan ≡ None → InLineOrder (generated plan)

-- a generated file is of bounded size
abbrev pub SizeLaw : Type 0
SizeLaw = (plan : GenPlan) → field_out plan ≡ None → (length (generated plan) ≤ 200000)
    × (length (file_of plan) ≤ 40000000)
