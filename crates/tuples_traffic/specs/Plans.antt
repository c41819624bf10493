-- What a plan may ask for, and when its traffic ends.
use Rattle.std.specs.Prelude.{ℕ, ◌*◌, ◌≤◌, ◌&&◌, not, nat_le, Option, Some, None, if◌then◌else◌}
use Rattle.tuples_traffic.specs.declared.plan.GenPlan.{GenPlan}

-- the number of the first field that is out of its range, the seed being the first and in its range always
abbrev pub field_out : GenPlan → Option ℕ
field_out plan =
    if not (nat_le 1 plan.vehicles && nat_le plan.vehicles 5000) then Some 2
    else if not (nat_le 1 plan.minutes && nat_le plan.minutes 1440) then Some 3
    else if not (nat_le 1 plan.xways && nat_le plan.xways 256) then Some 4
    else if not (nat_le plan.crashes 100 && nat_le (2 * plan.crashes) plan.vehicles) then Some 5
    else None

-- every field is in its range
pub record InRange (plan : GenPlan) : Type 0 where
  pub some_vehicles : 1 ≤ plan.vehicles
  pub few_vehicles : plan.vehicles ≤ 5000
  pub some_minutes : 1 ≤ plan.minutes
  pub few_minutes : plan.minutes ≤ 1440
  pub some_xways : 1 ≤ plan.xways
  pub few_xways : plan.xways ≤ 256
  pub few_crashes : plan.crashes ≤ 100
  pub pairs : 2 * plan.crashes ≤ plan.vehicles

-- the second at which the traffic ends
abbrev pub end_of : GenPlan → ℕ
end_of plan = 60 * plan.minutes
