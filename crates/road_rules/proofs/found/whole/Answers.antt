use Rattle.std.proofs.Common.{◌≤◌, ◌/◌, arith, sym, ap, ◌∙◌, w16}
use Rattle.std.proofs.Math.Nat.{div-le_of_le-mul, mul_comm}
use Rattle.std.proofs.lemmas.Int.{to_z_pos}
use Rattle.road_time.specs.Rates.{whole_of}
use Rattle.road_rules.proofs.found.whole.Goals as goal

pub returns-in-Some : goal.returns-in-Some
returns-in-Some c =
    let small = c.requires.small c.in-Some.f c.in-Some.is in
    let few : c.in-Some.f.num / c.in-Some.f.den ≤ 100 =
    div-le_of_le-mul c.in-Some.f.den (rw (mul_comm 100 c.in-Some.f.den) at small.1) in
    to_z_pos w16 (c.in-Some.f.num / c.in-Some.f.den) (omega (arith, few)) ∙ sym (ap whole_of c.in-Some.is)
