use Rattle.std.proofs.Common.{◌≡◌, arith, ap, ◌∙◌, Some}
use Rattle.std.specs.Map.{lookup}
use Rattle.road_time.specs.Lav.{lav_of}
use Rattle.road_time.specs.Tuples.{same_stretch}
use Rattle.road_time.proofs.PrefixLaws.{five_same}
use Rattle.ways_expressway.specs.KeptSpeeds.{KeptSpeeds}
use Rattle.ways_expressway.specs.Parts.{IsSmall}
use Rattle.road_time.proofs.MeanLaws.{all_five}
use Rattle.ways_expressway.proofs.NoteParts.{ring_small, ring_is}
use Rattle.ways_expressway.proofs.speeds.Speeds.lav.Goals as goal

pub mean_average-requires-clause-small : goal.mean_average-requires-clause-small
mean_average-requires-clause-small c =
    let small =
    ring_small c.self.inside.rings.entries c.self.invariant c.args.stretch c.in_ok-ring.ring.now
    c.in_ok-ring.ensures.value in
    all_five IsSmall c.at.result c.at-2.result c.at-3.result c.at-4.result c.at-5.result (small _ _ c.at.ensures)
    (small _ _ c.at-2.ensures) (small _ _ c.at-3.ensures) (small _ _ c.at-4.ensures) (small _ _ c.at-5.ensures)

pub returns-clause-exact : goal.returns-clause-exact
returns-clause-exact c = λ notes st.
    let was : c.self.inside.minute ≡ c.args.self.now.minute = ap (λ (s : KeptSpeeds). s.minute) c.self.view_is in
    let there : Some c.in_ok-ring.ring.now ≡ lookup (same_stretch c.args.stretch) c.args.self.now.rings =
    c.in_ok-ring.ensures.value ∙ ap (λ (s : KeptSpeeds). lookup (same_stretch c.args.stretch) s.rings) c.self.view_is in
    let is = ring_is c.args.self.now notes st c.args.stretch c.in_ok-ring.ring.now there in
    c.mean_average.ensures.exact
    ∙ ap lav_of
    (five_same (is _ _ c.at.ensures _ (omega (arith, was)) (omega (arith, was)))
    (is _ _ c.at-2.ensures _ (omega (arith, was)) (omega (arith, was)))
    (is _ _ c.at-3.ensures _ (omega (arith, was)) (omega (arith, was)))
    (is _ _ c.at-4.ensures _ (omega (arith, was)) (omega (arith, was)))
    (is _ _ c.at-5.ensures _ (omega (arith, was)) (omega (arith, was))))
