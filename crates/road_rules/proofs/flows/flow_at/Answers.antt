use Rattle.std.proofs.Common.{◌≡◌, ◌+◌, ℕ, nat_eq, get_or, arith, sym, ap₂, ◌∙◌}
use Rattle.std.specs.HashMap.{get}
use Rattle.std.proofs.lemmas.List.Sums.{sum_by_more}
use Rattle.road_time.specs.Notes.{speed12, notes_of_vehicle, notes_at}
use Rattle.road_time.specs.Tolls.{notes_of}
use Rattle.road_time.specs.Tuples.{reports}
use Rattle.road_rules.specs.Gathered.{kept_items}
use Rattle.road_rules.proofs.SeenLaws.{few_speeds, speed12_from}
use Rattle.road_rules.proofs.flows.flow_at.Goals as goal

pub speed12_of-sum-requires : goal.speed12_of-sum-requires
speed12_of-sum-requires c =
    let vid = get_or c.deref-vid-items.result.now c.loop-vid.vid-index 0 in
    let few = few_speeds c.args.in_minute c.args.stretch vid c.args.tuples.now (kept_items (get nat_eq c.in_ok-speeds.speeds vid))
    (c.in_ok-speeds.ensures vid) in
    omega (arith, few, c.requires.lines)

pub loop-vid-preserved : goal.loop-vid-preserved
loop-vid-preserved c =
    let vids = c.deref-vid-items.result.now in
    let i = c.loop-vid.vid-index in
    let vid = get_or vids i 0 in
    let own : ℕ → ℕ = λ v. speed12 (notes_of_vehicle (notes_at (notes_of (reports c.args.tuples.now)) c.args.in_minute c.args.stretch) v) in
    let speed : c.speed12_of-sum.result ≡ own vid = c.speed12_of-sum.ensures.mean
    ∙ speed12_from c.args.in_minute c.args.stretch vid c.args.tuples.now (kept_items (get nat_eq c.in_ok-speeds.speeds vid)) (c.in_ok-speeds.ensures vid) in
    record {
      sum = ap₂ (λ (a b : ℕ). a + b) c.loop-vid.invariant.sum speed ∙ sym (sum_by_more own vids i 0 c.loop-vid-test.true);
      small = omega (arith, c.loop-vid.invariant.small, c.speed12_of-sum.ensures.bounded);
    }
