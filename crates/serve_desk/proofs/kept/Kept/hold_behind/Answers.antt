use Rattle.std.proofs.Common.{◌≡◌, ◌≤◌, ap, sym, ◌∙◌, arith}
use Rattle.serve_desk.specs.History.{told_at}
use Rattle.serve_desk.proofs.kept.Kept.hold_behind.Goals as goal

pub invariant_of-result : goal.invariant_of-result
invariant_of-result g c =
    let told = g.K.Keeper.told in
    let seen = c.args.seen.now in
    let a = c.again in
    let same : told_at told a.result.seen.log a.result.count ≡ told_at told seen.seen.log seen.count =
    ap (λ log. told_at told log a.result.count) a.ensures.log ∙ ap (λ n. told_at told seen.seen.log n) a.ensures.count in
    let some : 1 ≤ seen.count = (let less = c.is_reached.ensures.count c.if-is_reached.false in omega (arith, less)) in
    record {
      sound = λ o is. seen.sound some o (sym same ∙ is);
      begun = λ n is. (let here : seen.count ≡ n = cc in omega (arith, here, a.ensures.count));
      next = λ n is. (let here : seen.count ≡ n = cc in omega (arith, here, a.ensures.count));
    }
