use Rattle.std.proofs.Common.{rules, arith, ◌≡◌, ◌+◌, cond, ap, ◌∙◌, Some}
use Rattle.std.specs.Map.{lookup}
use Rattle.day_floor.specs.Sums.{same_owner, sum_at}
use Rattle.day_floor.proofs.sums.add.Goals as goal

pub returns-in_ok-insert-in-None-clause-added : goal.returns-in_ok-insert-in-None-clause-added
returns-in_ok-insert-in-None-clause-added c = λ q.
    let none : sum_at c.args.sums.now.entries c.args.owner ≡ 0 = search rules in
    let all : c.args.toll ≡ sum_at c.args.sums.now.entries c.args.owner + c.args.toll = omega arith in
    c.in_ok-insert-in-None.ensures.updates.0 q
    ∙ (ap (λ m. cond (same_owner c.args.owner q) (Some c.args.toll) (lookup (same_owner q) m.entries))
    c.get_mut.follows.holds-at-none
    ∙ ap (λ n. cond (same_owner c.args.owner q) (Some n) (lookup (same_owner q) c.args.sums.now.entries)) all)
