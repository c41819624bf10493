use Rattle.std.proofs.Common.{rules, ◌≡◌, cond, sym, ap, ◌∙◌}
use Rattle.ways_expressway.specs.Parts.{sum_in, same_car, no_sum, more}
use Rattle.ways_expressway.proofs.NoteParts.{put_sum}
use Rattle.ways_expressway.proofs.this_minute.add.Goals as goal

pub returns-in_ok-insert-in-None-clause-sums : goal.returns-in_ok-insert-in-None-clause-sums
returns-in_ok-insert-in-None-clause-sums c = λ q.
    let none : sum_in c.args.seen.now.entries c.args.car ≡ no_sum = search rules in
    put_sum (same_car c.args.car q) _ _ _ (c.in_ok-insert-in-None.ensures.updates.0 q)
    ∙ ap (λ m. cond (same_car c.args.car q) c.more-in-None.result (sum_in m.entries q)) c.get_mut.follows.holds-at-none
    ∙ ap (λ x. cond (same_car c.args.car q) x (sum_in c.args.seen.now.entries q))
    (c.more-in-None.ensures ∙ ap (λ x. more x c.args.spd) (sym none))
