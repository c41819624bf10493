use Rattle.std.proofs.Common.{rules, ◌≡◌, ◌+◌, cond, subst}
use Rattle.ways_audit.specs.declared.numbers.Numbers.{Numbers}
use Rattle.ways_audit.specs.Seconds.{same_numbers, how_many}
use Rattle.ways_audit.proofs.CountLaws.{counted}
use Rattle.ways_audit.proofs.still_to_come.StillToCome.new.Goals as goal

pub loop-notice-preserved : goal.loop-notice-preserved
loop-notice-preserved c =
    let old = c.loop-notice.counts.entries in
    let new = c.one_more.new.counts.entries in
    counted old new c.args.notices.now c.loop-notice.notice-index _ (search rules)
    (subst (λ (k : Numbers). (p : Numbers) → how_many new p ≡ cond (same_numbers k p) (how_many old k + 1) (how_many old p))
    c.numbers_of.ensures c.in_ok-one_more.ensures) c.loop-notice.invariant
