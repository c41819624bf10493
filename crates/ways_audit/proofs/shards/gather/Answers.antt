use Rattle.std.proofs.Common.{◌+◌, ◌++◌, ◌∷◌, [], take, drop, sym, ap, subst, ◌∙◌, arith}
use Rattle.std.proofs.lemmas.List.{take_all, take_more, drop_more, drop_all}
use Rattle.ways_audit.specs.Seen.{tracked_after}
use Rattle.ways_audit.specs.Stands.{Await}
use Rattle.ways_audit.proofs.TakenLaws.{Taken, taken_more, none_wait}
use Rattle.ways_audit.proofs.shards.gather.Goals as goal

pub loop-tuple-preserved : goal.loop-tuple-preserved
loop-tuple-preserved c =
    let was = c.args.shards.now in
    let ts = c.args.tuples.now in
    let i = c.loop-tuple.tuple-index in
    let next = c.take_told-told.new.shards in
    let rest = drop (i + 1) ts in
    let before = subst (Taken was ts c.loop-tuple.shards c.loop-tuple.list.items (take i ts))
    (drop_more ts i _ c.loop-tuple-test.true) c.loop-tuple.invariant in
    subst (λ list. Taken was ts next list (take (i + 1) ts) rest) (sym c.in_ok-push.ensures.items)
    (subst (λ done. Taken was ts next (c.loop-tuple.list.items ++ c.take_told-told.result ∷ []) done rest)
    (sym (take_more ts i _ c.loop-tuple-test.true))
    (taken_more was ts c.loop-tuple.shards next c.loop-tuple.list.items (take i ts) rest _ c.take_told-told.result
    before c.take_told-told.ensures.len c.take_told-told.ensures.told c.take_told-told.ensures.left))

pub returns-clause-list : goal.returns-clause-list
returns-clause-list c = λ whole given w.
    c.loop-tuple.invariant.list_is whole given w
    ∙ ap (tracked_after given)
    (take_all c.loop-tuple.tuple-index c.args.tuples.now (omega (arith, c.loop-tuple-test.false)))

pub returns-clause-left : goal.returns-clause-left
returns-clause-left c = λ whole given w.
    let ts = c.args.tuples.now in
    let i = c.loop-tuple.tuple-index in
    none_wait c.loop-tuple.shards whole (given ++ take i ts)
    (subst (λ rest. Await whole (given ++ take i ts) rest c.loop-tuple.shards)
    (drop_all i ts (omega (arith, c.loop-tuple-test.false))) (c.loop-tuple.invariant.wait whole given w))
