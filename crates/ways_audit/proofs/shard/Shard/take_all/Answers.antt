use Rattle.std.proofs.Common.{◌++◌, take, sym, ap, subst, ◌∙◌, arith}
use Rattle.std.proofs.lemmas.List.{take_all, take_more}
use Rattle.road_time.specs.Tuples.{reports}
use Rattle.day_floor.specs.Stands.{StandsFor}
use Rattle.ways_audit.specs.Own.{own_of, told_after}
use Rattle.ways_audit.proofs.OwnLaws.{Took, took_none, took_more}
use Rattle.ways_audit.proofs.shard.Shard.take_all.Goals as goal

pub loop-tuple-init : goal.loop-tuple-init
loop-tuple-init c = took_none c.args.place c.args.count c.args.self.now

pub loop-tuple-preserved : goal.loop-tuple-preserved
loop-tuple-preserved c =
    let ts = c.args.tuples.now in
    let i = c.loop-tuple.tuple-index in
    subst (Took c.args.place c.args.count c.args.self.now c.take.new.self)
    (sym (take_more ts i _ c.loop-tuple-test.true))
    (took_more c.args.place c.args.count c.args.self.now c.loop-tuple.self c.take.new.self
    (take i ts) _ c.loop-tuple.invariant c.in_ok-take.ensures.tracked c.in_ok-take.ensures.told)

pub returns-clause-tracked : goal.returns-clause-tracked
returns-clause-tracked c = λ day t.
    let i = c.loop-tuple.tuple-index in
    subst (λ xs. StandsFor c.loop-tuple.self.tracker (own_of c.args.place c.args.count (reports (day ++ xs))))
    (take_all i c.args.tuples.now (omega (arith, c.loop-tuple-test.false))) (c.loop-tuple.invariant.tracked day t)

pub returns-clause-told : goal.returns-clause-told
returns-clause-told c = λ day t.
    let i = c.loop-tuple.tuple-index in
    c.loop-tuple.invariant.told day t
    ∙ ap (λ xs. c.args.self.now.told.items ++ told_after c.args.place c.args.count day xs)
    (take_all i c.args.tuples.now (omega (arith, c.loop-tuple-test.false)))
