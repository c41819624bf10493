use Rattle.std.proofs.Common.{◌+◌, drop, get_or, subst, arith}
use Rattle.std.proofs.lemmas.List.{drop_all}
use Rattle.ways_audit.proofs.PlaceLaws.{Through, through_none, next_own, found_at, within, saw_next, all_through}
use Rattle.ways_audit.proofs.RoutingLaws.{no_tuple}
use Rattle.ways_audit.proofs.shard.Shard.take_own.Goals as goal

pub loop-at-init : goal.loop-at-init
loop-at-init c =
    through_none c.args.place c.args.count c.args.self.now c.args.tuples.now c.args.places.now c.requires.own

pub bounds-tuples-at : goal.bounds-tuples-at
bounds-tuples-at c =
    let ps = c.args.places.now in
    let i = c.loop-at.at-index in
    within c.args.place c.args.count c.args.self.now c.loop-at.self c.args.tuples.now (get_or ps i 0) (drop (i + 1) ps)
    (next_own c.args.place c.args.count c.args.self.now c.loop-at.self c.args.tuples.now ps i c.loop-at-test.true
    c.loop-at.invariant)

pub loop-at-preserved : goal.loop-at-preserved
loop-at-preserved c =
    let ts = c.args.tuples.now in
    let ps = c.args.places.now in
    let i = c.loop-at.at-index in
    let p = get_or ps i 0 in
    let h = next_own c.args.place c.args.count c.args.self.now c.loop-at.self ts ps i c.loop-at-test.true
    c.loop-at.invariant in
    saw_next c.args.place c.args.count c.args.self.now c.loop-at.self c.take.new.self ts p (drop (i + 1) ps)
    (get_or ts p no_tuple) h
    (found_at c.args.place c.args.count c.args.self.now c.loop-at.self ts p (drop (i + 1) ps) no_tuple h)
    c.in_ok-take.ensures.tracked c.in_ok-take.ensures.told

pub returns-clause-tracked : goal.returns-clause-tracked
returns-clause-tracked c =
    let i = c.loop-at.at-index in
    (all_through c.args.place c.args.count c.args.self.now c.loop-at.self c.args.tuples.now
    (subst (Through c.args.place c.args.count c.args.self.now c.loop-at.self c.args.tuples.now)
    (drop_all i c.args.places.now (omega (arith, c.loop-at-test.false))) c.loop-at.invariant)).tracked

pub returns-clause-told : goal.returns-clause-told
returns-clause-told c =
    let i = c.loop-at.at-index in
    (all_through c.args.place c.args.count c.args.self.now c.loop-at.self c.args.tuples.now
    (subst (Through c.args.place c.args.count c.args.self.now c.loop-at.self c.args.tuples.now)
    (drop_all i c.args.places.now (omega (arith, c.loop-at-test.false))) c.loop-at.invariant)).told
