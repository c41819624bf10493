use Rattle.std.proofs.Common.{◌+◌, ◌++◌, ◌∷◌, [], List, Ok, take, drop, refl, sym, subst, append-nil, ◌∙◌, arith}
use Rattle.road_time.specs.declared.road.Tuple.{Tuple}
use Rattle.day_floor.specs.Answers.{history_of}
use Rattle.road_io.specs.Levels.{Level}
use Rattle.day_floor.specs.SettlingRuns.{InRun, Waits, StopsRun}
use Rattle.day_floor.proofs.FaultLaws.{sink_then, keeper_then, sink_idle, keeper_idle}
use Rattle.day_floor.proofs.SettlingRunLaws.{rest_more, run_begins}
use Rattle.day_floor.proofs.StopLaws.{stops_within}
use Rattle.day_floor.proofs.settler.Settler.settle_run.Goals as goal

pub loop-init : goal.loop-init
loop-init g c =
    let a = c.args in
    let w : Level = (g.O.Sink.written a.sink.now, g.O.Sink.room a.sink.now) in
    record {
      run = λ finding before rest h waits few. (
        run_begins finding a.number (history_of (g.K.Keeper.told a.keeper.now)) a.self.now before w
            (g.K.Keeper.plan a.keeper.now) h,
        subst (λ (ts : List Tuple). Waits a.slots.now.items finding ts rest) (sym (append-nil before)) waits,
      );
      same = refl;
      sink = sink_idle _ _ (Ok tt) refl;
      keeper = keeper_idle _ _ (Ok tt) refl;
      digested = refl;
    }

pub settle_next-requires : goal.settle_next-requires
settle_next-requires g c =
    let r = c.requires.waits in
    let i = c.loop.counter in
    let le = r.5 in
    let at = c.loop.invariant.run r.0 r.1 r.2 r.3 r.4 r.5 in
    let m = rest_more i r.2 (omega (arith, c.loop-test.true, le)) in (
      r.0,
      r.1,
      take i r.2,
      m.0,
      drop (i + 1) r.2,
      (g.O.Sink.written c.args.sink.now, g.O.Sink.room c.args.sink.now),
      g.K.Keeper.plan c.args.keeper.now,
      at.0,
      subst
          (λ (ts : List Tuple). Waits c.loop.slots.items r.0 (r.1 ++ take i r.2) ts) m.1 at.1,
    )

pub returns-in-Err-clause-err : goal.returns-in-Err-clause-err
returns-in-Err-clause-err g c = λ finding before rest h waits few.
    let i = c.loop.counter in
    let at = c.loop.invariant.run finding before rest h waits few in
    let m = rest_more i rest (omega (arith, c.loop-test.true, few)) in
    let old : Level = (g.O.Sink.written c.args.sink.now, g.O.Sink.room c.args.sink.now) in
    let now : Level = (g.O.Sink.written c.settle_next.new.sink, g.O.Sink.room c.settle_next.new.sink) in
    let plan = g.K.Keeper.plan c.args.keeper.now in
    let left = g.K.Keeper.plan c.settle_next.new.keeper in
    let stopped = c.in-Err.ensures.err finding before (take i rest) m.0 (drop (i + 1) rest) old plan at.0
    (subst (λ (ts : List Tuple). Waits c.loop.slots.items finding (before ++ take i rest) ts) m.1 at.1) in
    stops_within finding c.args.number (history_of (g.K.Keeper.told c.args.keeper.now)) c.in-Err.fault before rest
    (i + 1) c.args.count old now plan left (omega (arith, c.loop-test.true))
    (subst (λ (ts : List Tuple). StopsRun c.in-Err.fault finding c.args.number
    (history_of (g.K.Keeper.told c.args.keeper.now)) before ts old now plan left) (sym m.2)
    (subst (λ k. StopsRun c.in-Err.fault finding c.args.number (history_of k) before (take i rest ++ m.0 ∷ []) old now
    plan left) c.loop.invariant.same stopped))

pub loop-preserved : goal.loop-preserved
loop-preserved g c =
    let i = c.loop.counter in
    let inv = c.loop.invariant in
    let done = c.in_default.ensures in
    let old : Level = (g.O.Sink.written c.args.sink.now, g.O.Sink.room c.args.sink.now) in
    let now : Level = (g.O.Sink.written c.settle_next.new.sink, g.O.Sink.room c.settle_next.new.sink) in
    let plan = g.K.Keeper.plan c.args.keeper.now in
    let left = g.K.Keeper.plan c.settle_next.new.keeper in
    record {
      run = λ finding before rest h waits few.
          let at = inv.run finding before rest h waits few in
          let m = rest_more i rest (omega (arith, c.loop-test.true, few)) in
          let next =
          done.ok finding before (take i rest) m.0 (drop (i + 1) rest) old plan at.0
          (subst (λ (ts : List Tuple). Waits c.loop.slots.items finding (before ++ take i rest) ts) m.1 at.1) in (
            subst (λ (ts : List Tuple). InRun c.settle_next.new.self finding c.args.number
                (history_of (g.K.Keeper.told c.settle_next.new.keeper)) before ts old now plan left) (sym m.2) next.0,
            subst (λ (ts : List Tuple). Waits c.settle_next.new.slots.items finding (before ++ ts) (drop (i + 1) rest))
                (sym m.2) next.1,
          );
      same = done.same ∙ inv.same;
      sink = sink_then tt _ _ _ _ _ _ (Ok tt) inv.sink done.sink;
      keeper = keeper_then tt _ _ _ _ _ _ (Ok tt) inv.keeper done.keeper;
      digested = done.digested ∙ inv.digested;
    }
