use Rattle.std.proofs.Common.{take, refl, subst}
use Rattle.day_floor.specs.declared.settler.Settler.{Settler}
use Rattle.day_floor.specs.Answers.{history_of}
use Rattle.road_io.specs.Levels.{Level}
use Rattle.day_floor.specs.SettlingRuns.{StopsRun}
use Rattle.day_floor.proofs.SettlingRunLaws.{run_flushed}
use Rattle.day_floor.proofs.StopLaws.{run_unflushed, on_flush, if_unflushed}
use Rattle.day_floor.proofs.settler.Settler.write_run.Goals as goal

pub returns-clause-ok : goal.returns-clause-ok
returns-clause-ok g c =
    let s = c.settle_run.new.self in
    let s' : Settler = record { book = s.book; printer = c.flush.new.self; charges = s.charges; settled = s.settled } in
    let old : Level = (g.O.Sink.written c.args.sink.now, g.O.Sink.room c.args.sink.now) in
    let mid : Level = (g.O.Sink.written c.settle_run.new.sink, g.O.Sink.room c.settle_run.new.sink) in
    let new : Level = (g.O.Sink.written c.flush.new.sink, g.O.Sink.room c.flush.new.sink) in
    let plan = g.K.Keeper.plan c.args.keeper.now in
    let left = g.K.Keeper.plan c.settle_run.new.keeper in
    let history = history_of (g.K.Keeper.told c.settle_run.new.keeper) in
    on_flush c.flush.result s.printer c.flush.new.self mid new _ c.flush.ensures.hands
    (λ hands finding before rest h waits few.
    let run = c.in_default.ensures.ok finding before rest h waits few in (
      run_flushed finding c.args.number history s s' before (take c.args.count rest) old mid new plan left run.0 refl
          refl refl hands,
      run.1,
    ))

pub returns-clause-err : goal.returns-clause-err
returns-clause-err g c =
    let s = c.settle_run.new.self in
    let old : Level = (g.O.Sink.written c.args.sink.now, g.O.Sink.room c.args.sink.now) in
    let mid : Level = (g.O.Sink.written c.settle_run.new.sink, g.O.Sink.room c.settle_run.new.sink) in
    let new : Level = (g.O.Sink.written c.flush.new.sink, g.O.Sink.room c.flush.new.sink) in
    let plan = g.K.Keeper.plan c.args.keeper.now in
    let left = g.K.Keeper.plan c.settle_run.new.keeper in
    let history = history_of (g.K.Keeper.told c.settle_run.new.keeper) in
    if_unflushed c.flush.result s.printer c.flush.new.self mid new _ c.flush.ensures.hands
    (λ fault hands finding before rest h waits few.
    let run = c.in_default.ensures.ok finding before rest h waits few in
    subst (λ k. StopsRun fault finding c.args.number (history_of k) before (take c.args.count rest) old new plan left)
    c.in_default.ensures.same
    (run_unflushed finding c.args.number history fault s c.flush.new.self before (take c.args.count rest) old mid new
    plan left run.0 hands))
