use Rattle.std.proofs.Common.{◌++◌, take, subst, ◌∙◌, arith}
use Rattle.day_floor.specs.Sums.{total_in}
use Rattle.day_floor.specs.Answers.{history_of}
use Rattle.road_io.specs.Levels.{Level}
use Rattle.day_floor.specs.SettlingRuns.{TakesRun, StopsRun}
use Rattle.day_floor.proofs.SettlingRunLaws.{run_total, run_fits, run_took, run_wrote, run_ends, run_long}
use Rattle.day_floor.proofs.StopLaws.{run_unpublished, some_of_run}
use Rattle.day_floor.proofs.settler.Settler.settle.Goals as goal

pub publish-requires-clause-abreast : goal.publish-requires-clause-abreast
publish-requires-clause-abreast g c =
    let r = c.requires.waits in
    let run = (c.in_default.ensures.ok r.0 r.1 r.2 r.3 r.4 r.5).0 in (
      total_in c.args.self.now.book.spent,
      c.requires.abreast,
      run_total r.0 c.args.self.now.book c.write_run.new.self.book r.1
          (take c.args.count r.2) c.write_run.new.self.charges.items r.3.book run.book run.charged,
    )

pub publish-requires-clause-few : goal.publish-requires-clause-few
publish-requires-clause-few g c =
    let r = c.requires.waits in
    let run = (c.in_default.ensures.ok r.0 r.1 r.2 r.3 r.4 r.5).0 in
    let long = run_long r.1 r.2 c.args.count r.5 in
    let few = r.4.few in
    let le = r.5 in
    run_fits r.0 c.write_run.new.self.book (r.1 ++ take c.args.count r.2) r.4.few_tolls run.book
    (omega (arith, long, few, le))

pub returns-in-Err-publish-clause-where_stopped : goal.returns-in-Err-publish-clause-where_stopped
returns-in-Err-publish-clause-where_stopped g c = λ finding before rest h waits few.
    let run = (c.in_default.ensures.ok finding before rest h waits few).0 in
    let old : Level = (g.O.Sink.written c.args.sink.now, g.O.Sink.room c.args.sink.now) in
    let new : Level = (g.O.Sink.written c.write_run.new.sink, g.O.Sink.room c.write_run.new.sink) in
    let plan = g.K.Keeper.plan c.args.keeper.now in
    let left = g.K.Keeper.plan c.write_run.new.keeper in
    let history = history_of (g.K.Keeper.told c.write_run.new.keeper) in
    let now = take c.args.count rest in
    subst (λ k. StopsRun c.in-Err-publish.fault finding c.args.number (history_of k) before now old new plan left)
    c.in_default.ensures.same
    (run_unpublished finding c.args.number history c.in-Err-publish.fault before now old new plan left
    c.in-Err-publish.ensures.write c.in-Err-publish.ensures.keeper
    (run_took finding c.args.number history c.write_run.new.self before now old new plan left run))

pub returns-in-Err-publish-clause-stopped : goal.returns-in-Err-publish-clause-stopped
returns-in-Err-publish-clause-stopped g c = λ finding before rest h waits few.
    let old : Level = (g.O.Sink.written c.args.sink.now, g.O.Sink.room c.args.sink.now) in
    let new : Level = (g.O.Sink.written c.write_run.new.sink, g.O.Sink.room c.write_run.new.sink) in
    some_of_run finding c.args.number (history_of (g.K.Keeper.told c.args.keeper.now)) c.in-Err-publish.fault before
    (take c.args.count rest) old new
    (g.K.Keeper.plan c.args.keeper.now) (g.K.Keeper.plan c.write_run.new.keeper)
    (returns-in-Err-publish-clause-where_stopped g c finding before rest h waits few)

pub returns-in-Err-clause-stopped : goal.returns-in-Err-clause-stopped
returns-in-Err-clause-stopped g c = λ finding before rest h waits few.
    let old : Level = (g.O.Sink.written c.args.sink.now, g.O.Sink.room c.args.sink.now) in
    let new : Level = (g.O.Sink.written c.write_run.new.sink, g.O.Sink.room c.write_run.new.sink) in
    some_of_run finding c.args.number (history_of (g.K.Keeper.told c.args.keeper.now)) c.in-Err.fault before
    (take c.args.count rest) old new
    (g.K.Keeper.plan c.args.keeper.now) (g.K.Keeper.plan c.write_run.new.keeper)
    (c.in-Err.ensures.err finding before rest h waits few)

pub returns-clause-took : goal.returns-clause-took
returns-clause-took g c = λ finding before rest h waits few.
    let run = (c.in_default.ensures.ok finding before rest h waits few).0 in
    let old : Level = (g.O.Sink.written c.args.sink.now, g.O.Sink.room c.args.sink.now) in
    let new : Level = (g.O.Sink.written c.write_run.new.sink, g.O.Sink.room c.write_run.new.sink) in
    let plan = g.K.Keeper.plan c.args.keeper.now in
    let left = g.K.Keeper.plan c.write_run.new.keeper in
    let now = take c.args.count rest in
    subst (λ k. TakesRun finding c.args.number (history_of k) before now old new plan left) c.in_default.ensures.same
    (run_took finding c.args.number (history_of (g.K.Keeper.told c.write_run.new.keeper)) c.write_run.new.self before
    now old new plan left run)

pub returns-clause-wrote : goal.returns-clause-wrote
returns-clause-wrote g c = λ finding before rest h waits few.
    let old : Level = (g.O.Sink.written c.args.sink.now, g.O.Sink.room c.args.sink.now) in
    let new : Level = (g.O.Sink.written c.write_run.new.sink, g.O.Sink.room c.write_run.new.sink) in
    run_wrote finding c.args.number (history_of (g.K.Keeper.told c.args.keeper.now)) before (take c.args.count rest) old
    new
    (g.K.Keeper.plan c.args.keeper.now) (g.K.Keeper.plan c.write_run.new.keeper)
    (returns-clause-took g c finding before rest h waits few)

pub returns-clause-settled : goal.returns-clause-settled
returns-clause-settled g c = λ finding before rest h waits few.
    let run = c.in_default.ensures.ok finding before rest h waits few in
    let done = c.in_default-publish.ensures in
    let old : Level = (g.O.Sink.written c.args.sink.now, g.O.Sink.room c.args.sink.now) in
    let new : Level = (g.O.Sink.written c.write_run.new.sink, g.O.Sink.room c.write_run.new.sink) in
    let plan = g.K.Keeper.plan c.args.keeper.now in
    let left = g.K.Keeper.plan c.write_run.new.keeper in
    let long = run_long before rest c.args.count few in (
      done.settled ∙ (run.0.settled ∙ long),
      run_ends finding c.args.number (history_of (g.K.Keeper.told c.write_run.new.keeper)) c.write_run.new.self
          c.publish.new.self before (take c.args.count rest) old new plan left run.0
          done.settled done.book done.printer done.listed,
      run.1,
    )
