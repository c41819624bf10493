use Rattle.std.proofs.Common.{[], length, refl, sym, ap, ◌∙◌, subst}
use Rattle.std.specs.Io.KnownBytes.{Appends}
use Rattle.road_time.specs.Day.{notices}
use Rattle.road_time.specs.Text.{out}
use Rattle.day_floor.specs.Answers.{history_of}
use Rattle.day_floor.specs.Shares.{start}
use Rattle.day_floor.specs.Floors.{width_of}
use Rattle.day_floor.proofs.Truths.{true_start}
use Rattle.road_io.specs.Levels.{Level}
use Rattle.example_day.specs.Turns.{after_fed}
use Rattle.example_day.specs.Stops.{TakesDay, StopsDay}
use Rattle.example_day.proofs.StopLaws.{all_taken}
use Rattle.example_day.proofs.FeedLaws.{fed_are, fed_settled, fed_out, fed_true}
use Rattle.example_day.proofs.RunLaws.{serves, runs_fed}
use Rattle.example_day.proofs.rows.settle_day.Goals as goal

pub feed_all-requires-clause-stands : goal.feed_all-requires-clause-stands
feed_all-requires-clause-stands g c = (_, c.in-Ok.ensures.stands 100 (history_of (g.K.Keeper.told c.args.keeper.now)))

pub pending-requires : goal.pending-requires
pending-requires g c =
    serves (c.in-Ok-feed_all.ensures.fed _
    (c.in-Ok.ensures.stands 100 (history_of (g.K.Keeper.told c.args.keeper.now))))

pub room-requires : goal.room-requires
room-requires g c =
    serves (c.in-Ok-feed_all.ensures.fed _
    (c.in-Ok.ensures.stands 100 (history_of (g.K.Keeper.told c.args.keeper.now))))

pub mark-requires : goal.mark-requires
mark-requires g c =
    serves (c.in-Ok-feed_all.ensures.fed _
    (c.in-Ok.ensures.stands 100 (history_of (g.K.Keeper.told c.args.keeper.now))))

pub run_and_settle-requires-clause-serves : goal.run_and_settle-requires-clause-serves
run_and_settle-requires-clause-serves g c = (
  _,
  _,
  c.in-Ok-feed_all.ensures.fed _ (c.in-Ok.ensures.stands 100 (history_of (g.K.Keeper.told c.args.keeper.now))),
  refl,
  refl,
  tt,
)

pub pending-requires-2 : goal.pending-requires-2
pending-requires-2 g c =
    let w = width_of c.in-Ok.floor in
    let fed =
    c.in-Ok-feed_all.ensures.fed _ (c.in-Ok.ensures.stands 100 (history_of (g.K.Keeper.told c.args.keeper.now))) in
    let now = c.in_default-run_and_settle.ensures.settled _ _ fed refl refl (fed_out w start c.args.tuples.now)
    (fed_true w c.new-tariffs.result c.args.width start c.args.tuples.now
    (true_start c.new-tariffs.result c.args.width)) in
    serves now.1

pub room-requires-2 : goal.room-requires-2
room-requires-2 g c =
    let w = width_of c.in-Ok.floor in
    let fed =
    c.in-Ok-feed_all.ensures.fed _ (c.in-Ok.ensures.stands 100 (history_of (g.K.Keeper.told c.args.keeper.now))) in
    let now = c.in_default-run_and_settle.ensures.settled _ _ fed refl refl (fed_out w start c.args.tuples.now)
    (fed_true w c.new-tariffs.result c.args.width start c.args.tuples.now
    (true_start c.new-tariffs.result c.args.width)) in
    serves now.1

pub mark-requires-2 : goal.mark-requires-2
mark-requires-2 g c =
    let w = width_of c.in-Ok.floor in
    let fed =
    c.in-Ok-feed_all.ensures.fed _ (c.in-Ok.ensures.stands 100 (history_of (g.K.Keeper.told c.args.keeper.now))) in
    let now = c.in_default-run_and_settle.ensures.settled _ _ fed refl refl (fed_out w start c.args.tuples.now)
    (fed_true w c.new-tariffs.result c.args.width start c.args.tuples.now
    (true_start c.new-tariffs.result c.args.width)) in
    serves now.1

pub close-requires : goal.close-requires
close-requires g c =
    let w = width_of c.in-Ok.floor in
    let fed =
    c.in-Ok-feed_all.ensures.fed _ (c.in-Ok.ensures.stands 100 (history_of (g.K.Keeper.told c.args.keeper.now))) in
    let now = c.in_default-run_and_settle.ensures.settled _ _ fed refl refl (fed_out w start c.args.tuples.now)
    (fed_true w c.new-tariffs.result c.args.width start c.args.tuples.now
    (true_start c.new-tariffs.result c.args.width)) in (
      _,
      _,
      now.1,
      now.0
          ∙ ap length (sym (runs_fed c.new-tariffs.result (after_fed w start c.args.tuples.now) c.args.width)),
    )

pub returns-in-Ok-close-clause-wrote : goal.returns-in-Ok-close-clause-wrote
returns-in-Ok-close-clause-wrote g c = λ kept known.
    let w = width_of c.in-Ok.floor in
    let tuples = c.args.tuples.now in
    let fed =
    c.in-Ok-feed_all.ensures.fed _ (c.in-Ok.ensures.stands 100 (history_of (g.K.Keeper.told c.args.keeper.now))) in
    let wrote =
    c.in_default-run_and_settle.ensures.wrote _ _ kept fed refl refl known (fed_out w start tuples)
    (fed_true w c.new-tariffs.result c.args.width start tuples (true_start c.new-tariffs.result c.args.width))
    (fed_settled w start tuples) in
    subst (λ day. Appends (g.O.Sink.written c.args.sink.now) (g.O.Sink.written c.run_and_settle.new.sink)
    (out (notices day [] 100 kept))) (fed_are w start tuples)
    (subst (λ tariffs. Appends (g.O.Sink.written c.args.sink.now) (g.O.Sink.written c.run_and_settle.new.sink)
    (out (notices (after_fed w start tuples).fed tariffs 100 kept))) c.new-tariffs.ensures wrote)

pub returns-in-Ok-close-clause-took : goal.returns-in-Ok-close-clause-took
returns-in-Ok-close-clause-took g c = λ kept known.
    let w = width_of c.in-Ok.floor in
    let tuples = c.args.tuples.now in
    let old : Level = (g.O.Sink.written c.args.sink.now, g.O.Sink.room c.args.sink.now) in
    let new : Level = (g.O.Sink.written c.run_and_settle.new.sink, g.O.Sink.room c.run_and_settle.new.sink) in
    let plan = g.K.Keeper.plan c.args.keeper.now in
    let left = g.K.Keeper.plan c.run_and_settle.new.keeper in
    let fed =
    c.in-Ok-feed_all.ensures.fed _ (c.in-Ok.ensures.stands 100 (history_of (g.K.Keeper.told c.args.keeper.now))) in
    let took =
    c.in_default-run_and_settle.ensures.took _ _ kept fed refl refl known (fed_out w start tuples)
    (fed_true w c.new-tariffs.result c.args.width start tuples (true_start c.new-tariffs.result c.args.width))
    (fed_settled w start tuples) in
    subst (λ day. TakesDay day [] 100 kept old new plan left) (fed_are w start tuples)
    (subst (λ tariffs. TakesDay (after_fed w start tuples).fed tariffs 100 kept old new plan left) c.new-tariffs.ensures
    took)

pub returns-in-Err-clause-stopped : goal.returns-in-Err-clause-stopped
returns-in-Err-clause-stopped g c = λ kept known.
    let w = width_of c.in-Ok.floor in
    let tuples = c.args.tuples.now in
    let fault = c.in-Err.fault in
    let old : Level = (g.O.Sink.written c.args.sink.now, g.O.Sink.room c.args.sink.now) in
    let new : Level = (g.O.Sink.written c.run_and_settle.new.sink, g.O.Sink.room c.run_and_settle.new.sink) in
    let plan = g.K.Keeper.plan c.args.keeper.now in
    let left = g.K.Keeper.plan c.run_and_settle.new.keeper in
    let fed =
    c.in-Ok-feed_all.ensures.fed _ (c.in-Ok.ensures.stands 100 (history_of (g.K.Keeper.told c.args.keeper.now))) in
    let stopped =
    c.in-Err.ensures.stopped _ _ kept fed refl refl known (fed_out w start tuples)
    (fed_true w c.new-tariffs.result c.args.width start tuples (true_start c.new-tariffs.result c.args.width))
    (fed_settled w start tuples) in
    subst (λ day. StopsDay fault day [] 100 kept old new plan left) (fed_are w start tuples)
    (subst (λ tariffs. StopsDay fault (after_fed w start tuples).fed tariffs 100 kept old new plan left)
    c.new-tariffs.ensures stopped)

pub returns-clause-stopped : goal.returns-clause-stopped
returns-clause-stopped g c = λ kept known.
    let w = width_of c.in-Ok.floor in
    let tuples = c.args.tuples.now in
    let old : Level = (g.O.Sink.written c.args.sink.now, g.O.Sink.room c.args.sink.now) in
    let new : Level = (g.O.Sink.written c.run_and_settle.new.sink, g.O.Sink.room c.run_and_settle.new.sink) in
    let plan = g.K.Keeper.plan c.args.keeper.now in
    let left = g.K.Keeper.plan c.run_and_settle.new.keeper in
    let fed =
    c.in-Ok-feed_all.ensures.fed _ (c.in-Ok.ensures.stands 100 (history_of (g.K.Keeper.told c.args.keeper.now))) in
    let took =
    c.in_default-run_and_settle.ensures.took _ _ kept fed refl refl known (fed_out w start tuples)
    (fed_true w c.new-tariffs.result c.args.width start tuples (true_start c.new-tariffs.result c.args.width))
    (fed_settled w start tuples) in
    all_taken tuples [] 100 kept old new plan left
    (subst (λ day. TakesDay day [] 100 kept old new plan left) (fed_are w start tuples)
    (subst (λ tariffs. TakesDay (after_fed w start tuples).fed tariffs 100 kept old new plan left) c.new-tariffs.ensures
    took))
