use Rattle.std.proofs.Common.{◌≡◌, rules, refl, sym, ap, ◌∙◌, subst}
use Rattle.std.specs.Io.KnownBytes.{Appends}
use Rattle.road_time.specs.Day.{notices, sum_of}
use Rattle.road_time.specs.Text.{out}
use Rattle.day_floor.specs.SettlingBoards.{IsAbreast}
use Rattle.day_floor.specs.Shares.{mark}
use Rattle.example_day.specs.Turns.{after_runs}
use Rattle.road_io.specs.Levels.{Level}
use Rattle.day_floor.specs.Floors.{StopsSettling}
use Rattle.example_day.specs.Stops.{TakesDay, StopsDay}
use Rattle.example_day.proofs.StopLaws.{not_begun, day_took, day_stopped}
use Rattle.example_day.proofs.RunLaws.{well, if_stopped, when_both, runs_settled, all_written}
use Rattle.day_floor.proofs.Settled.{if_ok}
use Rattle.day_floor.proofs.Jobs.{ok_is}
use Rattle.example_day.proofs.turns.run_and_settle.Goals as goal

pub settle-requires : goal.settle-requires
settle-requires g c =
    let e = c.requires.serves.0 in
    let s = c.requires.serves.1 in
    let st = c.requires.serves.2 in
    let ok = well c.run_all.result (search rules) in (
      e,
      after_runs e.tariffs s c.args.width,
      ok_is c.run_all.result ok c.run_all.ensures.ran e s st,
      c.requires.serves.3,
      c.requires.serves.4,
      subst (λ cs. IsAbreast (g.P.Publisher.posted c.args.publisher.now) (sum_of cs))
          (sym (ok_is c.run_all.result ok c.run_all.ensures.charged e s st)) c.requires.serves.5,
    )

pub returns-clause-settled : goal.returns-clause-settled
returns-clause-settled g c =
    let ok = well c.run_all.result (search rules) in
    if_ok c.settle.result
    (λ n settled e s st number history home are.
    let t = after_runs e.tariffs s c.args.width in
    let mid = ok_is c.run_all.result ok c.run_all.ensures.ran e s st in
    let answered = ok_is c.run_all.result ok c.run_all.ensures.answered e s st home are in
    let now = settled e t mid number history in
    (now.0 ∙ ap (λ w. mark w t) (c.run_all.ensures.width ∙ sym c.requires.width) ∙ answered.mark_is, now.1))
    c.settle.ensures.settled

pub returns-clause-wrote : goal.returns-clause-wrote
returns-clause-wrote g c =
    let ok = well c.run_all.result (search rules) in
    when_both c.settle.result
    (λ n settled wrote e s kept st number history known home are none.
    let t = after_runs e.tariffs s c.args.width in
    let mid = ok_is c.run_all.result ok c.run_all.ensures.ran e s st in
    let answered = ok_is c.run_all.result ok c.run_all.ensures.answered e s st home are in
    let to : n ≡ mark c.args.width t =
    (settled e t mid number history).0 ∙ ap (λ w. mark w t) (c.run_all.ensures.width ∙ sym c.requires.width) in
    let all =
    all_written e s t c.args.width n kept (g.O.Sink.written c.args.sink.now) (g.O.Sink.written c.settle.new.sink)
    answered (runs_settled e.tariffs s c.args.width ∙ none) to known
    (wrote e t mid number history) in
    subst (λ d. Appends (g.O.Sink.written c.args.sink.now) (g.O.Sink.written c.settle.new.sink)
    (out (notices s.fed e.tariffs d kept))) number all.1)
    c.settle.ensures.settled c.settle.ensures.wrote

pub returns-then-is_err-clause-stopped : goal.returns-then-is_err-clause-stopped
returns-then-is_err-clause-stopped g c = λ e s kept st number history known home are none.
    not_begun s.fed e.tariffs c.args.day kept (g.O.Sink.written c.args.sink.now, g.O.Sink.room c.args.sink.now)
    (g.K.Keeper.plan c.args.keeper.now)

pub returns-clause-took : goal.returns-clause-took
returns-clause-took g c =
    let ok = well c.run_all.result (search rules) in
    let old : Level = (g.O.Sink.written c.args.sink.now, g.O.Sink.room c.args.sink.now) in
    let new : Level = (g.O.Sink.written c.settle.new.sink, g.O.Sink.room c.settle.new.sink) in
    let plan = g.K.Keeper.plan c.args.keeper.now in
    let left = g.K.Keeper.plan c.settle.new.keeper in
    when_both c.settle.result
    (λ n settled took e s kept st number history known home are none.
    let t = after_runs e.tariffs s c.args.width in
    let mid = ok_is c.run_all.result ok c.run_all.ensures.ran e s st in
    let answered = ok_is c.run_all.result ok c.run_all.ensures.answered e s st home are in
    let to : n ≡ mark c.args.width t =
    (settled e t mid number history).0 ∙ ap (λ w. mark w t) (c.run_all.ensures.width ∙ sym c.requires.width) in
    subst (λ d. TakesDay s.fed e.tariffs d kept old new plan left) number
    (day_took e s t c.args.width n kept answered (runs_settled e.tariffs s c.args.width ∙ none) to known old new plan
    left (took e t mid number history)))
    c.settle.ensures.settled c.settle.ensures.took

pub returns-clause-stopped : goal.returns-clause-stopped
returns-clause-stopped g c =
    let ok = well c.run_all.result (search rules) in
    let old : Level = (g.O.Sink.written c.args.sink.now, g.O.Sink.room c.args.sink.now) in
    let new : Level = (g.O.Sink.written c.settle.new.sink, g.O.Sink.room c.settle.new.sink) in
    let plan = g.K.Keeper.plan c.args.keeper.now in
    let left = g.K.Keeper.plan c.settle.new.keeper in
    if_stopped c.settle.result
    (λ fault stops e s kept st number history known home are none.
    let t = after_runs e.tariffs s c.args.width in
    let mid = ok_is c.run_all.result ok c.run_all.ensures.ran e s st in
    let answered = ok_is c.run_all.result ok c.run_all.ensures.answered e s st home are in
    let at : StopsSettling fault e t (mark c.args.width t) old new plan left =
    subst (λ w. StopsSettling fault e t (mark w t) old new plan left) (c.run_all.ensures.width ∙ sym c.requires.width)
    (stops e t mid number history) in
    subst (λ d. StopsDay fault s.fed e.tariffs d kept old new plan left) number
    (day_stopped e s t c.args.width (mark c.args.width t) kept answered (runs_settled e.tariffs s c.args.width ∙ none)
    refl known fault old new plan left at))
    c.settle.ensures.where_stopped
