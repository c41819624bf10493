use Rattle.std.proofs.Common.{◌≡◌, ℕ, ◌∷◌, ◌++◌, [], Some, take, refl, sym, ap, subst, ◌∙◌, arith}
use Rattle.std.specs.Prelude.{IfErr}
use Rattle.road_io.specs.Rooms.{Bound}
use Rattle.road_io.specs.Fakes.{bytes_of, room_of}
use Rattle.road_time.specs.Day.{notices}
use Rattle.road_time.specs.Text.{out}
use Rattle.road_time.specs.History.{paid}
use Rattle.keep_office.specs.Memory.{kept_by, plan_of}
use Rattle.day_floor.specs.Answers.{history_of}
use Rattle.day_floor.specs.Asking.{requests_of}
use Rattle.day_floor.proofs.AskLaws.{asked_both}
use Rattle.example_day.specs.Stops.{StopsDay}
use Rattle.example_day.proofs.RunLaws.{on_ok}
use Rattle.example_day.proofs.rows.settle_in_memory.Goals as goal

pub returns-clause-fits : goal.returns-clause-fits
returns-clause-fits g c =
    let a = c.args in
    let kept = paid (kept_by a.keeper.now).rows in
    on_ok c.settle_day.result (λ took. (let all = (took kept refl).0.1 in omega (arith, all))) c.settle_day.ensures.took

pub returns-clause-passed : goal.returns-clause-passed
returns-clause-passed g c =
    on_ok c.settle_day.result (λ took. (took (paid (kept_by c.args.keeper.now).rows) refl).1.0)
    c.settle_day.ensures.took

pub returns-clause-full : goal.returns-clause-full
returns-clause-full g c = λ is.
    let a = c.args in
    let kept = paid (kept_by a.keeper.now).rows in
    let text = out (notices a.tuples.now [] 100 kept) in
    let at = subst (λ r. IfErr r (λ fault. (k : ℕ → ℕ → ℕ → ℕ) → history_of (Some (kept_by a.keeper.now)) ≡ Some k →
    StopsDay fault a.tuples.now [] 100 k (Some (bytes_of a.sink.now), Bound (room_of a.sink.now))
    (Some (bytes_of c.settle_day.new.sink), Bound (room_of c.settle_day.new.sink))
    (Some (plan_of a.keeper.now)) (Some (plan_of c.settle_day.new.keeper)))) is c.settle_day.ensures.stopped in
    let filled = (at kept refl).0 in
    filled.2 ∙ ap (λ n. bytes_of a.sink.now ++ take n text) (sym filled.3.0)

pub returns-clause-failed : goal.returns-clause-failed
returns-clause-failed g c = λ is.
    let a = c.args in
    let kept = paid (kept_by a.keeper.now).rows in
    let at = subst (λ r. IfErr r (λ fault. (k : ℕ → ℕ → ℕ → ℕ) → history_of (Some (kept_by a.keeper.now)) ≡ Some k →
    StopsDay fault a.tuples.now [] 100 k (Some (bytes_of a.sink.now), Bound (room_of a.sink.now))
    (Some (bytes_of c.settle_day.new.sink), Bound (room_of c.settle_day.new.sink))
    (Some (plan_of a.keeper.now)) (Some (plan_of c.settle_day.new.keeper)))) is c.settle_day.ensures.stopped in
    let d = at kept refl in
    let calls = ap requests_of d.day_is ∙ asked_both d.done (d.request ∷ d.later) in
    let one = d.asks in
    (requests_of d.done, omega (arith, calls, one), d.failed.1, d.failed.0)
