use Rattle.std.proofs.Common.{◌≡◌, ◌+◌, ◌++◌, ◌∷◌, ◌∙◌, [], true, length, take, drop, get_or, sym, ap, subst, arith}
use Rattle.std.proofs.Common.{append_assoc}
use Rattle.std.specs.List.{list_all}
use Rattle.std.proofs.lemmas.Bool.{eqb-true}
use Rattle.std.proofs.lemmas.List.{take_all}
use Rattle.road_io.proofs.LineLaws.{is_text, text_below, cut_at}
use Rattle.day_reading.specs.declared.checker.Checker.{Checker}
use Rattle.day_reading.specs.Checking.{HasChecked}
use Rattle.day_reading.proofs.LineLaws.{text_more}
use Rattle.day_reading.proofs.checker.Checker.take.Goals as goal

pub loop-at-preserved : goal.loop-at-preserved
loop-at-preserved c = λ limits late taken h.
    let before = c.loop-at.invariant limits late taken h in
    let rest = c.loop-at.rest.now in
    let at = c.in-Some.at in
    let found = c.in-Some.ensures in
    let line = take at rest ++ 10 ∷ [] in
    let now = c.behind-rest.result.now in
    let none : list_all is_text (take at rest) ≡ true = text_below rest at (omega (arith, found.0.high)) found.0.before in
    let split : rest ≡ take at rest ++ 10 ∷ drop (at + 1) rest =
    cut_at rest at 10 found.0.high (eqb-true (get_or rest at 0) 10 found.1) in (
      before.0 ++ line,
      before.1
          ∙ ap (λ ys. before.0 ++ ys)
          (split ∙ ap (λ ys. take at rest ++ 10 ∷ ys) (sym c.behind-rest.ensures)
          ∙ sym (append_assoc (take at rest) (10 ∷ []) now))
          ∙ sym (append_assoc before.0 line now),
      subst (HasChecked c.take_end.new.self limits late) (append_assoc taken before.0 line)
          (c.in_ok-take_end.ensures none limits late (taken ++ before.0) before.2),
    )

pub returns : goal.returns
returns c = λ limits late taken h.
    let before = c.loop-at.invariant limits late taken h in
    let rest = c.loop-at.rest.now in
    let none : list_all is_text rest ≡ true =
    ap (list_all is_text) (sym (take_all (length rest) rest (omega arith)))
    ∙ text_below rest (length rest) (omega arith) c.in_default.ensures in
    let old = c.loop-at.self in
    let now : Checker = record {
      line_limit = old.line_limit;
      gate = old.gate;
      tally = old.tally;
      line = c.hold.new.line;
    } in
    subst (HasChecked now limits late) (append_assoc taken before.0 rest ∙ ap (λ ys. taken ++ ys) (sym before.1))
    (text_more old now limits late (taken ++ before.0) before.2 rest none
    (λ done text k. record {
      line_limit = k.line_limit;
      gate = k.gate;
      tally = k.tally;
      line = c.in_ok-hold.ensures text k.line;
    }))
