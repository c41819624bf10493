use Rattle.std.proofs.Common.{◌≡◌, ◌∙◌, ◌++◌, ◌∷◌, [], take, sym, subst, arith}
use Rattle.std.proofs.lemmas.List.{take_all}
use Rattle.road_time.specs.Reads.{line_fault, tuples_of}
use Rattle.tuples_text.specs.Gates.{StandsFor}
use Rattle.day_reading.specs.Checked.{Checked, check_line, checked}
use Rattle.day_reading.specs.Checking.{Tallies}
use Rattle.day_reading.proofs.LineLaws.{held_same, checked_push}
use Rattle.day_reading.proofs.checker.Checker.end_line.Goals as goal

pub returns : goal.returns
returns c = λ limits late done text k.
    let before = checked limits late done in
    let held = c.as_slice.result.now in
    let judged = c.in_ok-cause.ensures limits late before k.line_limit (c.good-good.ensures before k.tally) k.gate in
    let is : held ≡ take 201 text = c.as_slice.ensures.value ∙ k.line in
    let same : checked limits late (done ++ text ∷ []) ≡ check_line limits late before held =
    checked_push limits late done text ∙ sym (held_same limits late before text held is) in
    record {
      line_limit = k.line_limit;
      gate = subst (λ (s : Checked). StandsFor c.judge.new.gate limits late (tuples_of s.kept)) (sym same)
          judged.gate_is;
      tally = subst (λ (s : Checked). Tallies c.count.new.self s) (sym same)
          (c.in_ok-count.ensures before held (line_fault limits late before.kept held) k.tally judged.cause_is);
      line = c.clear.ensures.items ∙ sym (take_all 201 [] (omega arith));
    }
