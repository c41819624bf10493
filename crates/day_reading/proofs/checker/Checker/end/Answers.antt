use Rattle.std.proofs.Common.{◌≡◌, ◌<◌, ◌∙◌, List, ℕ, length, sym, ap, subst, arith}
use Rattle.road_time.specs.Lines.{lines_of}
use Rattle.day_reading.specs.Checked.{checked}
use Rattle.day_reading.specs.Checking.{Tallies}
use Rattle.day_reading.specs.declared.tally.Tally.{Tally}
use Rattle.day_reading.proofs.LineLaws.{ended_whole, ended_text}
use Rattle.day_reading.proofs.checker.Checker.end.Goals as goal

pub returns-then-as_slice-eq0 : goal.returns-then-as_slice-eq0
returns-then-as_slice-eq0 c = λ limits late bytes h.
    let k = c.args.self in
    let none : length k.line.items ≡ 0 = sym (ap length c.as_slice.ensures.value) ∙ c.if-as_slice-eq0.true in
    subst (λ (t : Tally). Tallies t (checked limits late (lines_of bytes))) (sym c.into_tally.ensures)
    (subst (λ (ls : List (List ℕ)). Tallies k.tally (checked limits late ls))
    (sym (ended_whole k limits late bytes h none)) h.checking.tally)

pub returns : goal.returns
returns c = λ limits late bytes h.
    let k = c.args.self in
    let some : 0 < length k.line.items = omega (arith, c.if-as_slice-eq0.false, ap length c.as_slice.ensures.value) in
    subst (λ (t : Tally). Tallies t (checked limits late (lines_of bytes))) (sym c.into_tally-2.ensures)
    (subst (λ (ls : List (List ℕ)). Tallies c.end_line.new.self.tally (checked limits late ls))
    (sym (ended_text k limits late bytes h some))
    (c.in_ok-end_line.ensures limits late h.done h.text h.checking).tally)
