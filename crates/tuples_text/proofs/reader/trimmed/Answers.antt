use Rattle.std.proofs.Common.{arith, sym, ◌∙◌}
use Rattle.std.proofs.lemmas.Bool.{cond-true, cond-false, eq-eqb, ne_eqb}
use Rattle.tuples_text.proofs.TextLaws.{trimmed_at, trimmed_none}
use Rattle.tuples_text.proofs.reader.trimmed.Goals as goal
use Rattle.tuples_text.proofs.reader.trimmed.Goals.{else-count-gt0-via-then-count-gt0+else-line-count-eq13}
use Rattle.tuples_text.proofs.reader.trimmed.Goals.{else-count-gt0-via-else-count-gt0}

pub returns-then-line-count-eq13 : goal.returns-then-line-count-eq13
returns-then-line-count-eq13 c =
    let xs = c.args.line.now in
    sym (trimmed_at xs c.if-count-gt0.true ∙ cond-true _ _ _ (eq-eqb _ 13 c.if-line-count-eq13.true))

pub returns-else-count-gt0 : goal.returns-else-count-gt0
returns-else-count-gt0 c =
    let xs = c.args.line.now in
    elim c.else-count-gt0.branch [
      | else-count-gt0-via-then-count-gt0+else-line-count-eq13 w ↦ sym
          (trimmed_at xs w.if-count-gt0.true ∙ cond-false _ _ _ (ne_eqb _ 13 w.if-line-count-eq13.false))
      | else-count-gt0-via-else-count-gt0 w ↦ sym (trimmed_none xs (omega arith))
    ]
