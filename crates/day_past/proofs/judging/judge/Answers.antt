use Rattle.std.proofs.Common.{◌≡◌, ◌∙◌, Option, Some, None, Ok, sym, ap, subst, refl, arith}
use Rattle.road_time.specs.declared.day.SpentRow.{SpentRow}
use Rattle.road_time.specs.Lines.{without_cr}
use Rattle.keep_office.specs.PastReads.{past_form}
use Rattle.day_past.specs.declared.outcomes.PastCause.TheVariants as causes
use Rattle.day_past.specs.declared.judging.PastStop.{PastStop}
use Rattle.day_past.specs.declared.judging.PastStop.TheVariants.{Row}
use Rattle.day_past.specs.Causes.{ReadsRow}
use Rattle.day_past.specs.Rows.{IsPastRow, IfAny}
use Rattle.day_past.specs.Readings.{JudgesRow}
use Rattle.day_past.proofs.JudgeLaws.{many_judged, refused_judged, empty_judged, row_judged, gathered}
use Rattle.day_past.proofs.judging.judge.Goals as goal

pub returns-then-line-from-clause-judges : goal.returns-then-line-from-clause-judges
returns-then-line-from-clause-judges c = λ limits same.
    subst (λ (s : PastStop). JudgesRow (Some s) c.args.base limits c.args.line c.args.text.now c.args.amounts.now
    c.args.amounts.now) (ap (λ n. Row c.args.line (causes.Many n)) same ∙ sym c.refused.ensures)
    (many_judged c.args.base c.args.line limits c.args.text.now c.args.amounts.now c.args.amounts.now c.requires.few
    (omega (arith, same, c.from.ensures, c.if-line-from.true)))

pub returns-in-Ok-Some-clause-judges : goal.returns-in-Ok-Some-clause-judges
returns-in-Ok-Some-clause-judges c = λ limits same.
    let row : c.in-Ok-Some.field-0 ≡ Some c.in-Ok-Some.row = cc in
    let reads = subst (λ (o : Option SpentRow). ReadsRow (past_form c.args.base (without_cr c.args.text.now)) (Ok o))
    row c.in-Ok-Some.ensures.reads in
    let valid = subst (IfAny (IsPastRow c.args.base)) row c.in-Ok-Some.ensures.valid in
    row_judged c.args.base c.args.line limits c.args.text.now c.args.amounts.now c.take_row.new.amounts c.requires.few
    c.in-Ok-Some.row c.take_row.result (omega (arith, same, c.from.ensures, c.if-line-from.false))
    reads c.take_row.ensures.stops (λ rows h. c.take_row.ensures.takes c.args.base rows valid h)

pub returns-in-Ok-Some-clause-gathers : goal.returns-in-Ok-Some-clause-gathers
returns-in-Ok-Some-clause-gathers c =
    let row : c.in-Ok-Some.field-0 ≡ Some c.in-Ok-Some.row = cc in
    let valid = subst (IfAny (IsPastRow c.args.base)) row c.in-Ok-Some.ensures.valid in
    gathered c.take_row.result c.args.base c.in-Ok-Some.row c.args.amounts.now c.take_row.new.amounts
    (λ rows h. c.take_row.ensures.takes c.args.base rows valid h)

pub returns-in-Ok-None-clause-judges : goal.returns-in-Ok-None-clause-judges
returns-in-Ok-None-clause-judges c = λ limits same.
    let none : c.in-Ok-None.field-0 ≡ None = cc in
    let reads = subst (λ (o : Option SpentRow). ReadsRow (past_form c.args.base (without_cr c.args.text.now)) (Ok o))
    none c.in-Ok-None.ensures.reads in
    empty_judged c.args.base c.args.line limits c.args.text.now c.args.amounts.now c.args.amounts.now c.requires.few
    refl (omega (arith, same, c.from.ensures, c.if-line-from.false)) reads

pub returns-in-Err-clause-judges : goal.returns-in-Err-clause-judges
returns-in-Err-clause-judges c = λ limits same.
    subst (λ (s : PastStop). JudgesRow (Some s) c.args.base limits c.args.line c.args.text.now c.args.amounts.now
    c.args.amounts.now) (sym c.refused-in-Err.ensures)
    (refused_judged c.args.base c.args.line limits c.args.text.now c.args.amounts.now c.args.amounts.now c.requires.few
    c.in-Err.cause (omega (arith, same, c.from.ensures, c.if-line-from.false)) c.in-Err.ensures.reads)
