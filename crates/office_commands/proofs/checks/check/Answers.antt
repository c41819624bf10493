use Rattle.std.proofs.Common.{sym, subst, Some, Ok}
use Rattle.road_time.specs.Lines.{lines_of}
use Rattle.day_reading.specs.Checked.{checked}
use Rattle.office_commands.specs.declared.closing.Closing.{Closing}
use Rattle.office_commands.specs.Commands.{check_command}
use Rattle.office_commands.specs.Endings.{Wrote, code_of}
use Rattle.office_commands.specs.Rests.{ReadsToEnd}
use Rattle.office_commands.proofs.CheckLaws.{wrote_unchecked, unread_end}
use Rattle.office_commands.proofs.checks.check.Goals as goal

pub returns-in-Ok-clause-wrote : goal.returns-in-Ok-clause-wrote
returns-in-Ok-clause-wrote g c = λ bytes o told.
    c.write_refusals.ensures.wrote (checked c.args.limits.now c.args.late (lines_of bytes)) o
    (c.in-Ok.ensures.exact bytes told)

pub returns-in-Err-clause-wrote : goal.returns-in-Err-clause-wrote
returns-in-Err-clause-wrote g c = λ bytes o told.
    let old = g.O.Sink.written c.args.sink.now in
    subst (λ (k : Closing). Wrote (check_command c.args.limits.now c.args.day c.args.late bytes o) (Ok (Some k)) old old)
    (sym c.stopped.ensures) (wrote_unchecked _ c.in-Err.stop old)

pub returns-in-Ok-clause-reads : goal.returns-in-Ok-clause-reads
returns-in-Ok-clause-reads g c = λ s bytes told. c.in-Ok.ensures.left bytes told

pub returns-in-Err-clause-reads : goal.returns-in-Err-clause-reads
returns-in-Err-clause-reads g c =
    subst (λ (k : Closing). ReadsToEnd (code_of (Ok (Some k))) (g.S.Source.left c.args.source.now)
    (g.S.Source.left c.check_day.new.source)) (sym c.stopped.ensures) (unread_end c.in-Err.stop _ _)
