use Rattle.std.proofs.Common.{[], Some, Ok, sym, subst}
use Rattle.road_io.proofs.SinkLaws.{appends_none}
use Rattle.office_commands.specs.declared.closing.Closing.{Closing}
use Rattle.office_commands.specs.Commands.{days_command}
use Rattle.office_commands.specs.Endings.{Wrote}
use Rattle.office_commands.proofs.ClosingLaws.{refuses_empty}
use Rattle.office_commands.proofs.days.days.Goals as goal

pub returns-in-Err-clause-wrote : goal.returns-in-Err-clause-wrote
returns-in-Err-clause-wrote g c = λ o told.
    let old = g.O.Sink.written c.args.sink.now in
    subst (λ (k : Closing). Wrote (days_command o) (Ok (Some k)) old old) (sym c.refused.ensures)
    ([], refuses_empty (days_command o) c.in-Err.fault, appends_none old)
