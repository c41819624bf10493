use Rattle.std.proofs.Common.{◌≡◌, ◌∙◌, [], Some, Ok, refl, sym, subst}
use Rattle.road_io.proofs.SinkLaws.{appends_none}
use Rattle.office_commands.specs.declared.closing.Closing.{Closing}
use Rattle.office_commands.specs.Commands.{tariffs_command}
use Rattle.office_commands.specs.Endings.{Wrote}
use Rattle.keep_office.proofs.CallLaws.{reads_same}
use Rattle.office_commands.proofs.KeepingLaws.{closing_same}
use Rattle.office_commands.proofs.ClosingLaws.{refuses_empty}
use Rattle.office_commands.proofs.tariffs.tariffs.Goals as goal

pub returns-in-Err-clause-wrote : goal.returns-in-Err-clause-wrote
returns-in-Err-clause-wrote g c = λ o told.
    let old = g.O.Sink.written c.args.sink.now in
    subst (λ (k : Closing). Wrote (tariffs_command o) (Ok (Some k)) old old) (sym c.refused.ensures)
    ([], refuses_empty (tariffs_command o) c.in-Err.fault, appends_none old)

pub returns-in-Err-clause-keeps : goal.returns-in-Err-clause-keeps
returns-in-Err-clause-keeps g c = λ o told.
    let before = g.K.Keeper.told c.args.keeper.now in
    let after = g.K.Keeper.told c.tariffs.new.self in
    closing_same g.K.Keeper.refuses (tariffs_command o) o after c.refused.result refl
    (reads_same before after c.tariffs.result (λ p kept. kept ≡ p.tariffs) c.tariffs.ensures.state ∙ told)
