use Rattle.std.proofs.Common.{◌≡◌, inr, [], Option, Result, Ok, Err, sym, subst}
use Rattle.keep_office.specs.declared.kept.KeepFault.{KeepFault}
use Rattle.keep_office.specs.Calls.{Puts}
use Rattle.keep_office.specs.Kept.{with_tariff_of}
use Rattle.keep_office.specs.Office.{Office}
use Rattle.office_commands.specs.declared.closing.Closing.{Closing}
use Rattle.office_commands.specs.Commands.{tariff_command}
use Rattle.office_commands.specs.Endings.{StandsBefore, sort_of, KeepsBy}
use Rattle.office_commands.proofs.KeepingLaws.{refused_keeps}
use Rattle.office_commands.proofs.ClosingLaws.{refuses_empty}
use Rattle.office_commands.proofs.TariffLaws.{PutBy, put_by}
use Rattle.office_commands.proofs.tariffs.tariff.Goals as goal

pub returns-in-Ok-clause-keeps : goal.returns-in-Ok-clause-keeps
returns-in-Ok-clause-keeps g c = λ o told.
    let after = g.K.Keeper.told c.put_tariff.new.self in
    let next =
    with_tariff_of c.args.xway (record { crowd = c.args.crowd; speed = c.args.speed; factor = c.args.factor }) in
    let put =
    put_by g.K.Keeper.refuses o next after c.put_tariff.result
    (subst (λ (b : Option Office). Puts g.K.Keeper.refuses b after c.put_tariff.result next) told
    c.put_tariff.ensures.state) in
    let ok : c.put_tariff.result ≡ Ok c.in-Ok.field-0 = c.in-Ok.is in
    subst (λ (r : Result (Unit {0}) KeepFault). PutBy g.K.Keeper.refuses o next after r) ok put

pub returns-in-Err-clause-exact : goal.returns-in-Err-clause-exact
returns-in-Err-clause-exact g c = λ o told.
    let a = tariff_command c.args.xway c.args.crowd c.args.speed c.args.factor o in
    subst (λ (k : Closing). StandsBefore a k []) (sym c.refused.ensures) (refuses_empty a c.in-Err.fault)

pub returns-in-Err-clause-keeps : goal.returns-in-Err-clause-keeps
returns-in-Err-clause-keeps g c = λ o told.
    let w = g.K.Keeper.refuses in
    let after = g.K.Keeper.told c.put_tariff.new.self in
    let a = tariff_command c.args.xway c.args.crowd c.args.speed c.args.factor o in
    let next =
    with_tariff_of c.args.xway (record { crowd = c.args.crowd; speed = c.args.speed; factor = c.args.factor }) in
    let put =
    put_by w o next after c.put_tariff.result
    (subst (λ (b : Option Office). Puts w b after c.put_tariff.result next) told c.put_tariff.ensures.state) in
    let bad : c.put_tariff.result ≡ Err c.in-Err.fault = c.in-Err.is in
    let left = subst (λ (r : Result (Unit {0}) KeepFault). PutBy w o next after r) bad put in
    subst (λ (k : Closing). KeepsBy (sort_of k) w a o after) (sym c.refused.ensures)
    (refused_keeps w a o after c.in-Err.fault (inr left))
