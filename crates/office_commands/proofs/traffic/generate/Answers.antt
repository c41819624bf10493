use Rattle.std.proofs.Common.{◌≡◌, ◌∙◌, Err, sym, subst}
use Rattle.std.proofs.lemmas.Option.{none-some}
use Rattle.tuples_traffic.specs.declared.plan.GenPlan.{GenPlan}
use Rattle.tuples_traffic.specs.declared.plan.GenFault.TheVariants.{WriteFault}
use Rattle.tuples_traffic.specs.Traffic.{file_of}
use Rattle.office_commands.specs.Commands.{text_alone}
use Rattle.office_commands.specs.Endings.{Wrote}
use Rattle.office_commands.proofs.OutcomeLaws.{by_sink}
use Rattle.office_commands.proofs.TrafficLaws.{wrote_traffic}
use Rattle.office_commands.proofs.traffic.generate.Goals as goal

pub generated-requires : goal.generated-requires
generated-requires g c =
    λ field e. none-some field (sym c.plan_for-plan.ensures.range ∙ (c.generate-done.ensures.size field).0 e)

pub returns-clause-wrote : goal.returns-clause-wrote
returns-clause-wrote g c = λ o.
    let old = g.O.Sink.written c.args.sink.now in
    let new = g.O.Sink.written c.generate-done.new.sink in
    subst (λ (p : GenPlan). Wrote (text_alone (file_of p) o) c.generated.result old new) c.plan_for-plan.ensures.plan
    (wrote_traffic c.plan_for-plan.result o old new c.generate-done.result c.generated.result c.generated.ensures.ends
    c.generate-done.ensures.wrote)

pub returns-clause-sink : goal.returns-clause-sink
returns-clause-sink g c =
    by_sink (c.generate-done.result ≡ Err WriteFault) c.generated.result _ _ _ _ c.generated.ensures.failed
    c.generated.ensures.write_told c.generate-done.ensures.sink
