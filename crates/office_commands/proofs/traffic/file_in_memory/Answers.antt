use Rattle.std.proofs.Common.{◌∙◌, Err, sym, ap, arith}
use Rattle.std.proofs.lemmas.Option.{none-some}
use Rattle.tuples_traffic.proofs.FileLaws.{few_bytes}
use Rattle.tuples_traffic.proofs.RangeLaws.{in_range}
use Rattle.office_commands.proofs.traffic.file_in_memory.Goals as goal

pub unreachable-requires : goal.unreachable-requires
unreachable-requires c =
    none-some c.in-Err-Size.field-0-0
    (sym c.requires
    ∙ (c.generate.ensures.size c.in-Err-Size.field-0-0).0 (c.in-Err-Size.is ∙ ap (λ x. Err x) c.in-Err-Size.field-0-is))

pub unreachable-requires-in-Err-WriteFault : goal.unreachable-requires-in-Err-WriteFault
unreachable-requires-in-Err-WriteFault c =
    let full = c.generate.ensures.full (c.in-Err-WriteFault.is ∙ ap (λ x. Err x) c.in-Err-WriteFault.field-0-is) in
    omega (arith, full.0, c.in_ok-sink.ensures.room, few_bytes c.args.plan.now (in_range c.args.plan.now c.requires))
