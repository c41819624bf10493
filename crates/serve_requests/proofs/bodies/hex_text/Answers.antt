use Rattle.std.proofs.Common.{ap, ◌∙◌, arith}
use Rattle.serve_requests.specs.Plain.{is_plain}
use Rattle.serve_requests.proofs.PlainLaws.{hex_plain}
use Rattle.serve_requests.proofs.bodies.hex_text.Goals as goal

pub returns-clause-plain : goal.returns-clause-plain
returns-clause-plain c = ap is_plain c.in_ok-encode.ensures
    ∙ hex_plain c.args.bytes.now (λ i. omega (arith, c.type_inv.bytes i))
