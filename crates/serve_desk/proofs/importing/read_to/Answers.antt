use Rattle.std.proofs.Common.{sym, ◌∙◌, arith}
use Rattle.serve_desk.proofs.ReadLaws.{cut_short}
use Rattle.serve_desk.proofs.importing.read_to.Goals as goal

pub returns-then-body-clause-read : goal.returns-then-body-clause-read
returns-then-body-clause-read g c = λ all is.
    let b = c.args.body.now in
    cut_short g.N.Start.total b.left g.N.Start.bytes b.early.now (g.L.Link.left b.link.now) b.inside b.behind
    (b.cut_off c.if-body.true) all is

pub returns-then-body-clause-over : goal.returns-then-body-clause-over
returns-then-body-clause-over g c = λ none sound.
    let off = c.args.body.now.cut_off c.if-body.true in
    omega (arith, off.0, none)

pub returns-then-body-clause-quiet : goal.returns-then-body-clause-quiet
returns-then-body-clause-quiet g c = λ none whole. absurd (cc (sym c.if-body.true ∙ whole))
