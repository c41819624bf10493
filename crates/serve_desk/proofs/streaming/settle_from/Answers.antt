use Rattle.std.proofs.Common.{◌∙◌}
use Rattle.serve_requests.proofs.AskedBodyLaws.{body_told}
use Rattle.serve_desk.proofs.streaming.settle_from.Goals as goal

pub returns-clause-does : goal.returns-clause-does
returns-clause-does g c = λ all o is told exact.
    let starts = body_told c.args.count c.args.early.now all (g.L.Link.left c.args.link.now) (c.requires.bytes ∙ is) in
    c.answers-outcome.ensures.does exact _ o starts told
