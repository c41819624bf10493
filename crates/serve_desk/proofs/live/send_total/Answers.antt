use Rattle.std.proofs.Common.{◌≡◌, arith}
use Rattle.serve_requests.specs.Bodies.{total_body}
use Rattle.serve_desk.proofs.live.send_total.Goals as goal

pub returns-clause-sent : goal.returns-clause-sent
returns-clause-sent g c =
    c.send_made.ensures.sent (total_body c.args.shown.as_of c.args.shown.day c.args.shown.amount)
    c.total_body-body.ensures

pub returns-clause-unavailable : goal.returns-clause-unavailable
returns-clause-unavailable g c =
    c.send_made.ensures.unavailable (λ e. (let same : 200 ≡ 503 = e in omega (arith, same)))
