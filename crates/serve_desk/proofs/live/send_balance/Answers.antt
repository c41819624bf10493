use Rattle.std.proofs.Common.{◌≡◌, arith}
use Rattle.serve_requests.specs.Bodies.{live_body}
use Rattle.serve_desk.proofs.live.send_balance.Goals as goal

pub returns-clause-sent : goal.returns-clause-sent
returns-clause-sent g c =
    λ vid. c.send_made.ensures.sent (live_body c.args.shown.as_of c.args.shown.amount c.args.shown.day)
    c.live_body-body.ensures

pub returns-clause-unavailable : goal.returns-clause-unavailable
returns-clause-unavailable g c =
    c.send_made.ensures.unavailable (λ e. (let same : 200 ≡ 503 = e in omega (arith, same)))
