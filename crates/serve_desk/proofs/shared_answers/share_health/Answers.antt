use Rattle.std.proofs.Common.{◌≡◌, ℕ, inl, refl, ap, arith}
use Rattle.serve_requests.specs.Bodies.{health_body}
use Rattle.serve_desk.specs.Answers.{wire_of, good, health_reply}
use Rattle.serve_desk.proofs.SendLaws.{not_risen}
use Rattle.serve_desk.proofs.DayLaws.{risen_failed}
use Rattle.serve_desk.proofs.SharedLaws.{read_of, refused_of, fails_of, some_of}
use Rattle.serve_desk.proofs.shared_answers.share_health.Goals as goal

pub returns-in-Ok-clause-shared : goal.returns-in-Ok-clause-shared
returns-in-Ok-clause-shared g c =
    let l = c.args.link.now in
    let n = c.send_made.new.link in
    read_of g.K.Keeper.told g.K.Keeper.faults c.in-Ok.last c.in-Ok.ensures.shared
    (λ n. good (health_body n)) health_reply
    (wire_of (g.L.Link.left l) (g.L.Link.plan l) (g.L.Link.written l) (g.L.Link.room l))
    (wire_of (g.L.Link.left n) (g.L.Link.plan n) (g.L.Link.written n) (g.L.Link.room n))
    c.send_made.result (λ o is. ap (λ n. good (health_body n)) is)
    (c.send_made.ensures.sent (health_body c.in-Ok.last) c.health_body.ensures)

pub returns-in-Ok-clause-some : goal.returns-in-Ok-clause-some
returns-in-Ok-clause-some g c =
    (c.in-Ok.last, inl (c.send_made.ensures.sent (health_body c.in-Ok.last) c.health_body.ensures))

pub returns-in-Ok-clause-unavailable : goal.returns-in-Ok-clause-unavailable
returns-in-Ok-clause-unavailable g c =
    λ is. absurd (c.send_made.ensures.unavailable (λ e. (let same : 200 ≡ 503 = e in omega (arith, same))) is)

pub returns-in-Ok-clause-failed : goal.returns-in-Ok-clause-failed
returns-in-Ok-clause-failed g c = λ rose. not_risen _ _ (c.in-Ok.ensures.cause.still refl) rose

pub returns-in-Err-clause-shared : goal.returns-in-Err-clause-shared
returns-in-Err-clause-shared g c =
    let l = c.args.link.now in
    let n = c.send_refusal.new.link in
    refused_of g.K.Keeper.told g.K.Keeper.faults c.in-Err.fault c.in-Err.ensures.shared
    health_reply
    (wire_of (g.L.Link.left l) (g.L.Link.plan l) (g.L.Link.written l) (g.L.Link.room l))
    (wire_of (g.L.Link.left n) (g.L.Link.plan n) (g.L.Link.written n) (g.L.Link.room n))
    c.send_refusal.result c.send_refusal.ensures.sent

pub returns-in-Err-clause-some : goal.returns-in-Err-clause-some
returns-in-Err-clause-some g c =
    let l = c.args.link.now in
    let n = c.send_refusal.new.link in
    some_of {T = ℕ} g.K.Keeper.faults (λ n. good (health_body n)) 0 c.in-Err.fault
    (fails_of g.K.Keeper.told g.K.Keeper.faults c.in-Err.fault c.in-Err.ensures.shared)
    (wire_of (g.L.Link.left l) (g.L.Link.plan l) (g.L.Link.written l) (g.L.Link.room l))
    (wire_of (g.L.Link.left n) (g.L.Link.plan n) (g.L.Link.written n) (g.L.Link.room n))
    c.send_refusal.result
    (c.send_refusal.ensures.sent (good (health_body 0)))

pub returns-in-Err-clause-failed : goal.returns-in-Err-clause-failed
returns-in-Err-clause-failed g c =
    λ rose. c.send_refusal.ensures.told (risen_failed _ _ c.in-Err.fault c.in-Err.ensures.cause rose)
