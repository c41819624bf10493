use Rattle.std.proofs.Common.{◌≡◌, codes, sym, subst, arith}
use Rattle.serve_requests.specs.Bodies.{imported_body, refused_body, passed_body, differs_body}
use Rattle.serve_requests.specs.Replies.{no_memory_reply}
use Rattle.serve_desk.specs.Answers.{AnswersOutcome}
use Rattle.serve_requests.proofs.StatusLaws.{memory_is_available}
use Rattle.serve_desk.proofs.SendLaws.{endless_has}
use Rattle.serve_desk.proofs.posting.send_outcome.Goals as goal

pub returns-in-Stored-clause-sent : goal.returns-in-Stored-clause-sent
returns-in-Stored-clause-sent g c =
    subst (λ r. AnswersOutcome r (g.L.Link.room c.args.link.now) (g.L.Link.written c.args.link.now)
    (g.L.Link.written c.send_made.new.link) c.send_made.result) (sym c.in-Stored.is)
    (c.send_made.ensures.sent (imported_body c.in-Stored.kept (codes "stored")) c.imported_body.ensures)

pub returns-in-Stored-clause-unavailable : goal.returns-in-Stored-clause-unavailable
returns-in-Stored-clause-unavailable g c =
    λ is. absurd (c.send_made.ensures.unavailable (λ e. (let same : 200 ≡ 503 = e in omega (arith, same))) is)

pub returns-in-Already-clause-sent : goal.returns-in-Already-clause-sent
returns-in-Already-clause-sent g c =
    subst (λ r. AnswersOutcome r (g.L.Link.room c.args.link.now) (g.L.Link.written c.args.link.now)
    (g.L.Link.written c.send_made-in-Already.new.link) c.send_made-in-Already.result) (sym c.in-Already.is)
    (c.send_made-in-Already.ensures.sent (imported_body c.in-Already.kept (codes "already"))
    c.imported_body-in-Already.ensures)

pub returns-in-Already-clause-unavailable : goal.returns-in-Already-clause-unavailable
returns-in-Already-clause-unavailable g c =
    λ is. absurd
    (c.send_made-in-Already.ensures.unavailable (λ e. (let same : 200 ≡ 503 = e in omega (arith, same))) is)

pub returns-in-Refused-clause-sent : goal.returns-in-Refused-clause-sent
returns-in-Refused-clause-sent g c =
    subst (λ r. AnswersOutcome r (g.L.Link.room c.args.link.now) (g.L.Link.written c.args.link.now)
    (g.L.Link.written c.send_made-in-Refused.new.link) c.send_made-in-Refused.result) (sym c.in-Refused.is)
    (c.send_made-in-Refused.ensures.sent (refused_body c.in-Refused.line c.in-Refused.cause) c.refused_body.ensures)

pub returns-in-Refused-clause-unavailable : goal.returns-in-Refused-clause-unavailable
returns-in-Refused-clause-unavailable g c =
    λ is. absurd
    (c.send_made-in-Refused.ensures.unavailable (λ e. (let same : 422 ≡ 503 = e in omega (arith, same))) is)

pub returns-in-DayPassed-clause-sent : goal.returns-in-DayPassed-clause-sent
returns-in-DayPassed-clause-sent g c =
    subst (λ r. AnswersOutcome r (g.L.Link.room c.args.link.now) (g.L.Link.written c.args.link.now)
    (g.L.Link.written c.send_made-in-DayPassed.new.link) c.send_made-in-DayPassed.result) (sym c.in-DayPassed.is)
    (c.send_made-in-DayPassed.ensures.sent (passed_body c.in-DayPassed.last) c.passed_body.ensures)

pub returns-in-DayPassed-clause-unavailable : goal.returns-in-DayPassed-clause-unavailable
returns-in-DayPassed-clause-unavailable g c =
    λ is. absurd
    (c.send_made-in-DayPassed.ensures.unavailable (λ e. (let same : 409 ≡ 503 = e in omega (arith, same))) is)

pub returns-in-Differs-clause-sent : goal.returns-in-Differs-clause-sent
returns-in-Differs-clause-sent g c =
    subst (λ r. AnswersOutcome r (g.L.Link.room c.args.link.now) (g.L.Link.written c.args.link.now)
    (g.L.Link.written c.send_made-in-Differs.new.link) c.send_made-in-Differs.result) (sym c.in-Differs.is)
    (c.send_made-in-Differs.ensures.sent (differs_body c.in-Differs.kept c.in-Differs.found) c.differs_body.ensures)

pub returns-in-Differs-clause-unavailable : goal.returns-in-Differs-clause-unavailable
returns-in-Differs-clause-unavailable g c =
    λ is. absurd
    (c.send_made-in-Differs.ensures.unavailable (λ e. (let same : 409 ≡ 503 = e in omega (arith, same))) is)

pub returns-in-KeeperFault-clause-sent : goal.returns-in-KeeperFault-clause-sent
returns-in-KeeperFault-clause-sent g c =
    subst (λ r. AnswersOutcome r (g.L.Link.room c.args.link.now) (g.L.Link.written c.args.link.now)
    (g.L.Link.written c.send_keeper_fault.new.link) c.send_keeper_fault.result) (sym c.in-KeeperFault.is)
    c.send_keeper_fault.ensures.sent

pub returns-in-NoMemory-clause-sent : goal.returns-in-NoMemory-clause-sent
returns-in-NoMemory-clause-sent g c =
    subst (λ r. AnswersOutcome r (g.L.Link.room c.args.link.now) (g.L.Link.written c.args.link.now)
    (g.L.Link.written c.send_no_memory.new.link) c.send_no_memory.result) (sym c.in-NoMemory.is)
    (c.send_no_memory.ensures.sent, λ has. c.send_no_memory.ensures.sure (has, has))

pub returns-in-NoMemory-clause-unavailable : goal.returns-in-NoMemory-clause-unavailable
returns-in-NoMemory-clause-unavailable g c = λ is. absurd (memory_is_available _ _ _ c.send_no_memory.ensures.sent is)

pub returns-in-NoMemory-clause-sure : goal.returns-in-NoMemory-clause-sure
returns-in-NoMemory-clause-sure g c = λ endless. c.send_no_memory.ensures.sure (endless_has _ no_memory_reply endless)
