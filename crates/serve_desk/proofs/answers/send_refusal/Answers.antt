use Rattle.std.proofs.Common.{inl, inr}
use Rattle.serve_requests.specs.Replies.{no_memory_reply}
use Rattle.serve_requests.proofs.StatusLaws.{memory_is_available}
use Rattle.serve_desk.proofs.SendLaws.{endless_has, memory_answers}
use Rattle.serve_desk.proofs.answers.send_refusal.Goals as goal

pub returns-in-Failed-clause-sent : goal.returns-in-Failed-clause-sent
returns-in-Failed-clause-sent g c =
    λ reply before now rose still. inr (rose c.in-Failed.is, c.send_keeper_fault.ensures.sent)

pub returns-in-NoMemory-clause-sent : goal.returns-in-NoMemory-clause-sent
returns-in-NoMemory-clause-sent g c = λ reply before now rose still.
    inl (
      still c.in-NoMemory.is,
      memory_answers reply _ _ _ _ c.send_no_memory.ensures.sent c.send_no_memory.ensures.sure,
    )

pub returns-in-NoMemory-clause-unavailable : goal.returns-in-NoMemory-clause-unavailable
returns-in-NoMemory-clause-unavailable g c =
    λ is. absurd (memory_is_available _ _ _ c.send_no_memory.ensures.sent is)

pub returns-in-NoMemory-clause-sure : goal.returns-in-NoMemory-clause-sure
returns-in-NoMemory-clause-sure g c =
    λ endless. c.send_no_memory.ensures.sure (endless_has _ no_memory_reply endless)
