use Rattle.std.proofs.Common.{None, inl, inr, subst}
use Rattle.serve_requests.specs.Replies.{no_memory_reply}
use Rattle.serve_desk.specs.Answers.{AnswersReply}
use Rattle.serve_desk.specs.Live.{live_reply}
use Rattle.serve_requests.proofs.StatusLaws.{memory_is_available}
use Rattle.serve_desk.proofs.SendLaws.{endless_has}
use Rattle.serve_desk.proofs.LiveLaws.{same_board, same_seen}
use Rattle.serve_desk.proofs.live.answer_total.Goals as goal

pub returns-in-Some-clause-answers : goal.returns-in-Some-clause-answers
returns-in-Some-clause-answers g c =
    inl (
      c.in-Some.ensures.sees,
      subst (λ s. AnswersReply (live_reply None s) (g.L.Link.room c.args.link.now) (g.L.Link.written c.args.link.now)
          (g.L.Link.written c.send_total.new.link) c.send_total.result) c.in-Some.ensures.live
          (c.send_total.ensures.sent),
    )

pub returns-in-Some-clause-board : goal.returns-in-Some-clause-board
returns-in-Some-clause-board g c = c.in-Some.ensures.sees.board

pub returns-in-Some-clause-had : goal.returns-in-Some-clause-had
returns-in-Some-clause-had g c = c.in-Some.ensures.sees.later

pub returns-in-None-clause-answers : goal.returns-in-None-clause-answers
returns-in-None-clause-answers g c =
    inr (c.in-None.ensures.none, (inl c.send_no_memory.ensures.sent, c.send_no_memory.ensures.sure))

pub returns-in-None-clause-board : goal.returns-in-None-clause-board
returns-in-None-clause-board g c = same_board _ _ c.in-None.ensures.none

pub returns-in-None-clause-had : goal.returns-in-None-clause-had
returns-in-None-clause-had g c = same_seen _ _ c.in-None.ensures.none

pub returns-in-None-clause-unavailable : goal.returns-in-None-clause-unavailable
returns-in-None-clause-unavailable g c = λ is. memory_is_available _ _ _ c.send_no_memory.ensures.sent is

pub returns-in-None-clause-sure : goal.returns-in-None-clause-sure
returns-in-None-clause-sure g c = λ endless. c.send_no_memory.ensures.sure (endless_has _ no_memory_reply endless)
