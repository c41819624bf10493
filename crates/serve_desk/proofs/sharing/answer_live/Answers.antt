use Rattle.std.proofs.Common.{sym, ap, []}
use Rattle.std.proofs.lemmas.List.{append-nil}
use Rattle.serve_desk.specs.Seats.{Seated}
use Rattle.serve_desk.proofs.sharing.answer_live.Goals as goal

pub returns-clause-answers : goal.returns-clause-answers
returns-clause-answers g c = rw (← c.seat.view_is) c.live_answer.ensures.answers

pub returns-clause-place : goal.returns-clause-place
returns-clause-place g c = ap (λ (s : Seated _). s.log) c.seat.view_is

pub returns-clause-follows : goal.returns-clause-follows
returns-clause-follows g c =
    rw (← c.seat.view_is)
    (record {
      board = c.live_answer.ensures.board;
      had = c.live_answer.ensures.had;
      went = ([], sym (append-nil _));
    })
