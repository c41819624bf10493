use Rattle.std.proofs.Common.{inl, inr, refl}
use Rattle.serve_desk.specs.Answers.{wire_of}
use Rattle.serve_desk.specs.Seats.{stays}
use Rattle.serve_desk.proofs.sharing.session_shared.Goals as goal

pub returns-in-Err-clause-shares : goal.returns-in-Err-clause-shares
returns-in-Err-clause-shares g c = λ bytes is. inl (c.in-Err.ensures.reads bytes is, refl)

pub returns-in-Err-clause-follows : goal.returns-in-Err-clause-follows
returns-in-Err-clause-follows g c = stays _

pub returns-then-is_live-clause-shares : goal.returns-then-is_live-clause-shares
returns-then-is_live-clause-shares g c = λ bytes is.
    let m = c.read_asked.new.link in
    inr (inr (
      (
        c.in-Ok.asked,
        (wire_of (g.L.Link.left m) (g.L.Link.plan m) (g.L.Link.written m) (g.L.Link.room m)),
        (c.in-Ok.ensures.reads bytes is, c.in-Ok.ensures.room_kept, c.in-Ok.ensures.still),
        c.is_live.ensures.live c.if-is_live.true,
        c.answer_live.ensures.answers,
      ),
      c.answer_live.ensures.place,
    ))

pub returns-else-is_live-clause-shares : goal.returns-else-is_live-clause-shares
returns-else-is_live-clause-shares g c = λ bytes is.
    let m = c.read_asked.new.link in
    inr (inl (
      c.in-Ok.asked,
      (wire_of (g.L.Link.left m) (g.L.Link.plan m) (g.L.Link.written m) (g.L.Link.room m)),
      (c.in-Ok.ensures.reads bytes is, c.in-Ok.ensures.room_kept, c.in-Ok.ensures.still),
      c.is_live.ensures.kept c.if-is_live.false,
      c.answer.ensures.answers,
    ))
