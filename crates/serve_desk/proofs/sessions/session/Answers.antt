use Rattle.std.proofs.Common.{inl, inr, ap, subst, sym, Err}
use Rattle.serve_board.specs.Passes.{StartsWith}
use Rattle.serve_desk.specs.Answers.{wire_of}
use Rattle.serve_desk.specs.Desk.{AnswersKept}
use Rattle.serve_desk.specs.Imports.{state_of}
use Rattle.serve_desk.proofs.LiveLaws.{begins_on}
use Rattle.serve_desk.proofs.sessions.session.Goals as goal

pub returns-in-Err-clause-serves : goal.returns-in-Err-clause-serves
returns-in-Err-clause-serves g c = λ bytes o is told.
    let d = c.args.desk.now in
    inl (
      c.in-Err.ensures.reads bytes is,
      ap (λ w. state_of (g.K.Keeper.told d.keeper) (g.K.Keeper.faults d.keeper) w.posted) c.learn_all.ensures.kept,
      c.learn_all.ensures.learns,
    )

pub returns-in-Err-clause-learns : goal.returns-in-Err-clause-learns
returns-in-Err-clause-learns g c =
    subst (λ w. StartsWith c.learn_all.new.reader.seen w.posted.published) (sym c.learn_all.ensures.kept)
    c.learn_all.ensures.learns.told

pub returns-in-Err-clause-had : goal.returns-in-Err-clause-had
returns-in-Err-clause-had g c = c.learn_all.ensures.learns.had

pub returns-then-is_live-clause-serves : goal.returns-then-is_live-clause-serves
returns-then-is_live-clause-serves g c = λ bytes o is told.
    let d = c.args.desk.now in
    let m = c.read_asked.new.link in
    inr (inr (
      c.learn_all.new.reader,
      c.learn_all.ensures.learns,
      (
        c.in-Ok.asked,
        (wire_of (g.L.Link.left m) (g.L.Link.plan m) (g.L.Link.written m) (g.L.Link.room m)),
        (c.in-Ok.ensures.reads bytes is, c.in-Ok.ensures.room_kept, c.in-Ok.ensures.still),
        c.is_live.ensures.live c.if-is_live.true,
        c.live_answer.ensures.answers,
      ),
      ap (λ w. state_of (g.K.Keeper.told d.keeper) (g.K.Keeper.faults d.keeper) w.posted) c.learn_all.ensures.kept,
    ))

pub returns-then-is_live-clause-learns : goal.returns-then-is_live-clause-learns
returns-then-is_live-clause-learns g c =
    let seen = c.live_answer.new.reader.seen in
    subst (λ w. StartsWith seen w.posted.published) (sym c.learn_all.ensures.kept)
    (begins_on _ c.learn_all.new.reader.seen seen c.learn_all.ensures.learns.told c.live_answer.ensures.had)

pub returns-then-is_live-clause-had : goal.returns-then-is_live-clause-had
returns-then-is_live-clause-had g c =
    begins_on _ c.learn_all.new.reader.seen c.live_answer.new.reader.seen c.learn_all.ensures.learns.had
    c.live_answer.ensures.had

pub returns-clause-serves : goal.returns-clause-serves
returns-clause-serves g c = λ bytes o is told.
    let d = c.args.desk.now in
    let m = c.read_asked.new.link in
    let a = c.answer_and_learn in
    let n = a.new.link in
    let k = a.new.desk in
    inr (inl (
      c.in-Ok.asked,
      (wire_of (g.L.Link.left m) (g.L.Link.plan m) (g.L.Link.written m) (g.L.Link.room m)),
      (c.in-Ok.ensures.reads bytes is, c.in-Ok.ensures.room_kept, c.in-Ok.ensures.still),
      c.is_live.ensures.kept c.if-is_live.false,
      subst (λ w. AnswersKept g.K.Keeper.refuses g.C.Crew.exact c.in-Ok.asked d.limits o
          (state_of (g.K.Keeper.told d.keeper) (g.K.Keeper.faults d.keeper) w.posted)
          (state_of (g.K.Keeper.told k.keeper) (g.K.Keeper.faults k.keeper) k.writer.posted)
          (wire_of (g.L.Link.left m) (g.L.Link.plan m) (g.L.Link.written m) (g.L.Link.room m))
          (wire_of (g.L.Link.left n) (g.L.Link.plan n) (g.L.Link.written n) (g.L.Link.room n)) a.result)
          c.learn_all.ensures.kept (a.ensures.answers o told),
      a.ensures.learned,
    ))

pub returns-clause-had : goal.returns-clause-had
returns-clause-had g c =
    begins_on _ c.learn_all.new.reader.seen c.answer_and_learn.new.reader.seen c.learn_all.ensures.learns.had
    c.answer_and_learn.ensures.had

pub returns-in-Err-clause-unavailable : goal.returns-in-Err-clause-unavailable
returns-in-Err-clause-unavailable g c = λ is. absurd (c.in-Err.ensures.available (ap Err is))

pub returns-then-is_live-clause-unavailable : goal.returns-then-is_live-clause-unavailable
returns-then-is_live-clause-unavailable g c = λ is. absurd (c.live_answer.ensures.unavailable is)
