use Rattle.std.proofs.Common.{◌≡◌, inl, inr, refl, subst, ◌∙◌, arith}
use Rattle.serve_requests.specs.AskedBodies.{LeavesBody}
use Rattle.serve_requests.proofs.AskedBodyLaws.{never_faulty}
use Rattle.serve_desk.specs.Answers.{AnswersOutcome}
use Rattle.serve_desk.proofs.ReadLaws.{none_early}
use Rattle.serve_desk.proofs.posting.finish_body.Goals as goal

pub returns-then-left-eq0-clause-ends : goal.returns-then-left-eq0-clause-ends
returns-then-left-eq0-clause-ends g c = λ rest known.
    let none : c.args.left ≡ 0 = c.if-left-eq0.true in
    inl (
      omega (arith, none),
      c.send_outcome.ensures.unread ∙ none_early c.args.left c.args.early.now rest (g.L.Link.left c.args.link.now)
          c.requires.few none known,
      c.send_outcome.ensures.sent,
    )

pub returns-in-Whole-clause-ends : goal.returns-in-Whole-clause-ends
returns-in-Whole-clause-ends g c = λ rest known.
    let s = c.skip_body in
    let left = subst (LeavesBody c.args.left rest (g.L.Link.left s.new.link)) c.in-Whole.is
    (s.ensures.leaves rest known) in
    inl (
      left.0,
      c.send_outcome-in-Whole.ensures.unread ∙ left.1,
      subst (λ r. AnswersOutcome c.args.outcome r (g.L.Link.written c.args.link.now)
          (g.L.Link.written c.send_outcome-in-Whole.new.link) c.send_outcome-in-Whole.result) s.ensures.room_kept
          (subst (λ w. AnswersOutcome c.args.outcome (g.L.Link.room s.new.link) w
          (g.L.Link.written c.send_outcome-in-Whole.new.link) c.send_outcome-in-Whole.result) s.ensures.unwritten
          c.send_outcome-in-Whole.ensures.sent),
    )

pub returns-in-Whole-clause-sure : goal.returns-in-Whole-clause-sure
returns-in-Whole-clause-sure g c =
    λ never endless. c.send_outcome-in-Whole.ensures.sure (c.skip_body.ensures.room_kept ∙ endless)

pub returns-in-Cut-clause-ends : goal.returns-in-Cut-clause-ends
returns-in-Cut-clause-ends g c = λ rest known.
    let s = c.skip_body in
    let left = subst (LeavesBody c.args.left rest (g.L.Link.left s.new.link)) c.in-Cut.is
    (s.ensures.leaves rest known) in
    inr (inl (refl, left, s.ensures.unwritten))

pub returns-in-LinkFault-clause-ends : goal.returns-in-LinkFault-clause-ends
returns-in-LinkFault-clause-ends g c = λ rest known.
    let s = c.skip_body in
    inr (inr (
      omega (arith, c.if-left-eq0.false),
      (refl, s.ensures.unwritten, λ never. never_faulty _ _ _ s.result s.ensures.cause never c.in-LinkFault.is),
    ))
