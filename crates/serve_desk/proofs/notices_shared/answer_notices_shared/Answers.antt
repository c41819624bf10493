use Rattle.std.proofs.Common.{◌∙◌, inl, inr, refl, subst, sym, ap, arith}
use Rattle.std.specs.Io.KnownBytes.{prepend_known}
use Rattle.serve_desk.proofs.HistoryLaws.{tells_of}
use Rattle.serve_requests.specs.Replies.{no_memory_reply}
use Rattle.serve_requests.specs.AskedBodies.{filled}
use Rattle.serve_requests.specs.Sends.{SendsReply}
use Rattle.serve_desk.specs.Answers.{wire_of}
use Rattle.serve_desk.specs.Streams.{Streams, Closes}
use Rattle.serve_requests.proofs.StatusLaws.{memory_is_available}
use Rattle.serve_desk.proofs.ImportLaws.{keeper_failed}
use Rattle.serve_desk.proofs.ReadLaws.{reads_on, reads_as}
use Rattle.serve_desk.proofs.SendLaws.{endless_has, not_risen}
use Rattle.serve_desk.proofs.notices_shared.answer_notices_shared.Goals as goal

pub returns-in_default-clause-answers : goal.returns-in_default-clause-answers
returns-in_default-clause-answers g c =
    let s = c.send_no_memory in
    inr (
      subst (λ w. SendsReply no_memory_reply w (g.L.Link.written s.new.link) s.result)
          (c.outward.ensures.unwritten c.in_default.is) s.ensures.sent,
      s.ensures.unread ∙ c.outward.ensures.left,
    )

pub returns-in_default-clause-unavailable : goal.returns-in_default-clause-unavailable
returns-in_default-clause-unavailable g c = λ is. memory_is_available _ _ _ c.send_no_memory.ensures.sent is

pub returns-in_default-clause-failed : goal.returns-in_default-clause-failed
returns-in_default-clause-failed g c = λ rose. not_risen _ _ refl rose

pub returns-in_default-clause-sure : goal.returns-in_default-clause-sure
returns-in_default-clause-sure g c = λ endless.
    c.send_no_memory.ensures.sure
    (endless_has _ no_memory_reply (c.outward.ensures.room_kept c.in_default.is ∙ endless))

pub returns-clause-answers : goal.returns-clause-answers
returns-clause-answers g c =
    let s = c.stream-settled in
    let f = c.finish_after-end in
    let p = c.hold-held.result.hold.place in
    let q = s.new.keeper.hold.place in
    let was = tells_of g.K.Keeper.told p.seen.log p.count p.counted in
    let now = tells_of g.K.Keeper.told q.seen.log q.count q.counted in
    let a = c.args.link.now in
    let b = c.outward.new.self in
    let m = s.new.link in
    let n = f.new.link in
    let e = c.put_back.new.self in
    let first = wire_of (g.L.Link.left a) (g.L.Link.plan a) (g.L.Link.written a) (g.L.Link.room a) in
    let begun = wire_of (g.L.Link.left b) (g.L.Link.plan b) (g.L.Link.written b) (g.L.Link.room b) in
    let within = wire_of (g.L.Link.left m) (g.L.Link.plan m) (g.L.Link.written m) (g.L.Link.room m) in
    let behind = wire_of (g.L.Link.left n) (g.L.Link.plan n) (g.L.Link.written n) (g.L.Link.room n) in
    let last = wire_of (g.L.Link.left e) (g.L.Link.plan e) (g.L.Link.written e) (g.L.Link.room e) in
    inl (
      record {
        was = was.0;
        now = now.0;
        kept = sym now.1 ∙ (s.ensures.kept ∙ was.1);
        answers = λ all o known told.
            let bytes = filled c.args.count all in
            let mid = g.L.Out.Sink.written s.new.out in (
              s.result.outcome,
              mid,
              λ exact. subst
                  (λ x. Streams g.K.Keeper.refuses c.args.work.day c.args.work.limits bytes o x mid s.result.outcome)
                  c.in-Some.ensures.written
                  (s.ensures.streams all o
                  (ap (λ l. prepend_known c.args.early.now l) c.outward.ensures.left ∙ known) (was.1 ∙ told) exact),
              subst (λ y. Closes c.args.work.day s.result.outcome mid y f.result)
                  (sym (c.put_back.ensures.written c.in-Some.ensures.lends)) f.ensures.closes,
            );
      },
      reads_as c.args.count c.args.early.now begun behind first last (sym c.outward.ensures.left)
          (sym c.outward.ensures.plan) c.put_back.ensures.left
          (reads_on c.args.count c.args.early.now begun within behind s.result.early.now s.result.read
          (g.L.Link.faults b) (g.L.Link.faults m) s.ensures.reads s.ensures.link_cause s.ensures.link_sure
          f.ensures.skips),
    )

pub returns-clause-failed : goal.returns-clause-failed
returns-clause-failed g c = λ rose.
    let s = c.stream-settled in
    c.finish_after-end.ensures.told
    (keeper_failed s.result.outcome
    (λ other. not_risen _ _ (c.counts.ensures ∙ (s.ensures.keeper.still other ∙ c.hold-held.ensures)) rose))

pub returns-clause-sure : goal.returns-clause-sure
returns-clause-sure g c = λ endless.
    let s = c.stream-settled in
    let room = c.in-Some.ensures.room ∙ endless in
    c.finish_after-end.ensures.sure (s.ensures.sink_endless room) (s.ensures.sink_sure room)

pub returns-clause-cause : goal.returns-clause-cause
returns-clause-cause g c = λ is.
    let s = c.stream-settled in
    let f = c.finish_after-end in
    let none = c.in-Some.ensures.faultless in
    let out = f.ensures.cause 0 (omega arith)
    (λ fault. (let r = s.ensures.sink_cause fault in omega (arith, r, none))) is in
    let link = c.put_back.ensures.cause c.in-Some.ensures.lends (omega (arith, out)) in
    omega (arith, link, c.outward.ensures.faults, s.ensures.later, f.ensures.later)
