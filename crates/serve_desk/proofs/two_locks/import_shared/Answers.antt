use Rattle.std.proofs.Common.{subst, ◌∙◌, arith}
use Rattle.std.specs.Io.KnownBytes.{prepend_known}
use Rattle.serve_desk.specs.History.{told_at}
use Rattle.serve_desk.specs.Seats.{onward}
use Rattle.serve_desk.proofs.HistoryLaws.{goes_length, told_on, told_end, next_is}
use Rattle.serve_desk.specs.Answers.{wire_of}
use Rattle.serve_desk.specs.Imports.{state_of}
use Rattle.serve_desk.specs.Reading.{IsReadTo}
use Rattle.serve_desk.proofs.SendLaws.{not_risen}
use Rattle.serve_desk.proofs.ImportLaws.{keeper_failed}
use Rattle.serve_desk.proofs.ReadLaws.{fits, never_failed, rose_by, finishes_as, posts_as, composes}
use Rattle.serve_desk.proofs.two_locks.import_shared.Goals as goal

pub finish_after-requires-clause-fits : goal.finish_after-requires-clause-fits
finish_after-requires-clause-fits g c =
    let i = c.import_held-last in
    fits c.args.count (prepend_known c.args.early.now (g.L.Link.left c.args.link.now)) i.result.0.early.now
    (g.L.Link.left i.new.link) i.result.0.read i.ensures.reads

pub returns-clause-posts : goal.returns-clause-posts
returns-clause-posts g c = λ all known.
    let i = c.import_held-last in
    let f = c.finish_after in
    let l = c.args.link.now in
    let m = i.new.link in
    let n = f.new.link in
    let old = wire_of (g.L.Link.left l) (g.L.Link.plan l) (g.L.Link.written l) (g.L.Link.room l) in
    let mid = wire_of (g.L.Link.left m) (g.L.Link.plan m) (g.L.Link.written m) (g.L.Link.room m) in
    let new = wire_of (g.L.Link.left n) (g.L.Link.plan n) (g.L.Link.written n) (g.L.Link.room n) in (
      i.result.0.outcome,
      posts_as c.args.count all old new i.result.0.outcome f.result (finishes_as (λ _. Unit {0}) c.args.count all old mid
          new i.result.0.early.now i.result.0.read i.result.0.outcome f.result (g.L.Link.faults l) (g.L.Link.faults m)
          (subst (λ bytes. IsReadTo c.args.count bytes i.result.0.early.now (g.L.Link.left m) i.result.0.read) known
          i.ensures.reads)
          i.ensures.link_cause i.ensures.unwritten i.ensures.room_kept i.ensures.link_sure i.ensures.read
          i.ensures.unfailed (λ kept stored. i.ensures.stored all kept known stored) tt f.ensures.ends),
    )

pub returns-clause-imports : goal.returns-clause-imports
returns-clause-imports g c =
    let i = c.import_held-last in
    let f = c.finish_after in
    let l = c.args.link.now in
    let m = i.new.link in
    let n = f.new.link in
    let told = g.K.Keeper.told in
    let h = c.hold_behind-first in
    let p = h.result.place in
    let q = i.result.1 in
    let before = state_of (told_at told p.seen.log p.count) c.args.keeper.now.faults
    c.deref_mut-desk.result.now.writer.posted in
    let after = state_of (told_at told q.seen.log q.count) i.new.keeper.faults i.new.desk.writer.posted in
    record {
      at = p.count;
      before = before;
      after = after;
      from = (let less = goes_length c.args.place.now.seen.log p.seen.log h.ensures.went in
          omega (arith, less, p.counted));
      had = onward c.args.place.now.seen.log p.seen.log q.seen.log h.ensures.went i.ensures.went;
      told_before = told_on told p.seen.log q.seen.log p.count i.ensures.went (omega (arith, p.counted));
      told_after = told_end told q.seen.log q.count q.counted;
      next = next_is told p.seen.log q.seen.log p.count q.count i.ensures.went p.counted q.counted i.ensures.next;
      imports = λ all o known is.
          composes g.K.Keeper.refuses g.C.Crew.exact c.args.work.day c.args.work.limits c.args.count all o before after
          (wire_of (g.L.Link.left l) (g.L.Link.plan l) (g.L.Link.written l) (g.L.Link.room l))
          (wire_of (g.L.Link.left m) (g.L.Link.plan m) (g.L.Link.written m) (g.L.Link.room m))
          (wire_of (g.L.Link.left n) (g.L.Link.plan n) (g.L.Link.written n) (g.L.Link.room n))
          i.result.0.early.now i.result.0.read i.result.0.outcome f.result (g.L.Link.faults l) (g.L.Link.faults m)
          i.ensures.cause
          (subst (λ bytes. IsReadTo c.args.count bytes i.result.0.early.now (g.L.Link.left m) i.result.0.read) known
          i.ensures.reads)
          i.ensures.link_cause i.ensures.unwritten i.ensures.room_kept i.ensures.link_sure i.ensures.read
          i.ensures.unfailed (λ kept stored. i.ensures.stored all kept known stored)
          (i.ensures.read_first all known) (i.ensures.imports all o known is) f.ensures.ends;
      taught = c.teach.ensures.taught;
    }

pub returns-clause-unavailable : goal.returns-clause-unavailable
returns-clause-unavailable g c = λ is. c.import_held-last.ensures.cause (c.finish_after.ensures.unavailable is)

pub returns-clause-failed : goal.returns-clause-failed
returns-clause-failed g c = λ rose.
    let i = c.import_held-last in
    c.finish_after.ensures.told
    (keeper_failed i.result.0.outcome (λ other. not_risen _ _ (i.ensures.still other) rose))

pub returns-clause-sure : goal.returns-clause-sure
returns-clause-sure g c = λ never endless.
    let i = c.import_held-last in
    c.finish_after.ensures.sure (never_failed (g.L.Link.plan c.args.link.now) (g.L.Link.faults c.args.link.now)
    (g.L.Link.faults i.new.link) i.result.0.read i.ensures.link_cause never)
    (i.ensures.link_sure never) (i.ensures.room_kept ∙ endless)

pub returns-clause-cause : goal.returns-clause-cause
returns-clause-cause g c = λ is.
    let i = c.import_held-last in
    rose_by (g.L.Link.plan c.args.link.now) (g.L.Link.faults c.args.link.now) (g.L.Link.faults i.new.link)
    (g.L.Link.faults c.finish_after.new.link) i.result.0.read i.ensures.link_cause i.ensures.link_later
    c.finish_after.ensures.later
    (λ unfailed. c.finish_after.ensures.cause unfailed is)

pub returns-clause-follows : goal.returns-clause-follows
returns-clause-follows g c =
    record {
      board = c.teach.ensures.taught.0.board;
      had = c.teach.ensures.taught.0.had;
      went = onward c.args.place.now.seen.log c.hold_behind-first.result.place.seen.log c.import_held-last.result.1.seen.log
          c.hold_behind-first.ensures.went c.import_held-last.ensures.went;
    }
