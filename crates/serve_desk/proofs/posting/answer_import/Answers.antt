use Rattle.std.proofs.Common.{refl, subst, ◌∙◌}
use Rattle.std.specs.Io.KnownBytes.{prepend_known}
use Rattle.serve_desk.specs.Answers.{wire_of}
use Rattle.serve_desk.specs.Imports.{state_of}
use Rattle.serve_desk.specs.Reading.{IsReadTo}
use Rattle.serve_desk.proofs.SendLaws.{not_risen}
use Rattle.serve_desk.proofs.ImportLaws.{keeper_failed}
use Rattle.serve_desk.proofs.ReadLaws.{composes, fits, never_failed, rose_by}
use Rattle.serve_desk.proofs.posting.answer_import.Goals as goal

pub finish_import-requires-clause-fits : goal.finish_import-requires-clause-fits
finish_import-requires-clause-fits g c =
    let i = c.import_only-imported in
    fits c.args.count (prepend_known c.args.early.now (g.L.Link.left c.args.link.now)) i.result.early.now
    (g.L.Link.left i.new.link) i.result.read i.ensures.reads

pub returns-clause-imports : goal.returns-clause-imports
returns-clause-imports g c = λ all o known told.
    let i = c.import_only-imported in
    let f = c.finish_import in
    let l = c.args.link.now in
    let m = i.new.link in
    let n = f.new.link in
    composes g.K.Keeper.refuses g.C.Crew.exact c.args.work.day c.args.work.limits c.args.count all o
    (state_of (g.K.Keeper.told c.args.keeper.now) (g.K.Keeper.faults c.args.keeper.now) c.args.writer.now.posted)
    (state_of (g.K.Keeper.told i.new.keeper) (g.K.Keeper.faults i.new.keeper) i.new.publisher.posted)
    (wire_of (g.L.Link.left l) (g.L.Link.plan l) (g.L.Link.written l) (g.L.Link.room l))
    (wire_of (g.L.Link.left m) (g.L.Link.plan m) (g.L.Link.written m) (g.L.Link.room m))
    (wire_of (g.L.Link.left n) (g.L.Link.plan n) (g.L.Link.written n) (g.L.Link.room n))
    i.result.early.now i.result.read i.result.outcome f.result (g.L.Link.faults l)
    (g.L.Link.faults m) i.ensures.keeper.cause
    (subst (λ bytes. IsReadTo c.args.count bytes i.result.early.now (g.L.Link.left m) i.result.read) known
    i.ensures.reads)
    i.ensures.link_cause i.ensures.unwritten i.ensures.room_kept i.ensures.link_sure i.ensures.read i.ensures.unfailed
    (λ kept stored. i.ensures.stored all kept known stored) (i.ensures.read_first all known)
    (i.ensures.imports all o c.args.writer.now.posted known told refl) f.ensures.ends

pub returns-clause-unavailable : goal.returns-clause-unavailable
returns-clause-unavailable g c =
    λ is. c.import_only-imported.ensures.keeper.cause (c.finish_import.ensures.unavailable is)

pub returns-clause-failed : goal.returns-clause-failed
returns-clause-failed g c = λ rose.
    let i = c.import_only-imported in
    c.finish_import.ensures.told
    (keeper_failed i.result.outcome (λ other. not_risen _ _ (i.ensures.keeper.still other) rose))

pub returns-clause-sure : goal.returns-clause-sure
returns-clause-sure g c = λ never endless.
    let i = c.import_only-imported in
    c.finish_import.ensures.sure (never_failed (g.L.Link.plan c.args.link.now) (g.L.Link.faults c.args.link.now)
    (g.L.Link.faults i.new.link) i.result.read i.ensures.link_cause never)
    (i.ensures.link_sure never) (i.ensures.room_kept ∙ endless)

pub returns-clause-cause : goal.returns-clause-cause
returns-clause-cause g c = λ is.
    let i = c.import_only-imported in
    rose_by (g.L.Link.plan c.args.link.now) (g.L.Link.faults c.args.link.now) (g.L.Link.faults i.new.link)
    (g.L.Link.faults c.finish_import.new.link) i.result.read i.ensures.link_cause i.ensures.link_later
    c.finish_import.ensures.later
    (λ unfailed. c.finish_import.ensures.cause unfailed is)
