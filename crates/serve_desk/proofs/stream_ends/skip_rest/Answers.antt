use Rattle.std.proofs.Common.{refl, sym, subst}
use Rattle.serve_desk.specs.Answers.{wire_of}
use Rattle.serve_desk.specs.Reading.{FitsRead, Skips}
use Rattle.serve_desk.proofs.ReadLaws.{skipped}
use Rattle.serve_desk.proofs.stream_ends.skip_rest.Goals as goal

pub skip_body-requires : goal.skip_body-requires
skip_body-requires g c = record { few = subst (FitsRead c.args.early.now) c.in-Open.is c.requires }

pub returns-in-Open-clause-skips : goal.returns-in-Open-clause-skips
returns-in-Open-clause-skips g c =
    let l = c.args.link.now in
    let s = c.skip_body in
    let n = s.new.link in
    let old = wire_of (g.L.Link.left l) (g.L.Link.plan l) (g.L.Link.written l) (g.L.Link.room l) in
    let new = wire_of (g.L.Link.left n) (g.L.Link.plan n) (g.L.Link.written n) (g.L.Link.room n) in
    subst (Skips c.args.early.now old new) (sym c.in-Open.is)
    (λ rest known. skipped c.in-Open.left rest old new (g.L.Link.faults l) (g.L.Link.faults n) s.result
    (s.ensures.leaves rest known) s.ensures.cause)

pub returns-in-Cut-clause-skips : goal.returns-in-Cut-clause-skips
returns-in-Cut-clause-skips g c =
    let l = c.args.link.now in
    let w = wire_of (g.L.Link.left l) (g.L.Link.plan l) (g.L.Link.written l) (g.L.Link.room l) in
    subst (Skips c.args.early.now w w) (sym c.in-Cut.is) refl

pub returns-in-LinkFault-clause-skips : goal.returns-in-LinkFault-clause-skips
returns-in-LinkFault-clause-skips g c =
    let l = c.args.link.now in
    let w = wire_of (g.L.Link.left l) (g.L.Link.plan l) (g.L.Link.written l) (g.L.Link.room l) in
    subst (Skips c.args.early.now w w) (sym c.in-LinkFault.is) refl
