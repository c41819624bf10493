use Rattle.std.proofs.Common.{refl, sym, subst}
use Rattle.serve_desk.specs.Answers.{wire_of}
use Rattle.serve_desk.specs.Reading.{FitsRead, IsStopped, Finishes}
use Rattle.serve_desk.proofs.posting.finish_import.Goals as goal

pub finish_body-requires-clause-few : goal.finish_body-requires-clause-few
finish_body-requires-clause-few g c = subst (FitsRead c.args.imported.early.now) c.in-Open.is c.requires.fits

pub finish_body-requires-clause-read : goal.finish_body-requires-clause-read
finish_body-requires-clause-read g c = λ is. subst IsStopped c.in-Open.is (c.requires.read is)

pub returns-in-Open-clause-ends : goal.returns-in-Open-clause-ends
returns-in-Open-clause-ends g c =
    let i = c.args.imported in
    let l = c.args.link.now in
    let n = c.finish_body.new.link in
    subst (λ r. Finishes i.early.now i.outcome
    (wire_of (g.L.Link.left l) (g.L.Link.plan l) (g.L.Link.written l) (g.L.Link.room l))
    (wire_of (g.L.Link.left n) (g.L.Link.plan n) (g.L.Link.written n) (g.L.Link.room n)) r c.finish_body.result)
    (sym c.in-Open.is) c.finish_body.ensures.ends

pub returns-in-Cut-clause-ends : goal.returns-in-Cut-clause-ends
returns-in-Cut-clause-ends g c =
    let i = c.args.imported in
    let l = c.args.link.now in
    let w = wire_of (g.L.Link.left l) (g.L.Link.plan l) (g.L.Link.written l) (g.L.Link.room l) in
    subst (λ r. Finishes i.early.now i.outcome w w r _) (sym c.in-Cut.is) (refl, refl)

pub returns-in-LinkFault-clause-ends : goal.returns-in-LinkFault-clause-ends
returns-in-LinkFault-clause-ends g c =
    let i = c.args.imported in
    let l = c.args.link.now in
    let w = wire_of (g.L.Link.left l) (g.L.Link.plan l) (g.L.Link.written l) (g.L.Link.room l) in
    subst (λ r. Finishes i.early.now i.outcome w w r _) (sym c.in-LinkFault.is) (refl, refl)

pub returns-in-LinkFault-clause-sure : goal.returns-in-LinkFault-clause-sure
returns-in-LinkFault-clause-sure g c = λ no never endless. absurd (no c.in-LinkFault.is)

pub returns-in-LinkFault-clause-cause : goal.returns-in-LinkFault-clause-cause
returns-in-LinkFault-clause-cause g c = λ no is. absurd (no c.in-LinkFault.is)
