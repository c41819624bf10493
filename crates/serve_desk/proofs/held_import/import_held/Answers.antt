use Rattle.std.proofs.Common.{◌≡◌, ◌⊎◌, Some, ap, sym, subst, ◌∙◌, arith}
use Rattle.road_io.specs.Faults.{Rose}
use Rattle.serve_desk.specs.History.{told_at, GoesOn}
use Rattle.serve_desk.specs.Imports.{Imports}
use Rattle.serve_desk.specs.Reading.{HasNoneLeft}
use Rattle.serve_requests.specs.AskedBodies.{filled}
use Rattle.serve_desk.proofs.held_import.import_held.Goals as goal

pub goes_to-requires : goal.goes_to-requires
goes_to-requires g c =
    let q = c.import-imported.new.keeper in
    let from = q.once c.args.first.place.count c.requires.begun in
    let begun = q.hold.begun c.args.first.place.count from in
    let place = ap (λ p. p.count) c.ends-last.ensures.place in
    omega (arith, begun, place, c.again-begun.ensures.count)

pub returns-clause-next : goal.returns-clause-next
returns-clause-next g c =
    let q = c.import-imported.new.keeper in
    let from = q.once c.args.first.place.count c.requires.begun in
    let next = q.hold.next c.args.first.place.count from in
    let place = ap (λ p. p.count) c.ends-last.ensures.place in
    omega (arith, next, place)

pub returns-clause-went : goal.returns-clause-went
returns-clause-went g c =
    subst (λ log. GoesOn log c.ends-last.result.seen.log) c.again-begun.ensures.log c.goes_to.ensures

pub returns-clause-imports : goal.returns-clause-imports
returns-clause-imports g c = λ all o known is.
    let told = g.K.Keeper.told in
    let i = c.import-imported in
    let first = ap (λ h. told_at told h.place.seen.log h.place.count) c.at-held.ensures.hold in
    let last = ap (λ p. told_at told p.seen.log p.count) c.ends-last.ensures.place in
    subst (λ t. Imports g.K.Keeper.refuses g.C.Crew.exact c.args.work.day c.args.work.limits (filled c.args.count all) o t
    c.args.desk.now.writer.posted (Some i.new.self.writer.posted) i.result.outcome)
    (sym last) (i.ensures.imports all o known (first ∙ is))

pub returns-clause-read_first : goal.returns-clause-read_first
returns-clause-read_first g c = λ all known.
    let told = g.K.Keeper.told in
    let i = c.import-imported in
    let p = c.args.first.place in
    let first = ap (λ h. told_at told h.place.seen.log h.place.count) c.at-held.ensures.hold in
    let last = ap (λ p. told_at told p.seen.log p.count) c.ends-last.ensures.place in
    subst (λ t. (t ≡ told_at told p.seen.log p.count) ⊎ HasNoneLeft i.result.read) (sym last)
    (subst (λ t. (told_at told i.new.keeper.hold.place.seen.log i.new.keeper.hold.place.count ≡ t)
    ⊎ HasNoneLeft i.result.read) first (i.ensures.read_first all known))

pub returns-clause-cause : goal.returns-clause-cause
returns-clause-cause g c = λ is.
    subst (Rose c.args.keeper.now.faults) (sym c.ends-last.ensures.faults)
    (subst (λ n. Rose n c.import-imported.new.keeper.faults) c.at-held.ensures.faults
    (c.import-imported.ensures.keeper.cause is))

pub returns-clause-still : goal.returns-clause-still
returns-clause-still g c = λ other.
    c.ends-last.ensures.faults ∙ (c.import-imported.ensures.keeper.still other ∙ c.at-held.ensures.faults)
