use Rattle.std.proofs.Common.{List, IfOk, sym, subst}
use Rattle.road_time.specs.declared.road.Notice.{Notice}
use Rattle.road_io.specs.Cutter.{ahead, line_of}
use Rattle.office_commands.specs.Listings.{ListsOn, StepsTo}
use Rattle.office_commands.proofs.ListingLaws.{no_notices}
use Rattle.office_commands.proofs.listing.line_step.Goals as goal

pub returns-in-Some-clause-exact : goal.returns-in-Some-clause-exact
returns-in-Some-clause-exact g c = λ all h.
    let same = c.in-Some.ensures.cases.0 in
    let spot = c.args.spot.now in
    let now = c.at_line.new in
    subst (λ (ws : List Notice). IfOk c.at_line.result (λ s. StepsTo s all now.list.items ws now.spot.line now.spot.entry
    (line_of now.cutter) (ahead now.cutter (g.A.Source.left now.aside)))) (sym same)
    (c.at_line.ensures.exact all (subst (λ (ws : List Notice). ListsOn all c.args.list.now.items ws spot.line spot.entry
    (line_of c.args.cutter.now) (ahead c.args.cutter.now (g.A.Source.left c.args.aside.now))) same h))

pub returns-in-None-clause-exact : goal.returns-in-None-clause-exact
returns-in-None-clause-exact g c = λ all h.
    let none = no_notices c.args.wanted.now c.in-None.ensures.cases in
    let spot = c.args.spot.now in
    let now = c.over_line.new in
    subst (λ (ws : List Notice). IfOk c.over_line.result (λ s. StepsTo s all now.list.items ws now.spot.line
    now.spot.entry (line_of now.cutter) (ahead now.cutter (g.A.Source.left now.aside)))) (sym none)
    (c.over_line.ensures.exact all (subst (λ (ws : List Notice). ListsOn all c.args.list.now.items ws spot.line
    spot.entry (line_of c.args.cutter.now) (ahead c.args.cutter.now (g.A.Source.left c.args.aside.now))) none h))
