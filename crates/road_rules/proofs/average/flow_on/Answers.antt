use Rattle.std.proofs.Common.{◌≡◌, ◌≤◌, None, IfOk, length, ap, sym, ◌∙◌, subst, rules}
use Rattle.std.specs.HashMap.{get}
use Rattle.road_time.specs.Lav.{CarFlow, flow_at as defined_flow}
use Rattle.road_time.specs.Tuples.{reports}
use Rattle.road_time.specs.Tolls.{notes_of}
use Rattle.road_rules.specs.declared.spots.Spot.{Spot}
use Rattle.road_rules.specs.Flows.{shown_flow}
use Rattle.road_rules.specs.Gathered.{same_spot, kept_items}
use Rattle.road_rules.proofs.GatherLaws.{flow_there, flow_none, fewer_there}
use Rattle.road_rules.proofs.average.flow_on.Goals as goal

pub flow_at-requires : goal.flow_at-requires
flow_at-requires c =
    let s : Spot = record { minute = c.args.in_minute; stretch = c.args.stretch } in
    let day = c.args.gathered.now.tuples.now in
    let kept : c.as_slice.result.now ≡ kept_items (get same_spot c.args.gathered.now.by_spot s) = search rules in
    let all : length day ≤ 16000000 = c.requires.fit.lines in
    record { lines = fewer_there s day c.as_slice.result.now 16000000 (kept ∙ c.requires.right.by_spot s) all }

pub returns-in-None-clause-flow : goal.returns-in-None-clause-flow
returns-in-None-clause-flow c =
    let s : Spot = record { minute = c.args.in_minute; stretch = c.args.stretch } in
    let none : get same_spot c.args.gathered.now.by_spot s ≡ None = search rules in
    flow_none s c.args.gathered.now.tuples.now (sym (c.requires.right.by_spot s) ∙ ap kept_items none)

pub returns-in-Some-clause-flow : goal.returns-in-Some-clause-flow
returns-in-Some-clause-flow c =
    let s : Spot = record { minute = c.args.in_minute; stretch = c.args.stretch } in
    let kept : c.as_slice.result.now ≡ kept_items (get same_spot c.args.gathered.now.by_spot s) = search rules in
    let same = ap (λ xs. defined_flow (notes_of (reports xs)) c.args.stretch c.args.in_minute)
    (kept ∙ c.requires.right.by_spot s) ∙ flow_there s c.args.gathered.now.tuples.now in
    subst (λ (flow : CarFlow). IfOk c.flow_at.result (λ f. shown_flow f ≡ flow)) same c.flow_at.ensures.flow
