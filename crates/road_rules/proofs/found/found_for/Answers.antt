use Rattle.std.proofs.Common.{◌≡◌, ap, ◌∙◌, Some, rules}
use Rattle.std.specs.HashMap.{get}
use Rattle.road_time.specs.Tuples.{reports}
use Rattle.road_rules.specs.Gathered.{same_spot}
use Rattle.road_rules.specs.Findings.{finding_on}
use Rattle.road_rules.proofs.SpotLaws.{known_more}
use Rattle.road_rules.proofs.found.found_for.Goals as goal

pub returns-in-Some-clause-exact : goal.returns-in-Some-clause-exact
returns-in-Some-clause-exact c =
    let here : get same_spot c.args.found.now c.spot_of-spot.result ≡ Some c.in-Some.before.now = search rules in
    c.requires.known c.spot_of-spot.result c.in-Some.before.now here
    ∙ ap (λ s. finding_on (reports c.args.gathered.now.tuples.now) c.args.tariffs.now s.minute s.stretch)
    c.spot_of-spot.ensures

pub returns-clause-kept : goal.returns-clause-kept
returns-clause-kept c =
    known_more (reports c.args.gathered.now.tuples.now) c.args.tariffs.now (get same_spot c.args.found.now)
    (get same_spot c.insert.new.self) c.spot_of-spot.result c.in_ok-now.now
    c.requires.known c.in_ok-insert.ensures.updates.0 c.in_ok-now.ensures
