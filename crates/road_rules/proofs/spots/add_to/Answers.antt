use Rattle.std.proofs.Common.{◌≡◌, ◌∷◌, [], None, Some, cond, rules, ap, ◌∙◌}
use Rattle.std.specs.HashMap.{get}
use Rattle.road_rules.specs.Gathered.{same_spot}
use Rattle.road_rules.proofs.GatherLaws.{first_kept}
use Rattle.road_rules.proofs.SpotLaws.{spot_is}
use Rattle.road_rules.proofs.spots.add_to.Goals as goal

pub returns-in_ok-insert-in-None : goal.returns-in_ok-insert-in-None
returns-in_ok-insert-in-None c =
    let none : get same_spot c.args.by_spot.now c.args.spot ≡ None = search rules in
    let items : c.push-in-None.new.self.items ≡ c.args.tuple.now ∷ [] = search rules in
    first_kept same_spot spot_is (get same_spot c.args.by_spot.now) (get same_spot c.insert.new.self) c.args.spot
    c.push-in-None.new.self c.args.tuple.now none items
    (λ s. c.in_ok-insert-in-None.ensures.updates.0 s
    ∙ ap (λ m. cond (same_spot c.args.spot s) (Some c.push-in-None.new.self) (get same_spot m s))
    c.get_mut.follows.holds-at-none)
