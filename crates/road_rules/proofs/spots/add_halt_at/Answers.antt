use Rattle.std.proofs.Common.{◌≡◌, ◌∷◌, [], None, Some, cond, rules, ap, ◌∙◌}
use Rattle.std.specs.HashMap.{get}
use Rattle.road_time.specs.Tuples.{same_place}
use Rattle.road_rules.proofs.GatherLaws.{first_kept}
use Rattle.road_time.proofs.SameLaws.{place_is}
use Rattle.road_rules.proofs.spots.add_halt_at.Goals as goal

pub returns-in_ok-insert-in-None : goal.returns-in_ok-insert-in-None
returns-in_ok-insert-in-None c =
    let none : get same_place c.args.by_place.now c.args.place ≡ None = search rules in
    let items : c.push-in-None.new.self.items ≡ c.args.halt.now ∷ [] = search rules in
    first_kept same_place place_is (get same_place c.args.by_place.now) (get same_place c.insert.new.self) c.args.place
    c.push-in-None.new.self c.args.halt.now none items
    (λ p. c.in_ok-insert-in-None.ensures.updates.0 p
    ∙ ap (λ m. cond (same_place c.args.place p) (Some c.push-in-None.new.self) (get same_place m p))
    c.get_mut.follows.holds-at-none)
