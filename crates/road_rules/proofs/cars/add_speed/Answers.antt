use Rattle.std.proofs.Common.{◌≡◌, ◌==◌, ◌∷◌, [], None, Some, cond, nat_eq, rules, ap, ◌∙◌}
use Rattle.std.specs.HashMap.{get}
use Rattle.road_rules.proofs.GatherLaws.{first_kept}
use Rattle.std.proofs.lemmas.Bool.{eqb-true}
use Rattle.road_rules.proofs.cars.add_speed.Goals as goal

pub returns-in_ok-insert-in-None : goal.returns-in_ok-insert-in-None
returns-in_ok-insert-in-None c =
    let none : get nat_eq c.args.speeds.now c.args.vid ≡ None = search rules in
    let items : c.push-in-None.new.self.items ≡ c.args.spd ∷ [] = search rules in
    first_kept nat_eq eqb-true (get nat_eq c.args.speeds.now) (get nat_eq c.insert.new.self) c.args.vid
    c.push-in-None.new.self c.args.spd none items
    (λ v. c.in_ok-insert-in-None.ensures.updates.0 v
    ∙ ap (λ m. cond (c.args.vid == v) (Some c.push-in-None.new.self) (get nat_eq m v))
    c.get_mut.follows.holds-at-none)
