use Rattle.std.proofs.Common.{◌≡◌, ◌∷◌, [], None, Some, cond, rules, ap, ◌∙◌}
use Rattle.std.specs.HashMap.{get}
use Rattle.road_time.specs.Tuples.{same_stretch}
use Rattle.road_rules.proofs.GatherLaws.{first_kept}
use Rattle.road_time.proofs.SameLaws.{stretch_is}
use Rattle.road_rules.proofs.spots.add_halt_to.Goals as goal

pub returns-in_ok-insert-in-None : goal.returns-in_ok-insert-in-None
returns-in_ok-insert-in-None c =
    let none : get same_stretch c.args.by_stretch.now c.args.stretch ≡ None = search rules in
    let items : c.push-in-None.new.self.items ≡ c.args.halt.now ∷ [] = search rules in
    first_kept same_stretch stretch_is (get same_stretch c.args.by_stretch.now) (get same_stretch c.insert.new.self)
    c.args.stretch c.push-in-None.new.self c.args.halt.now none items
    (λ s. c.in_ok-insert-in-None.ensures.updates.0 s
    ∙ ap (λ m. cond (same_stretch c.args.stretch s) (Some c.push-in-None.new.self) (get same_stretch m s))
    c.get_mut.follows.holds-at-none)
