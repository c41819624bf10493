use Rattle.std.proofs.Common.{◌≡◌, ◌+◌, ◌++◌, ◌∷◌, [], List, ap, sym, ◌∙◌, take, get_or}
use Rattle.std.proofs.lemmas.List.{take_more}
use Rattle.std.specs.HashMap.{get}
use Rattle.road_time.specs.declared.road.Place.{Place}
use Rattle.road_time.specs.Tuples.{same_place}
use Rattle.road_rules.specs.declared.halts.Halt.{Halt}
use Rattle.road_rules.specs.Gathered.{kept_items}
use Rattle.road_rules.specs.Groups.{groups_by}
use Rattle.road_rules.proofs.GroupLaws.{groups_push}
use Rattle.road_rules.proofs.mishaps.groups_at.Goals as goal

abbrev none : Place
none = record { xway = 0; dir = 0; lane = 0; seg = 0; pos = 0 }

pub loop-place-preserved : goal.loop-place-preserved
loop-place-preserved c =
    let i = c.loop-place.place-index in
    let ps = c.args.places.now in
    let own : Place → List Halt = λ p. kept_items (get same_place c.args.by_place.now p) in
    let here = get_or ps i none in
    let more : take (i + 1) ps ≡ take i ps ++ here ∷ [] = take_more ps i none c.loop-place-test.true in
    c.in_ok-add_group.ensures ∙ ap (λ gs. gs ++ groups_by own (here ∷ [])) c.loop-place.invariant
    ∙ sym (groups_push own (take i ps) here) ∙ sym (ap (groups_by own) more)
