use Rattle.std.proofs.Common.{ap, ap₂, ◌∙◌}
use Rattle.std.specs.List.{filter}
use Rattle.road_rules.specs.Halts.{is_at}
use Rattle.road_rules.specs.Groups.{groups_by}
use Rattle.road_rules.proofs.mishaps.groups.Goals as goal

pub returns : goal.returns
returns c = c.in_ok-groups.ensures
    ∙ ap₂ groups_by (λ i p. (c.in_ok-by_place.ensures p ∙ ap (filter (is_at p)) (c.as_slice.ensures.value ∙ c.in_ok-halts.ensures)) i)
    (c.as_slice-2.ensures.value ∙ c.in_ok-places.ensures)
