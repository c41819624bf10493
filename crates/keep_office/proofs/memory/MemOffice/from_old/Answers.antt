use Rattle.std.proofs.Common.{◌≡◌, [], map, ap, ◌∙◌}
use Rattle.keep_office.specs.Kept.{sealed, seal_of}
use Rattle.keep_office.proofs.SoundLaws.{same_office}
use Rattle.keep_office.proofs.memory.MemOffice.from_old.Goals as goal

pub invariant_of-result : goal.invariant_of-result
invariant_of-result c =
    let days : c.in_ok-days.days.items ≡ map (sealed (seal_of [])) c.args.days.now = c.in_ok-days.ensures
    ∙ ap (λ d. map (sealed d) c.args.days.now) (c.in_ok-none.ensures ∙ ap seal_of c.new-tariffs.ensures) in
    record { sound = rw (days, c.in_ok-rows.ensures.items, c.new-tariffs.ensures) c.requires }

pub returns : goal.returns
returns c =
    let days : c.in_ok-days.days.items ≡ map (sealed (seal_of [])) c.args.days.now = c.in_ok-days.ensures
    ∙ ap (λ d. map (sealed d) c.args.days.now) (c.in_ok-none.ensures ∙ ap seal_of c.new-tariffs.ensures) in
    same_office _ _ _ _ c.args.past _ _ days c.in_ok-rows.ensures.items c.new-tariffs.ensures
