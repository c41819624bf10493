use Rattle.std.proofs.Common.{◌≡◌, length, ap, ◌∙◌}
use Rattle.std.proofs.lemmas.List.{take_at}
use Rattle.ways_crews.specs.Marks.{marked}
use Rattle.ways_crews.proofs.mark_crew.with_tolls.Goals as goal

pub returns : goal.returns
returns c =
    let long : length c.set_tolls.new.findings ≡ c.into_vec-all.result.len = c.set_tolls.auto.findings
    ∙ c.as_mut_slice.ensures.len in
    let kept = take_at c.set_tolls.new.findings _ c.into_vec-all.result.len long in
    c.from_vec.ensures ∙ kept ∙ c.set_tolls.ensures
    ∙ ap (λ fs. marked c.args.toll fs) (c.as_mut_slice.ensures.value ∙ c.into_vec-all.ensures)
