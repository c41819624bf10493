use Rattle.std.proofs.Common.{[], subst, ap, ◌∙◌, ◌++◌}
use Rattle.std.specs.Io.KnownBytes.{Appends}
use Rattle.std.proofs.lemmas.List.Concat.{flat_map-append}
use Rattle.road_time.specs.Day.{given, told_by, answer_by, notices_by}
use Rattle.road_time.specs.Sights.{Moment, moments, moments_after}
use Rattle.road_time.specs.Text.{out}
use Rattle.road_time.proofs.SightLaws.{moments-append}
use Rattle.day_floor.proofs.AnswerLaws.{notices_exact}
use Rattle.day_floor.proofs.PrintLaws.{out_both}
use Rattle.day_floor.proofs.settling_laws.wrote_law.Goals as goal

pub returns : goal.returns
returns c = λ found number kept before run.
    let each = λ (m : Moment). told_by (given found) m ++ answer_by (given found) number kept m in (
      λ old now h. subst (λ ns. Appends old now (out ns))
          (notices_exact (given found) number kept (moments_after before run) h.0 h.1) h.2,
      ap (λ ms. out (notices_by (given found) number kept ms)) (moments-append [] before run)
          ∙ (ap out (flat_map-append each (moments before) (moments_after before run))
          ∙ out_both (notices_by (given found) number kept (moments before))
          (notices_by (given found) number kept (moments_after before run))),
    )
