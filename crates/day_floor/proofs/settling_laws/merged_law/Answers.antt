use Rattle.std.proofs.Common.{length, subst, ap, ◌∙◌}
use Rattle.road_time.specs.Day.{given}
use Rattle.road_time.specs.Sights.{moments}
use Rattle.road_time.specs.Text.{out}
use Rattle.day_floor.specs.TextDigests.{TookText}
use Rattle.day_floor.proofs.AnswerLaws.{notices_exact}
use Rattle.day_floor.proofs.settling_laws.merged_law.Goals as goal

pub returns : goal.returns
returns c = λ s found number kept before h.
    let exact = notices_exact (given found) number kept (moments before) h.told h.told_are in
    (subst (λ ns. TookText s.printer.digest (out ns)) exact h.took, h.count ∙ ap length exact)
