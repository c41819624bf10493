use Rattle.std.proofs.Common.{refl, ap, take}
use Rattle.road_time.specs.Sights.{moments}
use Rattle.road_time.specs.Day.{given, merged, charges_by}
use Rattle.road_time.specs.Text.{out}
use Rattle.day_floor.proofs.Texts.{first_stay, merged_same, charged_same, not_settled, long_first, text_goes_on}
use Rattle.day_floor.proofs.Texts.{charges_go_on, one_written, one_charged}
use Rattle.day_floor.proofs.laws.text_law.Goals as goal

pub returns-clause-stays : goal.returns-clause-stays
returns-clause-stays c = λ width limits s sound number kept. (
  λ x. (
    ap (λ d. out (merged d s.found number kept)) (first_stay s.settled s.fed x sound.settled),
    ap
        (λ d. charges_by (given s.found) (moments d)) (first_stay s.settled s.fed x sound.settled),
  ),
  λ worker. (refl, refl),
  λ worker job fs can. (
    ap out (merged_same s.found fs s.settled (not_settled width limits s worker job fs sound can) (take s.settled s.fed)
        (long_first width limits s sound) number kept),
    charged_same s.found fs s.settled (not_settled width limits s worker job fs sound can) (take s.settled s.fed)
        (long_first width limits s sound),
  ),
)

pub returns-clause-goes_on : goal.returns-clause-goes_on
returns-clause-goes_on c =
    λ s n low high number kept. (text_goes_on s n low high number kept, charges_go_on s n low high)

pub returns-clause-one : goal.returns-clause-one
returns-clause-one c = λ s x at number kept. (one_written s x at number kept, one_charged s x at)
