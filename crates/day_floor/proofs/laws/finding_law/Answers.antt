use Rattle.std.proofs.Common.{take}
use Rattle.day_floor.proofs.Ones.{one_at_most, none_yet, few_tolls, awaited, fresh_back, not_given, given_more}
use Rattle.day_floor.proofs.Texts.{same_told, not_settled, long_first}
use Rattle.day_floor.proofs.Truths.{one_finding, exact_notices, exact_charges, exact_between, true_start, true_give}
use Rattle.day_floor.proofs.Truths.{true_back}
use Rattle.day_floor.proofs.laws.finding_law.Goals as goal

pub returns-clause-one : goal.returns-clause-one
returns-clause-one c = λ width limits s some sound n low. one_finding width limits s some sound n low

pub returns-clause-stay_true : goal.returns-clause-stay_true
returns-clause-stay_true c = λ tariffs width limits. (
  true_start tariffs width,
  λ s sound are. (
    λ x. are,
    λ worker. true_give tariffs width s worker are,
    λ n. are,
    λ worker number can. true_back tariffs
        width limits s worker sound can.within are,
  ),
)

pub returns-clause-exact : goal.returns-clause-exact
returns-clause-exact c = λ tariffs width limits s some sound are n low. (
  λ number kept. exact_notices width limits s some sound n low tariffs are number kept,
  exact_charges width limits s
      some sound n low tariffs are,
  exact_between width limits s some sound n low tariffs are,
)

pub returns-clause-at_most : goal.returns-clause-at_most
returns-clause-at_most c = λ width limits s sound. (
  one_at_most width limits s sound,
  λ t h. not_given s.found t (none_yet width limits s sound t.0 h),
  few_tolls width limits s sound,
)

pub returns-clause-fresh : goal.returns-clause-fresh
returns-clause-fresh c = λ width limits s worker number fs sound can. (
  awaited width limits s sound worker number fs can,
  fresh_back width limits s worker number fs sound can,
  same_told s.found fs s.settled (not_settled width limits s worker number fs sound can) (take s.settled s.fed)
      (long_first width limits s sound),
)

pub returns-clause-given : goal.returns-clause-given
returns-clause-given c = given_more
