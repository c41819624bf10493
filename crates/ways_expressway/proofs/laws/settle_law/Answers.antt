use Rattle.std.proofs.Common.{◌≡◌, ◌++◌, take, drop, length, ap}
use Rattle.std.proofs.lemmas.List.{take-append-drop, length-take-le}
use Rattle.road_time.specs.Day.{sum_of, charges_to}
use Rattle.ways_expressway.proofs.SettleLaws.{one_given, settled, settled_charges, settled_between}
use Rattle.ways_expressway.proofs.laws.settle_law.Goals as goal

pub returns-clause-one : goal.returns-clause-one
returns-clause-one c = λ day limits fit tariffs width some n h back out are found same before later r parts told.
    let whole : take n day ++ drop n day ≡ day = take-append-drop n day in
    one_given (take n day) (drop n day) (rw whole fit.in_order) tariffs width some n (length-take-le n day h) back out
    (rw whole are) found same before later r parts told

pub returns-clause-notices : goal.returns-clause-notices
returns-clause-notices c = λ day limits fit tariffs width some n h back out are found all_given number kept.
    let whole : take n day ++ drop n day ≡ day = take-append-drop n day in
    settled (take n day) (drop n day) (rw whole fit.in_order) tariffs width some n (length-take-le n day h) back out
    (rw whole are) found all_given number kept

pub returns-clause-accounts : goal.returns-clause-accounts
returns-clause-accounts c = λ day limits fit tariffs width some n h back out are found all_given.
    let whole : take n day ++ drop n day ≡ day = take-append-drop n day in
    let long : length (take n day) ≡ n = length-take-le n day h in
    let same =
    rw whole at
    (settled_charges (take n day) (drop n day) (rw whole fit.in_order) tariffs width some n long back out
    (rw whole are) found all_given) in (
      λ a b e. rw whole at
          (settled_between (take n day) (drop n day) (rw whole fit.in_order) tariffs width some n long back out
          (rw whole are) found all_given a b e),
      λ vid. ap (λ cs. sum_of (charges_to vid cs)) same,
      ap sum_of same,
    )
