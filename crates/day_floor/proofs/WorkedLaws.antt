-- what the worked books come to
use Rattle.std.proofs.Common.{◌≡◌, ℕ, List, [], ◌∷◌, Some, ap, subst, ◌∙◌, arith}
use Rattle.std.specs.Ordering.{nat_cmp}
use Rattle.std.specs.Cmp.{nat_cmp_total}
use Rattle.std.specs.FinMap.{FinMap, get, insert, get-insert}
use Rattle.std.proofs.lemmas.List.Sums.{sum_by-cons}
use Rattle.road_time.specs.declared.day.SpentRow.{SpentRow}
use Rattle.road_time.specs.Day.{ChargedToll}
use Rattle.road_time.specs.Rows.{rows_from}
use Rattle.road_time.proofs.RowLaws.{only_rows}
use Rattle.day_floor.specs.declared.worked.Answers.{Answers}
use Rattle.day_floor.specs.Sums.{SpentMap, account_in, total_in, spent_by, AreRowsOf}
use Rattle.day_floor.proofs.SumLaws.{account_by, total_by, amount_by}

-- what vehicle 100 was told last
pub told_it : (told : FinMap nat_cmp ℕ) (toll : ℕ) → get (insert told 100 toll) 100 ≡ Some toll
told_it told toll = get-insert nat_cmp_total told 100 toll 100

-- a charge of vehicle 100 on expressway 0
abbrev pub charge : ℕ → ChargedToll
charge toll = record { vid = 100; xway = 0; toll = toll }

-- what is in both is one
pub some_is : (a b : ℕ) → Some a ≡ Some b → a ≡ b
some_is a b e = cc

-- the rows of charges are those that the definitions make of them
pub rows_by : (cs : List ChargedToll) (m : SpentMap) (number : ℕ) (rows : List SpentRow) → m ≡ spent_by cs →
    AreRowsOf m number rows → rows ≡ rows_from number cs
rows_by cs m number rows e are =
    let there = subst (λ x. AreRowsOf x number rows) e are in
    only_rows cs number rows
    (record {
      in_order = there.in_order;
      of_day = there.of_day;
      none_zero = there.none_zero;
      exact =
          λ v x. there.exact v x ∙ amount_by cs v x;
    })

-- the account of one charge
pub one_account : (m : SpentMap) (toll : ℕ) → m ≡ spent_by (charge toll ∷ []) → account_in m 100 ≡ toll
one_account m toll e =
    let here = ap (λ x. account_in x 100) e in
    let by = account_by (charge toll ∷ []) 100 in
    let one = sum_by-cons (λ (c : ChargedToll). c.toll) (charge toll) [] in
    omega (arith, here, by, one)

-- and the total
pub one_total : (m : SpentMap) (toll : ℕ) → m ≡ spent_by (charge toll ∷ []) → total_in m ≡ toll
one_total m toll e =
    let here = ap total_in e in
    let by = total_by (charge toll ∷ []) in
    let one = sum_by-cons (λ (c : ChargedToll). c.toll) (charge toll) [] in
    omega (arith, here, by, one)

-- a charge of vehicle 100 of 2
abbrev pub charge_on : ℕ → ChargedToll
charge_on xway = record { vid = 100; xway = xway; toll = 2 }

-- three of them, on two expressways
abbrev pub three : List ChargedToll
three = charge_on 1 ∷ charge_on 0 ∷ charge_on 1 ∷ []

-- their account
pub three_account : (m : SpentMap) → m ≡ spent_by three → account_in m 100 ≡ 6
three_account m e =
    let here = ap (λ x. account_in x 100) e in
    let by = account_by three 100 in
    let one = sum_by-cons (λ (c : ChargedToll). c.toll) (charge_on 1) (charge_on 0 ∷ charge_on 1 ∷ []) in
    let two = sum_by-cons (λ (c : ChargedToll). c.toll) (charge_on 0) (charge_on 1 ∷ []) in
    let last = sum_by-cons (λ (c : ChargedToll). c.toll) (charge_on 1) [] in
    omega (arith, here, by, one, two, last)

-- and their total
pub three_total : (m : SpentMap) → m ≡ spent_by three → total_in m ≡ 6
three_total m e =
    let here = ap total_in e in
    let by = total_by three in
    let one = sum_by-cons (λ (c : ChargedToll). c.toll) (charge_on 1) (charge_on 0 ∷ charge_on 1 ∷ []) in
    let two = sum_by-cons (λ (c : ChargedToll). c.toll) (charge_on 0) (charge_on 1 ∷ []) in
    let last = sum_by-cons (λ (c : ChargedToll). c.toll) (charge_on 1) [] in
    omega (arith, here, by, one, two, last)

-- three answers by their parts
pub answers_made : {a b c x y z : ℕ} → a ≡ x → b ≡ y → c ≡ z →
    ◌≡◌ {A = Answers} (record { charged = a; balance = b; total = c }) (record { charged = x; balance = y; total = z })
answers_made p q r = cc
