-- Lists that go by days, a day more at a time.
use Rattle.std.proofs.Common.{◌≡◌, ℕ, ◌+◌, ◌<◌, ◌≤◌, ◌==◌, ◌&&◌, nat_le, nat_lt, min, max, ⊎_elim, true, false, List}
use Rattle.std.proofs.Common.{[]}
use Rattle.std.proofs.Common.{◌∷◌, ◌++◌, map, find, Option, refl, sym, ap, ap₂, ◌∙◌, arith}
use Rattle.std.specs.List.{AllByRecursion, cons_option, fold}
use Rattle.std.specs.List.Sorted.{IsStrictlySortedBy}
use Rattle.std.specs.declared.cmp.Ordering.{Ordering}
use Rattle.std.specs.declared.cmp.Ordering.TheVariants.{Less, Equal, Greater}
use Rattle.std.specs.Ordering.{nat_cmp, ordering_then}
use Rattle.std.proofs.lemmas.Bool.{cases_lt, cases_Bool, and_from, and_left, and_right, le-leb, lt-leb, lt-ltb, le-ltb}
use Rattle.std.proofs.lemmas.Bool.{cond-true, cond-false, eqb-true, eqb-false}
use Rattle.std.proofs.lemmas.Bool.Decides.{nat_tests}
use Rattle.std.proofs.lemmas.List.Sums.{fold-append}
use Rattle.road_time.proofs.EachLaws.{weakened}
use Rattle.road_time.specs.declared.day.SpentRow.{SpentRow}
use Rattle.keep_office.specs.declared.kept.DayRecord.{DayRecord}
use Rattle.keep_office.specs.declared.kept.PastRecord.{PastRecord}
use Rattle.keep_office.specs.Office.{Office, row_cmp, RowsRise, greatest_day, last_from, last_day, rows_between}
use Rattle.keep_office.specs.Office.{IsSound}
use Rattle.keep_office.proofs.ListFacts.{none_pass, pass_same}
use Rattle.keep_office.proofs.SoundLaws.{greatest_least, rows_last}
use Rattle.office_reports.specs.Spans.{in_span, on_day}
use Rattle.office_reports.specs.Charges.{with_amount, sums_of}

-- ---- the tests

within : (from next d : ℕ) → from ≤ d → d < next → (nat_le from d && nat_lt d next) ≡ true
within from next d low high = and_from _ _ (le-leb from d low) (lt-ltb d next high)

before : (from next d : ℕ) → d < from → (nat_le from d && nat_lt d next) ≡ false
before from next d low = and_left _ _ (lt-leb from d low)

behind : (from next d : ℕ) → next ≤ d → (nat_le from d && nat_lt d next) ≡ false
behind from next d high = and_right _ _ (le-ltb d next high)

here : (n d : ℕ) → d ≤ n → n ≤ d → (nat_le n d && nat_le d n) ≡ true
here n d most least = and_from _ _ (le-leb n d least) (le-leb d n most)

earlier : (n d : ℕ) → d < n → (nat_le n d && nat_le d n) ≡ false
earlier n d h = and_left _ _ (lt-leb n d h)

later : (n d : ℕ) → n < d → (nat_le n d && nat_le d n) ≡ false
later n d h = and_right _ _ (lt-leb d n h)

module _ {X : Type 0} (day : X → ℕ) where
  -- the days of a list do not fall
  abbrev pub RisesBy : List X → Type 0
  RisesBy [] = Unit {0}
  RisesBy (x ∷ xs) = AllByRecursion (λ y. day x ≤ day y) xs × RisesBy xs

  -- none is before the first day
  pub none_yet : (from : ℕ) (xs : List X) → in_span day from from xs ≡ []
  none_yet from [] = refl
  none_yet from (x ∷ xs) =
      cond-false _ _ _
      (⊎_elim (λ (low : day x < from). before from from (day x) low)
      (λ (high : from ≤ day x). behind from from (day x) high) (cases_lt (day x) from))
      ∙ none_yet from xs

  -- all are among the days where all lie
  pub all_in : (from next : ℕ) (xs : List X) → AllByRecursion (λ x. from ≤ day x) xs →
      AllByRecursion (λ x. day x < next) xs → in_span day from next xs ≡ xs
  all_in from next [] low high = refl
  all_in from next (x ∷ xs) low high =
      cond-true _ _ _ (within from next (day x) low.0 high.0)
      ∙ ap (λ ys. x ∷ ys) (all_in from next xs low.1 high.1)

  -- none of those from a day on is before it
  none_below : (from n : ℕ) (xs : List X) → AllByRecursion (λ y. n ≤ day y) xs → in_span day from n xs ≡ []
  none_below from n xs h =
      none_pass (λ x. nat_le from (day x) && nat_lt (day x) n) xs
      (weakened (λ y. n ≤ day y) (λ y. (nat_le from (day y) && nat_lt (day y) n) ≡ false)
      (λ y high. behind from n (day y) high) xs h)

  -- a day more
  pub one_more : (from n : ℕ) (xs : List X) → from ≤ n → RisesBy xs →
      in_span day from (n + 1) xs ≡ in_span day from n xs ++ on_day day n xs
  one_more from n [] low rise = refl
  one_more from n (x ∷ xs) low rise =
      let rest = one_more from n xs low rise.1 in
      let d = day x in
      ⊎_elim
      (λ (under : d < n).
      ⊎_elim
      (λ (out : d < from).
      cond-false _ _ _ (before from (n + 1) d out) ∙ rest
      ∙ sym (ap₂ (λ fs gs. fs ++ gs) (cond-false _ _ _ (before from n d out)) (cond-false _ _ _ (earlier n d under))))
      (λ (since : from ≤ d).
      cond-true _ _ _ (within from (n + 1) d since (omega (arith, under))) ∙ ap (λ ys. x ∷ ys) rest
      ∙ sym (ap₂ (λ fs gs. fs ++ gs) (cond-true _ _ _ (within from n d since under))
      (cond-false _ _ _ (earlier n d under))))
      (cases_lt d from))
      (λ (least : n ≤ d).
      ⊎_elim
      (λ (over : n < d).
      cond-false _ _ _ (behind from (n + 1) d (omega (arith, over))) ∙ rest
      ∙ sym (ap₂ (λ fs gs. fs ++ gs) (cond-false _ _ _ (behind from n d least)) (cond-false _ _ _ (later n d over))))
      (λ (most : d ≤ n).
      let none = none_below from n xs (weakened (λ y. d ≤ day y) (λ y. n ≤ day y)
      (λ y h. omega (arith, h, least)) xs rise.0) in
      cond-true _ _ _ (within from (n + 1) d (omega (arith, low, least)) (omega (arith, most)))
      ∙ ap (λ ys. x ∷ ys) (rest ∙ ap (λ fs. fs ++ on_day day n xs) none)
      ∙ sym (ap₂ (λ fs gs. fs ++ gs) (cond-false _ _ _ (behind from n d least) ∙ none)
      (cond-true _ _ _ (here n d most least))))
      (cases_lt n d))
      (cases_lt d n)

-- ---- kept days

less_is : (m n : ℕ) → nat_cmp m n ≡ Less → m < n
less_is m n = grind (arith, nat_tests)

-- days behind one in order are after it
after : (d : ℕ) (rs : List DayRecord) → AllByRecursion (λ n. nat_cmp d n ≡ Less) (map (λ r. r.day) rs) →
    AllByRecursion (λ r. d < r.day) rs
after d [] h = tt
after d (r ∷ rs) h = (less_is d r.day h.0, after d rs h.1)

-- kept days go by days
pub days_rise : (days : List DayRecord) → IsStrictlySortedBy nat_cmp (map (λ r. r.day) days) →
    RisesBy (λ r. r.day) days
unfolding IsStrictlySortedBy
days_rise [] h = tt
days_rise (r ∷ rs) h = (
  weakened (λ s. r.day < s.day) (λ s. r.day ≤ s.day) (λ s lt. omega (arith, lt)) rs (after r.day rs h.0),
  days_rise rs h.1,
)

-- a kept day has one record
pub one_record : (days : List DayRecord) (n : ℕ) → IsStrictlySortedBy nat_cmp (map (λ r. r.day) days) →
    on_day (λ r. r.day) n days ≡ cons_option (find (λ r. r.day == n) days) []
unfolding IsStrictlySortedBy
one_record [] n h = refl
one_record (r ∷ rs) n h =
    ⊎_elim
    (λ (is : (r.day == n) ≡ true).
    let same : r.day ≡ n = eqb-true r.day n is in
    cond-true _ _ _ (here n r.day (omega (arith, same)) (omega (arith, same)))
    ∙ ap (λ ys. r ∷ ys) (none_pass (λ s. nat_le n s.day && nat_le s.day n) rs
    (weakened (λ s. r.day < s.day) (λ s. (nat_le n s.day && nat_le s.day n) ≡ false)
    (λ s lt. later n s.day (omega (arith, lt, same))) rs (after r.day rs h.0)))
    ∙ sym (ap (λ o. cons_option o []) (cond-true _ _ _ is)))
    (λ (is : (r.day == n) ≡ false).
    let apart = eqb-false r.day n is in
    cond-false _ _ _
    (⊎_elim (λ (low : r.day < n). earlier n r.day low)
    (λ (least : n ≤ r.day).
    ⊎_elim (λ (high : n < r.day). later n r.day high)
    (λ (most : r.day ≤ n). absurd (apart (omega (arith, least, most)))) (cases_lt n r.day)) (cases_lt r.day n))
    ∙ one_record rs n h.1 ∙ sym (ap (λ o. cons_option o []) (cond-false _ _ _ is)))
    (cases_Bool (r.day == n))

-- the days are at most the greatest
most_days : (n : ℕ) (days : List DayRecord) → AllByRecursion (λ r. r.day ≤ greatest_day n days) days
most_days n [] = tt
most_days n (r ∷ rs) =
    let most = greatest_least (max n r.day) rs in (omega (arith, most), most_days (max n r.day) rs)

-- no kept day is after the last
pub days_most : (days : List DayRecord) (past : Option PastRecord) →
    AllByRecursion (λ r. r.day < last_from days past + 1) days
days_most [] past = tt
days_most (r ∷ rs) past =
    let first = greatest_least r.day rs in (
      omega (arith, first),
      weakened (λ s. s.day ≤ greatest_day r.day rs) (λ s. s.day < greatest_day r.day rs + 1)
          (λ s h. omega (arith, h)) rs (most_days r.day rs),
    )

-- ---- amounts

least_day : (m n : ℕ) (o : Ordering) → ordering_then (nat_cmp m n) o ≡ Less → m ≤ n
least_day m n o e = go (nat_cmp m n) refl e
  where
    at_most : nat_cmp m n ≡ Less → m ≤ n
    at_most = grind (arith, nat_tests)

    equal : nat_cmp m n ≡ Equal → m ≤ n
    equal = grind (arith, nat_tests)

    go : (c : Ordering) → nat_cmp m n ≡ c → ordering_then c o ≡ Less → m ≤ n
    go Less is h = at_most is
    go Equal is h = equal is
    go Greater is h = absurd cc

-- rows in order go by days
pub rows_rise : (rows : List SpentRow) → RowsRise rows → RisesBy (λ r. r.day) rows
unfolding IsStrictlySortedBy
rows_rise [] h = tt
rows_rise (r ∷ rs) h = (
  weakened (λ s. row_cmp r s ≡ Less) (λ s. r.day ≤ s.day)
      (λ s less. least_day r.day s.day (ordering_then (nat_cmp r.vid s.vid) (nat_cmp r.xway s.xway)) less) rs h.0,
  rows_rise rs h.1,
)

-- what holds of each thing holds of each of a list
each : {X : Type 0} (P : X → Type 0) → ((x : X) → P x) → (xs : List X) → AllByRecursion P xs
each P h [] = tt
each P h (x ∷ xs) = (h x, each P h xs)

-- the amounts of some days, as a span of them
pub span_rows : (o : Office) (from to : ℕ) → in_span (λ r. r.day) from (to + 1) o.rows ≡ rows_between o from to
span_rows o from to =
    pass_same (λ r. nat_le from r.day && nat_lt r.day (to + 1)) (λ r. nat_le from r.day && nat_le r.day to) o.rows
    (each _ (λ r. ap (λ b. nat_le from r.day && b) (below r.day)) o.rows)
  where
    below : (d : ℕ) → nat_lt d (to + 1) ≡ nat_le d to
    below d =
        ⊎_elim (λ (high : to < d). le-ltb d (to + 1) (omega (arith, high)) ∙ sym (lt-leb d to high))
        (λ (low : d ≤ to). lt-ltb d (to + 1) (omega (arith, low)) ∙ sym (le-leb d to low)) (cases_lt to d)

-- the sums of a day more
pub sums_more : (rows : List SpentRow) (from n : ℕ) → from ≤ n → RowsRise rows →
    sums_of (in_span (λ r. r.day) from (n + 1) rows)
    ≡ fold with_amount (sums_of (in_span (λ r. r.day) from n rows)) (on_day (λ r. r.day) n rows)
sums_more rows from n low rise =
    ap sums_of (one_more (λ r. r.day) from n rows low (rows_rise rows rise))
    ∙ fold-append with_amount [] (in_span (λ r. r.day) from n rows) (on_day (λ r. r.day) n rows)

-- no amount is of a day after the last: so none is asked for there
pub clipped : (o : Office) (from to : ℕ) → IsSound o → rows_between o from (min to (last_day o)) ≡ rows_between o from to
clipped o from to sound =
    pass_same (λ r. nat_le from r.day && nat_le r.day (min to (last_day o)))
    (λ r. nat_le from r.day && nat_le r.day to) o.rows
    (weakened (λ r. r.day ≤ last_day o)
    (λ r. (nat_le from r.day && nat_le r.day (min to (last_day o))) ≡ (nat_le from r.day && nat_le r.day to))
    (λ r h. ap (λ b. nat_le from r.day && b) (same r.day h)) o.rows (rows_last o sound))
  where
    same : (d : ℕ) → d ≤ last_day o → nat_le d (min to (last_day o)) ≡ nat_le d to
    same d h =
        ⊎_elim (λ (high : to < d). lt-leb d (min to (last_day o)) (omega (arith, high)) ∙ sym (lt-leb d to high))
        (λ (low : d ≤ to). le-leb d (min to (last_day o)) (omega (arith, low, h)) ∙ sym (le-leb d to low))
        (cases_lt to d)

-- and where the days begin after the last, there is none
pub none_between : (o : Office) (from to : ℕ) → to < from → rows_between o from to ≡ []
none_between o from to h = none_pass (λ r. nat_le from r.day && nat_le r.day to) o.rows (each _ (λ r. out r.day) o.rows)
  where
    out : (d : ℕ) → (nat_le from d && nat_le d to) ≡ false
    out d =
        ⊎_elim (λ (low : d < from). and_left _ _ (lt-leb from d low))
        (λ (high : from ≤ d). and_right _ _ (lt-leb d to (omega (arith, h, high)))) (cases_lt d from)
