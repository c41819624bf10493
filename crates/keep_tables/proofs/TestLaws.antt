-- What the tests of an office say.
use Rattle.std.proofs.Common.{◌≡◌, ℕ, ◌+◌, ◌<◌, ◌≤◌, ◌^◌, ◌==◌, ◌&&◌, nat_le, nat_lt, not, Bool, true, false, List, []}
use Rattle.std.proofs.Common.{◌∷◌, map, length, Option, Some, None, IfSome, refl, ap, ap₂, subst, arith}
use Rattle.std.specs.List.{AllByRecursion, list_all}
use Rattle.std.specs.List.Sorted.{IsStrictlySortedBy}
use Rattle.std.specs.declared.cmp.Ordering.{Ordering}
use Rattle.std.specs.declared.cmp.Ordering.TheVariants.{Less, Equal, Greater}
use Rattle.std.specs.Ordering.{nat_cmp, is_lt}
use Rattle.std.specs.Map.{keys_of, values_of}
use Rattle.std.proofs.lemmas.Bool.{and_parts}
use Rattle.std.proofs.lemmas.Bool.Decides.{nat_tests}
use Rattle.std.proofs.lemmas.List.Elements.{recursion_from_All, All-from_recursion}
use Rattle.sqlite_keyed.proofs.ListLemmas.{all_weaker, all_from_test, test_from_all}
use Rattle.road_time.specs.declared.day.SpentRow.{SpentRow}
use Rattle.road_time.specs.declared.tariff.Tariff.{Tariff}
use Rattle.road_time.specs.Rates.{Tariffs, IsTariff, benchmark, same_tariff}
use Rattle.road_time.specs.Tariffs.{IsTariffs}
use Rattle.road_digest.specs.declared.digest.Digest.{Digest}
use Rattle.keep_office.specs.declared.kept.DayRecord.{DayRecord}
use Rattle.keep_office.specs.declared.kept.PastRecord.{PastRecord}
use Rattle.keep_office.specs.Office.{Office, IsSound, IsPast, row_cmp, rows_on, rows_off, sum_of_rows}
use Rattle.keep_tables.specs.Stands.{IsWholeDigest, FitsDay, FitsSpent, FitsPast, FitsFields}
use Rattle.keep_tables.specs.Tests.{rises, fits_kept, past_fits, is_tariff, are_tariffs, is_sound, is_whole, fits_day}
use Rattle.keep_tables.specs.Tests.{fits_spent, fits_past, fits_fields}

-- at most, by its test
pub le_is : (m n : ℕ) → nat_le m n ≡ true → m ≤ n
le_is m n h = grind (arith, nat_tests, h)

-- and its test
pub le_if : (m n : ℕ) → m ≤ n → nat_le m n ≡ true
le_if m n h = grind (arith, nat_tests, h)

-- below, by its test
pub lt_is : (m n : ℕ) → nat_lt m n ≡ true → m < n
lt_is m n h = grind (arith, nat_tests, h)

-- and its test
pub lt_if : (m n : ℕ) → m < n → nat_lt m n ≡ true
lt_if m n h = grind (arith, nat_tests, h)

-- the same, by its test
pub eq_is : (m n : ℕ) → (m == n) ≡ true → m ≡ n
eq_is m n h = grind (arith, nat_tests, h)

-- and its test
pub eq_if : (m n : ℕ) → m ≡ n → (m == n) ≡ true
eq_if m n h = grind (arith, nat_tests, h)

-- two tests that pass
pub both : {a b : Bool} → a ≡ true → b ≡ true → (a && b) ≡ true
both p q = ap₂ ◌&&◌ p q

-- a test that does not pass
not_is : (b : Bool) → not b ≡ true → b ≡ false
not_is true h = absurd (cc)
not_is false h = refl

-- an order that is less
less_is : (o : Ordering) → is_lt o ≡ true → o ≡ Less
less_is Less h = refl
less_is Equal h = absurd (cc)
less_is Greater h = absurd (cc)

module _ {X : Type 0} (P : X → Type 0) (p : X → Bool) where
  pub all_is : ((x : X) → p x ≡ true → P x) → (xs : List X) → list_all p xs ≡ true → AllByRecursion P xs
  all_is f xs h = all_weaker (λ x. p x ≡ true) P f xs (all_from_test p xs h)

  pub all_if : ((x : X) → P x → p x ≡ true) → (xs : List X) → AllByRecursion P xs → list_all p xs ≡ true
  all_if f xs h = test_from_all p xs (all_weaker P (λ x. p x ≡ true) f xs h)

module _ {K : Type 0} (cmp : K → K → Ordering) where
  pub rises_is : (xs : List K) → rises cmp xs ≡ true → IsStrictlySortedBy cmp xs
  unfolding IsStrictlySortedBy
  rises_is [] h = tt
  rises_is (x ∷ xs) h =
      let p = and_parts (list_all (λ y. is_lt (cmp x y)) xs) (rises cmp xs) h in
      (all_is (λ y. cmp x y ≡ Less) (λ y. is_lt (cmp x y)) (λ y. less_is (cmp x y)) xs p.0, rises_is xs p.1)

  pub rises_if : (xs : List K) → IsStrictlySortedBy cmp xs → rises cmp xs ≡ true
  unfolding IsStrictlySortedBy
  rises_if [] h = refl
  rises_if (x ∷ xs) h = both (all_if (λ y. cmp x y ≡ Less) (λ y. is_lt (cmp x y)) (λ y e. ap is_lt e) xs h.0)
      (rises_if xs h.1)

-- ---- what fits its fields

-- a digest that passes is whole
whole_is : (d : Digest) → is_whole d ≡ true → IsWholeDigest d
whole_is d h = let p = and_parts (length d.bytes == 32) (list_all (λ b. nat_lt b 256) d.bytes) h in
    (eq_is (length d.bytes) 32 p.0, all_is (λ b. b < 256) (λ b. nat_lt b 256) (λ b. lt_is b 256) d.bytes p.1)

-- a whole digest passes
whole_if : (d : Digest) → IsWholeDigest d → is_whole d ≡ true
whole_if d h =
    both (eq_if (length d.bytes) 32 h.0) (all_if (λ b. b < 256) (λ b. nat_lt b 256) (λ b. lt_if b 256) d.bytes h.1)

-- a day that passes fits
day_is : (r : DayRecord) → fits_day r ≡ true → FitsDay r
day_is r h =
    let a = and_parts _ _ h in
    let b = and_parts _ _ a.1 in
    let c = and_parts _ _ b.1 in
    let d = and_parts _ _ c.1 in
    let e = and_parts _ _ d.1 in
    let f = and_parts _ _ e.1 in
    let g = and_parts _ _ f.1 in
    record {
      day = lt_is r.day (2 ^ 32) a.0;
      bytes = lt_is r.bytes (2 ^ 63) b.0;
      tuples = lt_is r.tuples (2 ^ 63) c.0;
      notices = lt_is r.notices (2 ^ 63) d.0;
      total = lt_is r.total (2 ^ 63) e.0;
      digest = whole_is r.digest f.0;
      told = whole_is r.notices_digest g.0;
      seal = whole_is r.tariffs g.1;
    }

-- a day that fits passes
day_if : (r : DayRecord) → FitsDay r → fits_day r ≡ true
day_if r h =
    both (lt_if r.day (2 ^ 32) h.day)
    (both (lt_if r.bytes (2 ^ 63) h.bytes)
    (both (lt_if r.tuples (2 ^ 63) h.tuples) (both (lt_if r.notices (2 ^ 63) h.notices)
    (both (lt_if r.total (2 ^ 63) h.total)
    (both (whole_if r.digest h.digest) (both (whole_if r.notices_digest h.told) (whole_if r.tariffs h.seal)))))))

-- an amount that passes fits
spent_is : (r : SpentRow) → fits_spent r ≡ true → FitsSpent r
spent_is r h =
    let a = and_parts _ _ h in
    let b = and_parts _ _ a.1 in
    let c = and_parts _ _ b.1 in
    (lt_is r.day (2 ^ 32) a.0, lt_is r.vid (2 ^ 32) b.0, lt_is r.xway (2 ^ 8) c.0, lt_is r.tolls (2 ^ 63) c.1)

-- an amount that fits passes
spent_if : (r : SpentRow) → FitsSpent r → fits_spent r ≡ true
spent_if r h =
    both (lt_if r.day (2 ^ 32) h.0)
    (both (lt_if r.vid (2 ^ 32) h.1) (both (lt_if r.xway (2 ^ 8) h.2) (lt_if r.tolls (2 ^ 63) h.3)))

-- a history that passes fits
past_is : (o : Option PastRecord) → fits_past o ≡ true → IfSome o FitsPast
past_is None h = tt
past_is (Some p) h =
    let a = and_parts _ _ h in
    let b = and_parts _ _ a.1 in
    let c = and_parts _ _ b.1 in
    (lt_is p.base (2 ^ 32) a.0, lt_is p.bytes (2 ^ 63) b.0, lt_is p.rows (2 ^ 63) c.0, whole_is p.digest c.1)

-- a history that fits passes
past_if : (o : Option PastRecord) → IfSome o FitsPast → fits_past o ≡ true
past_if None h = refl
past_if (Some p) h =
    both (lt_if p.base (2 ^ 32) h.0)
    (both (lt_if p.bytes (2 ^ 63) h.1) (both (lt_if p.rows (2 ^ 63) h.2) (whole_if p.digest h.3)))

-- an office that passes fits its fields
pub fields_are : (o : Office) → fits_fields o ≡ true → FitsFields o
fields_are o h =
    let a = and_parts _ _ h in
    let b = and_parts _ _ a.1 in
    let c = and_parts _ _ b.1 in
    record {
      days = all_is FitsDay fits_day day_is o.days a.0;
      rows = all_is FitsSpent fits_spent spent_is o.rows b.0;
      past = past_is o.past c.0;
      tariffs = all_is (λ (e : ℕ × Tariff). e.0 < 2 ^ 8) (λ e. nat_lt e.0 (2 ^ 8)) (λ e. lt_is e.0 (2 ^ 8)) o.tariffs
          c.1;
    }

-- an office that fits its fields passes
pub fields_if : (o : Office) → FitsFields o → fits_fields o ≡ true
fields_if o h =
    both (all_if FitsDay fits_day day_if o.days h.days)
    (both (all_if FitsSpent fits_spent spent_if o.rows h.rows) (both (past_if o.past h.past)
    (all_if (λ (e : ℕ × Tariff). e.0 < 2 ^ 8) (λ e. nat_lt e.0 (2 ^ 8)) (λ e. lt_if e.0 (2 ^ 8)) o.tariffs h.tariffs)))

-- ---- what fits together

-- a tariff that passes is one
tariff_is : (t : Tariff) → is_tariff t ≡ true → IsTariff t
tariff_is t h = let a = and_parts _ _ h in let b = and_parts _ _ a.1 in
    (le_is t.crowd 500000 a.0, le_is t.speed 100 b.0, le_is t.factor 20 b.1)

-- a tariff passes
tariff_if : (t : Tariff) → IsTariff t → is_tariff t ≡ true
tariff_if t h = both (le_if t.crowd 500000 h.0) (both (le_if t.speed 100 h.1) (le_if t.factor 20 h.2))

-- tariffs that pass may be kept
tariffs_are : (ts : Tariffs) → are_tariffs ts ≡ true → IsTariffs ts
tariffs_are ts h =
    let a = and_parts _ _ h in
    let b = and_parts _ _ a.1 in
    record {
      in_order = rises_is nat_cmp (keys_of ts) a.0;
      valid = All-from_recursion IsTariff (values_of ts) (all_is IsTariff is_tariff tariff_is (values_of ts) b.0);
      own = All-from_recursion (λ t. same_tariff t benchmark ≡ false) (values_of ts)
          (all_is (λ t. same_tariff t benchmark ≡ false) (λ t. not (same_tariff t benchmark))
          (λ t. not_is (same_tariff t benchmark)) (values_of ts) b.1);
    }

-- tariffs that may be kept pass
tariffs_if : (ts : Tariffs) → IsTariffs ts → are_tariffs ts ≡ true
tariffs_if ts h =
    both (rises_if nat_cmp (keys_of ts) h.in_order)
    (both (all_if IsTariff is_tariff tariff_if (values_of ts) (recursion_from_All IsTariff (values_of ts) h.valid))
    (all_if (λ t. same_tariff t benchmark ≡ false) (λ t. not (same_tariff t benchmark)) (λ t e. ap not e) (values_of ts)
    (recursion_from_All (λ t. same_tariff t benchmark ≡ false) (values_of ts) h.own)))

-- a history that passes fits what is kept
kept_is : (p : PastRecord) (days : List DayRecord) (rows : List SpentRow) → fits_kept p days rows ≡ true →
    IsPast p days rows
kept_is p days rows h =
    let a = and_parts _ _ h in
    let b = and_parts _ _ a.1 in
    let c = and_parts _ _ b.1 in
    let d = and_parts _ _ c.1 in
    record {
      based = le_is 70 p.base a.0;
      from = all_is (λ (r : SpentRow). p.base ≤ r.day + 69) (λ r. nat_le p.base (r.day + 69))
          (λ r. le_is p.base (r.day + 69)) (rows_off days rows) b.0;
      to = all_is (λ (r : SpentRow). r.day < p.base) (λ r. nat_lt r.day p.base) (λ r. lt_is r.day p.base)
          (rows_off days rows) c.0;
      counted = eq_is (length (rows_off days rows)) p.rows d.0;
      before = all_is (λ (r : DayRecord). p.base ≤ r.day) (λ r. nat_le p.base r.day) (λ r. le_is p.base r.day) days d.1;
    }

-- one that fits it passes
kept_if : (p : PastRecord) (days : List DayRecord) (rows : List SpentRow) → IsPast p days rows →
    fits_kept p days rows ≡ true
kept_if p days rows h =
    both (le_if 70 p.base h.based)
    (both (all_if (λ (r : SpentRow). p.base ≤ r.day + 69) (λ r. nat_le p.base (r.day + 69))
    (λ r. le_if p.base (r.day + 69)) (rows_off days rows) h.from)
    (both (all_if (λ (r : SpentRow). r.day < p.base) (λ r. nat_lt r.day p.base) (λ r. lt_if r.day p.base)
    (rows_off days rows) h.to)
    (both (eq_if (length (rows_off days rows)) p.rows h.counted)
    (all_if (λ (r : DayRecord). p.base ≤ r.day) (λ r. nat_le p.base r.day) (λ r. le_if p.base r.day) days
    h.before))))

-- with no history nothing is left over
past_none : (o : Option PastRecord) (days : List DayRecord) (rows : List SpentRow) → past_fits o days rows ≡ true →
    o ≡ None → length (rows_off days rows) ≡ 0
past_none None days rows h e = eq_is (length (rows_off days rows)) 0 h
past_none (Some p) days rows h e = absurd (cc)

-- with a history it fits
past_some : (o : Option PastRecord) (days : List DayRecord) (rows : List SpentRow) → past_fits o days rows ≡ true →
    (p : PastRecord) → o ≡ Some p → IsPast p days rows
past_some None days rows h p e = absurd (cc)
past_some (Some q) days rows h p e = let same : q ≡ p = cc in
    subst (λ (k : PastRecord). IsPast k days rows) same (kept_is q days rows h)

-- what fits passes
past_fit : (o : Option PastRecord) (days : List DayRecord) (rows : List SpentRow) →
    (o ≡ None → length (rows_off days rows) ≡ 0) → ((p : PastRecord) → o ≡ Some p → IsPast p days rows) →
    past_fits o days rows ≡ true
past_fit None days rows none some = eq_if (length (rows_off days rows)) 0 (none refl)
past_fit (Some p) days rows none some = kept_if p days rows (some p refl)

-- an office that passes is sound
pub sound_is : (o : Office) → is_sound o ≡ true → IsSound o
sound_is o h =
    let a = and_parts _ _ h in
    let b = and_parts _ _ a.1 in
    let c = and_parts _ _ b.1 in
    let d = and_parts _ _ c.1 in
    let e = and_parts _ _ d.1 in
    let f = and_parts _ _ e.1 in
    record {
      days_rise = rises_is nat_cmp (map (λ (r : DayRecord). r.day) o.days) a.0;
      from_one = all_is (λ (r : DayRecord). 1 ≤ r.day) (λ r. nat_le 1 r.day) (λ r. le_is 1 r.day) o.days b.0;
      rows_rise = rises_is row_cmp o.rows c.0;
      above_zero = all_is (λ (r : SpentRow). 0 < r.tolls) (λ r. nat_lt 0 r.tolls) (λ r. lt_is 0 r.tolls) o.rows d.0;
      sums = all_is (λ (r : DayRecord). sum_of_rows (rows_on r.day o.rows) ≡ r.total)
          (λ r. sum_of_rows (rows_on r.day o.rows) == r.total) (λ r. eq_is (sum_of_rows (rows_on r.day o.rows)) r.total)
          o.days e.0;
      no_past = past_none o.past o.days o.rows f.0;
      past = past_some o.past o.days o.rows f.0;
      tariffs = tariffs_are o.tariffs f.1;
    }

-- a sound office passes
pub sound_if : (o : Office) → IsSound o → is_sound o ≡ true
sound_if o h =
    both (rises_if nat_cmp (map (λ (r : DayRecord). r.day) o.days) h.days_rise)
    (both (all_if (λ (r : DayRecord). 1 ≤ r.day) (λ r. nat_le 1 r.day) (λ r. le_if 1 r.day) o.days h.from_one)
    (both (rises_if row_cmp o.rows h.rows_rise)
    (both (all_if (λ (r : SpentRow). 0 < r.tolls) (λ r. nat_lt 0 r.tolls) (λ r. lt_if 0 r.tolls) o.rows
    h.above_zero)
    (both (all_if (λ (r : DayRecord). sum_of_rows (rows_on r.day o.rows) ≡ r.total)
    (λ r. sum_of_rows (rows_on r.day o.rows) == r.total) (λ r. eq_if (sum_of_rows (rows_on r.day o.rows)) r.total)
    o.days h.sums)
    (both (past_fit o.past o.days o.rows h.no_past h.past) (tariffs_if o.tariffs h.tariffs))))))
