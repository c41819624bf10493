-- The amounts of a history that an office begins anew with.
use Rattle.std.proofs.Common.{◌≡◌, ℕ, ◌+◌, ◌-◌, ◌<◌, ◌≤◌, ◌==◌, ◌&&◌, ◌⊎◌, inl, inr, nat_lt, nat_le, Bool, true, false}
use Rattle.std.proofs.Common.{◌^◌, List, [], ◌∷◌, ◌++◌, length, Some, None, refl, sym, ap, subst, ◌∙◌, ⊎_elim, arith}
use Rattle.std.specs.List.{AllByRecursion, filter, find, fold, list_all}
use Rattle.std.specs.List.Sorted.{IsStrictlySortedBy}
use Rattle.std.specs.declared.cmp.Ordering.TheVariants.{Less, Greater}
use Rattle.std.specs.Ordering.{match_ordering, ordering_reverse}
use Rattle.std.proofs.lemmas.Bool.{cases_Bool, cases_lt, and_parts, cond-false, lt-ltb, ne_eqb}
use Rattle.std.proofs.lemmas.List.Kept.{IsStrictlySortedBy-filter}
use Rattle.road_time.proofs.EachLaws as each
use Rattle.road_time.specs.declared.day.SpentRow.{SpentRow}
use Rattle.road_time.specs.History.{is_row, tolls_of, paid}
use Rattle.keep_office.specs.declared.kept.PastRecord.{PastRecord}
use Rattle.keep_office.specs.Office.{Office, row_cmp, RowsRise, IsSound, last_day, rows_between}
use Rattle.keep_office.specs.Kept.{IsPastPut}
use Rattle.keep_office.specs.PastReads.{with_row, past_kept}
use Rattle.keep_office.specs.Laws.{HistoryLaw}
use Rattle.keep_office.proofs.HistoryLaws.{history_law}
use Rattle.keep_office.proofs.ListFacts.{all_pass}
use Rattle.keep_office.proofs.RowOrder.{row_total}
use Rattle.keep_office.proofs.SoundLaws.{rows_last}
use Rattle.keep_office.specs.Renewed.{history_rows, is_fit, are_fit, renewed}
use Rattle.keep_office.specs.RenewalLaws.{AnswersLaw}

-- What a fit amount is:

-- of the 69 days before the base, above zero, and none too great for a line
pub record IsFit (base : ℕ) (r : SpentRow) : Type 0 where
  pub from : base - 69 ≤ r.day
  pub to : r.day < base
  pub vid : r.vid ≤ 2147483647
  pub some : 0 < r.tolls
  pub few : r.tolls ≤ 9999999999

le_true : (m n : ℕ) → nat_le m n ≡ true → m ≤ n
le_true m n e = grind (arith, e)

lt_true : (m n : ℕ) → nat_lt m n ≡ true → m < n
lt_true m n e = grind (arith, e)

fit_is : (base : ℕ) (r : SpentRow) → is_fit base r ≡ true → IsFit base r
fit_is base r e =
    let a = and_parts (nat_le (base - 69) r.day) (nat_lt r.day base && (nat_le r.vid 2147483647 && (nat_lt 0 r.tolls && nat_le r.tolls 9999999999))) e in
    let b = and_parts (nat_lt r.day base) (nat_le r.vid 2147483647 && (nat_lt 0 r.tolls && nat_le r.tolls 9999999999)) a.1 in
    let c = and_parts (nat_le r.vid 2147483647) (nat_lt 0 r.tolls && nat_le r.tolls 9999999999) b.1 in
    let d = and_parts (nat_lt 0 r.tolls) (nat_le r.tolls 9999999999) c.1 in
    record {
      from = le_true (base - 69) r.day a.0;
      to = lt_true r.day base b.0;
      vid = le_true r.vid 2147483647 c.0;
      some = lt_true 0 r.tolls d.0;
      few = le_true r.tolls 9999999999 d.1;
    }

all_fit : (base : ℕ) (rows : List SpentRow) → list_all (is_fit base) rows ≡ true → AllByRecursion (IsFit base) rows
all_fit base [] e = tt
all_fit base (r ∷ rs) e =
    let parts = and_parts (is_fit base r) (list_all (is_fit base) rs) e in
    (fit_is base r parts.0, all_fit base rs parts.1)

-- so many at most, each of them fit
pub fits : (base : ℕ) (rows : List SpentRow) → are_fit base rows ≡ true →
    (length rows ≤ 4000000000) × AllByRecursion (IsFit base) rows
fits base rows e =
    let parts = and_parts (nat_le (length rows) 4000000000) (list_all (is_fit base) rows) e in
    (le_true (length rows) 4000000000 parts.0, all_fit base rows parts.1)

-- What is kept of amounts that rise:

-- an amount above all others comes last
row_last : (front : List SpentRow) (r : SpentRow) → AllByRecursion (λ b. row_cmp b r ≡ Less) front →
    with_row front r ≡ front ++ r ∷ []
row_last [] r h = refl
row_last (s ∷ ss) r h =
    let greater : row_cmp r s ≡ Greater = row_total.antisymm r s ∙ ap ordering_reverse h.0 in
    ap (λ o. match_ordering o (r ∷ s ∷ ss) (r ∷ s ∷ ss) (s ∷ with_row ss r)) greater
    ∙ ap (λ l. s ∷ l) (row_last ss r h.1)

-- in a list that rises each is below what comes behind it
pub before_below : (front : List SpentRow) (r : SpentRow) (rest : List SpentRow) → RowsRise (front ++ r ∷ rest) →
    AllByRecursion (λ b. row_cmp b r ≡ Less) front
unfolding IsStrictlySortedBy
before_below [] r rest h = tt
before_below (s ∷ ss) r rest h = (
  (each.right_part (λ b. row_cmp s b ≡ Less) ss (r ∷ rest) h.0).0,
  before_below ss r rest h.1,
)

pub append_next : (front : List SpentRow) (r : SpentRow) (rest : List SpentRow) →
    (front ++ r ∷ []) ++ rest ≡ front ++ r ∷ rest
append_next [] r rest = refl
append_next (s ∷ ss) r rest = ap (λ l. s ∷ l) (append_next ss r rest)

pub append_none : (rows : List SpentRow) → rows ++ [] ≡ rows
append_none [] = refl
append_none (r ∷ rs) = ap (λ l. r ∷ l) (append_none rs)

put_in_order : (front rows : List SpentRow) → RowsRise (front ++ rows) → fold with_row front rows ≡ front ++ rows
put_in_order front [] rise = sym (append_none front)
put_in_order front (r ∷ rs) rise =
    ap (λ l. fold with_row l rs) (row_last front r (before_below front r rs rise))
    ∙ put_in_order (front ++ r ∷ []) rs (subst RowsRise (sym (append_next front r rs)) rise) ∙ append_next front r rs

-- amounts that rise and are above zero are kept as they are
pub kept_same : (rows : List SpentRow) → RowsRise rows → AllByRecursion (λ r. 0 < r.tolls) rows → past_kept rows ≡ rows
kept_same rows rise some =
    ap (fold with_row [])
    (all_pass (λ r. nat_lt 0 r.tolls) rows
    (each.weakened (λ r. 0 < r.tolls) (λ r. nat_lt 0 r.tolls ≡ true) (λ r h. lt-ltb 0 r.tolls h) rows some))
    ∙ put_in_order [] rows rise

-- fit amounts that rise may be put as a history
pub may_be_put : (base : ℕ) (rows : List SpentRow) (p : PastRecord) → 70 ≤ base → p.base ≡ base → p.bytes < 2 ^ 63
    → p.rows ≡ length rows → length rows ≤ 4000000000 → RowsRise rows → AllByRecursion (IsFit base) rows →
    IsPastPut p rows
may_be_put base rows p low same short count few rise fit = record {
  based = omega (arith, low, same);
  bytes = short;
  few = omega (arith, count, few);
  from = each.weakened (IsFit base) (λ r. p.base ≤ r.day + 69) (λ r f. omega (arith, same, f.from)) rows fit;
  to = each.weakened (IsFit base) (λ r. r.day < p.base) (λ r f. omega (arith, same, f.to)) rows fit;
  above_zero = each.weakened (IsFit base) (λ r. 0 < r.tolls) (λ r f. f.some) rows fit;
  small = each.weakened (IsFit base) (λ r. r.tolls < 2 ^ 63) (λ r f. omega (arith, f.few)) rows fit;
  rise = rise;
  counted = sym count;
}

-- Of an office:

-- its history's amounts rise
pub history_rise : (base : ℕ) (o : Office) → IsSound o → RowsRise (history_rows base o)
history_rise base o s =
    IsStrictlySortedBy-filter row_cmp (λ r. nat_le (base - 69) r.day && nat_le r.day (base - 1)) o.rows s.rows_rise

-- and are above zero
history_some : (base : ℕ) (o : Office) → IsSound o → AllByRecursion (λ r. 0 < r.tolls) (history_rows base o)
history_some base o s =
    each.kept (λ r. 0 < r.tolls) (λ r. nat_le (base - 69) r.day && nat_le r.day (base - 1)) o.rows s.above_zero

-- the amounts of an office that began anew are those of its history
pub renewed_rows : (base : ℕ) (o : Office) → IsSound o → (renewed base o).rows ≡ history_rows base o
renewed_rows base o s = kept_same (history_rows base o) (history_rise base o s) (history_some base o s)

-- no amount is of a day after all
paid_none : (rows : List SpentRow) (day vid xway : ℕ) → AllByRecursion (λ r. r.day < day) rows →
    paid rows day vid xway ≡ 0
paid_none rows day vid xway h = ap tolls_of (found rows h)
  where
    found : (rs : List SpentRow) → AllByRecursion (λ r. r.day < day) rs → find (is_row day vid xway) rs ≡ None
    found [] all = refl
    found (r ∷ rs) all =
        cond-false (is_row day vid xway r) _ _
        (ap (λ b. b && (r.vid == vid && r.xway == xway)) (ne_eqb r.day day (λ e. omega (arith, all.0, e))))
        ∙ found rs all.1

pub answers_law : AnswersLaw
answers_law base o s low later day vid xway near =
    let same : paid (renewed base o).rows day vid xway ≡ paid (history_rows base o) day vid xway =
    ap (λ rows. paid rows day vid xway) (renewed_rows base o s) in
    let early : AllByRecursion (λ r. r.day < base) o.rows =
    each.weakened (λ r. r.day ≤ last_day o) (λ r. r.day < base) (λ r h. omega (arith, h, later)) o.rows (rows_last o s) in
    elim (cases_lt day base) [
      | inl lt ↦ same ∙ history_law o (base - 69) (base - 1) day vid xway (omega (arith, near, low)) (omega (arith, lt))
      | inr ge ↦ same
          ∙ paid_none (history_rows base o) day vid xway
          (each.kept (λ r. r.day < day) (λ r. nat_le (base - 69) r.day && nat_le r.day (base - 1)) o.rows
          (each.weakened (λ r. r.day < base) (λ r. r.day < day) (λ r h. omega (arith, h, ge)) o.rows early))
          ∙ sym (paid_none o.rows day vid xway
          (each.weakened (λ r. r.day < base) (λ r. r.day < day) (λ r h. omega (arith, h, ge)) o.rows early))
    ]
