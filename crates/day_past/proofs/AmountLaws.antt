-- Amounts in a list and in a map, in the order in which they are kept.
use Rattle.std.proofs.Common.{◌≡◌, ℕ, ◌||◌, nat_lt, true, false, cond, List, [], ◌∷◌, ◌++◌, map, Some, None}
use Rattle.std.proofs.Common.{refl, sym, ap, subst, ◌∙◌}
use Rattle.std.specs.Prelude.{is_some}
use Rattle.std.specs.List.{AllByRecursion, filter, list_any}
use Rattle.std.specs.List.Sorted.{IsStrictlySortedBy}
use Rattle.std.specs.Map.{lookup, keys_of}
use Rattle.std.specs.BTreeMap.{is_at, insert_entry}
use Rattle.std.specs.declared.cmp.Ordering.{Ordering}
use Rattle.std.specs.declared.cmp.Ordering.TheVariants.{Less, Equal, Greater}
use Rattle.std.specs.Ordering.{match_ordering, is_eq}
use Rattle.std.proofs.lemmas.Bool.{cond-true, cond-false}
use Rattle.std.proofs.lemmas.List.Sums.{fold-append}
use Rattle.std.proofs.lemmas.List.Folds.{list_any-append}
use Rattle.road_time.specs.declared.day.SpentRow.{SpentRow}
use Rattle.road_time.proofs.EachLaws as each
use Rattle.road_time.specs.History.{is_row}
use Rattle.keep_office.specs.Office.{row_cmp, RowsRise}
use Rattle.keep_office.specs.PastReads.{with_row}
use Rattle.keep_office.proofs.RowOrder.{less_apart, greater_apart}
use Rattle.keep_office.proofs.ListFacts.{rise_joined, rise_none, rise_one}
use Rattle.day_past.specs.declared.amounts.Key.{Key}
use Rattle.day_past.specs.declared.amounts.Amounts.{Amounts}
use Rattle.day_past.specs.Rows.{amount_of, rows_in, IsPastRow, HasRows, TakesAmount}
use Rattle.day_past.proofs.RisingLaws.{tied, apart, some_none, not_some, or_end, any_with, all_with, filter_with}
use Rattle.day_past.proofs.RisingLaws.{kept_push, stands_last, none_behind}

-- where the amounts stand
pub in_list : (a : Amounts) → a.is_rising ≡ true → rows_in a ≡ a.rising.items
in_list a e = cond-true a.is_rising _ _ e

pub in_map : (a : Amounts) → a.is_rising ≡ false → rows_in a ≡ map amount_of a.by_key.entries
in_map a e = cond-false a.is_rising _ _ e

-- no amount was taken
pub nothing : (a : Amounts) (base : ℕ) → rows_in a ≡ [] → HasRows a base []
nothing a base e = record {
  rise = subst RowsRise (sym e) (rise_none row_cmp);
  entries = e;
  same = λ day vid xway. ap (list_any (is_row day vid xway)) e;
  kept = ap (filter (λ (r : SpentRow). nat_lt 0 r.tolls)) e;
  valid = subst (AllByRecursion (IsPastRow base)) (sym e) tt;
}

-- a new amount is taken
pub taken_more : (a b : Amounts) (base : ℕ) (rows : List SpentRow) (r : SpentRow) →
    rows_in b ≡ with_row (rows_in a) r → list_any (is_row r.day r.vid r.xway) (rows_in a) ≡ false →
    RowsRise (rows_in b) → IsPastRow base r → HasRows a base rows → TakesAmount true b base rows r
taken_more a b base rows r more none rise valid h =
    let pos = λ (s : SpentRow). nat_lt 0 s.tolls in (
      sym (h.same r.day r.vid r.xway) ∙ none,
      record {
        rise = rise;
        entries = more ∙ ap (λ xs. with_row xs r) h.entries ∙ sym (fold-append with_row [] rows (r ∷ []));
        same = λ day vid xway. (
            let p = is_row day vid xway in
            ap (list_any p) more ∙ any_with p (rows_in a) r ∙ ap (λ c. p r || c) (h.same day vid xway)
            ∙ or_end (p r) (list_any p rows) ∙ sym (list_any-append p rows (r ∷ [])));
        kept = ap (filter pos) more ∙ filter_with pos (rows_in a) r h.rise none
            ∙ ap (λ xs. cond (pos r) (with_row xs r) xs) h.kept ∙ sym (kept_push rows r);
        valid = subst (AllByRecursion (IsPastRow base)) (sym more)
            (all_with (IsPastRow base) (rows_in a) r h.valid valid);
      },
    )

-- rows in order with one behind them are in order
pub rise_behind : (xs : List SpentRow) (r : SpentRow) → RowsRise xs → AllByRecursion (λ s. row_cmp s r ≡ Less) xs →
    RowsRise (xs ++ r ∷ [])
rise_behind xs r rise behind =
    rise_joined row_cmp xs (r ∷ []) rise (rise_one row_cmp r)
    (each.weakened (λ s. row_cmp s r ≡ Less) (λ s. AllByRecursion (λ y. row_cmp s y ≡ Less) (r ∷ []))
    (λ s less. (less, tt)) xs behind)

-- an amount behind all others is taken into the list
pub taken_behind : (a b : Amounts) (base : ℕ) (rows : List SpentRow) (r : SpentRow) → a.is_rising ≡ true →
    b.is_rising ≡ true → b.rising.items ≡ a.rising.items ++ r ∷ [] →
    AllByRecursion (λ s. row_cmp s r ≡ Less) a.rising.items → IsPastRow base r → HasRows a base rows →
    TakesAmount true b base rows r
taken_behind a b base rows r was is e behind valid h =
    let xs = a.rising.items in
    let more : rows_in b ≡ with_row (rows_in a) r = in_list b is ∙ e ∙ sym (stands_last xs r behind)
    ∙ ap (λ ys. with_row ys r) (sym (in_list a was)) in
    let none : list_any (is_row r.day r.vid r.xway) (rows_in a) ≡ false =
    ap (list_any (is_row r.day r.vid r.xway)) (in_list a was) ∙ none_behind xs r behind in
    let rise = rise_behind xs r (subst RowsRise (in_list a was) h.rise) behind in
    taken_more a b base rows r more none (subst RowsRise (sym (in_list b is ∙ e)) rise) valid h

module _ (cmp : Key → Key → Ordering)
    (same : (k q : Key) (v w : ℕ) → cmp k q ≡ row_cmp (amount_of (k, v)) (amount_of (q, w))) where
  -- some row is of a key where the map has it
  pub any_found : (es : List (Key × ℕ)) (k : Key) →
      list_any (is_row k.day k.vid k.xway) (map amount_of es) ≡ is_some (lookup (is_at (cmp k)) es)
  any_found [] k = refl
  any_found (e ∷ es) k = by_order (cmp k e.0) refl (any_found es k)
    where
      by_order : (o : Ordering) → cmp k e.0 ≡ o →
          list_any (is_row k.day k.vid k.xway) (map amount_of es) ≡ is_some (lookup (is_at (cmp k)) es) →
          list_any (is_row k.day k.vid k.xway) (map amount_of (e ∷ es)) ≡ is_some (lookup (is_at (cmp k)) (e ∷ es))
      by_order Less f rest =
          ap (λ b. b || list_any (is_row k.day k.vid k.xway) (map amount_of es))
          (apart (amount_of (k, 0)) (amount_of e) (λ t. less_apart (sym f ∙ same k e.0 0 e.1 ∙ t)))
          ∙ rest ∙ sym (ap (λ o. is_some (cond (is_eq o) (Some e.1) (lookup (is_at (cmp k)) es))) f)
      by_order Equal f rest =
          ap (λ b. b || list_any (is_row k.day k.vid k.xway) (map amount_of es))
          (tied (amount_of (k, 0)) (amount_of e) (sym (same k e.0 0 e.1) ∙ f))
          ∙ sym (ap (λ o. is_some (cond (is_eq o) (Some e.1) (lookup (is_at (cmp k)) es))) f)
      by_order Greater f rest =
          ap (λ b. b || list_any (is_row k.day k.vid k.xway) (map amount_of es))
          (apart (amount_of (k, 0)) (amount_of e) (λ t. greater_apart (sym f ∙ same k e.0 0 e.1 ∙ t)))
          ∙ rest ∙ sym (ap (λ o. is_some (cond (is_eq o) (Some e.1) (lookup (is_at (cmp k)) es))) f)

  -- a new key is put in as its row is
  pub insert_with : (es : List (Key × ℕ)) (k : Key) (v : ℕ) → lookup (is_at (cmp k)) es ≡ None →
      map amount_of (insert_entry cmp es k v) ≡ with_row (map amount_of es) (amount_of (k, v))
  insert_with [] k v off = refl
  insert_with (e ∷ es) k v off = by_order (cmp k e.0) refl (insert_with es k v)
    where
      by_order : (o : Ordering) → cmp k e.0 ≡ o → (lookup (is_at (cmp k)) es ≡ None →
          map amount_of (insert_entry cmp es k v) ≡ with_row (map amount_of es) (amount_of (k, v))) →
          map amount_of (insert_entry cmp (e ∷ es) k v) ≡ with_row (map amount_of (e ∷ es)) (amount_of (k, v))
      by_order Less f rest =
          ap (λ o. map amount_of (match_ordering o ((k, v) ∷ e ∷ es) ((e.0, v) ∷ es) (e ∷ insert_entry cmp es k v))) f
          ∙ sym (ap
          (λ o. match_ordering o (amount_of (k, v) ∷ amount_of e ∷ map amount_of es)
          (amount_of (k, v) ∷ amount_of e ∷ map amount_of es)
          (amount_of e ∷ with_row (map amount_of es) (amount_of (k, v)))) (sym (same k e.0 v e.1) ∙ f))
      by_order Equal f rest =
          absurd (some_none e.1 (sym (ap (λ o. cond (is_eq o) (Some e.1) (lookup (is_at (cmp k)) es)) f) ∙ off))
      by_order Greater f rest =
          ap (λ o. map amount_of (match_ordering o ((k, v) ∷ e ∷ es) ((e.0, v) ∷ es) (e ∷ insert_entry cmp es k v))) f
          ∙ ap (λ xs. amount_of e ∷ xs)
          (rest (sym (ap (λ o. cond (is_eq o) (Some e.1) (lookup (is_at (cmp k)) es)) f) ∙ off))
          ∙ sym (ap
          (λ o. match_ordering o (amount_of (k, v) ∷ amount_of e ∷ map amount_of es)
          (amount_of (k, v) ∷ amount_of e ∷ map amount_of es)
          (amount_of e ∷ with_row (map amount_of es) (amount_of (k, v)))) (sym (same k e.0 v e.1) ∙ f))

  -- a key below others is that of a row below theirs
  below : (e : Key × ℕ) (es : List (Key × ℕ)) → AllByRecursion (λ q. cmp e.0 q ≡ Less) (keys_of es) →
      AllByRecursion (λ s. row_cmp (amount_of e) s ≡ Less) (map amount_of es)
  below e [] h = tt
  below e (d ∷ ds) h = (sym (same e.0 d.0 e.1 d.1) ∙ h.0, below e ds h.1)

  -- keys in order are those of rows in order
  pub rows_rise : (es : List (Key × ℕ)) → IsStrictlySortedBy cmp (keys_of es) → RowsRise (map amount_of es)
  unfolding IsStrictlySortedBy
  rows_rise [] h = tt
  rows_rise (e ∷ es) h = (below e es h.0, rows_rise es h.1)

  -- where the map has a key, an amount of its vehicle, day and expressway was taken before
  pub taken_before : (a : Amounts) (base : ℕ) (rows : List SpentRow) (k : Key) (old : ℕ) → a.is_rising ≡ false →
      lookup (is_at (cmp k)) a.by_key.entries ≡ Some old → HasRows a base rows →
      list_any (is_row k.day k.vid k.xway) rows ≡ true
  taken_before a base rows k old was e h =
      sym (h.same k.day k.vid k.xway) ∙ ap (list_any (is_row k.day k.vid k.xway)) (in_map a was)
      ∙ any_found a.by_key.entries k ∙ ap is_some e

  -- an amount of a new key is taken into the map
  pub taken_by_key : (a b : Amounts) (base : ℕ) (rows : List SpentRow) (k : Key) (v : ℕ) → a.is_rising ≡ false →
      b.is_rising ≡ false → lookup (is_at (cmp k)) a.by_key.entries ≡ None →
      b.by_key.entries ≡ insert_entry cmp a.by_key.entries k v → IsStrictlySortedBy cmp (keys_of b.by_key.entries) →
      IsPastRow base (amount_of (k, v)) → HasRows a base rows → TakesAmount true b base rows (amount_of (k, v))
  taken_by_key a b base rows k v was is off e rise valid h =
      let es = a.by_key.entries in
      let r = amount_of (k, v) in
      let more : rows_in b ≡ with_row (rows_in a) r = in_map b is ∙ ap (λ xs. map amount_of xs) e
      ∙ insert_with es k v off ∙ ap (λ xs. with_row xs r) (sym (in_map a was)) in
      let none : list_any (is_row k.day k.vid k.xway) (rows_in a) ≡ false =
      ap (list_any (is_row k.day k.vid k.xway)) (in_map a was) ∙ any_found es k ∙ ap is_some off in
      taken_more a b base rows r more none (subst RowsRise (sym (in_map b is)) (rows_rise b.by_key.entries rise)) valid h

  -- an amount behind all others comes last in the map
  pub insert_last : (es : List (Key × ℕ)) (k : Key) (v : ℕ) →
      AllByRecursion (λ s. row_cmp s (amount_of (k, v)) ≡ Less) (map amount_of es) →
      map amount_of (insert_entry cmp es k v) ≡ map amount_of es ++ amount_of (k, v) ∷ []
  insert_last es k v h =
      let none : list_any (is_row k.day k.vid k.xway) (map amount_of es) ≡ false =
      none_behind (map amount_of es) (amount_of (k, v)) h in
      insert_with es k v (not_some (lookup (is_at (cmp k)) es) (sym (any_found es k) ∙ none))
      ∙ stands_last (map amount_of es) (amount_of (k, v)) h
