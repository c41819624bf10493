-- Which entries of the index are told as amounts of a vehicle, whatever they hold.
use Rattle.std.proofs.Common.{◌≡◌, ◌<◌, ◌≤◌, ◌^◌, ◌&&◌, ℕ, pos, nat_le, Bool, true, false, not, List, [], ◌∷◌, ◌++◌}
use Rattle.std.proofs.Common.{filter, refl, sym, ap, ap₂, subst, ◌∙◌, arith, inl, inr, Ordering}
use Rattle.std.proofs.Common.{Less, Equal, Greater, is_lt, is_eq, is_gt}
use Rattle.std.specs.List.{AllByRecursion}
use Rattle.std.specs.Ordering.{nat_cmp, ordering_then}
use Rattle.std.proofs.lemmas.Bool.{cases_Bool, and_parts}
use Rattle.std.proofs.lemmas.Bool.Decides.{nat_tests}
use Rattle.sqlite_value.specs.declared.value.Value.{Value}
use Rattle.sqlite_value.specs.declared.value.Value.TheVariants.{Null, Int}
use Rattle.sqlite_value.specs.Order.{Row, column, value_cmp}
use Rattle.sqlite_value.specs.Keys.{plain, prefix_cmp, entry_cmp}
use Rattle.sqlite_value.proofs.KeyLemmas.{first_key-plain}
use Rattle.sqlite_value.proofs.OrderLemmas.{value_cmp-Null}
use Rattle.sqlite_trees.specs.Tree.{from_key}
use Rattle.sqlite_trees.proofs.TreeLemmas.{prefix_cmp_follows, prefix_cmp-one, not_true}
use Rattle.keep_tables.proofs.ReadLaws.{by_number}
use Rattle.keep_trees.specs.Finds.{pair_key}
use Rattle.keep_trees.specs.Tolls.{is_entry_of}

-- what holds both ways does not
both_ways : {b : Bool} → b ≡ true → b ≡ false → ⊥
both_ways is off = let f : true ≡ false = sym is ∙ off in cc

-- an order that is level is
is_level : (o : Ordering) → is_eq o ≡ true → o ≡ Equal
is_level Less h = absurd (cc)
is_level Equal h = refl
is_level Greater h = absurd (cc)

-- level at the end changes nothing
then_level : (o : Ordering) → ordering_then o Equal ≡ o
then_level Less = refl
then_level Equal = refl
then_level Greater = refl

-- what is not so is off
not_so : (b : Bool) → not b ≡ true → b ≡ false
not_so true h = absurd (cc)
not_so false h = refl

-- what is greater at first is not less
then_above : (o more : Ordering) → is_gt o ≡ true → is_lt (ordering_then o more) ≡ false
then_above Less more h = absurd (cc)
then_above Equal more h = absurd (cc)
then_above Greater more h = refl

-- entries compare with a pair by their first two columns
with_pair : (x y : Value) (e : Row) (day vid : ℕ) → prefix_cmp plain (x ∷ y ∷ e) (pair_key day vid)
    ≡ ordering_then (value_cmp x (Int (pos day))) (value_cmp y (Int (pos vid)))
with_pair x y e day vid =
    two x y e ∙ ap (ordering_then (value_cmp x (Int (pos day)))) (prefix_cmp-one y e (Int (pos vid)))
  where
    two : (v w : Value) (more : Row) → prefix_cmp plain (v ∷ w ∷ more) (pair_key day vid)
        ≡ ordering_then (value_cmp v (Int (pos day))) (prefix_cmp plain (w ∷ more) (Int (pos vid) ∷ []))
    two v w more = rw first_key-plain refl

-- so with a day by their first
with_day : (e : Row) (day k : ℕ) → column e 0 ≡ Int (pos day) → prefix_cmp plain e (Int (pos k) ∷ []) ≡ nat_cmp day k
with_day [] day k its = absurd (cc)
with_day (x ∷ e) day k its =
    prefix_cmp-one x e (Int (pos k)) ∙ ap (λ v. value_cmp v (Int (pos k))) its ∙ by_number day k

-- and with a vehicle on a day by both, where these are numbers
pub with_numbers : (e : Row) (day other k n : ℕ) → column e 0 ≡ Int (pos day) → column e 1 ≡ Int (pos other)
    → prefix_cmp plain e (pair_key k n) ≡ ordering_then (nat_cmp day k) (nat_cmp other n)
with_numbers [] day other k n d v = absurd (cc)
with_numbers (x ∷ []) day other k n d v = absurd (cc)
with_numbers (x ∷ y ∷ e) day other k n d v =
    with_pair x y e k n
    ∙ ap₂ ordering_then (ap (λ u. value_cmp u (Int (pos k))) d ∙ by_number day k)
    (ap (λ u. value_cmp u (Int (pos n))) v ∙ by_number other n)

module _ (vid from to : ℕ) where
  -- whether an entry is told
  abbrev pub wanted : Row → Bool
  wanted = is_entry_of vid from to

  -- an entry that is told is of the vehicle, of one of the days
  record IsOne (e : Row) : Type 0 where
    pub alone : (d : ℕ) → prefix_cmp plain e (Int (pos d) ∷ []) ≡ value_cmp (column e 0) (Int (pos d))
    pub level : (d : ℕ) → prefix_cmp plain e (pair_key d vid) ≡ value_cmp (column e 0) (Int (pos d))
    pub both : (d n : ℕ) → prefix_cmp plain e (pair_key d n)
        ≡ ordering_then (value_cmp (column e 0) (Int (pos d))) (value_cmp (column e 1) (Int (pos n)))
    pub late : is_lt (value_cmp (column e 0) (Int (pos from))) ≡ false
    pub soon : is_gt (value_cmp (column e 0) (Int (pos to))) ≡ false

  -- such an entry is one
  is_one : (e : Row) → wanted e ≡ true → IsOne e
  is_one [] h =
      let two = and_parts (is_eq (value_cmp Null (Int (pos vid)))) _ h in
      absurd (both_ways two.0 (ap is_eq (value_cmp-Null (Int (pos vid)))))
  is_one (x ∷ []) h =
      let two = and_parts (is_eq (value_cmp Null (Int (pos vid)))) _ h in
      absurd (both_ways two.0 (ap is_eq (value_cmp-Null (Int (pos vid)))))
  is_one (x ∷ y ∷ e) h =
      let two = and_parts (is_eq (value_cmp y (Int (pos vid)))) _ h in
      let three = and_parts (not (is_lt (value_cmp x (Int (pos from))))) _ two.1 in
      let same : value_cmp y (Int (pos vid)) ≡ Equal = is_level _ two.0 in
      record {
        alone = λ d. prefix_cmp-one x (y ∷ e) (Int (pos d));
        level = λ d. with_pair x y e d vid ∙ ap (ordering_then (value_cmp x (Int (pos d)))) same
            ∙ then_level (value_cmp x (Int (pos d)));
        both = λ d n. with_pair x y e d n;
        late = not_so _ three.0;
        soon = not_so _ three.1;
      }

  -- none is told before the vehicle on the first day
  pub before_start : (e : Row) → is_lt (prefix_cmp plain e (pair_key from vid)) ≡ true → wanted e ≡ false
  before_start e low =
      not_true (wanted e)
      (λ h. let o = is_one e h in both_ways (sym (ap is_lt (o.level from)) ∙ low) o.late)

  -- an entry of another vehicle is not told
  pub other_vehicle : (e : Row) (other : ℕ) → column e 1 ≡ Int (pos other) → (other ≡ vid → ⊥) → wanted e ≡ false
  other_vehicle e other its apart =
      not_true (wanted e)
      (λ h.
      let two = and_parts (is_eq (value_cmp (column e 1) (Int (pos vid)))) _ h in
      let same : is_eq (nat_cmp other vid) ≡ true =
      sym (ap is_eq (ap (λ v. value_cmp v (Int (pos vid))) its ∙ by_number other vid)) ∙ two.0 in
      apart (are_level other vid same))
    where
      are_level : (m n : ℕ) → is_eq (nat_cmp m n) ≡ true → m ≡ n
      are_level m n h = grind (arith, nat_tests, h)

  -- nor is one of a later day
  pub later_day : (e : Row) (day : ℕ) → column e 0 ≡ Int (pos day) → to < day → wanted e ≡ false
  later_day e day its far =
      not_true (wanted e)
      (λ h.
      both_ways (ap is_gt (ap (λ v. value_cmp v (Int (pos to))) its ∙ by_number day to) ∙ is_above to day far)
      (is_one e h).soon)
    where
      is_above : (m n : ℕ) → m < n → is_gt (nat_cmp n m) ≡ true
      is_above m n h = grind (arith, nat_tests, h)

  -- up to the last day one of the vehicle is told if it is not before the first day
  pub told_if : (e : Row) (day : ℕ) → column e 0 ≡ Int (pos day) → column e 1 ≡ Int (pos vid) → day ≤ to
      → wanted e ≡ nat_le from day
  told_if e day d v up =
      ap₂ (λ (x y : Value). is_eq (value_cmp y (Int (pos vid))) && (not (is_lt (value_cmp x (Int (pos from))))
      && not (is_gt (value_cmp x (Int (pos to)))))) d v
      ∙ rw (by_number vid vid, by_number day from, by_number day to) (numbers vid day from to up)
    where
      numbers : (m n p q : ℕ) → n ≤ q
          → (is_eq (nat_cmp m m) && (not (is_lt (nat_cmp n p)) && not (is_gt (nat_cmp n q)))) ≡ nat_le p n
      numbers m n p q h = grind (arith, nat_tests, h)

  module _ (entry : Row) (day other : ℕ) (its : column entry 0 ≡ Int (pos day))
      (whose : column entry 1 ≡ Int (pos other)) (e : Row) (behind : is_gt (entry_cmp plain entry e) ≡ false) where
    -- behind an entry of a later day none is told
    pub all_later : to < day → wanted e ≡ false
    all_later far =
        not_true (wanted e)
        (λ h.
        let o = is_one e h in
        let here : is_gt (prefix_cmp plain entry (Int (pos to) ∷ [])) ≡ true =
        ap is_gt (with_day entry day to its) ∙ is_above to day far in
        both_ways (sym (ap is_gt (o.alone to))
        ∙ (prefix_cmp_follows plain (Int (pos to) ∷ []) entry e behind).1 here) o.soon)
      where
        is_above : (m n : ℕ) → m < n → is_gt (nat_cmp n m) ≡ true
        is_above m n h = grind (arith, nat_tests, h)

    -- nor behind an entry up to the vehicle on its day
    pub up_to_it : is_lt (prefix_cmp plain e (pair_key day vid)) ≡ true → wanted e ≡ false
    up_to_it low =
        not_true (wanted e)
        (λ h.
        let o = is_one e h in
        let below : is_lt (prefix_cmp plain e (Int (pos day) ∷ [])) ≡ true =
        ap is_lt (o.alone day ∙ sym (o.level day)) ∙ low in
        both_ways ((prefix_cmp_follows plain (Int (pos day) ∷ []) entry e behind).0 below)
        (ap is_lt (with_day entry day day its) ∙ not_below day))
      where
        not_below : (n : ℕ) → is_lt (nat_cmp n n) ≡ false
        not_below n = grind (arith, nat_tests)

    -- behind a greater vehicle what is told is of a later day
    of_later : vid < other → wanted e ≡ true → is_gt (value_cmp (column e 0) (Int (pos day))) ≡ true
    of_later more h =
        let o = is_one e h in
        let here : is_gt (prefix_cmp plain entry (pair_key day vid)) ≡ true =
        ap is_gt (with_numbers entry day other day vid its whose) ∙ is_above day vid other more in
        sym (ap is_gt (o.level day)) ∙ (prefix_cmp_follows plain (pair_key day vid) entry e behind).1 here
      where
        is_above : (d m n : ℕ) → m < n → is_gt (ordering_then (nat_cmp d d) (nat_cmp n m)) ≡ true
        is_above d m n h = grind (arith, nat_tests, h)

    -- so none is told behind it on the last day
    pub none_last : vid < other → day ≡ to → wanted e ≡ false
    none_last more last =
        not_true (wanted e)
        (λ h.
        both_ways
        (subst (λ d. is_gt (value_cmp (column e 0) (Int (pos d))) ≡ true) last (of_later more h)) (is_one e h).soon)

    -- nor up to the end of its day
    pub up_to_end : vid < other → is_lt (prefix_cmp plain e (pair_key day (2 ^ 32))) ≡ true → wanted e ≡ false
    up_to_end more low =
        not_true (wanted e)
        (λ h.
        let o = is_one e h in
        both_ways (sym (ap is_lt (o.both day (2 ^ 32))) ∙ low) (then_above _ _ (of_later more h)))

  -- entries before a key, none of which is told, and those from it on
  pub parts_at : (key : Row) (es : List Row)
      → AllByRecursion (λ e. is_lt (prefix_cmp plain e key) ≡ true → wanted e ≡ false) es
      → (low : List Row) × (es ≡ low ++ from_key plain key es) × (filter wanted low ≡ [])
  parts_at key [] all = ([], refl, refl)
  parts_at key (e ∷ es) all =
      elim (cases_Bool (is_lt (prefix_cmp plain e key))) [
        | inl below ↦
            let r = parts_at key es all.1 in
            (e ∷ r.0, rw below (ap (λ (l : List Row). e ∷ l) r.1), rw (all.0 below) r.2)
        | inr high ↦ ([], rw high refl, refl)
      ]
