-- Which entries of an index begin with a key.
use Rattle.std.proofs.Common.{◌≡◌, Bool, true, false, List, [], ◌∷◌, filter, refl, sym, ap, inl, inr, Ordering, Less}
use Rattle.std.proofs.Common.{Equal, Greater, is_lt, is_eq, is_gt}
use Rattle.std.proofs.lemmas.Bool.{cases_Bool}
use Rattle.sqlite_value.specs.Order.{Row}
use Rattle.sqlite_value.specs.Keys.{plain, prefix_cmp}
use Rattle.sqlite_btree.specs.Cut.{IsIn}
use Rattle.sqlite_trees.specs.Tree.{from_key, IsIndex}
use Rattle.sqlite_trees.proofs.TreeLemmas.{prefix_cmp_follows}
use Rattle.sqlite_keyed.proofs.ListLemmas.{filter_none, all_weaker}
use Rattle.keep_trees.specs.Finds.{IsFirst, HasKey, opens_with}

-- what is below is not level, and what is above is not
below_apart : (o : Ordering) → is_lt o ≡ true → is_eq o ≡ false
below_apart Less h = refl
below_apart Equal h = absurd (cc)
below_apart Greater h = refl

-- nor is what is above
above_apart : (o : Ordering) → is_gt o ≡ true → is_eq o ≡ false
above_apart Less h = refl
above_apart Equal h = absurd (cc)
above_apart Greater h = refl

-- what is neither below nor level is above
neither : (o : Ordering) → is_lt o ≡ false → is_eq o ≡ false → is_gt o ≡ true
neither Less a b = absurd (cc)
neither Equal a b = absurd (cc)
neither Greater a b = refl

-- an entry is below one that comes after it
pub under : (o : Ordering) → o ≡ Less → is_gt o ≡ false
under o e = ap is_gt e

module _ (key : Row) where
  -- no entry begins with a key that is above all of them
  pub none_from : (es : List Row) → from_key plain key es ≡ [] → filter (opens_with key) es ≡ []
  none_from [] h = refl
  none_from (e ∷ es) h =
      elim (cases_Bool (is_lt (prefix_cmp plain e key))) [
        | inl low ↦ rw (below_apart (prefix_cmp plain e key) low) (none_from es (rw low at h))
        | inr high ↦ absurd (let x = rw high at h in cc)
      ]

  -- nor with one that the first entry that is not below it does not begin with
  pub none_at : (es : List Row) (e : Row) (rest : List Row) → IsIndex plain es → from_key plain key es ≡ e ∷ rest
      → opens_with key e ≡ false
      → filter (opens_with key) es ≡ []
  none_at [] e rest up h off = refl
  none_at (x ∷ es) e rest up h off =
      elim (cases_Bool (is_lt (prefix_cmp plain x key))) [
        | inl low ↦ rw (below_apart (prefix_cmp plain x key) low) (none_at es e rest up.1 (rw low at h) off)
        | inr high ↦
            let f : x ∷ es ≡ e ∷ rest = rw high at h in
            let same : x ≡ e = cc in
            let here : opens_with key x ≡ false = rw same off in
            let above = neither (prefix_cmp plain x key) high here in
            rw here
            (filter_none (opens_with key) es
            (all_weaker _ (λ y. opens_with key y ≡ false)
            (λ y less. above_apart (prefix_cmp plain y key)
            ((prefix_cmp_follows plain key x y (under _ less)).1 above)) es up.0))
      ]

  -- the first that is not below it is an entry
  pub first_in : (es : List Row) (e : Row) (rest : List Row) → from_key plain key es ≡ e ∷ rest → IsIn e es
  first_in [] e rest h = absurd (cc)
  first_in (x ∷ es) e rest h =
      elim (cases_Bool (is_lt (prefix_cmp plain x key))) [
        | inl low ↦ inr (first_in es e rest (rw low at h))
        | inr high ↦ let f : x ∷ es ≡ e ∷ rest = rw high at h in let same : e ≡ x = cc in inl same
      ]

  -- so the first entry from the key on, and whether it begins with it, tell what is wanted
  pub told : (es : List Row) (row : Row) (begun : Bool) → IsIndex plain es → IsFirst (from_key plain key es) row true
      → begun ≡ opens_with key row
      → HasKey es key row begun
  told es row true up heads is = (first_in es row heads.0 heads.1, sym is)
  told es row false up heads is = none_at es row heads.0 up heads.1 (sym is)
