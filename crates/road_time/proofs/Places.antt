-- the entry at the place of a key: what is kept of the key, and what a write there changes
use Rattle.std.proofs.Common.{◌≡◌, ◌<◌, ℕ, zero, suc, List, [], ◌∷◌, length, Option, Some, unwrap_or, slice_get, get_or}
use Rattle.std.proofs.Common.{nat_eq, position, if◌then◌else◌, refl, sym, ap, ◌∙◌, arith}
use Rattle.std.specs.Cmp.{nat_eq_equiv}
use Rattle.std.specs.Map.{keys_of, lookup}
use Rattle.std.proofs.lemmas.Bool.{eqb-true}
use Rattle.std.proofs.lemmas.List.{get_or-map}
use Rattle.std.proofs.lemmas.List.Quantifiers.{position-Some}
use Rattle.std.proofs.lemmas.Map.Entries.{length-keys_of, lookup_from_place}
use Rattle.std.proofs.lemmas.Option.{slice_get-get_or, get_or_from_slice_get}
use Rattle.indexmap.specs.IndexMap.{IndexMap, IsUnique, set_value_at}
use Rattle.indexmap.proofs.CallerLemmas.{updates-with_value_at, index_map_len-with_value_at}

-- an entry by its parts
entry_is : {V : Type 0} (key : ℕ) (e : ℕ × V) → key ≡ e.0 → Some e ≡ Some (key, e.1)
entry_is key e h = ap (λ k. Some (k, e.1)) (sym h)

-- the entry at the place of a key has the key
pub at_place : {V : Type 0} (key : ℕ) (es : List (ℕ × V)) (i : ℕ) → position (nat_eq key) (keys_of es) ≡ Some i →
    (v : V) × (slice_get es i ≡ Some (key, v))
at_place key [] i p = absurd (cc (p))
at_place {V} key (e ∷ es) i p =
    let found = position-Some (nat_eq key) (keys_of (e ∷ es)) i e.0 p in
    let within : i < length (e ∷ es) = omega (arith, found.0, length-keys_of (e ∷ es)) in
    let here : ℕ × V = get_or (e ∷ es) i e in (
      here.1,
      slice_get-get_or (e ∷ es) i e within
          ∙ entry_is key here
          (eqb-true key here.0 (ap (nat_eq key) (sym (get_or-map (λ q. q.0) (e ∷ es) i e e.0 within)) ∙ found.1)),
    )

-- a key that is known, beside a value that is known
pub both_at : {V : Type 0} (key k : ℕ) (v w : V) (o : Option (ℕ × V)) → o ≡ Some (key, v) → o ≡ Some (k, w) →
    o ≡ Some (key, w)
both_at {V} key k v w o h g =
    g ∙ ap (λ n. Some (n, w)) (ap (λ (q : Option (ℕ × V)). (unwrap_or q (k, w)).0) (sym g ∙ h))

-- a value written where it stands changes nothing
same_entries : {V : Type 0} (es : List (ℕ × V)) (i : ℕ) (d : ℕ × V) (value : V) → (get_or es i d).1 ≡ value →
    set_value_at es i value ≡ es
same_entries [] i d value h = refl
same_entries (e ∷ es) zero d value h = ap (λ v. (e.0, v) ∷ es) (sym h)
same_entries (e ∷ es) (suc i) d value h = ap (λ rest. e ∷ rest) (same_entries es i d value h)

module _ {V S : Type 0} (m : IndexMap ℕ V S) (at key : ℕ) (value : V) (unique : IsUnique nat_eq m)
    (here : slice_get m.entries at ≡ Some (key, value)) where
  -- what is kept of the key is the value at its place
  pub kept_at : lookup (nat_eq key) m.entries ≡ Some value
  kept_at = lookup_from_place nat_eq_equiv m.entries at key value unique here

  -- a value that is written there is kept of the key from then on, and of other keys what was
  pub written_at : (written : V) (k : ℕ) → lookup (nat_eq k) (set_value_at m.entries at written)
      ≡ (if nat_eq key k then Some written else lookup (nat_eq k) m.entries)
  written_at written k = (updates-with_value_at m at written nat_eq_equiv unique key value here).0 k

  -- the value itself, written there, changes nothing
  pub same_at : set_value_at m.entries at value ≡ m.entries
  same_at =
      same_entries m.entries at (key, value) value
      (ap (λ e. e.1) (get_or_from_slice_get m.entries at (key, value) (key, value) here))

  -- and a write leaves the length
  pub length_at : (written : V) → length (set_value_at m.entries at written) ≡ length m.entries
  length_at written = index_map_len-with_value_at m at written
