-- tariffs with one more are in order and valid
use Rattle.std.proofs.Common.{◌≡◌, ℕ, Bool, false, List, [], ◌∷◌, Result, Ok, Err, OnOk, OnErr, refl, ap, ◌∙◌}
use Rattle.std.specs.List.{AllByRecursion}
use Rattle.std.specs.List.Sorted.{IsStrictlySortedBy}
use Rattle.std.specs.declared.cmp.Ordering.{Ordering}
use Rattle.std.specs.declared.cmp.Ordering.TheVariants.{Less, Equal, Greater}
use Rattle.std.specs.Ordering.{nat_cmp, match_ordering, ordering_reverse}
use Rattle.std.specs.Cmp.{nat_cmp_total}
use Rattle.std.specs.Map.{keys_of, remove_entry}
use Rattle.std.specs.BTreeMap.{is_at, insert_entry}
use Rattle.std.proofs.lemmas.Bool.{cond_both}
use Rattle.std.proofs.lemmas.Map.Views.{All-map-remove_entry, All-values-insert_entry}
use Rattle.road_time.proofs.EachLaws.{weakened}
use Rattle.road_time.specs.declared.tariff.Tariff.{Tariff}
use Rattle.road_time.specs.Rates.{Tariffs, IsTariff, benchmark, same_tariff}
use Rattle.road_time.specs.Tariffs.{IsTariffs, with_tariff}

module _ {X : Type 0} where
  -- what holds of each key holds of those that are left
  each_left : (P : ℕ → Type 0) (test : ℕ → Bool) (es : List (ℕ × X)) → AllByRecursion P (keys_of es) →
      AllByRecursion P (keys_of (remove_entry test es))
  each_left P test [] h = tt
  each_left P test (e ∷ es) h = cond_both (test e.0) es (e ∷ remove_entry test es) (λ zs. AllByRecursion P (keys_of zs))
      (λ _. h.1) (λ _. (h.0, each_left P test es h.1))

  -- keys in order stay so where one is taken away
  rise_left : (test : ℕ → Bool) (es : List (ℕ × X)) → IsStrictlySortedBy nat_cmp (keys_of es) →
      IsStrictlySortedBy nat_cmp (keys_of (remove_entry test es))
  unfolding IsStrictlySortedBy
  rise_left test [] h = tt
  rise_left test (e ∷ es) h =
      cond_both (test e.0) es (e ∷ remove_entry test es) (λ zs. IsStrictlySortedBy nat_cmp (keys_of zs)) (λ _. h.1)
      (λ _. (each_left (λ y. nat_cmp e.0 y ≡ Less) test es h.0, rise_left test es h.1))

  -- what holds of each key and of a new one holds of all
  each_in : (P : ℕ → Type 0) (k : ℕ) (v : X) (es : List (ℕ × X)) → AllByRecursion P (keys_of es) → P k →
      AllByRecursion P (keys_of (insert_entry nat_cmp es k v))
  each_in P k v [] h p = (p, tt)
  each_in P k v (e ∷ es) h p = by (nat_cmp k e.0) (each_in P k v es h.1 p)
    where
      by : (o : Ordering) → AllByRecursion P (keys_of (insert_entry nat_cmp es k v)) → AllByRecursion P
          (keys_of (match_ordering o ((k, v) ∷ e ∷ es) ((e.0, v) ∷ es) (e ∷ insert_entry nat_cmp es k v)))
      by Less more = (p, h)
      by Equal more = h
      by Greater more = (h.0, more)

  -- keys in order stay so with a new one
  rise_in : (k : ℕ) (v : X) (es : List (ℕ × X)) → IsStrictlySortedBy nat_cmp (keys_of es) →
      IsStrictlySortedBy nat_cmp (keys_of (insert_entry nat_cmp es k v))
  unfolding IsStrictlySortedBy
  rise_in k v [] h = (tt, tt)
  rise_in k v (e ∷ es) h = by (nat_cmp k e.0) refl (rise_in k v es h.1)
    where
      by : (o : Ordering) → nat_cmp k e.0 ≡ o → IsStrictlySortedBy nat_cmp (keys_of (insert_entry nat_cmp es k v)) →
          IsStrictlySortedBy nat_cmp
          (keys_of (match_ordering o ((k, v) ∷ e ∷ es) ((e.0, v) ∷ es) (e ∷ insert_entry nat_cmp es k v)))
      by Less is more = (
        (
          is,
          weakened (λ y. nat_cmp e.0 y ≡ Less) (λ y. nat_cmp k y ≡ Less)
              (λ y less. nat_cmp_total.trans k e.0 y is less) (keys_of es) h.0,
        ),
        h,
      )
      by Equal is more = h
      by Greater is more =
          (each_in (λ y. nat_cmp e.0 y ≡ Less) k v es h.0 (nat_cmp_total.antisymm e.0 k ∙ ap ordering_reverse is), more)

-- tariffs with one for an expressway
tariffs_with : (tariffs : Tariffs) (xway : ℕ) (t : Tariff) → IsTariffs tariffs → IsTariff t →
    IsTariffs (with_tariff tariffs xway t)
tariffs_with tariffs xway t h valid =
    cond_both (same_tariff t benchmark) (remove_entry (is_at (nat_cmp xway)) tariffs)
    (insert_entry nat_cmp tariffs xway t) IsTariffs
    (λ _. record {
      in_order = rise_left (is_at (nat_cmp xway)) tariffs h.in_order;
      valid = All-map-remove_entry (is_at (nat_cmp xway)) (λ e. e.1) IsTariff tariffs h.valid;
      own = All-map-remove_entry (is_at (nat_cmp xway)) (λ e. e.1) (λ u. same_tariff u benchmark ≡ false) tariffs h.own;
    })
    (λ other. record {
      in_order = rise_in xway t tariffs h.in_order;
      valid = All-values-insert_entry nat_cmp xway t IsTariff tariffs h.valid valid;
      own = All-values-insert_entry nat_cmp xway t (λ u. same_tariff u benchmark ≡ false) tariffs h.own other;
    })

-- what `set` leaves
pub tariffs_set : {A B : Type 0} (r : Result A B) (before after : Tariffs) (xway : ℕ) (t : Tariff) →
    OnOk r (after ≡ with_tariff before xway t) → OnErr r (after ≡ before) → IsTariffs before → IsTariff t →
    IsTariffs after
tariffs_set (Ok x) before after xway t done left h valid = rw done (tariffs_with before xway t h valid)
tariffs_set (Err x) before after xway t done left h valid = rw left h
