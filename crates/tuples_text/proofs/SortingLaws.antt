-- Laws of a sorter: one tuple more is put, one is taken.
use Rattle.std.proofs.Common.{◌≡◌, ℕ, ◌+◌, ◌≤◌, ◌<◌, max, Bool, true, false, List, [], ◌∷◌, ◌++◌, length, take, drop}
use Rattle.std.proofs.Common.{refl, sym, ap, ◌∙◌, arith, Some, slice_get, zero, suc}
use Rattle.std.specs.List.{AllByRecursion}
use Rattle.std.proofs.Math.Seq.{drop-nil}
use Rattle.std.proofs.lemmas.List.{length_push, length-drop}
use Rattle.road_time.specs.declared.road.Tuple.{Tuple}
use Rattle.road_time.specs.Tuples.{time_of}
use Rattle.road_time.specs.Order.{placed, by_time, greatest_time}
use Rattle.road_time.proofs.EachLaws.{weakened, some_is}
use Rattle.std.proofs.lemmas.Bool.{false≢true}
use Rattle.road_time.proofs.OrderLaws.{by_time_length, by_time_push}
use Rattle.road_time.proofs.LateLaws.{greatest_push, given_push, placed_drop}
use Rattle.tuples_text.specs.Sorting.{Sorting, IsSorting}

-- nothing is left of nothing
no_drop : (n : ℕ) (x : Tuple) (rest : List Tuple) → drop n [] ≡ x ∷ rest → ⊥
no_drop n x rest e = none x rest (sym (drop-nil n) ∙ e)
  where
    none : (x : Tuple) (rest : List Tuple) → ◌≡◌ {A = List Tuple} [] (x ∷ rest) → ⊥
    none x rest e = cc

-- one more is the next number
next : (n : ℕ) → n + 1 ≡ suc n
next n = omega arith

-- what is left from a place on begins with what stands there
drop_get : (ts : List Tuple) (n : ℕ) (x : Tuple) → slice_get ts n ≡ Some x → drop n ts ≡ x ∷ drop (suc n) ts
drop_get [] n x e = cc
drop_get (t ∷ ts) zero x e = one t x ts e
  where
    one : (t x : Tuple) (ts : List Tuple) → Some t ≡ Some x → t ∷ ts ≡ x ∷ ts
    one t x ts e = cc
drop_get (t ∷ ts) (suc n) x e = drop_get ts n x e

-- and what it begins with stands there
get_drop : (ts : List Tuple) (n : ℕ) (x : Tuple) (rest : List Tuple) → drop n ts ≡ x ∷ rest → (slice_get ts n ≡ Some x)
    × (drop (suc n) ts ≡ rest) × (n < length ts)
get_drop [] n x rest e = absurd (no_drop n x rest e)
get_drop (t ∷ ts) zero x rest e = (first t x ts rest e, second t x ts rest e, omega arith)
  where
    first : (t x : Tuple) (ts rest : List Tuple) → t ∷ ts ≡ x ∷ rest → Some t ≡ Some x
    first t x ts rest e = cc

    second : (t x : Tuple) (ts rest : List Tuple) → t ∷ ts ≡ x ∷ rest → ts ≡ rest
    second t x ts rest e = cc
get_drop (t ∷ ts) (suc n) x rest e =
    let h = get_drop ts n x rest e in
    (h.0, h.1, omega (arith, h.2))

-- the first n and the next
take_suc : (P : Tuple → Type 0) (ts : List Tuple) (n : ℕ) (x : Tuple) → slice_get ts n ≡ Some x →
    AllByRecursion P (take n ts) → P x → AllByRecursion P (take (suc n) ts)
take_suc P [] n x e h p = cc
take_suc P (t ∷ ts) zero x e h p = (rw (one t x e) p, tt)
  where
    one : (t x : Tuple) → Some t ≡ Some x → t ≡ x
    one t x e = cc
take_suc P (t ∷ ts) (suc n) x e h p = (h.0, take_suc P ts n x e h.1 p)

-- what holds of the first n and of the next holds of the first n + 1
pub take_next : (P : Tuple → Type 0) (ts : List Tuple) (n : ℕ) (x : Tuple) → slice_get ts n ≡ Some x →
    AllByRecursion P (take n ts) → P x → AllByRecursion P (take (n + 1) ts)
take_next P ts n x e h p = rw (next n) (take_suc P ts n x e h p)

-- a tuple is put behind those that are not later
pub sorting_put : (s : Sorting) (late : ℕ) (put : List Tuple) (taken : ℕ) (x : Tuple) → IsSorting s late put taken false
    → greatest_time put ≤ time_of x + late →
    IsSorting (record { lateness = s.lateness; greatest = max s.greatest (time_of x); waiting = placed s.waiting x })
    late (put ++ x ∷ []) taken false
sorting_put s late put taken x st soon =
    let given = st.given refl in
    let first = weakened (λ y. time_of y + late ≤ greatest_time put) (λ y. time_of y ≤ time_of x)
    (λ y e. omega (arith, e, soon)) (take taken (by_time put)) given in
    record {
      lateness = st.lateness;
      greatest = ap (λ n. max n (time_of x)) st.greatest ∙ sym (greatest_push put x);
      few = omega (arith, st.few, length_push put x);
      waiting = ap (λ vs. placed vs x) st.waiting
          ∙ sym (placed_drop taken (by_time put) x (omega (arith, st.few, by_time_length put)) first)
          ∙ ap (drop taken) (sym (by_time_push put x));
      given = λ _. given_push late taken put x given st.few soon;
    }

-- the first that waits is the next of the order
pub sorting_next : (s : Sorting) (late : ℕ) (put : List Tuple) (taken : ℕ) (ended : Bool) (x : Tuple)
    (rest : List Tuple) → IsSorting s late put taken ended → s.waiting ≡ x ∷ rest →
    slice_get (by_time put) taken ≡ Some x
sorting_next s late put taken ended x rest st is = (get_drop (by_time put) taken x rest (sym st.waiting ∙ is)).0

-- it is taken
pub sorting_take : (s : Sorting) (late : ℕ) (put : List Tuple) (taken : ℕ) (ended after : Bool) (x : Tuple)
    (rest : List Tuple) → IsSorting s late put taken ended → s.waiting ≡ x ∷ rest →
    (after ≡ false → (ended ≡ false) × (time_of x + late ≤ greatest_time put)) →
    IsSorting (record { lateness = s.lateness; greatest = s.greatest; waiting = rest }) late put (taken + 1) after
sorting_take s late put taken ended after x rest st is due =
    let parts = get_drop (by_time put) taken x rest (sym st.waiting ∙ is) in
    record {
      lateness = st.lateness;
      greatest = st.greatest;
      few = omega (arith, parts.2, by_time_length put);
      waiting = sym parts.1 ∙ ap (λ n. drop n (by_time put)) (sym (next taken));
      given = λ e. let d = due e in take_next (λ y. time_of y + late ≤ greatest_time put) (by_time put) taken x parts.0
          (st.given d.0) d.1;
    }

-- where none waits, all were taken
pub sorting_none : (s : Sorting) (late : ℕ) (put : List Tuple) (taken : ℕ) (ended : Bool) →
    IsSorting s late put taken ended → s.waiting ≡ [] → taken ≡ length put
sorting_none s late put taken ended st is =
    omega (arith, st.few, by_time_length put, ap length (sym st.waiting ∙ is), length-drop taken (by_time put))

-- the first that waits is the one that is looked at
pub same_first : (waiting rest : List Tuple) (first x : Tuple) → slice_get waiting 0 ≡ Some first → waiting ≡ x ∷ rest →
    first ≡ x
same_first waiting rest first x at is = sym (some_is x first (ap (λ ts. slice_get ts 0) (sym is) ∙ at))

-- the end has come, and nothing is taken
pub sorting_ended : (s : Sorting) (late : ℕ) (put : List Tuple) (taken : ℕ) (ended : Bool) →
    IsSorting s late put taken ended → IsSorting s late put taken true
sorting_ended s late put taken ended st = record {
  lateness = st.lateness;
  greatest = st.greatest;
  few = st.few;
  waiting = st.waiting;
  given = λ e. absurd (false≢true (sym e));
}
