-- The rule holds of new cells.
use Rattle.std.proofs.Common.{◌≡◌, ℕ, zero, suc, ◌+◌, ◌<◌, ◌≤◌, List, [], ◌∷◌, map, length, get_or, replicate, refl}
use Rattle.std.proofs.Common.{sym, ap, ◌∙◌, subst, arith, Option, Some, None}
use mathlib.Core.Option.{some, some-injective, some-ne-none}
use lib.ListN.{get_elem?}
use Rattle.atomic_table.specs.Table.{opening}
use Rattle.ways_expressway.specs.declared.job.Job.{Job}
use Rattle.ways_crews.specs.declared.cells.Parcel.{Parcel}
use Rattle.ways_crews.specs.declared.cells.View.{View}
use Rattle.std.specs.Prelude.{slice_get}
use Rattle.std.proofs.lemmas.Option.{none-some, same_Some, slice_get_within}
use Rattle.ways_crews.specs.declared.place.TicketPlace.{TicketPlace}
use Rattle.ways_crews.specs.declared.place.TicketPlace.TheVariants.{Cell}
use Rattle.ways_crews.specs.Crews.{AreFree}
use Rattle.ways_crews.specs.Views.{Sat, new_crew, input_of}
use Rattle.ways_crews.specs.Cells.{CellRule, CellIs}

long : {A : Type 0} (n : ℕ) (a : A) → length (replicate n a) ≡ n
long zero a = refl
long (suc n) a = let e = long n a in omega arith

long_map : {A : Type 0} (n : ℕ) (a : A) → length (map some (replicate n a)) ≡ n
long_map zero a = refl
long_map (suc n) a = let e = long_map n a in omega arith

all_same : {A : Type 0} (n k : ℕ) (a : A) → get_or (replicate n a) k a ≡ a
all_same zero k a = refl
all_same (suc n) zero a = refl
all_same (suc n) (suc k) a = all_same n k a

all_home : {A : Type 0} (n k : ℕ) (a : A) → k < n → get_elem? (map some (replicate n a)) k ≡ some (some a)
all_home zero k a h = absurd (omega arith)
all_home (suc n) zero a h = refl
all_home (suc n) (suc k) a h = all_home n k a (omega arith)

only : (v u : View) (seat : ℕ) → get_elem? (v ∷ []) seat ≡ some u → v ≡ u
only v u zero e = some-injective v u e
only v u (suc seat) e = absurd (some-ne-none u (sym e))

free_at_first : (count k : ℕ) → k < count → CellIs 0 (get_elem? (map some (replicate {A = Option Parcel} count None)) k)
    (input_of (new_crew count) k) (new_crew count ∷ []) k
free_at_first count k below = record {
  known = omega arith;
  free = λ _. (all_same {A = Option Job} count k None, all_home {A = Option Parcel} count k None below);
  ready = λ e. absurd (omega arith);
  taken = λ e. absurd (omega arith);
  done = λ e. absurd (omega arith);
  opened = λ e. absurd (omega arith);
  untaken =
      λ _ seat u job is has. (let off : None ≡ u.taken = ap (λ (w : View). w.taken) (only (new_crew count) u seat is) in
      absurd (cc (off, has)));
}

pub opens_kept : (count : ℕ) → CellRule (opening (replicate (count + 4) 0) (replicate count None) (new_crew count))
opens_kept count =
    let homes : length (map some (replicate {A = Option Parcel} count None)) ≡ count =
    long_map {A = Option Parcel} count None in
    let zeros : (k : ℕ) → get_or (replicate (count + 4) 0) k 0 ≡ 0 = λ k. all_same (count + 4) k 0 in
    record {
      crew = new_crew count;
      leads = refl;
      inputs = long {A = Option Job} count None ∙ sym homes;
      words = long (count + 4) 0 ∙ ap (λ (n : ℕ). n + 4) (sym homes);
      cells = λ k below. subst
          (λ (z : ℕ). CellIs z (get_elem? (map some (replicate {A = Option Parcel} count None)) k)
          (input_of (new_crew count) k) (new_crew count ∷ []) k) (sym (zeros k))
          (free_at_first count k (subst (λ (n : ℕ). k < n) homes below));
      stop = subst (λ (z : ℕ). z ≤ 1) (sym (zeros (length (map some (replicate {A = Option Parcel} count None)))))
          (omega arith);
      stopped =
          λ seat u is on. (let off = ap (λ (w : View). w.stopped) (only (new_crew count) u seat is) in
          absurd (cc (off, on)));
    }

-- the same, for words and slots as they are at hand
pub opens_kept_at : (count : ℕ) (words : List ℕ) → words ≡ replicate (count + 4) 0 →
    CellRule (opening words (replicate count None) (new_crew count))
opens_kept_at count words is = subst (λ (ws : List ℕ). CellRule (opening ws (replicate count None) (new_crew count)))
    (sym is) (opens_kept count)

read : {A : Type 0} (xs : List A) (n : ℕ) (d x : A) → slice_get xs n ≡ Some x → get_or xs n d ≡ x
read [] n d x e = absurd (none-some x e)
read (y ∷ ys) zero d x e = same_Some y x e
read (y ∷ ys) (suc n) d x e = read ys n d x e

-- a new crew has no job out
pub new_free : (places : List (Option TicketPlace)) (count : ℕ) (me : Sat) → me ≡ (new_crew count, []) →
    ((i : ℕ) → i < length places → get_or places i None ≡ None) → AreFree places me.0 count
new_free places count me is empty = record {
  free = λ n _. ap (λ (s : Sat). input_of s.0 n) is ∙ all_same {A = Option Job} count n None;
  cell = λ n at. (let none : get_or places n None ≡ None = empty n (slice_get_within places n (Some Cell) at) in
      let some_cell : get_or places n None ≡ Some Cell = read places n None (Some Cell) at in
      absurd (cc (none, some_cell)));
}

pub new_wide : (count : ℕ) (me : Sat) → me ≡ (new_crew count, []) → length me.0.given ≡ count
new_wide count me is = ap (λ (s : Sat). length s.0.given) is ∙ long {A = Option Job} count None
