-- What a start and a finish do to the jobs that the crew holds.
use Rattle.std.proofs.Common.{◌≡◌, ◌≢◌, ℕ, ◌<◌, List, length, sym, ap, ◌∙◌, subst, length-set}
use Rattle.std.specs.Prelude.{Option, Some, None, slice_get}
use Rattle.std.proofs.lemmas.Option.{none-some, same_Some}
use mathlib.Core.Logic.{dite}
use native.Mathlib.Decide.{ℕ_discrete}
use Rattle.ways_expressway.specs.declared.job.Job.{Job}
use Rattle.ways_crews.specs.declared.place.TicketPlace.{TicketPlace}
use Rattle.ways_crews.specs.declared.place.TicketPlace.TheVariants.{Cell, Ran, Unlisted}
use Rattle.ways_crews.specs.declared.cells.View.{View}
use Rattle.ways_crews.specs.Views.{Sat, input_of, with_input}
use Rattle.ways_crews.specs.Places.{IsPut, IsTaken}
use Rattle.ways_crews.specs.Crews.{IsHeldIn, HoldsJob, AreFree, IsBegun, IsJobAnswered}
use Rattle.ways_crews.proofs.HeldJobs.{put_there, put_leaves, take_leaves, take_frees, one_entry}
use Rattle.ways_crews.proofs.CellSteps.{input_here, input_else, cleared}

-- what a seat has beside its inputs, and how many cells it knows
pub record IsBeside (b a : Sat) : Type 0 where
  pub taken : a.0.taken ≡ b.0.taken
  pub hands : a.1 ≡ b.1
  pub wide : length a.0.given ≡ length b.0.given

beside_input : (b a : Sat) (n : ℕ) (x : Option Job) → a ≡ (with_input b.0 n x, b.1) → IsBeside b a
beside_input b a n x e = record {
  taken = ap (λ (m : Sat). m.0.taken) e;
  hands = ap (λ (m : Sat). m.1) e;
  wide = ap (λ (m : Sat). length m.0.given) e ∙ length-set b.0.given n x;
}

beside_same : (b a : Sat) → a ≡ b → IsBeside b a
beside_same b a e =
    record {
      taken = ap (λ (m : Sat). m.0.taken) e;
      hands = ap (λ (m : Sat). m.1) e;
      wide =
          ap (λ (m : Sat). length m.0.given) e;
    }

pub begun_beside : (count n : ℕ) (job : Job) (place : TicketPlace) (b a : Sat) → IsBegun count n job place b a →
    IsBeside b a
begun_beside count n job Cell b a t = beside_input b a n (Some job) t.1
begun_beside count n job (Ran d) b a t = beside_same b a t.1
begun_beside count n job (Unlisted own) b a t = beside_same b a t.1

pub answered_beside : (n : ℕ) (place : TicketPlace) (b a : Sat) → IsJobAnswered n place b a → IsBeside b a
answered_beside n Cell b a t = beside_input b a n None t
answered_beside n (Ran d) b a t = beside_same b a t
answered_beside n (Unlisted own) b a t = beside_same b a t

-- the other inputs stay
begun_else : (count n m : ℕ) (job : Job) (place : TicketPlace) (b a : Sat) → IsBegun count n job place b a → m ≢ n →
    input_of a.0 m ≡ input_of b.0 m
begun_else count n m job Cell b a t ne = ap (λ (s : Sat). input_of s.0 m) t.1 ∙ input_else b.0 n m (Some job) ne
begun_else count n m job (Ran d) b a t ne = ap (λ (s : Sat). input_of s.0 m) t.1
begun_else count n m job (Unlisted own) b a t ne = ap (λ (s : Sat). input_of s.0 m) t.1

answered_else : (n m : ℕ) (place : TicketPlace) (b a : Sat) → IsJobAnswered n place b a → m ≢ n →
    input_of a.0 m ≡ input_of b.0 m
answered_else n m Cell b a t ne = ap (λ (s : Sat). input_of s.0 m) t ∙ input_else b.0 n m None ne
answered_else n m (Ran d) b a t ne = ap (λ (s : Sat). input_of s.0 m) t
answered_else n m (Unlisted own) b a t ne = ap (λ (s : Sat). input_of s.0 m) t

-- the job that was begun is held under its number
begun_here : (count n : ℕ) (job : Job) (place : TicketPlace) (b a : Sat) → length b.0.given ≡ count →
    IsBegun count n job place b a → IsHeldIn (input_of a.0 n) place job
begun_here count n job Cell b a wide t = ap (λ (s : Sat). input_of s.0 n) t.1
    ∙ input_here b.0 n (Some job) (subst (λ (z : ℕ). n < z) (sym wide) t.0)
begun_here count n job (Ran d) b a wide t = t.0
begun_here count n job (Unlisted own) b a wide t = t.0

pub begun_held : (count n : ℕ) (job : Job) (place : TicketPlace) (b a : Sat) (was now : List (Option TicketPlace)) →
    length b.0.given ≡ count → IsPut n place was now → IsBegun count n job place b a
    → HoldsJob now a.0 n job
begun_held count n job place b a was now wide put t =
    (place, put_there n place was now put, begun_here count n job place b a wide t)

-- and the others are held as before
pub begun_others : (count n m : ℕ) (job other : Job) (place : TicketPlace) (b a : Sat)
    (was now : List (Option TicketPlace)) → IsPut n place was now → IsBegun count n job place b a → m ≢ n
    → HoldsJob was b.0 m other → HoldsJob now a.0 m other
begun_others count n m job other place b a was now put t ne held = (
  held.0,
  put_leaves n m place was now put ne ∙ held.1,
  subst (λ (x : Option Job). IsHeldIn x held.0 other) (sym (begun_else count n m job place b a t ne)) held.2,
)

pub answered_others : (n m : ℕ) (other : Job) (place : TicketPlace) (b a : Sat) (was now : List (Option TicketPlace)) →
    IsTaken n place was now → IsJobAnswered n place b a → m ≢ n
    → HoldsJob was b.0 m other → HoldsJob now a.0 m other
answered_others n m other place b a was now taken t ne held = (
  held.0,
  take_leaves n m place was now taken ne ∙ held.1,
  subst (λ (x : Option Job). IsHeldIn x held.0 other) (sym (answered_else n m place b a t ne)) held.2,
)

-- a free place is not a cell's
pub not_cell : (places : List (Option TicketPlace)) (n : ℕ) → slice_get places n ≡ Some None →
    slice_get places n ≢ Some (Some Cell)
not_cell places n free is = none-some _ (same_Some _ _ (sym free ∙ is))

ran_not_cell : (places : List (Option TicketPlace)) (n : ℕ) (d : _) → slice_get places n ≡ Some (Some (Ran d)) →
    slice_get places n ≢ Some (Some Cell)
ran_not_cell places n d ran is = let same : Ran d ≡ Cell = one_entry places n (Ran d) Cell ran is in absurd (cc same)

own_not_cell : (places : List (Option TicketPlace)) (n : ℕ) (own : Job) →
    slice_get places n ≡ Some (Some (Unlisted own)) → slice_get places n ≢ Some (Some Cell)
own_not_cell places n own is_own is = let same : Unlisted own ≡ Cell =
    one_entry places n (Unlisted own) Cell is_own is in absurd (cc same)

-- at the number itself
begun_free_here : (count n : ℕ) (job : Job) (place : TicketPlace) (b a : Sat) (was now : List (Option TicketPlace)) →
    AreFree was b.0 count → IsPut n place was now → IsBegun count n job place b a
    → slice_get now n ≢ Some (Some Cell) → input_of a.0 n ≡ None
begun_free_here count n job Cell b a was now free put t ne = absurd (ne (put_there n Cell was now put))
begun_free_here count n job (Ran d) b a was now free put t ne = ap (λ (s : Sat). input_of s.0 n) t.1
    ∙ free.free n (not_cell was n put.free)
begun_free_here count n job (Unlisted own) b a was now free put t ne = ap (λ (s : Sat). input_of s.0 n) t.1
    ∙ free.free n (not_cell was n put.free)

begun_cell_here : (count n : ℕ) (job : Job) (place : TicketPlace) (b a : Sat) (was now : List (Option TicketPlace)) →
    IsPut n place was now → IsBegun count n job place b a
    → slice_get now n ≡ Some (Some Cell) → n < count
begun_cell_here count n job Cell b a was now put t is = t.0
begun_cell_here count n job (Ran d) b a was now put t is =
    absurd (ran_not_cell now n d (put_there n (Ran d) was now put) is)
begun_cell_here count n job (Unlisted own) b a was now put t is =
    absurd (own_not_cell now n own (put_there n (Unlisted own) was now put) is)

pub begun_free : (count n : ℕ) (job : Job) (place : TicketPlace) (b a : Sat) (was now : List (Option TicketPlace)) →
    AreFree was b.0 count → IsPut n place was now → IsBegun count n job place b a → AreFree now a.0 count
begun_free count n job place b a was now free put t = record {
  free = λ m no_cell. dite (ℕ_discrete m n)
      (λ e. subst (λ (z : ℕ). input_of a.0 z ≡ None) (sym e)
      (begun_free_here count n job place b a was now free put t
      (subst (λ (z : ℕ). slice_get now z ≢ Some (Some Cell)) e no_cell)))
      (λ ne. begun_else count n m job place b a t ne
      ∙ free.free m (λ is. no_cell (put_leaves n m place was now put ne ∙ is)));
  cell = λ m is. dite (ℕ_discrete m n)
      (λ e. subst (λ (z : ℕ). z < count) (sym e)
      (begun_cell_here count n job place b a was now put t
      (subst (λ (z : ℕ). slice_get now z ≡ Some (Some Cell)) e is)))
      (λ ne. free.cell m (sym (put_leaves n m place was now put ne) ∙ is));
}

answered_free_here : (count n : ℕ) (place : TicketPlace) (b a : Sat) (was now : List (Option TicketPlace)) →
    AreFree was b.0 count → IsTaken n place was now → IsJobAnswered n place b a → input_of a.0 n ≡ None
answered_free_here count n Cell b a was now free taken t = ap (λ (s : Sat). input_of s.0 n) t ∙ cleared b.0 n
answered_free_here count n (Ran d) b a was now free taken t = ap (λ (s : Sat). input_of s.0 n) t
    ∙ free.free n (ran_not_cell was n d taken.there)
answered_free_here count n (Unlisted own) b a was now free taken t = ap (λ (s : Sat). input_of s.0 n) t
    ∙ free.free n (own_not_cell was n own taken.there)

pub answered_free : (count n : ℕ) (place : TicketPlace) (b a : Sat) (was now : List (Option TicketPlace)) →
    AreFree was b.0 count → IsTaken n place was now → IsJobAnswered n place b a → AreFree now a.0 count
answered_free count n place b a was now free taken t = record {
  free = λ m no_cell. dite (ℕ_discrete m n)
      (λ e. subst (λ (z : ℕ). input_of a.0 z ≡ None) (sym e)
      (answered_free_here count n place b a was now free taken t))
      (λ ne. answered_else n m place b a t ne
      ∙ free.free m (λ is. no_cell (take_leaves n m place was now taken ne ∙ is)));
  cell = λ m is. dite (ℕ_discrete m n)
      (λ e. absurd
      (not_cell now n (take_frees n place was now taken)
      (subst (λ (z : ℕ). slice_get now z ≡ Some (Some Cell)) e is)))
      (λ ne. free.cell m (sym (take_leaves n m place was now taken ne) ∙ is));
}

-- what is answered of a place that was taken is the result of each job that was held there
pub held_there : (n : ℕ) (job : Job) (place : TicketPlace) (v : View) (was now : List (Option TicketPlace)) →
    IsTaken n place was now → HoldsJob was v n job → IsHeldIn (input_of v n) place job
held_there n job place v was now taken held =
    subst (λ (p : TicketPlace). IsHeldIn (input_of v n) p job) (one_entry was n held.0 place held.1 taken.there) held.2
