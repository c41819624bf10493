-- Who has taken a cell, where one seat's view changes.
use Rattle.std.proofs.Common.{◌≡◌, ◌≢◌, ℕ, zero, suc, List, [], ◌∷◌, ◌++◌, set, refl, sym, ap, ◌∙◌, subst, ⊎_elim}
use Rattle.std.proofs.Common.{Option, Some, None}
use mathlib.Core.Logic.{dite}
use mathlib.Core.Option.{some, some-injective, some-ne-none}
use native.Mathlib.Decide.{ℕ_discrete}
use lib.ListN.{get_elem?}
use Rattle.atomic_table.proofs.Lists.{at_set, set_else, at_snoc, at_longer}
use Rattle.ways_expressway.specs.declared.job.Job.{Job}
use Rattle.ways_crews.specs.declared.cells.View.{View}
use Rattle.ways_crews.specs.Cells.{HasNoTaker, HasOneTaker, CellIs}

pub there : {A : Type 0} (l : List A) (i : ℕ) (a b : A) → get_elem? l i ≡ some a → get_elem? (set l i b) i ≡ some b
there [] i a b e = absurd (some-ne-none a (sym e))
there (x ∷ xs) zero a b e = refl
there (x ∷ xs) (suc i) a b e = there xs i a b e

-- the same seats have taken a cell, with the same input
pub record SameTakers (xs ys : List View) (cell : ℕ) : Type 0 where
  pub forth : (seat : ℕ) (v : View) (job : Job) → get_elem? xs seat ≡ some v → v.taken ≡ Some (cell, job) → (w : View)
      × (get_elem? ys seat ≡ some w) × (w.taken ≡ Some (cell, job))
  pub back : (seat : ℕ) (w : View) (job : Job) → get_elem? ys seat ≡ some w → w.taken ≡ Some (cell, job) → (v : View)
      × (get_elem? xs seat ≡ some v) × (v.taken ≡ Some (cell, job))

pub none_stays : (xs ys : List View) (cell : ℕ) → SameTakers xs ys cell → HasNoTaker xs cell → HasNoTaker ys cell
none_stays xs ys cell same free seat w job at has = let b = same.back seat w job at has in free seat b.0 job b.1 b.2

pub one_stays : (xs ys : List View) (cell : ℕ) (job : Job) → SameTakers xs ys cell → HasOneTaker xs cell job →
    HasOneTaker ys cell job
one_stays xs ys cell job same has = let f = same.forth has.seat has.view job has.at has.has in record {
  seat = has.seat;
  view = f.0;
  at = f.1;
  has = f.2;
  one = λ other w input at e. (let b = same.back other w input at e in has.one other b.0 input b.1 b.2);
}

pub cell_stays : (word : ℕ) (home : _) (input : Option Job) (xs ys : List View) (cell : ℕ) → SameTakers xs ys cell →
    CellIs word home input xs cell → CellIs word home input ys cell
cell_stays word home input xs ys cell same is = record {
  known = is.known;
  free = is.free;
  ready = is.ready;
  taken = λ e. (let t = is.taken e in (t.0, t.1, t.2, one_stays xs ys cell t.0 same t.3));
  done = is.done;
  opened = is.opened;
  untaken = λ e. none_stays xs ys cell same (is.untaken e);
}

-- one seat's view changes, and not in whether it has taken the cell
pub same_set : (xs : List View) (id : ℕ) (v w : View) (cell : ℕ) → get_elem? xs id ≡ some v
    → ((job : Job) → v.taken ≡ Some (cell, job) → w.taken ≡ Some (cell, job)) →
    ((job : Job) → w.taken ≡ Some (cell, job) → v.taken ≡ Some (cell, job)) → SameTakers xs (set xs id w) cell
same_set xs id v w cell at to fro = record {
  forth = λ seat u job is has. dite (ℕ_discrete seat id)
      (λ e. (
        w,
        subst (λ (k : ℕ). get_elem? (set xs id w) k ≡ some w) (sym e) (there xs id v w at),
        to job (subst (λ (z : View). z.taken ≡ Some (cell, job))
            (some-injective u v (sym is ∙ (ap (get_elem? xs) e ∙ at))) has),
      ))
      (λ ne. (u, set_else xs id seat w ne ∙ is, has));
  back = λ seat u job is has. ⊎_elim
      (λ (t : (seat ≡ id) × (w ≡ u)). (
        v,
        subst (λ (k : ℕ). get_elem? xs k ≡ some v) (sym t.0) at,
        fro job
            (subst (λ (z : View). z.taken ≡ Some (cell, job)) (sym t.1) has),
      ))
      (λ (t : (seat ≢ id) × (get_elem? xs seat ≡ some u)). (u, t.1, has))
      (at_set xs id seat w u is);
}

-- a seat is added that has taken nothing
pub same_snoc : (xs : List View) (v : View) (cell : ℕ) → v.taken ≡ None → SameTakers xs (xs ++ v ∷ []) cell
same_snoc xs v cell none_taken = record {
  forth = λ seat u job is has. (u, at_longer xs (v ∷ []) seat u is, has);
  back = λ seat u job is has. ⊎_elim
      (λ (t : get_elem? xs seat ≡ some u). (u, t, has))
      (λ (t : v ≡ u). (let off : u.taken ≡ None = subst (λ (z : View). z.taken ≡ None) t none_taken in
      absurd (cc (off, has))))
      (at_snoc xs v u seat is);
}

pub same_again : (xs : List View) (cell : ℕ) → SameTakers xs xs cell
same_again xs cell = record { forth = λ seat u job is has. (u, is, has); back = λ seat u job is has. (u, is, has) }

pub same_then : (xs ys zs : List View) (cell : ℕ) → SameTakers xs ys cell → SameTakers ys zs cell →
    SameTakers xs zs cell
same_then xs ys zs cell a b = record {
  forth = λ seat u job is has. (let f = a.forth seat u job is has in b.forth seat f.0 job f.1 f.2);
  back = λ seat u job is has. (let f = b.back seat u job is has in a.back seat f.0 job f.1 f.2);
}
