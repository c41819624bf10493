-- What the calls of the table ask of each step, for a seat as it is at hand.
use Rattle.std.proofs.Common.{◌≡◌, ℕ, ◌<◌, eqb, List, [], ◌∷◌, sym, ap, ◌∙◌, subst, Option, Some, None}
use mathlib.Core.Option.{none}
use prog.Atomic.{either}
use Rattle.atomic_table.specs.Table.{step, Allows, rest}
use Rattle.ways_expressway.specs.declared.job.Job.{Job}
use Rattle.ways_expressway.specs.declared.job.Done.{Done}
use Rattle.ways_expressway.specs.Results.{IsResultOf}
use Rattle.ways_crews.specs.declared.cells.Parcel.{Parcel}
use Rattle.ways_crews.specs.declared.cells.Parcel.TheVariants.{Waiting, Finished}
use Rattle.ways_crews.specs.declared.cells.View.{View}
use Rattle.ways_crews.specs.Views.{Sat, input_of, CanBeRun}
use Rattle.ways_crews.specs.Cells.{CellRule}
use Rattle.ways_crews.specs.Steps.{opens, announces, gives_back, collects, shuts}
use Rattle.ways_crews.proofs.CellSteps.{open_allowed, announce_allowed, collect_allowed, shut_allowed}
use Rattle.ways_crews.proofs.TakerSteps.{give_back_allowed}

abbrev Held : Type 0
Held = List (ℕ × Option Parcel)

pub turn_of : (xs more : Held) (k : ℕ) (x : Option Parcel) → xs ≡ (k, x) ∷ more → xs ≡ (k, x) ∷ rest xs
turn_of xs more k x e = e ∙ ap (λ (ys : Held). (k, x) ∷ ys) (sym (ap rest e))

pub open_at : (slots i id : ℕ) (me : Sat) → i < slots → id ≡ 0 →
    Allows CellRule slots id me i (λ n. either (eqb n 0) 4 n) (opens (step slots i 0 4 none) me)
open_at slots i id me inside first =
    subst (λ (z : ℕ). Allows CellRule slots z me i (λ n. either (eqb n 0) 4 n) (opens (step slots i 0 4 none) me))
    (sym first) (open_allowed slots i me.0 me.1 inside)

pub announce_at : (slots i id : ℕ) (me : Sat) (v : View) (job : Job) (more : Held) → i < slots → id ≡ 0 →
    me ≡ (v, (i, Some (Waiting job)) ∷ more) → input_of v i ≡ None → CanBeRun job
    → Allows CellRule slots id me i (λ _. 1) (λ _. announces (step slots i 1 0 none) me 1)
announce_at slots i id me v job more inside first has free can =
    subst (λ (z : ℕ). Allows CellRule slots z me i (λ _. 1) (λ _. announces (step slots i 1 0 none) me 1)) (sym first)
    (subst (λ (m : Sat). Allows CellRule slots 0 m i (λ _. 1) (λ _. announces (step slots i 1 0 none) m 1)) (sym has)
    (announce_allowed slots i v job more inside free can))

pub collect_at : (slots i id : ℕ) (me : Sat) → i < slots → id ≡ 0 →
    Allows CellRule slots id me i (λ n. either (eqb n 3) 4 n) (collects (step slots i 3 4 none) me)
collect_at slots i id me inside first =
    subst (λ (z : ℕ). Allows CellRule slots z me i (λ n. either (eqb n 3) 4 n) (collects (step slots i 3 4 none) me))
    (sym first) (collect_allowed slots i me.0 me.1 inside)

pub shut_at : (slots i id : ℕ) (me : Sat) (v : View) (more : Held) → i < slots → id ≡ 0 → me ≡ (v, (i, None) ∷ more) →
    input_of v i ≡ None
    → Allows CellRule slots id me i (λ _. 0) (λ _. shuts (step slots i 0 0 none) me 0)
shut_at slots i id me v more inside first has free =
    subst (λ (z : ℕ). Allows CellRule slots z me i (λ _. 0) (λ _. shuts (step slots i 0 0 none) me 0)) (sym first)
    (subst (λ (m : Sat). Allows CellRule slots 0 m i (λ _. 0) (λ _. shuts (step slots i 0 0 none) m 0)) (sym has)
    (shut_allowed slots i v more inside free))

pub give_back_at : (slots i id : ℕ) (me : Sat) (v : View) (job : Job) (done : Done) (more : Held) → i < slots →
    me ≡ (v, (i, Some (Finished done)) ∷ more) → v.taken ≡ Some (i, job) → IsResultOf job done
    → Allows CellRule slots id me i (λ _. 3) (λ _. gives_back (step slots i 3 0 none) me 3)
give_back_at slots i id me v job done more inside has taken result =
    subst (λ (m : Sat). Allows CellRule slots id m i (λ _. 3) (λ _. gives_back (step slots i 3 0 none) m 3)) (sym has)
    (give_back_allowed slots i id v job done more inside taken result)

abbrev done_of : Option Parcel → Option Done
done_of None = None
done_of (Some (Waiting job)) = None
done_of (Some (Finished done)) = Some done

abbrev done_in : Held → Option Done
done_in [] = None
done_in (slot ∷ slots) = done_of slot.1

-- what is read of a slot is what lies there
pub done_is : (xs more others : Held) (k : ℕ) (d e : Done) (x : Option Parcel) → xs ≡ (k, Some (Finished d)) ∷ more →
    xs ≡ (k, x) ∷ others → x ≡ Some (Finished e) → d ≡ e
done_is xs more others k d e x a b is =
    let same : Some d ≡ Some e = sym (ap done_in a) ∙ (ap done_in b ∙ ap done_of is) in cc same
