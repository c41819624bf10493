-- To take a cell and to give it back keep the rule.
use Rattle.std.proofs.Common.{◌≡◌, ◌≢◌, ℕ, ◌<◌, eqb, List, ◌∷◌, length, set, get_or, refl, sym, ap, ◌∙◌, subst, ⊎_elim}
use Rattle.std.proofs.Common.{arith, Option, Some, None, eq-eqb, ne_eqb}
use mathlib.Core.Logic.{dite}
use mathlib.Core.Option.{Option as Maybe, none, some, some-injective}
use native.Mathlib.Decide.{ℕ_discrete}
use lib.ListN.{get_elem?}
use Rattle.atomic_table.specs.Table.{step, Allows, keeps, takes, gives, stepped}
use Rattle.atomic_table.proofs.Lists.{at_set}
use Rattle.ways_expressway.specs.declared.job.Job.{Job}
use Rattle.ways_expressway.specs.declared.job.Done.{Done}
use Rattle.ways_expressway.specs.Results.{IsResultOf}
use prog.Atomic.{either}
use Rattle.ways_crews.specs.declared.cells.Parcel.{Parcel}
use Rattle.ways_crews.specs.declared.cells.Parcel.TheVariants.{Waiting, Finished}
use Rattle.ways_crews.specs.declared.cells.View.{View}
use Rattle.ways_crews.specs.Views.{input_of, with_taken}
use Rattle.ways_crews.specs.Cells.{St, CellIs, CellRule, HasNoTaker}
use Rattle.ways_crews.specs.Steps.{takes_job, gives_back}
use Rattle.ways_crews.proofs.Takers.{there}
use Rattle.ways_crews.proofs.Keeps.{unmoved, crew_stays, cell_step}

abbrev pair : ℕ → Job → ℕ × Job
pair i job = (i, job)

-- what is taken is one cell, with one input
which : (i k : ℕ) (a b : Job) → Some (pair i a) ≡ Some (pair k b) → (i ≡ k) × (a ≡ b)
which i k a b e = let p : pair i a ≡ pair k b = cc e in (ap (λ (q : ℕ × Job). q.0) p, ap (λ (q : ℕ × Job). q.1) p)

-- a taker's step: what is announced stays, and the cell's word and slot change
taker_step : (s : St) (kept : CellRule s) (i n id : ℕ) (home : Maybe (Option Parcel)) (v : View)
    (taken : Option (ℕ × Job)) → i < length s.homes → get_elem? s.views id ≡ some v
    → ((k : ℕ) (job : Job) → k ≢ i → v.taken ≡ Some (k, job) → taken ≡ Some (k, job)) →
    ((k : ℕ) (job : Job) → k ≢ i → taken ≡ Some (k, job) → v.taken ≡ Some (k, job))
    → CellIs n (some home) (input_of kept.crew i) (set s.views id (with_taken v taken)) i
    → CellRule record {
      words = set s.words i n;
      homes = set s.homes i home;
      views =
          set s.views id (with_taken v taken);
    }
taker_step s kept i n id home v taken below at to fro here =
    let w : View = with_taken v taken in
    let c = crew_stays s.views id v w kept.crew at kept.leads refl in
    let same : (k : ℕ) → input_of c.0 k ≡ input_of kept.crew k =
    λ k. ap (λ (xs : List (Option Job)). get_or xs k None) c.2 in
    cell_step s kept i n id home v w c.0 below at refl to fro c.1 (ap length c.2) (λ k ne. same k)
    (subst (λ (z : Option Job). CellIs n (some home) z (set s.views id w) i) (sym (same i)) here)

pub take_allowed : (slots i id : ℕ) (v : View) (held : List (ℕ × Option Parcel)) → i < slots → v.taken ≡ None
    → Allows CellRule slots id (v, held) i (λ n. either (eqb n 1) 2 n) (takes_job (step slots i 1 2 none) (v, held))
take_allowed slots i id v held inside idle s kept count at small = let x : ℕ = get_or s.words i 0 in
    let below : i < length s.homes = omega arith in let c = kept.cells i below in dite (ℕ_discrete x 1)
    (λ hit. let r = c.ready hit in
    let job : Job = r.0 in
    let w : View = with_taken v (Some (i, job)) in
    let untaken : HasNoTaker s.views i = c.untaken (λ e. omega arith) in (
      w,
      takes i (Some (Waiting job)),
      r.2,
      subst (λ b. CellRule (stepped s i (either b 2 x) id held w (takes i (Some (Waiting job))))) (sym (eq-eqb x 1 hit))
          (taker_step s kept i 2 id none v (Some (i, job)) below at
          (λ k other ne e. absurd (cc (idle, e)))
          (λ k other ne e. absurd (ne (sym (which i k job other e).0)))
          record {
            known = omega arith;
            free = λ e. absurd (omega arith);
            ready = λ e. absurd (omega arith);
            taken = λ _. (
              job,
              r.1,
              refl,
              record {
                seat = id;
                view = w;
                at = there s.views id v w at;
                has = refl;
                one = λ seat u input is has. ⊎_elim
                    (λ (t : (seat ≡ id) × (w ≡ u)). t.0)
                    (λ (t : (seat ≢ id) × (get_elem? s.views seat ≡ some u)). absurd (untaken seat u input t.1 has))
                    (at_set s.views id seat w u is);
              },
            );
            done = λ e. absurd (omega arith);
            opened = λ e. absurd (omega arith);
            untaken = λ ne. absurd (ne refl);
          }),
      ((λ _. (job, r.3, refl)), λ ne. absurd (ne hit)),
    ))
    (λ miss. (
      v,
      keeps,
      tt,
      subst (λ b. CellRule (stepped s i (either b 2 x) id held v keeps)) (sym (ne_eqb x 1 miss))
          (unmoved s i id held v at kept),
      ((λ e. absurd (miss e)), λ _. refl),
    ))

-- a cell that a seat has taken is at 2, nobody else has it, and its input is the crew's
taken_is : (s : St) (kept : CellRule s) (i id : ℕ) (v : View) (job : Job) → i < length s.homes →
    get_elem? s.views id ≡ some v → v.taken ≡ Some (i, job)
    → (input_of kept.crew i ≡ Some job)
    × ((seat : ℕ) (u : View) (input : Job) → get_elem? s.views seat ≡ some u → u.taken ≡ Some (i, input) → seat ≡ id)
taken_is s kept i id v job below at has = let x : ℕ = get_or s.words i 0 in let c = kept.cells i below in
    dite (ℕ_discrete x 2)
    (λ hit. let t = c.taken hit in
    let o = t.3 in
    let mine : id ≡ o.seat = o.one id v job at has in
    let same : v ≡ o.view = some-injective v o.view (sym at ∙ (ap (get_elem? s.views) mine ∙ o.at)) in
    let its : Some (pair i job) ≡ Some (pair i t.0) = sym has ∙ (ap (λ (z : View). z.taken) same ∙ o.has) in
    let one : t.0 ≡ job = sym (which i i job t.0 its).1 in
    (t.1 ∙ ap Some one, λ seat u input is e. o.one seat u input is e ∙ sym mine))
    (λ miss. absurd (c.untaken miss id v job at has))

pub give_back_allowed : (slots i id : ℕ) (v : View) (job : Job) (done : Done) (more : List (ℕ × Option Parcel)) →
    i < slots → v.taken ≡ Some (i, job) → IsResultOf job done
    → Allows CellRule slots id (v, (i, Some (Finished done)) ∷ more) i (λ _. 3)
    (λ _. gives_back (step slots i 3 0 none) (v, (i, Some (Finished done)) ∷ more) 3)
give_back_allowed slots i id v job done more inside has result s kept count at small = let below : i < length s.homes =
    omega arith in
    let t = taken_is s kept i id v job below at has in (
      with_taken v None,
      gives,
      tt,
      taker_step s kept i 3 id (some (Some (Finished done))) v None below at
          (λ k other ne e. absurd (ne (sym (which i k job other (sym has ∙ e)).0)))
          (λ k other ne e. absurd (cc e))
          record {
            known = omega arith;
            free = λ e. absurd (omega arith);
            ready = λ e. absurd (omega arith);
            taken = λ e. absurd (omega arith);
            done = λ _. (job, done, t.0, refl, result);
            opened = λ e. absurd (omega arith);
            untaken = λ _ seat u input is e. ⊎_elim
                (λ (same : (seat ≡ id) × (with_taken v None ≡ u)).
                (let off : None ≡ u.taken = ap (λ (z : View). z.taken) same.1 in absurd (cc (off, e))))
                (λ (other : (seat ≢ id) × (get_elem? s.views seat ≡ some u)). absurd
                (other.0 (t.1 seat u input other.1 e)))
                (at_set s.views id seat (with_taken v None) u is);
          },
      refl,
    )
