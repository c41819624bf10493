-- The steps on the stop word and the bell, and those that part and join seats, keep the rule.
use Rattle.std.proofs.Common.{◌≡◌, ◌≢◌, ℕ, ◌+◌, ◌-◌, ◌%◌, ◌^◌, ◌<◌, ◌≤◌, true, List, [], ◌∷◌, ◌++◌, length, set, get_or}
use Rattle.std.proofs.Common.{refl, sym, ap, ◌∙◌, subst, ⊎_elim, arith, Option, None, length-set, get_or-set_other}
use Rattle.std.proofs.Common.{get_or-set_same}
use mathlib.Core.Logic.{dite}
use mathlib.Core.Option.{none, some}
use native.Mathlib.Decide.{ℕ_discrete}
use lib.ListN.{get_elem?}
use Rattle.atomic_table.specs.Table.{step, Allows, Splits, Joins, keeps}
use Rattle.atomic_table.proofs.Lists.{at_set, set_again, at_snoc, at_longer, set_else}
use Rattle.ways_expressway.specs.declared.job.Job.{Job}
use Rattle.ways_crews.specs.declared.cells.Parcel.{Parcel}
use Rattle.ways_crews.specs.declared.cells.View.{View}
use Rattle.ways_crews.specs.Views.{Sat, with_stop, new_helper}
use Rattle.ways_crews.specs.Cells.{St, CellRule}
use Rattle.ways_crews.specs.Steps.{raises_stop, looks, rings}
use Rattle.ways_crews.proofs.Takers.{SameTakers, same_set, same_snoc}
use Rattle.ways_crews.proofs.Keeps.{kept_after, unmoved, crew_stays}

-- a word behind the cells changes, and a view in what it knows of the stop
behind : (s : St) (kept : CellRule s) (i n id : ℕ) (v w : View) → length s.homes ≤ i → get_elem? s.views id ≡ some v →
    w.given ≡ v.given → w.taken ≡ v.taken
    → get_or (set s.words i n) (length s.homes) 0 ≤ 1
    → ((seat : ℕ) (u : View) → get_elem? (set s.views id w) seat ≡ some u → u.stopped ≡ true →
    get_or (set s.words i n) (length s.homes) 0 ≡ 1)
    → CellRule record { words = set s.words i n; homes = s.homes; views = set s.views id w }
behind s kept i n id v w out at given taken stop stopped =
    let c = crew_stays s.views id v w kept.crew at kept.leads given in
    kept_after s _ (length s.homes) kept record {
      crew = c.0;
      leads = c.1;
      long = ap length c.2;
      inputs = λ k _. ap (λ (xs : List (Option Job)). get_or xs k None) c.2;
      count = refl;
      word_count = length-set s.words i n;
      homes = λ k _. refl;
      words = λ k _ below. get_or-set_other s.words i k n 0 (λ e. omega arith);
      takers = λ k _. same_set s.views id v w k at (λ job e. taken ∙ e) (λ job e. sym taken ∙ e);
      here = λ bad. absurd (omega arith);
      stop = stop;
      stopped = stopped;
    }

pub stop_allowed : (slots id : ℕ) (v : View) (held : List (ℕ × Option Parcel))
    → Allows CellRule slots id (v, held) slots (λ _. 1) (λ _. raises_stop (step slots slots 1 0 none) (v, held) 1)
stop_allowed slots id v held s kept count at small =
    let is : get_or (set s.words slots 1) (length s.homes) 0 ≡ 1 =
    (let l = kept.words in ap (λ (k : ℕ). get_or (set s.words slots 1) k 0) count
    ∙ get_or-set_same s.words slots 1 0 (omega arith)) in (
      with_stop v,
      keeps,
      tt,
      behind s kept slots 1 id v (with_stop v) (omega arith) at refl refl (omega arith) (λ seat u _ _. is),
      refl,
    )

-- the stop was found, or not
pub look_allowed : (slots id : ℕ) (v : View) (held : List (ℕ × Option Parcel))
    → Allows CellRule slots id (v, held) slots (λ n. n) (looks (step slots slots 0 0 none) (v, held))
look_allowed slots id v held s kept count at small =
    let x : ℕ = get_or s.words slots 0 in
    let word : get_or (set s.words slots x) (length s.homes) 0 ≡ x =
    (let l = kept.words in ap (λ (k : ℕ). get_or (set s.words slots x) k 0) count
    ∙ get_or-set_same s.words slots x 0 (omega arith)) in
    let old : get_or s.words (length s.homes) 0 ≡ x = ap (λ (k : ℕ). get_or s.words k 0) count in
    dite (ℕ_discrete x 1)
    (λ hit. (
      with_stop v,
      keeps,
      tt,
      behind s kept slots x id v (with_stop v) (omega arith) at refl refl (omega arith) (λ seat u _ _. word ∙ hit),
      ((λ _. hit), (λ _. refl), λ ne. absurd (ne hit)),
    ))
    (λ miss. (
      v,
      keeps,
      tt,
      unmoved s slots id held v at kept,
      ((λ on. sym old ∙ kept.stopped id v at on), (λ e. absurd (miss e)), λ _. refl),
    ))

-- a word behind the stop may be any number
pub behind_stop : (slots id i : ℕ) (f : ℕ → ℕ) (v : View) (held : List (ℕ × Option Parcel)) → slots < i
    → Allows CellRule slots id (v, held) i f (λ _ n. n ≡ (v, held))
behind_stop slots id i f v held past s kept count at small =
    let x : ℕ = f (get_or s.words i 0) in
    let word : get_or (set s.words i x) (length s.homes) 0 ≡ get_or s.words (length s.homes) 0 =
    get_or-set_other s.words i (length s.homes) x 0 (λ e. omega arith) in
    let same : set s.views id v ≡ s.views = set_again s.views id v at in (
      v,
      keeps,
      tt,
      behind s kept i x id v v (omega arith) at refl refl (subst (λ (z : ℕ). z ≤ 1) (sym word) kept.stop)
          (λ seat u is on. word
          ∙ kept.stopped seat u (subst (λ (vs : List View). get_elem? vs seat ≡ some u) same is) on),
      refl,
    )

-- the same, with the number of cells as the caller has it
pub stop_at : (count slots id : ℕ) (me : Sat) → count ≡ slots →
    Allows CellRule slots id me count (λ _. 1) (λ _. raises_stop (step slots count 1 0 none) me 1)
stop_at count slots id me is =
    subst (λ (z : ℕ). Allows CellRule slots id me z (λ _. 1) (λ _. raises_stop (step slots z 1 0 none) me 1)) (sym is)
    (stop_allowed slots id me.0 me.1)

pub look_at : (count slots id : ℕ) (me : Sat) → count ≡ slots →
    Allows CellRule slots id me count (λ n. n) (looks (step slots count 0 0 none) me)
look_at count slots id me is =
    subst (λ (z : ℕ). Allows CellRule slots id me z (λ n. n) (looks (step slots z 0 0 none) me)) (sym is)
    (look_allowed slots id me.0 me.1)

pub add_at : (count slots id more k : ℕ) (me : Sat) → count ≡ slots → 0 < more →
    Allows CellRule slots id me (count + more) (λ n. (n + k) % 2 ^ 64) (rings (step slots (count + more) k 0 none) me)
add_at count slots id more k me is past =
    behind_stop slots id (count + more) (λ n. (n + k) % 2 ^ 64) me.0 me.1 (omega arith)

pub sub_at : (count slots id more k : ℕ) (me : Sat) → count ≡ slots → 0 < more →
    Allows CellRule slots id me (count + more) (λ n. (n + (2 ^ 64 - k)) % 2 ^ 64)
    (rings (step slots (count + more) k 0 none) me)
sub_at count slots id more k me is past =
    behind_stop slots id (count + more) (λ n. (n + (2 ^ 64 - k)) % 2 ^ 64) me.0 me.1 (omega arith)

pub set_at_more : (count slots id more k : ℕ) (me : Sat) → count ≡ slots → 0 < more →
    Allows CellRule slots id me (count + more) (λ _. k) (λ _. rings (step slots (count + more) k 0 none) me k)
set_at_more count slots id more k me is past = behind_stop slots id (count + more) (λ _. k) me.0 me.1 (omega arith)

-- views change, and in none of them what the crew has announced or who has taken a cell
views_step : (s : St) (kept : CellRule s) (views : List View) → get_elem? views 0 ≡ some kept.crew →
    ((cell : ℕ) → SameTakers s.views views cell)
    → ((seat : ℕ) (u : View) → get_elem? views seat ≡ some u → u.stopped ≡ true → get_or s.words (length s.homes) 0 ≡ 1)
    → CellRule record { words = s.words; homes = s.homes; views = views }
views_step s kept views leads takers stopped = kept_after s _ (length s.homes) kept record {
  crew = kept.crew;
  leads = leads;
  long = refl;
  inputs = λ k _. refl;
  count = refl;
  word_count = refl;
  homes = λ k _. refl;
  words = λ k _ _. refl;
  takers = λ k _. takers k;
  here = λ bad. absurd (omega arith);
  stop = kept.stop;
  stopped = stopped;
}

pub split_allowed : (id : ℕ) (v : View) → Splits CellRule id v v new_helper
split_allowed id v s kept at =
    let same : set s.views id v ≡ s.views = set_again s.views id v at in
    subst (λ (vs : List View). CellRule record { words = s.words; homes = s.homes; views = vs ++ new_helper ∷ [] })
    (sym same)
    (views_step s kept (s.views ++ new_helper ∷ []) (at_longer s.views (new_helper ∷ []) 0 kept.crew kept.leads)
    (λ cell. same_snoc s.views new_helper cell refl)
    (λ seat u is on. ⊎_elim
    (λ (t : get_elem? s.views seat ≡ some u). kept.stopped seat u t on)
    (λ (t : new_helper ≡ u). (let off : new_helper.stopped ≡ true = ap (λ (z : View). z.stopped) t ∙ on in
    absurd (cc off)))
    (at_snoc s.views new_helper u seat is)))

-- the crew's seat is the first, and the other has taken nothing
pub join_allowed : (v : View) (other : ℕ) (w : View) → w.taken ≡ None → Joins CellRule 0 v other w v new_helper
join_allowed v other w idle s kept at apart there_too =
    let same : set s.views 0 v ≡ s.views = set_again s.views 0 v at in
    let its : get_elem? s.views other ≡ some w =
    subst (λ (vs : List View). get_elem? vs other ≡ some w) same there_too in
    subst (λ (vs : List View). CellRule record { words = s.words; homes = s.homes; views = set vs other new_helper })
    (sym same)
    (views_step s kept (set s.views other new_helper) (set_else s.views other 0 new_helper (λ e. apart (sym e))
    ∙ kept.leads)
    (λ cell. same_set s.views other w new_helper cell its (λ job e. absurd (cc (idle, e))) (λ job e. absurd (cc e)))
    (λ seat u is on. ⊎_elim
    (λ (t : (seat ≡ other) × (new_helper ≡ u)). (let off : new_helper.stopped ≡ true = ap (λ (z : View). z.stopped) t.1
    ∙ on in absurd (cc off)))
    (λ (t : (seat ≢ other) × (get_elem? s.views seat ≡ some u)). kept.stopped seat u t.1 on)
    (at_set s.views other seat new_helper u is)))
