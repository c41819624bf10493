-- The rule is kept where one cell changes, and where none does.
use Rattle.std.proofs.Common.{◌≡◌, ◌≢◌, ℕ, zero, suc, ◌+◌, ◌≤◌, ◌<◌, true, List, [], ◌∷◌, length, set, get_or, refl}
use Rattle.std.proofs.Common.{sym, ap, ◌∙◌, subst, ⊎_elim, arith, Option, Some, length-set, get_or-set_other}
use Rattle.std.proofs.Common.{get_or-set_same}
use mathlib.Core.Logic.{dite}
use mathlib.Core.Option.{Option as Maybe, none, some, some-injective}
use native.Mathlib.Decide.{ℕ_discrete}
use lib.ListN.{get_elem?}
use lib.Seq.{set-get_or}
use Rattle.atomic_table.specs.Table.{keeps, stepped}
use Rattle.atomic_table.proofs.Lists.{at_set, set_else, set_again}
use Rattle.ways_expressway.specs.declared.job.Job.{Job}
use Rattle.ways_crews.specs.declared.cells.Parcel.{Parcel}
use Rattle.ways_crews.specs.declared.cells.View.{View}
use Rattle.ways_crews.specs.Views.{input_of}
use Rattle.ways_crews.specs.Cells.{St, CellIs, CellRule}
use Rattle.ways_crews.proofs.Takers.{there, SameTakers, cell_stays, same_set}

-- from one state to another only the cell i changes
pub record Goes (s t : St) (i : ℕ) (kept : CellRule s) : Type 0 where
  pub crew : View
  pub leads : get_elem? t.views 0 ≡ some crew
  pub long : length crew.given ≡ length kept.crew.given
  pub inputs : (k : ℕ) → k ≢ i → input_of crew k ≡ input_of kept.crew k
  pub count : length t.homes ≡ length s.homes
  pub word_count : length t.words ≡ length s.words
  pub homes : (k : ℕ) → k ≢ i → get_elem? t.homes k ≡ get_elem? s.homes k
  pub words : (k : ℕ) → k ≢ i → k < length s.homes → get_or t.words k 0 ≡ get_or s.words k 0
  pub takers : (k : ℕ) → k ≢ i → SameTakers s.views t.views k
  pub here : i < length s.homes → CellIs (get_or t.words i 0) (get_elem? t.homes i) (input_of crew i) t.views i
  pub stop : get_or t.words (length s.homes) 0 ≤ 1
  pub stopped : (seat : ℕ) (v : View) → get_elem? t.views seat ≡ some v → v.stopped ≡ true →
      get_or t.words (length s.homes) 0 ≡ 1

cell_after : (s t : St) (i : ℕ) (kept : CellRule s) (g : Goes s t i kept) (k : ℕ) → k < length s.homes →
    CellIs (get_or t.words k 0) (get_elem? t.homes k) (input_of g.crew k) t.views k
cell_after s t i kept g k below = dite (ℕ_discrete k i)
    (λ e. subst (λ (z : ℕ). CellIs (get_or t.words z 0) (get_elem? t.homes z) (input_of g.crew z) t.views z) (sym e)
    (g.here (subst (λ (z : ℕ). z < length s.homes) e below)))
    (λ ne. subst (λ (z : ℕ). CellIs z (get_elem? t.homes k) (input_of g.crew k) t.views k) (sym (g.words k ne below))
    (subst (λ (z : Maybe (Maybe (Option Parcel))). CellIs (get_or s.words k 0) z (input_of g.crew k) t.views k)
    (sym (g.homes k ne))
    (subst (λ (z : Option Job). CellIs (get_or s.words k 0) (get_elem? s.homes k) z t.views k) (sym (g.inputs k ne))
    (cell_stays _ _ _ s.views t.views k (g.takers k ne) (kept.cells k below)))))

pub kept_after : (s t : St) (i : ℕ) (kept : CellRule s) → Goes s t i kept → CellRule t
kept_after s t i kept g = record {
  crew = g.crew;
  leads = g.leads;
  inputs = g.long ∙ (kept.inputs ∙ sym g.count);
  words = g.word_count ∙ (kept.words ∙ ap (λ (n : ℕ). n + 4) (sym g.count));
  cells = λ k below. cell_after s t i kept g k (subst (λ (n : ℕ). k < n) g.count below);
  stop = subst (λ (n : ℕ). get_or t.words n 0 ≤ 1) (sym g.count) g.stop;
  stopped = λ seat v at on. subst (λ (n : ℕ). get_or t.words n 0 ≡ 1) (sym g.count) (g.stopped seat v at on);
}

-- nothing changes
pub unmoved : (s : St) (i id : ℕ) (c : List (ℕ × Option Parcel)) (v : View) → get_elem? s.views id ≡ some v → CellRule s
    → CellRule (stepped s i (get_or s.words i 0) id c v keeps)
unmoved s i id c v at kept =
    subst (λ (ws : List ℕ). CellRule record { words = ws; homes = s.homes; views = set s.views id v })
    (sym (set-get_or s.words i 0))
    (subst (λ (vs : List View). CellRule record { words = s.words; homes = s.homes; views = vs })
    (sym (set_again s.views id v at)) kept)

-- the crew's view after a step that leaves each seat's inputs as they were
pub crew_stays : (views : List View) (id : ℕ) (v w c : View) → get_elem? views id ≡ some v → get_elem? views 0 ≡ some c
    → w.given ≡ v.given
    → (crew : View) × (get_elem? (set views id w) 0 ≡ some crew) × (crew.given ≡ c.given)
crew_stays views id v w c at leads same = dite (ℕ_discrete 0 id)
    (λ e. (
      w,
      subst (λ (k : ℕ). get_elem? (set views id w) k ≡ some w) (sym e) (there views id v w at),
      same ∙ ap (λ (z : View). z.given) (some-injective v c (sym at ∙ (ap (get_elem? views) (sym e) ∙ leads))),
    ))
    (λ ne. (c, set_else views id 0 w ne ∙ leads, refl))

-- who knows of the stop after a step that leaves that as it was
pub stop_stays : (s : St) (kept : CellRule s) (id : ℕ) (v w : View) → get_elem? s.views id ≡ some v →
    w.stopped ≡ v.stopped
    → (seat : ℕ) (u : View) → get_elem? (set s.views id w) seat ≡ some u → u.stopped ≡ true →
    get_or s.words (length s.homes) 0 ≡ 1
stop_stays s kept id v w at same seat u is on = ⊎_elim
    (λ (t : (seat ≡ id) × (w ≡ u)). kept.stopped id v at (sym same ∙ (ap (λ (z : View). z.stopped) t.1 ∙ on)))
    (λ (t : (seat ≢ id) × (get_elem? s.views seat ≡ some u)). kept.stopped seat u t.1 on)
    (at_set s.views id seat w u is)

in_list : {A : Type 0} (l : List A) (i : ℕ) (d : A) → i < length l → get_elem? l i ≡ some (get_or l i d)
in_list [] i d h = absurd (omega arith)
in_list (x ∷ xs) zero d h = refl
in_list (x ∷ xs) (suc i) d h = in_list xs i d (omega arith)

-- one cell's word, slot and takers change, and the crew's input for it
pub cell_step : (s : St) (kept : CellRule s) (i n id : ℕ) (home : Maybe (Option Parcel)) (v w crew : View) →
    i < length s.homes → get_elem? s.views id ≡ some v
    → w.stopped ≡ v.stopped
    → ((k : ℕ) (job : Job) → k ≢ i → v.taken ≡ Some (k, job) → w.taken ≡ Some (k, job)) →
    ((k : ℕ) (job : Job) → k ≢ i → w.taken ≡ Some (k, job) → v.taken ≡ Some (k, job))
    → get_elem? (set s.views id w) 0 ≡ some crew → length crew.given ≡ length kept.crew.given →
    ((k : ℕ) → k ≢ i → input_of crew k ≡ input_of kept.crew k)
    → CellIs n (some home) (input_of crew i) (set s.views id w) i
    → CellRule record { words = set s.words i n; homes = set s.homes i home; views = set s.views id w }
cell_step s kept i n id home v w crew below at same to fro leads long inputs here =
    let wide : i < length s.words = (let l = kept.words in omega arith) in
    let old : get_elem? s.homes i ≡ some (get_or s.homes i none) = in_list s.homes i none below in
    let stop_word : get_or (set s.words i n) (length s.homes) 0 ≡ get_or s.words (length s.homes) 0 =
    get_or-set_other s.words i (length s.homes) n 0 (λ e. omega arith) in
    kept_after s _ i kept record {
      crew = crew;
      leads = leads;
      long = long;
      inputs = inputs;
      count = length-set s.homes i home;
      word_count = length-set s.words i n;
      homes = λ k ne. set_else s.homes i k home ne;
      words = λ k ne _. get_or-set_other s.words i k n 0 ne;
      takers = λ k ne. same_set s.views id v w k at (λ job. to k job ne) (λ job. fro k job ne);
      here = λ _. subst (λ (z : ℕ). CellIs z (get_elem? (set s.homes i home) i) (input_of crew i) (set s.views id w) i)
          (sym (get_or-set_same s.words i n 0 wide))
          (subst (λ (z : Maybe (Maybe (Option Parcel))). CellIs n z (input_of crew i) (set s.views id w) i)
          (sym (there s.homes i _ home old)) here);
      stop = subst (λ (z : ℕ). z ≤ 1) (sym stop_word) kept.stop;
      stopped = λ seat u is on. stop_word ∙ stop_stays s kept id v w at same seat u is on;
    }
