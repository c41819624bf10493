-- Each step on a cell keeps the rule.
use Rattle.std.proofs.Common.{◌≡◌, ◌≢◌, ℕ, zero, suc, ◌<◌, eqb, List, [], ◌∷◌, length, set, get_or, refl, sym, ap, ◌∙◌}
use Rattle.std.proofs.Common.{subst, arith, Option, Some, None, length-set, get_or-set_other, get_or-set_same, eq-eqb}
use Rattle.std.proofs.Common.{ne_eqb}
use mathlib.Core.Logic.{dite}
use mathlib.Core.Option.{Option as Maybe, none, some, some-injective}
use native.Mathlib.Decide.{ℕ_discrete}
use lib.ListN.{get_elem?}
use lib.Seq.{set-get_or}
use Rattle.atomic_table.specs.Table.{step, Allows, keeps, takes, gives, stepped}
use Rattle.ways_expressway.specs.declared.job.Job.{Job}
use Rattle.ways_expressway.specs.Results.{IsResultOf}
use prog.Atomic.{either}
use Rattle.ways_crews.specs.declared.cells.Parcel.{Parcel}
use Rattle.ways_crews.specs.declared.cells.Parcel.TheVariants.{Waiting, Finished}
use Rattle.ways_crews.specs.declared.cells.View.{View}
use Rattle.ways_crews.specs.Views.{input_of, with_input, CanBeRun}
use Rattle.ways_crews.specs.Cells.{St, CellIs, CellRule, HasNoTaker}
use Rattle.ways_crews.specs.Steps.{opens, announces, collects, shuts}
use Rattle.ways_crews.proofs.Takers.{there, same_set, none_stays}
use Rattle.ways_crews.proofs.Keeps.{unmoved, cell_step}

abbrev Held : Type 0
Held = List (ℕ × Option Parcel)

-- the view of a seat is the crew's where it is the first
crew_is : (s : St) (kept : CellRule s) (v : View) → get_elem? s.views 0 ≡ some v → kept.crew ≡ v
crew_is s kept v at = some-injective kept.crew v (sym kept.leads ∙ at)

-- an input that is set
pub input_here : (v : View) (i : ℕ) (x : Option Job) → i < length v.given → input_of (with_input v i x) i ≡ x
input_here v i x below = get_or-set_same v.given i x None below

pub input_else : (v : View) (i k : ℕ) (x : Option Job) → k ≢ i → input_of (with_input v i x) k ≡ input_of v k
input_else v i k x ne = get_or-set_other v.given i k x None ne

-- an input that is set to what it was
unset : (v : View) (i : ℕ) → input_of v i ≡ None → with_input v i None ≡ v
unset v i e =
    ap (λ (xs : List (Option Job)). record v { given = xs }) (ap (set v.given i) (sym e) ∙ set-get_or v.given i None)

-- the crew's own steps: with a seat that is the first, a cell's word, slot and input change, and nobody has taken it
crew_step : (s : St) (kept : CellRule s) (i n : ℕ) (home : Maybe (Option Parcel)) (v : View) (input : Option Job) →
    i < length s.homes → get_elem? s.views 0 ≡ some v
    → CellIs n (some home) input (set s.views 0 (with_input v i input)) i
    → CellRule record {
      words = set s.words i n;
      homes = set s.homes i home;
      views =
          set s.views 0 (with_input v i input);
    }
crew_step s kept i n home v input below at here =
    let is : kept.crew ≡ v = crew_is s kept v at in
    let sized : length v.given ≡ length s.homes =
    subst (λ (z : View). length z.given ≡ length s.homes) is kept.inputs in
    let w : View = with_input v i input in
    cell_step s kept i n 0 home v w w below at refl (λ k job ne e. e) (λ k job ne e. e) (there s.views 0 v w at)
    (length-set v.given i input ∙ ap (λ (z : View). length z.given) (sym is))
    (λ k ne. input_else v i k input ne ∙ ap (λ (z : View). input_of z k) (sym is))
    (subst (λ (z : Option Job). CellIs n (some home) z (set s.views 0 w) i)
    (sym (input_here v i input (subst (λ (z : ℕ). i < z) (sym sized) below))) here)

-- nobody has taken a cell for which the crew has no input
untaken_free : (s : St) (kept : CellRule s) (i : ℕ) (v : View) → i < length s.homes → get_elem? s.views 0 ≡ some v →
    input_of v i ≡ None → HasNoTaker s.views i
untaken_free s kept i v below at free = let c = kept.cells i below in
    let mine : input_of kept.crew i ≡ None = ap (λ (z : View). input_of z i) (crew_is s kept v at) ∙ free in
    c.untaken (λ two. let t = c.taken two in let e : input_of kept.crew i ≡ Some t.0 = t.1 in absurd (cc (mine, e)))

-- and none has where the crew's inputs alone change
still_untaken : (views : List View) (i : ℕ) (v : View) (input : Option Job) → get_elem? views 0 ≡ some v →
    HasNoTaker views i → HasNoTaker (set views 0 (with_input v i input)) i
still_untaken views i v input at =
    none_stays views _ i (same_set views 0 v (with_input v i input) i at (λ job e. e) (λ job e. e))

pub open_allowed : (slots i : ℕ) (v : View) (held : Held) → i < slots
    → Allows CellRule slots 0 (v, held) i (λ n. either (eqb n 0) 4 n) (opens (step slots i 0 4 none) (v, held))
open_allowed slots i v held inside s kept count at small = let x : ℕ = get_or s.words i 0 in
    let below : i < length s.homes = omega arith in let c = kept.cells i below in dite (ℕ_discrete x 0)
    (λ hit. let f = c.free hit in
    let mine : input_of v i ≡ None = ap (λ (z : View). input_of z i) (sym (crew_is s kept v at)) ∙ f.0 in
    let untaken : HasNoTaker s.views i = c.untaken (λ e. omega arith) in
    let next : CellRule record {
      words = set s.words i 4;
      homes = set s.homes i none;
      views =
          set s.views 0 (with_input v i None);
    } =
    crew_step s kept i 4 none v None below at record {
      known = omega arith;
      free = λ e. absurd (omega arith);
      ready = λ e. absurd (omega arith);
      taken = λ e. absurd (omega arith);
      done = λ e. absurd (omega arith);
      opened = λ _. (refl, refl);
      untaken = λ _. still_untaken s.views i v None at untaken;
    } in
    let same : with_input v i None ≡ v = unset v i mine in (
      v,
      takes i None,
      f.1,
      subst (λ b. CellRule (stepped s i (either b 4 x) 0 held v (takes i None))) (sym (eq-eqb x 0 hit))
          (subst (λ (z : View). CellRule record {
            words = set s.words i 4;
            homes = set s.homes i none;
            views =
                set s.views 0 z;
          }) same next),
      ((λ _. refl), λ ne. absurd (ne hit)),
    ))
    (λ miss. (
      v,
      keeps,
      tt,
      subst (λ b. CellRule (stepped s i (either b 4 x) 0 held v keeps)) (sym (ne_eqb x 0 miss))
          (unmoved s i 0 held v at kept),
      ((λ e. absurd (miss e)), λ _. refl),
    ))

pub announce_allowed : (slots i : ℕ) (v : View) (job : Job) (more : Held) → i < slots → input_of v i ≡ None →
    CanBeRun job
    → Allows CellRule slots 0 (v, (i, Some (Waiting job)) ∷ more) i (λ _. 1)
    (λ _. announces (step slots i 1 0 none) (v, (i, Some (Waiting job)) ∷ more) 1)
announce_allowed slots i v job more inside free can s kept count at small = let below : i < length s.homes =
    omega arith in (
      with_input v i (Some job),
      gives,
      tt,
      crew_step s kept i 1 (some (Some (Waiting job))) v (Some job) below at record {
        known = omega arith;
        free = λ e. absurd (omega arith);
        ready = λ _. (job, refl, refl, can);
        taken = λ e. absurd (omega arith);
        done = λ e. absurd (omega arith);
        opened = λ e. absurd (omega arith);
        untaken = λ _. still_untaken s.views i v (Some job) at (untaken_free s kept i v below at free);
      },
      refl,
    )

pub collect_allowed : (slots i : ℕ) (v : View) (held : Held) → i < slots
    → Allows CellRule slots 0 (v, held) i (λ n. either (eqb n 3) 4 n) (collects (step slots i 3 4 none) (v, held))
collect_allowed slots i v held inside s kept count at small = let x : ℕ = get_or s.words i 0 in
    let below : i < length s.homes = omega arith in let c = kept.cells i below in dite (ℕ_discrete x 3)
    (λ hit. let d = c.done hit in
    let mine : input_of v i ≡ Some d.0 = ap (λ (z : View). input_of z i) (sym (crew_is s kept v at)) ∙ d.2 in
    let untaken : HasNoTaker s.views i = c.untaken (λ e. omega arith) in (
      with_input v i None,
      takes i (Some (Finished d.1)),
      d.3,
      subst (λ b. CellRule (stepped s i (either b 4 x) 0 held (with_input v i None) (takes i (Some (Finished d.1)))))
          (sym (eq-eqb x 3 hit))
          (crew_step s kept i 4 none v None below at record {
            known = omega arith;
            free = λ e. absurd (omega arith);
            ready = λ e. absurd (omega arith);
            taken = λ e. absurd (omega arith);
            done = λ e. absurd (omega arith);
            opened = λ _. (refl, refl);
            untaken = λ _. still_untaken s.views i v None at untaken;
          }),
      (
        (λ _. (
          d.1,
          (λ job e. (let same : d.0 ≡ job = cc (mine, e) in subst (λ (z : Job). IsResultOf z d.1) same d.4)),
          refl,
        )),
        λ ne. absurd (ne hit),
      ),
    ))
    (λ miss. (
      v,
      keeps,
      tt,
      subst (λ b. CellRule (stepped s i (either b 4 x) 0 held v keeps)) (sym (ne_eqb x 3 miss))
          (unmoved s i 0 held v at kept),
      ((λ e. absurd (miss e)), λ _. refl),
    ))

pub shut_allowed : (slots i : ℕ) (v : View) (more : Held) → i < slots → input_of v i ≡ None
    → Allows CellRule slots 0 (v, (i, None) ∷ more) i (λ _. 0)
    (λ _. shuts (step slots i 0 0 none) (v, (i, None) ∷ more) 0)
shut_allowed slots i v more inside free s kept count at small = let below : i < length s.homes = omega arith in
    let next : CellRule record {
      words = set s.words i 0;
      homes = set s.homes i (some None);
      views =
          set s.views 0 (with_input v i None);
    } =
    crew_step s kept i 0 (some None) v None below at record {
      known = omega arith;
      free = λ _. (refl, refl);
      ready = λ e. absurd (omega arith);
      taken = λ e. absurd (omega arith);
      done = λ e. absurd (omega arith);
      opened = λ e. absurd (omega arith);
      untaken = λ _. still_untaken s.views i v None at (untaken_free s kept i v below at free);
    } in (
      v,
      gives,
      tt,
      subst (λ (z : View). CellRule record {
        words = set s.words i 0;
        homes = set s.homes i (some None);
        views =
            set s.views 0 z;
      }) (unset v i free) next,
      refl,
    )

-- an input that was taken away is none
cleared_in : (xs : List (Option Job)) (i : ℕ) → get_or (set xs i None) i None ≡ None
cleared_in [] i = refl
cleared_in (x ∷ xs) zero = refl
cleared_in (x ∷ xs) (suc i) = cleared_in xs i

pub cleared : (v : View) (i : ℕ) → input_of (with_input v i None) i ≡ None
cleared v i = cleared_in v.given i
