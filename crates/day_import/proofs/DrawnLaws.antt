-- turns as a generator draws them
use Rattle.std.proofs.Common.{◌≡◌, ℕ, zero, suc, ◌+◌, ◌≤◌, Bool, true, false, List, length, refl, sym, subst}
use Rattle.std.proofs.Common.{arith}
use Rattle.std.specs.Prelude.{Result, Ok, Err, OnOk}
use Rattle.rand_pcg.specs.Lcg.{Lcg}
use Rattle.day_plan.specs.Draws.{drawn, after_draws}
use Rattle.road_time.specs.Tolls.{StretchTold}
use Rattle.day_floor.specs.Shares.{State}
use Rattle.day_import.specs.RoundRuns.{given_if}
use Rattle.day_import.specs.Drawn.{turn_size, after_size, finish_count, after_finishing, given_where, ComeAsDrawn}
use Rattle.day_import.specs.Drawn.{AreFinished}

-- how many tuples are asked for is drawn
pub size_drawn : (room : ℕ) (more : Bool) (g left : Lcg) (n : ℕ) →
    (1 ≤ room → more ≡ true → (n ≡ 1 + (drawn room g).0) × (left ≡ (drawn room g).1)) →
    (room ≡ 0 → (n ≡ 0) × (left ≡ g)) → (more ≡ false → (n ≡ 0) × (left ≡ g)) →
    (n ≡ turn_size room more g) × (left ≡ after_size room more g)
size_drawn zero more g left n some none ended = none refl
size_drawn (suc room) false g left n some none ended = ended refl
size_drawn (suc room) true g left n some none ended = some (omega arith) refl

-- what is finished is drawn
pub finishing_drawn : (held rest : ℕ) (g left : Lcg) → (held ≡ 0 → left ≡ g) →
    (1 ≤ held → (rest + (1 + (drawn held g).0) ≡ held) × (left ≡ after_draws (2 + (drawn held g).0) g)) →
    left ≡ after_finishing held g
finishing_drawn zero rest g left none some = none refl
finishing_drawn (suc held) rest g left none some = (some (omega arith)).1

-- as many came back as were drawn
count_drawn : (held rest k : ℕ) (g left : Lcg) → rest + k ≡ held →
    (1 ≤ held → (rest + (1 + (drawn held g).0) ≡ held) × (left ≡ after_draws (2 + (drawn held g).0) g)) →
    k ≡ finish_count held g
count_drawn zero rest k g left all some = omega (arith, all)
count_drawn (suc held) rest k g left all some = let h = (some (omega arith)).0 in omega (arith, h, all)

pub finished_drawn : (s : State) (g left : Lcg) (backs : List (ℕ × List (ℕ × StretchTold))) (held rest k : ℕ) →
    length s.outs ≡ held → rest + k ≡ held → length backs ≡ k → ComeAsDrawn g s backs → (held ≡ 0 → left ≡ g) →
    (1 ≤ held → (rest + (1 + (drawn held g).0) ≡ held) × (left ≡ after_draws (2 + (drawn held g).0) g)) →
    AreFinished s g left backs
finished_drawn s g left backs held rest k outs all long each none some = record {
  count = subst (λ n. length backs ≡ finish_count n g) (sym outs) (subst (λ n. n ≡ finish_count held g) (sym long)
      (count_drawn held rest k g left all some));
  each = each;
  left_is = subst (λ n. left ≡ after_finishing n g) (sym outs) (finishing_drawn held rest g left none some);
}

-- where a job is out no worker is given one
pub where_some : (held : ℕ) (s : State) (worker : ℕ) → (held ≡ 0 → ⊥) → s ≡ given_where held s worker
where_some zero s worker some = absurd (some refl)
where_some (suc held) s worker some = refl

-- where none is, the worker is
pub where_none : (held : ℕ) (s : State) (worker : ℕ) → held ≡ 0 → given_if s worker ≡ given_where held s worker
where_none zero s worker none = refl
where_none (suc held) s worker none = absurd (omega (arith, none))

-- what was refused owes nothing of what went well
pub none_ok : {T E : Type 0} (P : Type 0) (r : Result T E) (y : E) → r ≡ Err y → OnOk r P
none_ok P (Ok x) y is = let no : ⊥ = cc in absurd no
none_ok P (Err z) y is = tt
