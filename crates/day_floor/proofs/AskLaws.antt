-- Calls of a keeper, one after another.
use Rattle.std.proofs.Common.{◌≡◌, ℕ, ◌+◌, ◌-◌, ◌<◌, ◌≤◌, true, false, List, [], ◌∷◌, ◌++◌, Some, None, Result, sym, ap}
use Rattle.std.proofs.Common.{subst, ◌∙◌, refl, ⊎_elim, arith}
use Rattle.std.proofs.lemmas.Bool.{cases_lt}
use Rattle.road_time.specs.declared.road.Tuple.{Tuple}
use Rattle.road_time.specs.declared.road.Tuple.TheVariants.{Report as ReportTuple, Balance as BalanceTuple}
use Rattle.road_time.specs.declared.road.Tuple.TheVariants.{Spent as SpentTuple, Travel}
use Rattle.road_time.specs.Sights.{Sight}
use Rattle.road_time.specs.Tolls.{StretchTold}
use Rattle.keep_office.specs.declared.kept.KeepFault.{KeepFault}
use Rattle.keep_office.specs.Calls.{GoesAsPlanned, has_failed}
use Rattle.day_floor.specs.Slots.{slot_of}
use Rattle.day_floor.specs.Asking.{AskingPlan, PassesCalls, PassesUpTo, FailsAfter, asked_by, requests_of, slot_asked}

-- no call was made
pub passes_none : (p : AskingPlan) → PassesCalls 0 p p
passes_none None = tt
passes_none (Some p) = (λ i h. (let no : ⊥ = omega (arith, h) in absurd no), λ i. ap p (omega arith))

-- a call that did not fail
pub passes_one : {T : Type 0} (p q : AskingPlan) (r : Result T KeepFault) → GoesAsPlanned p q r → has_failed r ≡ false →
    PassesCalls 1 p q
passes_one None q r h e = tt
passes_one (Some p) None r h e = absurd h
passes_one (Some p) (Some q) r h e =
    (λ i le. subst (λ n. p n ≡ false) (let z : 0 ≡ i = omega (arith, le) in z) (sym h.0 ∙ e), h.1)

-- a call that failed
pub fails_now : {T : Type 0} (p q : AskingPlan) (r : Result T KeepFault) → GoesAsPlanned p q r → has_failed r ≡ true →
    FailsAfter 0 p q
fails_now None q r h e = tt
fails_now (Some p) None r h e = absurd h
fails_now (Some p) (Some q) r h e = (λ i le. (let no : ⊥ = omega (arith, le) in absurd no), sym h.0 ∙ e, h.1)

-- calls that pass, and then further ones
pub passes_on : (a b c : AskingPlan) (m n : ℕ) → PassesCalls m a b → PassesCalls n b c → PassesCalls (m + n) a c
passes_on None b c m n h k = tt
passes_on (Some p) None c m n h k = absurd h
passes_on (Some p) (Some q) None m n h k = absurd k
passes_on (Some p) (Some q) (Some r) m n h k = (
  λ i le.
      ⊎_elim (λ (low : i < m). h.0 i low)
      (λ (high : m ≤ i). (let at : (i - m) + m ≡ i = omega (arith, high) in
      subst (λ j. p j ≡ false) at (sym (h.1 (i - m)) ∙ k.0 (i - m) (omega (arith, le, high)))))
      (cases_lt i m),
  λ i. k.1 i ∙ (h.1 (i + n) ∙ ap p (omega arith)),
)

-- calls that pass, and then some that do and one that fails
pub fails_on : (a b c : AskingPlan) (m n : ℕ) → PassesCalls m a b → FailsAfter n b c → FailsAfter (m + n) a c
fails_on None b c m n h k = tt
fails_on (Some p) None c m n h k = absurd h
fails_on (Some p) (Some q) None m n h k = absurd k
fails_on (Some p) (Some q) (Some r) m n h k = (
  λ i le.
      ⊎_elim (λ (low : i < m). h.0 i low)
      (λ (high : m ≤ i). (let at : (i - m) + m ≡ i = omega (arith, high) in
      subst (λ j. p j ≡ false) at (sym (h.1 (i - m)) ∙ k.0 (i - m) (omega (arith, le, high)))))
      (cases_lt i m),
  ap p (omega arith) ∙ (sym (h.1 n) ∙ k.1),
  λ i. k.2 i ∙ (h.1 (i + (n + 1)) ∙ ap p (omega arith)),
)

-- calls that pass, and then at most so many more
pub up_to_on : (a b c : AskingPlan) (m n : ℕ) → PassesCalls m a b → PassesUpTo n b c → PassesUpTo (m + n) a c
up_to_on a b c m n h k = (let few = k.1 in (m + k.0, omega (arith, few), passes_on a b c m k.0 h k.2))

-- at most so many are at most more
pub up_to_more : (a b : AskingPlan) (m n : ℕ) → m ≤ n → PassesUpTo m a b → PassesUpTo n a b
up_to_more a b m n le h = (let few = h.1 in (h.0, omega (arith, few, le), h.2))

-- all are at most all
pub up_to_all : (a b : AskingPlan) (n : ℕ) → PassesCalls n a b → PassesUpTo n a b
up_to_all a b n h = (n, omega arith, h)

-- the keeper is asked for the one run's requests and for the other's
pub asked_both : (xs ys : List Tuple) → requests_of (xs ++ ys) ≡ requests_of xs + requests_of ys
asked_both [] ys = omega arith
asked_both (x ∷ xs) ys = let rest = asked_both xs ys in omega arith

-- with one tuple more
pub asked_more : (xs : List Tuple) (x : Tuple) → requests_of (xs ++ x ∷ []) ≡ requests_of xs + asked_by x
asked_more xs x = let both = asked_both xs (x ∷ []) in omega arith

-- a slot asks as its tuple does
pub asked_slot : (finding : Sight → StretchTold) (before : List Tuple) (x : Tuple) →
    slot_asked (slot_of finding (before, x)).due ≡ asked_by x
asked_slot finding before (ReportTuple r) = refl
asked_slot finding before (BalanceTuple time vid qid) = refl
asked_slot finding before (SpentTuple time vid xway qid day) = refl
asked_slot finding before (Travel time) = refl
