-- shares of which one worker's changed
use Rattle.std.proofs.Common.{◌≡◌, ℕ, ◌==◌, ⊎_elim, List, [], ◌∷◌, true, false, cond, refl, ap, sym, subst}
use Rattle.std.proofs.lemmas.Bool.{cases_Bool, eqb-true, eq-eqb, ne_eqb}
use Rattle.ways_expressway.specs.declared.lane_event.LaneEvent.{LaneEvent}
use Rattle.day_floor.specs.Shares.{Share, can_give, is_empty}
use Rattle.day_floor.specs.Steps.{at_worker}

-- what holds of the changed share of the worker, and of the others' as they were
pub for_worker : (P : Share → Type 0) (worker w : ℕ) (change : Share → Share) (share : ℕ → Share) →
    (w ≡ worker → P (change (share w))) → P (share w) → P (at_worker worker change share w)
for_worker P worker w change share here there =
    ⊎_elim
    (λ b. subst P (sym (ap (λ x. cond x (change (share w)) (share w)) b)) (here (eqb-true w worker b)))
    (λ b. subst P (sym (ap (λ x. cond x (change (share w)) (share w)) b)) there)
    (cases_Bool (w == worker))

-- the worker's own share
pub at_own : (worker : ℕ) (change : Share → Share) (share : ℕ → Share) →
    at_worker worker change share worker ≡ change (share worker)
at_own worker change share = ap (λ b. cond b (change (share worker)) (share worker)) (eq-eqb worker worker refl)

-- another's
pub at_other : (worker w : ℕ) (change : Share → Share) (share : ℕ → Share) → (w ≡ worker → ⊥) →
    at_worker worker change share w ≡ share w
at_other worker w change share h = ap (λ b. cond b (change (share w)) (share w)) (ne_eqb w worker h)

-- a worker that may be given a job has none out
pub nothing_out : (share : Share) → can_give share ≡ true → share.out ≡ []
nothing_out share h = out_of share.out share.waiting h
  where
    out_of : (xs ys : List LaneEvent) → can_give (record { back = []; out = xs; waiting = ys; number = 0 }) ≡ true →
        xs ≡ []
    out_of [] ys q = refl
    out_of (x ∷ xs) ys q = cc

-- and events that wait
pub some_wait : (share : Share) → can_give share ≡ true → is_empty share.waiting ≡ false
some_wait share h = some_of share.out share.waiting h
  where
    some_of : (xs ys : List LaneEvent) → can_give (record { back = []; out = xs; waiting = ys; number = 0 }) ≡ true →
        is_empty ys ≡ false
    some_of [] [] q = cc
    some_of (x ∷ xs) [] q = cc
    some_of xs (y ∷ ys) q = refl
