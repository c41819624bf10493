-- what acceptors did in all
use Rattle.std.proofs.Common.{◌≡◌, ◌≤◌, ◌+◌, ◌++◌, ◌∷◌, [], ℕ, List, Bool, true, false, suc, refl, sym, ap, subst}
use Rattle.std.proofs.Common.{◌∙◌, ⊎_elim, arith, ◌||◌}
use Rattle.std.specs.List.{list_any, AllZip}
use Rattle.std.proofs.lemmas.Bool.{cases_Bool, false≢true}
use Rattle.std.proofs.lemmas.List.Sums.{sum_by_push}
use Rattle.std.proofs.lemmas.List.Elements.{AllZip-push}
use Rattle.std.proofs.lemmas.List.Folds.{list_any-append}
use Rattle.serve_loops.specs.declared.acceptor.Acceptor.{Acceptor}
use Rattle.serve_loops.specs.Acceptors.{AcceptorServes, AcceptorRan, RanAll, AnyRose, TakesTurns, AcceptorTurned}

-- an acceptor that is served, and served on without a failure, is served
pub serves_on : {N Q : Type 0} (faults : N → ℕ) (follows : Q → Q → Type 0)
    (on : (p q r : Q) → follows p q → follows q r → follows p r) (old mid new : Acceptor N Q) →
    AcceptorServes faults follows old mid → mid.failed ≡ false → AcceptorServes faults follows mid new →
    new.failed ≡ false → AcceptorServes faults follows old new
serves_on faults follows on old mid new before sound more fine =
    record {
      later = omega (arith, before.later, more.later);
      cause = λ failed. absurd (false≢true (sym fine ∙ failed));
      still = λ _. more.still fine ∙ before.still sound;
      went = on old.reader mid.reader new.reader before.went more.went;
    }

-- an acceptor that did no turn
pub no_turn : {N Q : Type 0} (accepted : N → ℕ) (turn : N → Q → N → Q → Type 0) (old new : Acceptor N Q) →
    new.listener ≡ old.listener → new.reader ≡ old.reader → AcceptorTurned accepted turn old new
no_turn accepted turn old new listener reader =
    let same = ap accepted listener in
    record {
      count = 0;
      last = old.listener;
      counted = omega (arith, same);
      turns = (refl, reader);
      over = λ _. listener;
    }

-- an acceptor that did one turn more
pub one_turn : {N Q : Type 0} (accepted : N → ℕ) (turn : N → Q → N → Q → Type 0) (old mid new : Acceptor N Q) →
    AcceptorTurned accepted turn old mid → mid.failed ≡ false →
    turn mid.listener mid.reader new.listener new.reader → accepted new.listener ≡ accepted mid.listener + 1 →
    AcceptorTurned accepted turn old new
one_turn accepted turn old mid new before fine turned more =
    record {
      count = suc before.count;
      last = new.listener;
      counted = omega (arith, before.counted, more);
      turns = (
        before.last,
        mid.reader,
        before.turns,
        subst (λ l. turn l mid.reader new.listener new.reader) (before.over fine) turned,
      );
      over = λ _. refl;
    }

-- an acceptor that failed in place of a turn
pub failed_turn : {N Q : Type 0} (accepted : N → ℕ) (turn : N → Q → N → Q → Type 0) (old mid new : Acceptor N Q) →
    AcceptorTurned accepted turn old mid → new.failed ≡ true → new.reader ≡ mid.reader →
    accepted new.listener ≡ accepted mid.listener → AcceptorTurned accepted turn old new
failed_turn accepted turn old mid new before failed reader none =
    record {
      count = before.count;
      last = before.last;
      counted = omega (arith, before.counted, none);
      turns = subst (λ q. TakesTurns turn before.count old.listener old.reader before.last q) (sym reader) before.turns;
      over = λ fine. absurd (false≢true (sym fine ∙ failed));
    }

-- an acceptor accepted at most as many connections as it drew tickets
few : {N Q : Type 0} (faults accepted : N → ℕ) (follows : Q → Q → Type 0) (turn : N → Q → N → Q → Type 0) (x y : Acceptor N Q) (d e : ℕ) →
    AcceptorRan faults accepted follows turn x y d e → accepted y.listener ≤ d
few faults accepted follows turn x y d e one =
    ⊎_elim (λ (yes : y.failed ≡ true). omega (arith, one.failed yes))
    (λ (no : y.failed ≡ false). omega (arith, one.served no)) (cases_Bool y.failed)

-- neither of two is true
neither : (a b : Bool) → (a || (b || false)) ≡ false → (a ≡ false) × (b ≡ false)
neither true b e = absurd (false≢true (sym e))
neither false true e = absurd (false≢true (sym e))
neither false false e = (refl, refl)

-- no acceptor failed, the last one neither
apart : {N Q : Type 0} (ys : List (Acceptor N Q)) (y : Acceptor N Q) → list_any (λ acceptor. acceptor.failed) (ys ++ y ∷ []) ≡ false →
    (list_any (λ acceptor. acceptor.failed) ys ≡ false) × (y.failed ≡ false)
apart ys y e =
    neither (list_any (λ acceptor. acceptor.failed) ys) y.failed
    (sym (list_any-append (λ acceptor. acceptor.failed) ys (y ∷ [])) ∙ e)

-- one acceptor more ran
ran_push : {N Q : Type 0} (faults accepted : N → ℕ) (follows : Q → Q → Type 0) (turn : N → Q → N → Q → Type 0) (xs ys : List (Acceptor N Q))
    (x y : Acceptor N Q) (a b d e : ℕ) →
    RanAll faults accepted follows turn xs ys a b → AcceptorRan faults accepted follows turn x y d e →
    RanAll faults accepted follows turn (xs ++ x ∷ []) (ys ++ y ∷ []) (a + d) (b + e)
ran_push faults accepted follows turn xs ys x y a b d e all one =
    let more = sum_by_push (λ acceptor. accepted acceptor.listener) ys y in
    let less = few faults accepted follows turn x y d e one in
    record {
      serves = AllZip-push (AcceptorServes faults follows) xs ys x y all.serves one.serves;
      turned = AllZip-push (AcceptorTurned accepted turn) xs ys x y all.turned one.turned;
      within = omega (arith, more, less, all.within);
      served = λ none. (let (old, new) = apart ys y none in omega (arith, more, all.served old, one.served new));
      over = λ none some. omega (arith, one.over (apart ys y none).1);
    }

-- the same, of a list and sums that are known to be so
pub ran_behind : {N Q : Type 0} (faults accepted : N → ℕ) (follows : Q → Q → Type 0) (turn : N → Q → N → Q → Type 0)
    (xs ys done : List (Acceptor N Q)) (x y : Acceptor N Q) (a b d e drawn ends : ℕ) →
    done ≡ ys ++ y ∷ [] → drawn ≡ a + d → ends ≡ b + e →
    RanAll faults accepted follows turn xs ys a b → AcceptorRan faults accepted follows turn x y d e →
    RanAll faults accepted follows turn (xs ++ x ∷ []) done drawn ends
ran_behind faults accepted follows turn xs ys done x y a b d e drawn ends p q r many one =
    rw (p, q, r) (ran_push faults accepted follows turn xs ys x y a b d e many one)

-- where an acceptor failed, the count of its listener rose
pub any_rose : {N Q : Type 0} (faults : N → ℕ) (follows : Q → Q → Type 0) (xs ys : List (Acceptor N Q)) → AllZip (AcceptorServes faults follows) xs ys →
    list_any (λ acceptor. acceptor.failed) ys ≡ true → AnyRose faults xs ys
any_rose faults follows [] [] z e = absurd (false≢true e)
any_rose faults follows [] (y ∷ ys) z e = absurd z
any_rose faults follows (x ∷ xs) [] z e = absurd z
any_rose faults follows (x ∷ xs) (y ∷ ys) (one, more) e =
    ⊎_elim (λ (yes : y.failed ≡ true). (0, (x, y), omega arith, refl, one.cause yes))
    (λ (no : y.failed ≡ false). there (any_rose faults follows xs ys more (sym (ap (λ b. b || rest) no) ∙ e)))
    (cases_Bool y.failed)
  where
    rest : Bool
    rest = list_any (λ acceptor. acceptor.failed) ys

    there : AnyRose faults xs ys → AnyRose faults (x ∷ xs) (y ∷ ys)
    there (k, p, less, at, rose) = (suc k, p, omega (arith, less), at, rose)
