-- What ears count, in acceptors and out of them.
use Rattle.std.proofs.Common.{◌≡◌, ◌∙◌, ◌<◌, ◌||◌, ℕ, zero, suc, Bool, true, false, refl, sym, subst, List, [], ◌∷◌}
use Rattle.std.proofs.Common.{inl, inr, ⊎_elim, map, length, arith, nat_lt, lt-ltb, Option, Some, None}
use Rattle.std.specs.List.{All, AllZip}
use Rattle.std.proofs.lemmas.Bool.{cases_Bool}
use Rattle.road_io.specs.Faults.{Rose}
use Rattle.serve_loops.specs.Acceptors.{AnyRose, HasFailedAcceptor, AcceptorServes, AcceptorTurned}
use Rattle.serve_loops.specs.declared.acceptor.Acceptor.{Acceptor}
use Rattle.serve_top.specs.Doors.{has_fault}
use Rattle.road_time.specs.declared.day.Limits.{Limits}
use Rattle.day_plan.specs.declared.work.Plan.{Plan}
use Rattle.serve_top.specs.declared.served_words.Serving.{Serving}
use Rattle.serve_top.specs.Served.{EarServed, ServedAsSaid}

-- acceptors of ears that accepted nothing have accepted nothing
pub fresh_in : {N Q : Type 0} (f h : N → ℕ) (acceptors : List (Acceptor N Q)) →
    All (λ ear. (f ear ≡ 0) × (h ear ≡ 0)) (map (λ acceptor. acceptor.listener) acceptors) → All (λ acceptor. f acceptor.listener ≡ 0) acceptors
fresh_in f h [] all k d below = absurd (omega arith)
fresh_in f h (acceptor ∷ acceptors) all zero d below = (all 0 d.listener (omega arith)).0
fresh_in f h (acceptor ∷ acceptors) all (suc k) d below =
    fresh_in f h acceptors (λ j e less. all (suc j) e (omega (arith, less))) k d (omega (arith, below))

-- a count that rose is not 0
rose_above : (before now : ℕ) → Rose before now → nat_lt 0 now ≡ true
rose_above before now rose = lt-ltb 0 now (omega (arith, rose))

or_true : (b : Bool) → (b || true) ≡ true
or_true true = refl
or_true false = refl

-- where the count of an acceptor's listener rose, an ear failed
pub rose_fails : {N Q : Type 0} (f : N → ℕ) (old new : List (Acceptor N Q)) → AnyRose f old new →
    has_fault f (map (λ acceptor. acceptor.listener) new) ≡ true
rose_fails f [] new (k, p, below, at, rose) = absurd (omega (arith, below))
rose_fails f (o ∷ old) [] (k, p, below, at, rose) = absurd (omega (arith, below))
rose_fails f (o ∷ old) (n ∷ new) (zero, p, below, at, rose) =
    let above : nat_lt 0 (f n.listener) ≡ true =
    subst (λ q. nat_lt 0 (f q.1.listener) ≡ true) (sym at) (rose_above (f p.0.listener) (f p.1.listener) rose) in
    rw above refl
rose_fails f (o ∷ old) (n ∷ new) (suc k, p, below, at, rose) =
    rw (rose_fails f old new (k, p, omega (arith, below), at, rose)) (or_true (nat_lt 0 (f n.listener)))

-- where no acceptor failed of ears that had not failed, no ear has
pub none_fails : {N Q : Type 0} (f h : N → ℕ) (follows : Q → Q → Type 0) (old new : List (Acceptor N Q)) →
    All (λ ear. (f ear ≡ 0) × (h ear ≡ 0)) (map (λ acceptor. acceptor.listener) old) → AllZip (AcceptorServes h follows) old new →
    (HasFailedAcceptor new → ⊥) → has_fault h (map (λ acceptor. acceptor.listener) new) ≡ false
none_fails f h follows [] [] all served none = refl
none_fails f h follows [] (y ∷ ys) all served none = absurd served
none_fails f h follows (x ∷ xs) [] all served none = absurd served
none_fails f h follows (x ∷ xs) (y ∷ ys) all (one, more) none =
    rw still (none_fails f h follows xs ys (λ k d less. all (suc k) d (omega (arith, less))) more there)
  where
    fine : y.failed ≡ false
    fine =
        ⊎_elim (λ (yes : y.failed ≡ true). absurd (none (0, y, omega arith, refl, yes)))
        (λ (no : y.failed ≡ false). no) (cases_Bool y.failed)

    still : h y.listener ≡ 0
    still = one.still fine ∙ (all 0 x.listener (omega arith)).1

    there : HasFailedAcceptor ys → ⊥
    there (k, p, below, at, failed) = none (suc k, p, omega (arith, below), at, failed)

-- what an acceptor served its ear served
ear_served : {N Q : Type 0} (faults accepted : N → ℕ) (follows : Q → Q → Type 0) (turn : N → Q → N → Q → Type 0) (x y : Acceptor N Q) →
    AcceptorServes faults follows x y → AcceptorTurned accepted turn x y → EarServed faults accepted turn x.listener y.listener
ear_served faults accepted follows turn x y serves turned =
    record {
      count = turned.count;
      last = turned.last;
      first = x.reader;
      behind = y.reader;
      counted = turned.counted;
      turns = turned.turns;
      over = ⊎_elim (λ (yes : y.failed ≡ true). inr (serves.cause yes))
          (λ (fine : y.failed ≡ false). inl (turned.over fine)) (cases_Bool y.failed);
    }

-- and so all of them
pub ears_served : {N Q : Type 0} (faults accepted : N → ℕ) (follows : Q → Q → Type 0) (turn : N → Q → N → Q → Type 0)
    (xs ys : List (Acceptor N Q)) → AllZip (AcceptorServes faults follows) xs ys → AllZip (AcceptorTurned accepted turn) xs ys →
    AllZip (EarServed faults accepted turn) (map (λ acceptor. acceptor.listener) xs) (map (λ acceptor. acceptor.listener) ys)
ears_served faults accepted follows turn [] [] a b = tt
ears_served faults accepted follows turn [] (y ∷ ys) a b = absurd a
ears_served faults accepted follows turn (x ∷ xs) [] a b = absurd a
ears_served faults accepted follows turn (x ∷ xs) (y ∷ ys) (serves, a) (turned, b) =
    (ear_served faults accepted follows turn x y serves turned, ears_served faults accepted follows turn xs ys a b)

-- what desks served they served by what is seen of them
pub served_seen : {N S T Q : Type 0} (f : S → T) (hears : N → ℕ → Type 0) (faults accepted : N → ℕ)
    (turn : T → N → Q → N → Q → Type 0) (works : T → Plan) (bounds : T → Limits) (limits : Limits)
    (meant : Option Serving) →
    ServedAsSaid hears faults accepted (λ d. turn (f d)) (λ d. works (f d)) (λ d. bounds (f d)) limits meant →
    ServedAsSaid hears faults accepted turn works bounds limits meant
served_seen f hears faults accepted turn works bounds limits None h = absurd h
served_seen f hears faults accepted turn works bounds limits (Some serving) h =
    record {
      opened = h.opened;
      closed = h.closed;
      heard = h.heard;
      done =
          record {
            desk = f h.done.desk;
            four = h.done.four;
            within = h.done.within;
            served = h.done.served;
          };
      all = h.all;
    }
