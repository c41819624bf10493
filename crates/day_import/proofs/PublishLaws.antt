-- the steps that are published as a day is settled
use Rattle.std.proofs.Common.{◌≡◌, ℕ, zero, suc, ◌+◌, ◌-◌, ◌<◌, ◌≤◌, ⊎_elim, List, [], ◌∷◌, ◌++◌, length, take, drop}
use Rattle.std.proofs.Common.{Result, Ok, Err, refl, sym, ap, ◌∙◌, arith, subst, append_assoc, append-nil}
use Rattle.std.specs.Prelude.{Option, Some, None}
use Rattle.std.specs.Option.{option_map}
use Rattle.std.specs.Result.{OnErr, IfOk}
use Rattle.road_time.specs.declared.road.Tuple.{Tuple}
use Rattle.road_time.specs.declared.day.Limits.{Limits}
use Rattle.road_time.specs.Sights.{Sight, moments}
use Rattle.road_time.specs.Tolls.{StretchTold}
use Rattle.road_time.specs.Day.{ChargedToll, given, charges_by, charges_between}
use Rattle.road_time.proofs.AccountLaws.{take_shorter}
use Rattle.road_time.proofs.SightLaws.{moments_take}
use Rattle.day_floor.specs.Operations.{Operation, Begin, Step, Posted, posted_with, queued_with, IsRefused}
use Rattle.day_floor.specs.declared.fault.SettleFault.{SettleFault}
use Rattle.day_floor.specs.SettlingBoards.{IsAbreast, PublishesStep, posted_if}
use Rattle.day_floor.specs.Shares.{State, start}
use Rattle.day_floor.specs.Steps.{after_settle}
use Rattle.day_floor.specs.Written.{charged_to}
use Rattle.day_import.specs.Published.{AreStepsBy, settled_between, posted_more, HasStepped, published_of}

-- the charges between positions of the first tuples are those of all
pub between_first : (finding : Sight → StretchTold) (day : List Tuple) (a b n : ℕ) → b ≤ n → n ≤ length day →
    charges_between finding (take n day) a b ≡ charges_between finding day a b
between_first finding day a b n low within =
    ap (λ ms. charges_by finding (drop a (take b ms))) (sym (moments_take n day within))
    ∙ ap (λ ms. charges_by finding (drop a ms)) (take_shorter b n (moments day) low)

-- the last mark is no earlier than the first
pub steps_rise : (finding : Sight → StretchTold) (day : List Tuple) (backlog mark last : ℕ) (ops : List Operation) →
    AreStepsBy finding day backlog mark last ops → mark ≤ last
steps_rise finding day backlog mark last [] h = omega (arith, h)
steps_rise finding day backlog mark last (Begin number ∷ ops) h = absurd h
steps_rise finding day backlog mark last (Step charges next ∷ ops) h =
    let more = steps_rise finding day backlog next last ops h.3 in
    let up = h.0 in
    omega (arith, more, up)

-- steps are those of any findings and day with the same charges up to their last mark
pub steps_same : (f g : Sight → StretchTold) (day other : List Tuple) (backlog mark last : ℕ) (ops : List Operation) →
    ((a b : ℕ) → b ≤ last → charges_between f day a b ≡ charges_between g other a b) →
    AreStepsBy f day backlog mark last ops → AreStepsBy g other backlog mark last ops
steps_same f g day other backlog mark last [] same h = h
steps_same f g day other backlog mark last (Begin number ∷ ops) same h = absurd h
steps_same f g day other backlog mark last (Step charges next ∷ ops) same h = (
  h.0,
  h.1,
  h.2 ∙ same mark next (steps_rise f day backlog next last ops h.3),
  steps_same f g day other backlog next
      last ops same h.3,
)

-- with one step more
pub steps_push : (finding : Sight → StretchTold) (day : List Tuple) (backlog mark last n : ℕ) (ops : List Operation) →
    AreStepsBy finding day backlog mark last ops → last < n → n ≤ last + backlog →
    AreStepsBy finding day backlog mark n (ops ++ Step (charges_between finding day last n) n ∷ [])
steps_push finding day backlog mark last n [] h up few = (
  subst (λ m. m < n) (sym h) up,
  subst (λ m. n ≤ m + backlog) (sym h) few,
  ap (λ m. charges_between finding day m n)
      (sym h),
  refl,
)
steps_push finding day backlog mark last n (Begin number ∷ ops) h up few = absurd h
steps_push finding day backlog mark last n (Step charges next ∷ ops) h up few =
    (h.0, h.1, h.2, steps_push finding day backlog next last n ops h.3 up few)

-- nothing is published before the first step
more_none : (p : Option Posted) → p ≡ option_map (posted_more []) p
more_none None = refl
more_none (Some p) = ap (λ ops. Some (record { published = ops; queued = p.queued })) (sym (append-nil p.published))

pub stepped_start : (backlog : ℕ) (p : Option Posted) → HasStepped backlog start p p
stepped_start backlog p = record { steps = []; are = refl; published = more_none p }

-- what stays settled keeps its steps
pub stepped_moved : (backlog : ℕ) (s now : State) (old p : Option Posted) → now.settled ≡ s.settled →
    ((a b : ℕ) → settled_between now a b ≡ settled_between s a b) → HasStepped backlog s old p →
    HasStepped backlog now old p
stepped_moved backlog s now old p settled same h = record {
  steps = h.steps;
  are = subst (λ n. AreStepsBy (given now.found) (take now.settled now.fed) backlog 0 n h.steps) (sym settled)
      (steps_same (given s.found) (given now.found) (take s.settled s.fed) (take now.settled now.fed) backlog 0
      s.settled h.steps (λ a b low. sym (same a b)) h.are);
  published = h.published;
}

-- one operation more, where nothing is queued
with_one : (old p now : Option Posted) (ops : List Operation) (o : Operation) (total : ℕ) →
    p ≡ option_map (posted_more ops) old → IsAbreast p total → now ≡ option_map (posted_with o) p →
    now ≡ option_map (posted_more (ops ++ o ∷ [])) old
with_one None None now ops o total h abreast e = e
with_one None (Some p) now ops o total h abreast e = cc
with_one (Some q) None now ops o total h abreast e = cc
with_one (Some q) (Some p) now ops o total h abreast e = e ∙ one (some_is h) abreast.0
  where
    some_is : Some p ≡ Some (posted_more ops q) → p ≡ posted_more ops q
    some_is h = cc

    one : p ≡ posted_more ops q → p.queued ≡ [] → Some (posted_with o p) ≡ Some (posted_more (ops ++ o ∷ []) q)
    one is none =
        let list : p.published ++ (p.queued ++ o ∷ []) ≡ q.published ++ (ops ++ o ∷ []) =
        ap (λ xs. p.published ++ (xs ++ o ∷ [])) none
        ∙ (ap (λ r. r.published ++ o ∷ []) is ∙ append_assoc q.published ops (o ∷ [])) in
        let queue : [] ≡ q.queued = sym none ∙ ap (λ r. r.queued) is in
        ap (λ xs. Some (record { published = xs; queued = [] })) list
        ∙ ap (λ xs. Some (record { published = q.published ++ (ops ++ o ∷ []); queued = xs })) queue

-- what is settled further has one step more
pub stepped_settled : (backlog : ℕ) (s : State) (n : ℕ) (old p now : Option Posted) (total : ℕ) → s.settled ≤ n →
    n ≤ length s.fed → length s.fed ≤ s.settled + backlog → IsAbreast p total →
    now ≡ posted_if (n - s.settled) (charged_to s n) n p → HasStepped backlog s old p →
    HasStepped backlog (after_settle s n) old now
stepped_settled backlog s n old p now total low within few abreast is h = by_count (n - s.settled) refl is
  where
    same_mark : n - s.settled ≡ 0 → s.settled ≡ n
    same_mark e = omega (arith, e, low)

    by_count : (k : ℕ) → n - s.settled ≡ k → now ≡ posted_if k (charged_to s n) n p →
        HasStepped backlog (after_settle s n) old now
    by_count zero e is =
        subst (λ m. HasStepped backlog (after_settle s m) old now) (same_mark e)
        (subst (HasStepped backlog s old) (sym is) h)
    by_count (suc k) e is = record {
      steps = h.steps ++ Step (charged_to s n) n ∷ [];
      are =
          subst (λ cs. AreStepsBy (given s.found) (take n s.fed) backlog 0 n (h.steps ++ Step cs n ∷ []))
          (between_first (given s.found) s.fed s.settled n n (omega arith) within)
          (steps_push (given s.found) (take n s.fed) backlog 0 s.settled n h.steps
          (steps_same (given s.found) (given s.found) (take s.settled s.fed) (take n s.fed) backlog 0 s.settled h.steps
          (λ a b less. between_first (given s.found) s.fed a b s.settled less (omega (arith, low, within))
          ∙ sym (between_first (given s.found) s.fed a b n (omega (arith, less, low)) within)) h.are)
          (omega (arith, e)) (omega (arith, within, few)));
      published = with_one old p now h.steps (Step (charged_to s n) n) total h.published abreast is;
    }

-- steps go on the same under equal limits
pub steps_under : (l m : Limits) → l ≡ m → (s now : State) (was posted : Option Posted) →
    ((before : Option Posted) → HasStepped l.backlog s before was → HasStepped l.backlog now before posted) →
    (before : Option Posted) → HasStepped m.backlog s before was → HasStepped m.backlog now before posted
steps_under l m e s now was posted =
    subst (λ k. (before : Option Posted) → HasStepped k.backlog s before was → HasStepped k.backlog now before posted) e

-- what a publisher did, by how settling ended
pub posted_ok : {I : Type 0} (r : Result ℕ SettleFault) (count mark : I → ℕ) (charges : I → List ChargedToll)
    (before now : Option Posted) → ((i : I) → PublishesStep r (count i) (charges i) (mark i) before now) →
    IfOk r (λ n. (i : I) → now ≡ posted_if (count i) (charges i) (mark i) before)
posted_ok (Ok x) count mark charges before now h = h
posted_ok (Err e) count mark charges before now h = tt

-- a refused operation leaves the list of those published
pub same_list : (o : Operation) (before now : Option Posted) → IsRefused o before now →
    published_of now ≡ published_of before
same_list o before now h =
    ⊎_elim (λ (a : now ≡ before). ap published_of a) (λ (b : now ≡ option_map (queued_with o) before). ap published_of b
    ∙ queue before) h
  where
    queue : (p : Option Posted) → published_of (option_map (queued_with o) p) ≡ published_of p
    queue None = refl
    queue (Some p) = refl

pub posted_err : (r : Result ℕ SettleFault) (count mark : ℕ) (charges : List ChargedToll) (before now : Option Posted) →
    PublishesStep r count charges mark before now → OnErr r (published_of now ≡ published_of before)
posted_err (Ok x) count mark charges before now h = tt
posted_err (Err e) count mark charges before now h = same_list (Step charges mark) before now h
