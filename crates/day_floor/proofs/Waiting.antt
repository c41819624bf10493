-- how many events wait, when tuples are fed and jobs given
use Rattle.std.proofs.Common.{◌≡◌, ℕ, ◌+◌, ◌<◌, ◌≤◌, ◌==◌, ⊎_elim, zero, suc, List, [], ◌∷◌, ◌++◌, length, Option, Some}
use Rattle.std.proofs.Common.{None, Bool, true, false, cond, refl, arith, ap, sym, subst}
use Rattle.std.proofs.lemmas.List.{length-append}
use Rattle.std.proofs.lemmas.Bool.{cases_eq, ne_eqb}
use Rattle.road_time.specs.declared.road.Tuple.{Tuple}
use Rattle.road_time.specs.declared.road.Tuple.TheVariants.{Report as ReportTuple, Balance, Spent, Travel}
use Rattle.road_time.specs.declared.road.Report.{Report}
use Rattle.road_time.specs.declared.road.Place.{Place}
use Rattle.road_time.specs.Ways.{worker_for}
use Rattle.road_time.specs.Tuples.{reports}
use Rattle.road_time.specs.Stops.{trail, left_by}
use Rattle.ways_expressway.specs.declared.lane_event.LaneEvent.{LaneEvent}
use Rattle.ways_expressway.specs.declared.lane_event.LaneEvent.TheVariants.{Seen}
use Rattle.ways_expressway.specs.Events.{events_at, leave_of, told_to, way_told}
use Rattle.day_floor.specs.Shares.{Share, waiting_at, can_give, is_empty}
use Rattle.day_floor.specs.Steps.{at_worker, fed_to, given_out, taken_back}
use Rattle.day_floor.proofs.Workers.{for_worker, at_own, some_wait}

-- the sum over the first so many workers
abbrev sum_at : (ℕ → ℕ) → ℕ → ℕ
sum_at f zero = 0
sum_at f (suc w) = f w + sum_at f w

-- a tuple has two events at most
two_events : (position : ℕ) (r : Report) (o : Option Place) (b s : Bool) →
    length (leave_of position r o ++ Seen position r b s ∷ []) ≤ 2
two_events position r None b s = omega arith
two_events position r (Some p) b s = omega arith

events_few : (fed : List Tuple) (x : Tuple) → length (events_at (fed, x)) ≤ 2
events_few fed (ReportTuple r) = two_events (length fed) r (left_by (trail (reports fed) r.vid) r) _ _
events_few fed (Balance time vid qid) = omega arith
events_few fed (Spent time vid xway qid day) = omega arith
events_few fed (Travel time) = omega arith

-- one more for one worker, if it is among them
one_more : {X : Type 0} (b : Bool) (x : X) (xs : List X) →
    length (cond b (x ∷ xs) xs) ≡ length (cond b (x ∷ []) []) + length xs
one_more true x xs = omega arith
one_more false x xs = omega arith

few_if : {X : Type 0} (b : Bool) (x : X) → length (cond b (x ∷ []) []) ≤ 1
few_if true x = omega arith
few_if false x = omega arith

none_for : {X : Type 0} (own : ℕ) (x : X) (n : ℕ) → n ≤ own → sum_at (λ w. length (cond (own == w) (x ∷ []) [])) n ≡ 0
none_for own x zero h = refl
none_for own x (suc n) h =
    let here : length (cond (own == n) (x ∷ []) []) ≡ 0 =
    ap (λ b. length (cond b (x ∷ []) [])) (ne_eqb own n (λ q. absurd (omega (arith, h, q)))) in
    let rest = none_for own x n (omega (arith, h)) in omega (arith, here, rest)

one_for : {X : Type 0} (own : ℕ) (x : X) (n : ℕ) → sum_at (λ w. length (cond (own == w) (x ∷ []) [])) n ≤ 1
one_for own x zero = omega arith
one_for own x (suc n) =
    let most = few_if (own == n) x in
    ⊎_elim
    (λ q. let none = none_for own x n (omega (arith, q)) in omega (arith, most, none))
    (λ q. let here : length (cond (own == n) (x ∷ []) []) ≡ 0 =
    ap (λ b. length (cond b (x ∷ []) [])) (ne_eqb own n q) in let rest = one_for own x n in
    omega (arith, here, rest))
    (cases_eq own n)

-- each event is of one worker
sum_more : (e : LaneEvent) (es : List LaneEvent) (width n : ℕ) →
    sum_at (λ w. length (told_to w width (e ∷ es))) n ≡ sum_at
    (λ w. length (cond (worker_for (way_told e) width == w) (e ∷ []) [])) n + sum_at
    (λ w. length (told_to w width es)) n
sum_more e es width zero = refl
sum_more e es width (suc n) =
    let here = one_more (worker_for (way_told e) width == n) e (told_to n width es) in
    let rest = sum_more e es width n in omega (arith, here, rest)

none_at : (n : ℕ) → sum_at (λ w. 0) n ≡ 0
none_at zero = refl
none_at (suc n) = let rest = none_at n in omega (arith, rest)

sum_few : (es : List LaneEvent) (width n : ℕ) → sum_at (λ w. length (told_to w width es)) n ≤ length es
sum_few [] width n = let none = none_at n in omega (arith, none)
sum_few (e ∷ es) width n =
    let parts = sum_more e es width n in
    let one = one_for (worker_for (way_told e) width) e n in
    let rest = sum_few es width n in omega (arith, parts, one, rest)

fed_sum : (fed : List Tuple) (x : Tuple) (share : ℕ → Share) (width n : ℕ) →
    waiting_at (λ w. fed_to w width fed x (share w)) n ≡ waiting_at share n + sum_at
    (λ w. length (told_to w width (events_at (fed, x)))) n
fed_sum fed x share width zero = refl
fed_sum fed x share width (suc n) =
    let here = length-append (share n).waiting (told_to n width (events_at (fed, x))) in
    let rest = fed_sum fed x share width n in omega (arith, here, rest)

-- a tuple adds two events at most
pub waiting_fed : (fed : List Tuple) (x : Tuple) (share : ℕ → Share) (width n : ℕ) →
    waiting_at (λ w. fed_to w width fed x (share w)) n ≤ waiting_at share n + 2
waiting_fed fed x share width n =
    let parts = fed_sum fed x share width n in
    let few = sum_few (events_at (fed, x)) width n in
    let two = events_few fed x in omega (arith, parts, few, two)

no_more : (old new : ℕ → Share) → ((w : ℕ) → length (new w).waiting ≤ length (old w).waiting) → (n : ℕ) →
    waiting_at new n ≤ waiting_at old n
no_more old new h zero = omega arith
no_more old new h (suc n) = let here = h n in let rest = no_more old new h n in omega (arith, here, rest)

one_less : (old new : ℕ → Share) (worker : ℕ) → ((w : ℕ) → length (new w).waiting ≤ length (old w).waiting) →
    length (new worker).waiting < length (old worker).waiting → (n : ℕ) → worker < n →
    waiting_at new n < waiting_at old n
one_less old new worker h less zero k = absurd (omega (arith, k))
one_less old new worker h less (suc n) k =
    let here = h n in
    ⊎_elim
    (λ q. let there = subst (λ w. length (new w).waiting < length (old w).waiting) q less in let rest =
    no_more old new h n in omega (arith, there, rest))
    (λ q. let rest = one_less old new worker h less n (below q) in omega (arith, here, rest))
    (cases_eq worker n)
  where
    below : (worker ≡ n → ⊥) → worker < n
    below q = omega (arith, k, q)

-- a job takes one event at least
pub waiting_given : (worker number : ℕ) (share : ℕ → Share) (n : ℕ) → worker < n → can_give (share worker) ≡ true →
    waiting_at (at_worker worker (given_out number) share) n < waiting_at share n
waiting_given worker number share n k can =
    one_less share (at_worker worker (given_out number) share) worker
    (λ w. for_worker (λ sh. length sh.waiting ≤ length (share w).waiting) worker w (given_out number) share
    (λ e. omega arith) (omega arith))
    (subst (λ x. length x.waiting < length (share worker).waiting) (sym (at_own worker (given_out number) share))
    (some (share worker).waiting (some_wait (share worker) can))) n k
  where
    some : (es : List LaneEvent) → is_empty es ≡ false → 0 < length es
    some [] q = cc
    some (e ∷ es) q = omega arith

pub waiting_back : (worker : ℕ) (share : ℕ → Share) (n : ℕ) →
    waiting_at (at_worker worker taken_back share) n ≤ waiting_at share n
waiting_back worker share n =
    no_more share (at_worker worker taken_back share)
    (λ w. for_worker (λ sh. length sh.waiting ≤ length (share w).waiting) worker w taken_back share
    (λ e. omega arith) (omega arith)) n
