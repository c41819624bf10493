-- the jobs that are out, step by step
use Rattle.std.proofs.Common.{◌≡◌, ◌≢◌, ℕ, zero, suc, ◌+◌, ◌<◌, ◌≤◌, ⊎_elim, Bool, true, false, List, [], ◌∷◌, ◌++◌}
use Rattle.std.proofs.Common.{length, refl, sym, ap, ◌∙◌, arith, subst, length-append}
use Rattle.std.specs.List.{AllByRecursion}
use Rattle.std.proofs.lemmas.Bool.{cases_eq}
use Rattle.road_time.specs.Rates.{Tariffs}
use Rattle.road_time.specs.Tolls.{StretchTold}
use Rattle.road_time.specs.declared.road.Tuple.{Tuple}
use Rattle.road_time.proofs.EachLaws.{joined, weakened}
use Rattle.ways_expressway.specs.declared.job.Job.{Job}
use Rattle.ways_expressway.specs.declared.lane_event.LaneEvent.{LaneEvent}
use Rattle.ways_expressway.specs.Stands.{StandsFor}
use Rattle.day_floor.specs.Shares.{Share, State, start, is_empty, can_give}
use Rattle.day_floor.specs.Steps.{given_out, taken_back, after_feed, after_give, after_back, after_settle}
use Rattle.day_floor.specs.Jobs.{IsNext, IsOut}
use Rattle.day_floor.proofs.Workers.{at_own, at_other, nothing_out}
use Rattle.day_floor.proofs.Jobs.{some_out, goes_out}
use Rattle.day_import.specs.Tasks.{IsOpen, AreOfEach, one_if, one_out, out_at, AreOpen}

-- as many are out where the same are out
pub out_same : (was now : ℕ → Share) (n : ℕ) → ((w : ℕ) → w < n → (now w).out ≡ (was w).out) →
    out_at now n ≡ out_at was n
out_same was now zero same = refl
out_same was now (suc n) same =
    ap (λ es. one_if (is_empty es) + out_at now n) (same n (omega arith))
    ∙ ap (λ k. one_out (was n) + k) (out_same was now n (λ w h. same w (omega (arith, h))))

-- where one worker's share changed
pub out_changed : (was now : ℕ → Share) (worker n : ℕ) → worker < n →
    ((w : ℕ) → (w ≡ worker → ⊥) → (now w).out ≡ (was w).out) →
    one_out (now worker) + out_at was n ≡ one_out (was worker) + out_at now n
out_changed was now worker zero h same = absurd (omega (arith, h))
out_changed was now worker (suc n) h same =
    ⊎_elim
    (λ (e : n ≡ worker).
    let below : out_at now n ≡ out_at was n =
    out_same was now n (λ w k. same w (λ f. absurd (omega (arith, k, e, f)))) in
    subst (λ v. one_out (now v) + (one_out (was n) + out_at was n) ≡ one_out (was v) + (one_out (now n) + out_at now n))
    e (swap (one_out (now n)) (one_out (was n)) (out_at was n) (out_at now n) below))
    (λ ne.
    let one : one_out (now n) ≡ one_out (was n) = ap (λ es. one_if (is_empty es)) (same n ne) in
    let rest = out_changed was now worker n (less n worker h ne) same in
    omega (arith, one, rest))
    (cases_eq n worker)
  where
    swap : (a b c d : ℕ) → d ≡ c → a + (b + c) ≡ b + (a + d)
    swap a b c d e = omega (arith, e)

    less : (n w : ℕ) → w < suc n → (n ≡ w → ⊥) → w < n
    less n w h ne = omega (arith, h, ne)

-- no more are out than workers, and fewer where one has none out
out_few : (share : ℕ → Share) (n : ℕ) → out_at share n ≤ n
out_few share zero = omega arith
out_few share (suc n) = let rest = out_few share n in let one = one_few (is_empty (share n).out) in
    omega (arith, rest, one)
  where
    one_few : (b : Bool) → one_if b ≤ 1
    one_few true = omega arith
    one_few false = omega arith

pub out_fewer : (share : ℕ → Share) (worker n : ℕ) → worker < n → is_empty (share worker).out ≡ true →
    out_at share n < n
out_fewer share worker zero h e = absurd (omega (arith, h))
out_fewer share worker (suc n) h e =
    ⊎_elim
    (λ (is : n ≡ worker). let none : one_out (share n) ≡ 0 = ap (λ w. one_out (share w)) is ∙ ap one_if e in let rest =
    out_few share n in omega (arith, none, rest))
    (λ ne. let rest = out_fewer share worker n (less n worker h ne) e in let one = one_few (is_empty (share n).out) in
    omega (arith, rest, one))
    (cases_eq n worker)
  where
    less : (n w : ℕ) → w < suc n → (n ≡ w → ⊥) → w < n
    less n w h ne = omega (arith, h, ne)

    one_few : (b : Bool) → one_if b ≤ 1
    one_few true = omega arith
    one_few false = omega arith

-- where none is out, no worker has one out
pub out_none : (share : ℕ → Share) (n : ℕ) → out_at share n ≡ 0 → (worker : ℕ) → worker < n → (share worker).out ≡ []
out_none share zero e worker h = absurd (omega (arith, h))
out_none share (suc n) e worker h =
    ⊎_elim
    (λ (is : n ≡ worker). subst (λ w. (share w).out ≡ []) is (nothing (share n).out (omega (arith, e))))
    (λ ne. out_none share n (omega (arith, e)) worker (less n worker h ne))
    (cases_eq n worker)
  where
    less : (n w : ℕ) → w < suc n → (n ≡ w → ⊥) → w < n
    less n w h ne = omega (arith, h, ne)

    nothing : (es : List LaneEvent) → one_if (is_empty es) ≡ 0 → es ≡ []
    nothing [] h = refl
    nothing (x ∷ es) h = cc

-- of a list with one in its midst: each, that one, and no two of one worker
pub at_middle : (P : Job → Type 0) (before : List Job) (job : Job) (after : List Job) →
    AllByRecursion P (before ++ job ∷ after) → P job
at_middle P [] job after h = h.0
at_middle P (b ∷ before) job after h = at_middle P before job after h.1

without : (P : Job → Type 0) (before : List Job) (job : Job) (after : List Job) →
    AllByRecursion P (before ++ job ∷ after) → AllByRecursion P (before ++ after)
without P [] job after h = h.1
without P (b ∷ before) job after h = (h.0, without P before job after h.1)

both : (P Q : Job → Type 0) (js : List Job) → AllByRecursion P js → AllByRecursion Q js →
    AllByRecursion (λ j. P j × Q j) js
both P Q [] h k = tt
both P Q (j ∷ js) h k = ((h.0, k.0), both P Q js h.1 k.1)

apart_without : (before : List Job) (job : Job) (after : List Job) → AreOfEach (before ++ job ∷ after) →
    AreOfEach (before ++ after)
apart_without [] job after h = h.1
apart_without (b ∷ before) job after h =
    (without (λ k. k.worker ≢ b.worker) before job after h.0, apart_without before job after h.1)

apart_from : (before : List Job) (job : Job) (after : List Job) → AreOfEach (before ++ job ∷ after) →
    AllByRecursion (λ k. k.worker ≢ job.worker) (before ++ after)
apart_from [] job after h = h.0
apart_from (b ∷ before) job after h =
    (λ e. at_middle (λ k. k.worker ≢ b.worker) before job after h.0 (sym e), apart_from before job after h.1)

apart_more : (js : List Job) (job : Job) → AreOfEach js → AllByRecursion (λ k. k.worker ≢ job.worker) js →
    AreOfEach (js ++ job ∷ [])
apart_more [] job h far = (tt, tt)
apart_more (b ∷ js) job h far =
    (joined (λ k. k.worker ≢ b.worker) js (job ∷ []) h.0 (λ e. far.0 (sym e), tt), apart_more js job h.1 far.1)

-- a job that is out stays so where its worker's share is the same
stays : (tariffs : Tariffs) (width : ℕ) (s now : State) (job : Job) → now.share job.worker ≡ s.share job.worker →
    IsOpen tariffs width s job → IsOpen tariffs width now job
stays tariffs width s now job same h =
    let back = sym same in
    record {
      within = h.within;
      some = subst (λ sh. is_empty sh.out ≡ false) back h.some;
      out = record {
        worker_is = h.out.worker_is;
        number = subst (λ sh. job.number ≡ sh.number) back h.out.number;
        tariffs_are = h.out.tariffs_are;
        stands = subst (λ sh. StandsFor job.carriage sh.back) back h.out.stands;
        events = subst (λ sh. job.events ≡ sh.out) back h.out.events;
      };
    }

-- none is out at the start
none_idle : (n : ℕ) → out_at start.share n ≡ 0
none_idle zero = refl
none_idle (suc n) = let r = none_idle n in omega (arith, r)

pub open_start : (tariffs : Tariffs) (width : ℕ) → AreOpen tariffs width start []
open_start tariffs width = record { each = tt; apart = tt; count = sym (none_idle width) }

-- a tuple more, or some settled
pub open_feed : (tariffs : Tariffs) (width of : ℕ) (s : State) (x : Tuple) (jobs : List Job) →
    AreOpen tariffs width s jobs → AreOpen tariffs width (after_feed of s x) jobs
open_feed tariffs width of s x jobs h = record {
  each = weakened (IsOpen tariffs width s) (IsOpen tariffs width (after_feed of s x))
      (λ j o. record {
        within = o.within;
        some = o.some;
        out =
            record {
              worker_is = o.out.worker_is;
              number = o.out.number;
              tariffs_are = o.out.tariffs_are;
              stands =
                  o.out.stands;
              events = o.out.events;
            };
      }) jobs h.each;
  apart = h.apart;
  count = h.count ∙ sym (out_same s.share (after_feed of s x).share width (λ w k. refl));
}

pub open_settle : (tariffs : Tariffs) (width : ℕ) (s : State) (n : ℕ) (jobs : List Job) → AreOpen tariffs width s jobs →
    AreOpen tariffs width (after_settle s n) jobs
open_settle tariffs width s n jobs h = record {
  each = weakened (IsOpen tariffs width s) (IsOpen tariffs width (after_settle s n))
      (λ j o. stays tariffs width s (after_settle s n) j refl o) jobs h.each;
  apart = h.apart;
  count = h.count;
}

module _ (tariffs : Tariffs) (width : ℕ) (s : State) (worker : ℕ) (within : worker < width) where
  -- fewer jobs are out than workers, where one has none
  pub few_open : (jobs : List Job) → AreOpen tariffs width s jobs → can_give (s.share worker) ≡ true →
      length jobs < width
  few_open jobs h can = let less =
      out_fewer s.share worker width within (ap is_empty (nothing_out (s.share worker) can)) in let c = h.count in
      omega (arith, less, c)

  -- a job is given
  pub open_give : (job : Job) (jobs : List Job) → AreOpen tariffs width s jobs → IsNext tariffs s worker job →
      AreOpen tariffs width (after_give s worker) (jobs ++ job ∷ [])
  open_give job jobs h next =
      let now = after_give s worker in
      let none = nothing_out (s.share worker) next.may in
      let far : AllByRecursion (λ k. k.worker ≢ job.worker) jobs =
      weakened (IsOpen tariffs width s) (λ k. k.worker ≢ job.worker)
      (λ k o e. clash (s.share k.worker).out o.some (ap (λ w. (s.share w).out) (e ∙ next.worker_is) ∙ none)) jobs
      h.each in
      let one : one_out (now.share worker) ≡ 1 = ap one_if (some_out s worker next.may) in
      let was : one_out (s.share worker) ≡ 0 = ap (λ es. one_if (is_empty es)) none in
      let more =
      out_changed s.share now.share worker width within
      (λ w ne. ap (λ sh. sh.out) (at_other worker w (given_out s.given) s.share ne)) in
      let c = h.count in
      let l = length-append jobs (job ∷ []) in
      record {
        each = joined (IsOpen tariffs width now) jobs (job ∷ [])
            (weakened (λ k. IsOpen tariffs width s k × (k.worker ≢ job.worker)) (IsOpen tariffs width now)
            (λ k o. stays tariffs width s now k
            (at_other worker k.worker (given_out s.given) s.share (λ e. o.1 (e ∙ sym next.worker_is))) o.0)
            jobs (both (IsOpen tariffs width s) (λ k. k.worker ≢ job.worker) jobs h.each far))
            (mine job next, tt);
        apart = apart_more jobs job h.apart far;
        count = omega (arith, one, was, more, c, l);
      }
    where
      mine : (job : Job) → IsNext tariffs s worker job → IsOpen tariffs width (after_give s worker) job
      mine job next =
          let here = sym next.worker_is in
          record {
            within = subst (λ w. w < width) here within;
            some = subst (λ w. is_empty ((after_give s worker).share w).out ≡ false) here (some_out s worker next.may);
            out = subst (λ w. IsOut tariffs (after_give s worker) w job) here (goes_out tariffs s worker job next);
          }

      clash : (es : List LaneEvent) → is_empty es ≡ false → es ≡ [] → ⊥
      clash [] e f = cc
      clash (x ∷ es) e f = cc

  -- what was done of one came back
  pub open_back : (found : List (ℕ × StretchTold)) (before : List Job) (job : Job) (after : List Job) →
      job.worker ≡ worker
      → AreOpen tariffs width s (before ++ job ∷ after) →
      AreOpen tariffs width (after_back s worker found) (before ++ after)
  open_back found before job after is h =
      let now = after_back s worker found in
      let far = apart_from before job after h.apart in
      let mine = at_middle (IsOpen tariffs width s) before job after h.each in
      let was : one_out (s.share worker) ≡ 1 = ap one_if (subst (λ w. is_empty (s.share w).out ≡ false) is mine.some) in
      let none : one_out (now.share worker) ≡ 0 = ap (λ sh. one_out sh) (at_own worker taken_back s.share) in
      let less =
      out_changed s.share now.share worker width within
      (λ w ne. ap (λ sh. sh.out) (at_other worker w taken_back s.share ne)) in
      let c = h.count in
      let l = length-append before (job ∷ after) in
      let m = length-append before after in
      record {
        each = weakened (λ k. IsOpen tariffs width s k × (k.worker ≢ job.worker)) (IsOpen tariffs width now)
            (λ k o. stays tariffs width s now k (at_other worker k.worker taken_back s.share (λ e. o.1 (e ∙ sym is)))
            o.0)
            (before ++ after)
            (both (IsOpen tariffs width s) (λ k. k.worker ≢ job.worker) (before ++ after)
            (without (IsOpen tariffs width s) before job after h.each) far);
        apart = apart_without before job after h.apart;
        count = omega (arith, was, none, less, c, l, m);
      }
