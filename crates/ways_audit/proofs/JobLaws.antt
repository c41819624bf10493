-- the jobs that are out over a crew, and what their answers make
use Rattle.std.proofs.Common.{◌≡◌, ℕ, zero, suc, ◌+◌, ◌≤◌, ◌<◌, ◌==◌, Bool, true, false, cond, List, [], ◌∷◌}
use Rattle.std.proofs.Common.{◌++◌, length, map, All, Option, Some, refl, sym, ap, ◌∙◌, arith, length-append}
use Rattle.std.specs.Map.{lookup}
use Rattle.std.specs.Option.{unwrap_or}
use Rattle.std.proofs.lemmas.List.{append-nil, map-append, length-map}
use Rattle.road_time.specs.declared.tariff.TheConstants.{GREATEST_TOLL}
use Rattle.road_time.specs.declared.road.Tuple.{Tuple}
use Rattle.road_time.specs.declared.day.TheConstants.Limits.{DAY}
use Rattle.road_time.specs.Day.{given, no_finding, HasFewTolls}
use Rattle.road_time.specs.Fits.{IsDay}
use Rattle.road_time.specs.Rates.{Tariffs}
use Rattle.road_time.specs.Sights.{moments_after}
use Rattle.road_time.specs.Tolls.{StretchTold as Told_}
use Rattle.road_time.proofs.EachLaws.{joined}
use Rattle.road_time.proofs.SightLaws.{length-moments}
use Rattle.ways_expressway.specs.declared.finding.Finding.{Finding}
use Rattle.ways_expressway.specs.declared.job.Job.{Job}
use Rattle.ways_expressway.specs.declared.lane_event.LaneEvent.{LaneEvent}
use Rattle.ways_expressway.specs.Events.{events_for}
use Rattle.ways_expressway.specs.Findings.{shown}
use Rattle.ways_expressway.specs.Ready.{CanRun, IsReady}
use Rattle.ways_expressway.specs.Results.{IsPossible}
use Rattle.ways_expressway.proofs.RunLaws.{may_run, carried}
use Rattle.ways_crews.specs.declared.job_list.Started.{Started}
use Rattle.ways_crews.specs.Lists.{listing_of}
use Rattle.ways_crews.specs.Numbers.{IsOneMore}
use Rattle.ways_crews.specs.Told.{CrewTold, WhereTold, ListsJob}
use Rattle.ways_crews.specs.Callers.{HasOut}
use Rattle.ways_crews.proofs.CallerLaws.{idle}
use Rattle.ways_crews.proofs.ListingLaws.{where_none, where_started}
use Rattle.ways_audit.specs.Seen.{tracked_by, tracked_after}
use Rattle.ways_audit.specs.Jobs.{job_if, starts_of, IsFresh, Running, HasStarted}

-- as many positions tell as there are tuples
pub tracked_long : (before day : List Tuple) → length (tracked_after before day) ≡ length day
tracked_long before day = length-map (moments_after before day) tracked_by ∙ length-moments before day

few_at : (b : Bool) (v : Told_) (o : Option Told_) → v.toll ≤ GREATEST_TOLL →
    (unwrap_or o no_finding).toll ≤ GREATEST_TOLL → (unwrap_or (cond b (Some v) o) no_finding).toll ≤ GREATEST_TOLL
few_at true v o h g = h
few_at false v o h g = g

-- the tolls of findings that could be are few
pub few_tolls : (fs : List Finding) → All IsPossible fs → HasFewTolls (given (map shown fs))
few_tolls [] h s = omega arith
few_tolls (f ∷ fs) h s =
    let head : IsPossible f = h zero f (omega arith) in
    few_at (f.position == s.0) (shown f).1 (lookup (λ at. at == s.0) (map shown fs)) head.toll
    (few_tolls fs (λ k d w. h (suc k) d (omega (arith, w))) s)

-- a job more is out
pub one_started : {S T : Type 0} (out : S → List ℕ) (number : T → ℕ) (holds : S → ℕ → Job → Type 0)
    (gave : S → T → Type 0) (jobs : S → Option CrewTold) (told : Option CrewTold) (was now : S)
    (tickets later : List T) (todo : List Job) (ticket : T) (job : Job) → IsReady job.carriage [] job.events →
    Running out number holds gave jobs told was job.carriage.tariffs tickets [] todo false →
    later ≡ tickets ++ ticket ∷ [] → ((tasks : List (T × Job)) → HasOut out number holds gave was tasks →
    HasOut out number holds gave now (tasks ++ (ticket, job) ∷ [])) →
    IsOneMore (number ticket) (out was) (out now) → WhereTold (ListsJob (number ticket) job) (jobs was) (jobs now) →
    Running out number holds gave jobs told now job.carriage.tariffs later [] (todo ++ job ∷ []) false
one_started {S} {T} out number holds gave jobs told was now tickets later todo ticket job ready h items has numbers
    lists = record {
      tasks = h.tasks ++ (ticket, job) ∷ [];
      tickets_are = map-append (λ (t : T × Job). t.0) h.tasks ((ticket, job) ∷ [])
          ∙ ap (λ ts. ts ++ ticket ∷ []) h.tickets_are ∙ sym items;
      jobs_are = map-append (λ (t : T × Job). t.1) h.tasks ((ticket, job) ∷ []) ∙ ap (λ js. js ++ job ∷ []) h.jobs_are;
      has = has h.tasks h.has;
      fresh = joined (IsFresh job.carriage.tariffs) todo (job ∷ []) h.fresh
          (record { tariffs_are = refl; ready = ready }, tt);
      listing = where_started told todo (out was) (out now) false (jobs was) (jobs now) (number ticket) job h.listing
          lists
          numbers;
    }

-- no job is out
pub none_started : {S T : Type 0} (out : S → List ℕ) (number : T → ℕ) (holds : S → ℕ → Job → Type 0)
    (gave : S → T → Type 0) (jobs : S → Option CrewTold) (crew : S) (tariffs : Tariffs) (tickets : List T)
    (day : List Tuple) (width : ℕ) → out crew ≡ [] → tickets ≡ [] →
    HasStarted out number holds gave jobs (jobs crew) crew tariffs tickets day width 0
none_started out number holds gave jobs crew tariffs tickets day width none empty = record {
  todo = [];
  runs = record {
    tasks = [];
    tickets_are = sym empty;
    jobs_are = refl;
    has =
        idle out number holds gave crew none;
    fresh = tt;
    listing = where_none (jobs crew) (out crew) false;
  };
  are = refl;
}

-- a worker's events can be run
pub can_run : (day : List Tuple) → IsDay day → (worker width : ℕ) → CanRun [] (events_for day worker width)
can_run day fit worker width =
    record { order = may_run worker width day fit.in_order; day = carried day DAY fit worker width }

-- no worker has more than one job
pub starts_few : (day : List Tuple) (width w : ℕ) → length (starts_of day width w) ≤ w
starts_few day width zero = omega arith
starts_few day width (suc w) =
    let rest = starts_few day width w in
    let one = one_at_most (events_for day w width) w (length (starts_of day width w)) in
    let long =
    length-append (starts_of day width w) (job_if (events_for day w width) w (length (starts_of day width w))) in
    omega (arith, rest, one, long)
  where
    one_at_most : (es : List LaneEvent) (worker number : ℕ) → length (job_if es worker number) ≤ 1
    one_at_most [] worker number = omega arith
    one_at_most (e ∷ es) worker number = omega arith

-- a worker more: it has a job, if it has events
pub next_started : {S T : Type 0} (out : S → List ℕ) (number : T → ℕ) (holds : S → ℕ → Job → Type 0)
    (gave : S → T → Type 0) (jobs : S → Option CrewTold) (told : Option CrewTold) (was now : S)
    (tariffs : Tariffs) (tickets later : List T) (day : List Tuple) (width worker : ℕ) (e : LaneEvent)
    (es : List LaneEvent) (job : Job) →
    (h : HasStarted out number holds gave jobs told was tariffs tickets day width worker) →
    events_for day worker width ≡ e ∷ es → job.worker ≡ worker → job.number ≡ length tickets → job.events ≡ e ∷ es →
    Running out number holds gave jobs told now tariffs later [] (h.todo ++ job ∷ []) false →
    HasStarted out number holds gave jobs told now tariffs later day width (worker + 1)
next_started out number holds gave jobs told was now tariffs tickets later day width worker e es job h some is_worker
    is_number is_events runs =
    let many : length tickets ≡ length (starts_of day width worker) = ap length (sym h.runs.tickets_are)
    ∙ length-map h.runs.tasks (λ t. t.0) ∙ sym (length-map h.runs.tasks (λ t. t.1)) ∙ ap length h.runs.jobs_are
    ∙ sym (length-map h.todo listing_of) ∙ ap length h.are in
    let one : listing_of job ≡ record {
      worker = worker;
      number = length (starts_of day width worker);
      events = e ∷
          es;
    } =
    started_made is_worker (is_number ∙ many) is_events in
    let same : starts_of day width (worker + 1) ≡ starts_of day width (suc worker) =
    ap (starts_of day width) (one_more worker) in
    record {
      todo = h.todo ++ job ∷ [];
      runs = runs;
      are = map-append listing_of h.todo (job ∷ []) ∙ ap (λ xs. xs ++ listing_of job ∷ []) h.are
          ∙ ap (λ x. starts_of day width worker ++ x ∷ []) one
          ∙ sym (ap (λ xs. starts_of day width worker ++ job_if xs worker (length (starts_of day width worker))) some)
          ∙ sym same;
    }
  where
    one_more : (n : ℕ) → n + 1 ≡ suc n
    one_more n = omega arith

    started_made : {v w m n : ℕ} {xs ys : List LaneEvent} → v ≡ w → m ≡ n → xs ≡ ys →
        ◌≡◌ {A = Started} (record { worker = v; number = m; events = xs })
        (record { worker = w; number = n; events = ys })
    started_made a b c = rw (a, b, c) refl

-- a worker with no events has no job
pub none_for : {S T : Type 0} (out : S → List ℕ) (number : T → ℕ) (holds : S → ℕ → Job → Type 0) (gave : S → T → Type 0)
    (jobs : S → Option CrewTold) (told : Option CrewTold) (crew : S)
    (tariffs : Tariffs) (tickets : List T) (day : List Tuple) (width worker : ℕ) →
    HasStarted out number holds gave jobs told crew tariffs tickets day width worker →
    events_for day worker width ≡ [] →
    HasStarted out number holds gave jobs told crew tariffs tickets day width (worker + 1)
none_for out number holds gave jobs told crew tariffs tickets day width worker h none = record {
  todo = h.todo;
  runs = h.runs;
  are = h.are ∙ sym (append-nil (starts_of day width worker))
      ∙ sym (ap (λ xs. starts_of day width worker ++ job_if xs worker (length (starts_of day width worker))) none)
      ∙ ap (starts_of day width) (one_more worker);
}
  where
    one_more : (n : ℕ) → suc n ≡ n + 1
    one_more n = omega arith

-- fewer than 64 jobs are out before the last of 64 workers
pub few_started : {S T : Type 0} (out : S → List ℕ) (number : T → ℕ) (holds : S → ℕ → Job → Type 0)
    (gave : S → T → Type 0) (jobs : S → Option CrewTold) (told : Option CrewTold) (crew : S)
    (tariffs : Tariffs) (tickets : List T) (day : List Tuple) (width worker : ℕ) →
    (h : HasStarted out number holds gave jobs told crew tariffs tickets day width worker) → worker < 64 →
    length h.todo < 64
few_started out number holds gave jobs told crew tariffs tickets day width worker h less =
    let many : length h.todo ≡ length (starts_of day width worker) = sym (length-map h.todo listing_of)
    ∙ ap length h.are in
    let few = starts_few day width worker in
    omega (arith, many, few, less)

-- the same, where the events are known to be some
pub next_filled : {S T : Type 0} (out : S → List ℕ) (number : T → ℕ) (holds : S → ℕ → Job → Type 0)
    (gave : S → T → Type 0) (jobs : S → Option CrewTold) (told : Option CrewTold) (was now : S)
    (tariffs : Tariffs) (tickets later : List T) (day : List Tuple) (width worker : ℕ) (es : List LaneEvent) (job : Job)
    → (h : HasStarted out number holds gave jobs told was tariffs tickets day width worker) →
    events_for day worker width ≡ es → 0 < length es →
    job.worker ≡ worker → job.number ≡ length tickets → job.events ≡ es →
    Running out number holds gave jobs told now tariffs later [] (h.todo ++ job ∷ []) false →
    HasStarted out number holds gave jobs told now tariffs later day width (worker + 1)
next_filled out number holds gave jobs told was now tariffs tickets later day width worker [] job h is some a b c runs =
    absurd (omega (arith, some))
next_filled out number holds gave jobs told was now tariffs tickets later day width worker (e ∷ es) job h is some a b c
    runs =
    next_started out number holds gave jobs told was now tariffs tickets later day width worker e es job h is a b c runs

-- as many tickets are kept as jobs are out
pub tickets_few : {S T : Type 0} (out : S → List ℕ) (number : T → ℕ) (holds : S → ℕ → Job → Type 0)
    (gave : S → T → Type 0) (jobs : S → Option CrewTold) (told : Option CrewTold) (crew : S)
    (tariffs : Tariffs) (tickets : List T) (day : List Tuple) (width worker : ℕ) →
    (h : HasStarted out number holds gave jobs told crew tariffs tickets day width worker) → worker < 64 →
    length tickets < 64
tickets_few out number holds gave jobs told crew tariffs tickets day width worker h less =
    let many : length tickets ≡ length h.todo = ap length (sym h.runs.tickets_are) ∙ length-map h.runs.tasks (λ t. t.0)
    ∙ sym (length-map h.runs.tasks (λ t. t.1)) ∙ ap length h.runs.jobs_are in
    let few = few_started out number holds gave jobs told crew tariffs tickets day width worker h less in
    omega (arith, many, few)
