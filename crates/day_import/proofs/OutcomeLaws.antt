-- what a day that was imported leaves
use Rattle.std.proofs.Common.{◌≡◌, ℕ, ◌⊎◌, inl, inr, ⊎_elim, Bool, true, false, List, [], ◌++◌, length, take, refl, sym}
use Rattle.std.proofs.Common.{ap, ◌∙◌, arith, subst, append-nil}
use Rattle.std.specs.Prelude.{Option, Some, None}
use Rattle.std.specs.Option.{option_map}
use Rattle.std.proofs.Math.Seq.{take-length}
use Rattle.std.proofs.KnownBytes.{Appends-nil}
use Rattle.road_time.specs.declared.road.Tuple.{Tuple}
use Rattle.road_time.specs.declared.day.Limits.{Limits}
use Rattle.road_time.specs.Reads.{reads}
use Rattle.road_time.specs.Day.{given, rules, notices}
use Rattle.road_time.specs.Text.{out as text_out}
use Rattle.road_time.proofs.ReadLaws.{reads_fit}
use Rattle.day_floor.specs.Operations.{Operation, Posted}
use Rattle.day_reading.specs.declared.day_ahead.DayAhead.{DayAhead}
use Rattle.day_reading.specs.declared.whole_day.ReadStop.{ReadStop}
use Rattle.day_reading.specs.declared.whole_day.ReadStop.TheVariants as reading
use Rattle.day_reading.specs.Days.{EndsReading, IsShortDay}
use Rattle.day_reading.specs.Ahead.{has_more, IsAhead, IsGatheringAhead}
use Rattle.day_reading.proofs.AheadLaws.{ahead_all}
use Rattle.ways_expressway.specs.declared.job.Job.{Job}
use Rattle.ways_expressway.specs.declared.finding.Finding.{Finding}
use Rattle.ways_expressway.specs.Results.{AreFirst}
use Rattle.ways_crews.specs.Told.{CrewTold, WhereTold}
use Rattle.ways_crews.specs.Callers.{ListsFirst}
use Rattle.day_floor.specs.Closes.{IsClosed}
use Rattle.day_floor.proofs.Ones.{few_tolls}
use Rattle.day_floor.specs.Shares.{State}
use Rattle.day_floor.specs.Floors.{Setting}
use Rattle.day_import.specs.declared.begun.Import.{Import}
use Rattle.day_import.specs.declared.day.WorkedDay.{WorkedDay}
use Rattle.day_import.specs.declared.fault.DayFault.{DayFault}
use Rattle.day_import.specs.declared.fault.DayFault.TheVariants.{ReadFault, NoMemory}
use Rattle.day_import.specs.Days.{IsOn}
use Rattle.day_import.specs.Halts.{IsCutDay}
use Rattle.day_import.specs.WorkedDays.{HaveFirstStarted}
use Rattle.day_import.specs.Published.{AreStepsBy, posted_more, published_of}
use Rattle.day_import.specs.RoundRuns.{Runs}
use Rattle.day_import.specs.DayFaults.{of_reading, WritesUpTo}
use Rattle.day_import.specs.PlannedRounds.{IsPlanned, HasPlannedJobs}
use Rattle.day_import.specs.Outcomes.{Task, task_of, HasStepsBy, HasImported, HasStopped}
use Rattle.day_import.proofs.FrontLaws.{front_before}
use Rattle.day_import.proofs.GrowLaws.{front_grows, steps_grow, started_grows}
use Rattle.day_import.proofs.HaltLaws.{steps_rules, stepped_rules}
use Rattle.day_import.proofs.RoundJobLaws.{none_first, runs_all, runs_listed, runs_first, runs_merged, runs_exact}
use Rattle.day_import.proofs.RoundJobLaws.{runs_right}
use Rattle.day_import.proofs.ReaderLaws.{given_first}

-- the list of a publisher that has published some operations more
list_behind : (ops : List Operation) (p : Option Posted) →
    published_of (option_map (posted_more ops) p) ≡ option_map (λ q. q.published ++ ops) p
list_behind ops None = refl
list_behind ops (Some p) = refl

list_same : (p : Option Posted) → published_of p ≡ option_map (λ q. q.published ++ []) p
list_same None = refl
list_same (Some p) = ap Some (sym (append-nil p.published))

module _ {S T : Type 0} (out : S → List ℕ) (number : T → ℕ) (holds : S → ℕ → Job → Type 0) (gave : S → T → Type 0)
    (exact : Bool) (jobs : S → Option CrewTold) (answers : S → Option (List Finding))
    (e : Setting) (told : Option CrewTold) (answered : Option (List Finding)) (run : Import T) (crew : S) (s : State)
    (h : Runs out number holds gave exact jobs answers e told answered run crew s)
    (limits : Limits) (late : ℕ) (a b : DayAhead) (was left old new : Option (List ℕ)) (before posted : Option Posted)
    (on : IsOn run.floor.limits late e a b was left old new before posted s)
    (all : s.settled ≡ length s.fed) (ended : has_more b ≡ false)
    (gathers : IsGatheringAhead a run.floor.limits late []) where
  abbrev w : ℕ
  w = run.floor.inboxes.width

  abbrev l : Limits
  l = run.floor.limits

  own : AreFirst s.fed s.fed
  own = ([], sym (append-nil s.fed))

  stepped_by : HasStepsBy (given s.found) (task_of e w l late) s.fed (length s.fed) before posted
  stepped_by = record {
    steps = on.steps.steps;
    are = subst (λ n. AreStepsBy (given s.found) s.fed l.backlog 0 n on.steps.steps) all
        (subst (λ ts. AreStepsBy (given s.found) ts l.backlog 0 s.settled on.steps.steps)
        (ap (λ n. take n s.fed) all ∙ take-length s.fed) on.steps.are);
    published = ap published_of on.steps.published ∙ list_behind on.steps.steps before;
  }

  stepped_rules_of : exact ≡ true →
      HasStepsBy (rules s.fed e.tariffs) (task_of e w l late) s.fed (length s.fed) before posted
  stepped_rules_of is = record {
    steps = on.steps.steps;
    are = subst (λ n. AreStepsBy (rules s.fed e.tariffs) s.fed l.backlog 0 n on.steps.steps) all
        (steps_rules w l e s h.stands.terms.some h.stands.sound (h.right is) s.fed own h.stands.sound.fit on.steps.steps
        on.steps.are);
    published = ap published_of on.steps.published ∙ list_behind on.steps.steps before;
  }

  -- a day that was imported
  pub whole_run : (none : run.tickets.items ≡ []) (r : WorkedDay) → r.tuples ≡ s.settled →
      IsClosed r.closed e.number (given s.found) e.number e.history s.fed →
      ((limits : Limits) (late : ℕ) (left : Option (List ℕ)) (bytes : List ℕ) (given : List Tuple) →
      IsAhead b limits late left bytes given → EndsReading r.end bytes (reads bytes limits late).refused) →
      IsShortDay r.end →
      HasImported (task_of e w l late) exact (λ bytes. IsAhead a l late was bytes []) answered (answers crew) told
      (jobs crew) old new before posted r
  whole_run none r count closed ends short = record {
    day = s.fed;
    fit = h.stands.sound.fit;
    read = λ bytes is. let ahead = on.given.reads bytes [] is in
        (ahead_all b l late left bytes s.fed ended ahead, ends l late left bytes s.fed ahead);
    short = short;
    count = count ∙ all;
    found = s.found;
    found_are = h.answers_are;
    few = few_tolls w l s h.stands.sound;
    wrote = runs_merged out number holds gave exact jobs answers e told answered run crew s h all old new on.text;
    exactly = runs_exact out number holds gave exact jobs answers e told answered run crew s h all old new on.text;
    closed = closed;
    right = runs_right out number holds gave exact jobs answers e told answered run crew s h all;
    stepped = stepped_by;
    stepped_right = stepped_rules_of;
    started = runs_all out number holds gave exact jobs answers e told answered run crew s h all none;
  }

  -- the jobs of its plan
  pub whole_planned : (turns : Option ℕ) → run.tickets.items ≡ [] → IsPlanned turns w l.backlog s →
      (bytes : List ℕ) → IsAhead a l late was bytes [] →
      HasPlannedJobs turns w l.backlog (reads bytes l late).tuples told (jobs crew) answered (answers crew)
  whole_planned turns none planned bytes is = record {
    last = s;
    planned = planned;
    fed = ahead_all b l late left bytes s.fed ended (on.given.reads bytes [] is);
    since = h.since;
    are = h.starts.are;
    listed = runs_listed out number holds gave exact jobs answers e told answered run crew s h all none;
    found = h.answers_are;
  }

  -- or whose closing was stopped
  pub whole_stopped : HasStopped (task_of e w l late) exact (λ bytes. IsAhead a l late was bytes []) told
      (jobs crew) old new before posted NoMemory
  whole_stopped =
      let first = λ (bytes : List ℕ) (is : IsAhead a l late was bytes []). given_first l late b left bytes s.fed
      (on.given.reads bytes [] is) in
      let day = λ (bytes : List ℕ). (reads bytes l late).tuples in
      let all_fit = λ (bytes : List ℕ). reads_fit bytes l late in
      let jobs_are = runs_first out number holds gave exact jobs answers e told answered run crew s h all in
      record {
        front = λ is bytes x kept known. front_grows s.fed (day bytes) (first bytes x) l (all_fit bytes) e.tariffs
            NoMemory e.number kept old new
            (front_before w l e s h.stands.terms.some h.stands.sound (h.right is) s.fed own h.stands.sound.fit old new
            on.text kept known);
        steps = λ is bytes x. steps_grow s.fed (day bytes) (first bytes x) l (all_fit bytes) e.tariffs l.backlog before
            posted
            (stepped_rules w l e s h.stands.terms.some h.stands.sound (h.right is) s.fed own h.stands.sound.fit before
            posted posted on.steps refl);
        started =
            λ bytes x. (
              jobs_are.0,
              started_grows s.fed (day bytes) (first bytes x) l (all_fit bytes) e.tariffs w l.backlog
                  jobs_are.0 jobs_are.1,
              jobs_are.2,
            );
      }

-- a day that was cut
pub cut_stopped : {S T : Type 0} (out : S → List ℕ) (number : T → ℕ) (holds : S → ℕ → Job → Type 0)
    (gave : S → T → Type 0) (exact : Bool) (jobs : S → Option CrewTold)
    (fault : DayFault) (e : Setting) (told : Option CrewTold) (width : ℕ) (limits : Limits) (late : ℕ) (a : DayAhead)
    (was old new : Option (List ℕ)) (before posted : Option Posted) (run : Import T) (crew last : S) →
    (h : IsCutDay out number holds gave exact jobs fault e told width limits late a was old new before posted run crew)
    → (since : List Job) × HaveFirstStarted width limits.backlog h.fed since
    × WhereTold (ListsFirst since) told (jobs last) →
    HasStopped (task_of e width limits late) exact (λ bytes. IsAhead a limits late was bytes []) told
    (jobs last) old new before posted fault
cut_stopped out number holds gave exact jobs fault e told width limits late a was old new before posted run crew last h
    started = record {
      front = λ is bytes x kept known. front_grows h.fed (reads bytes limits late).tuples (h.read bytes x) limits
          (reads_fit bytes limits late) e.tariffs fault e.number kept old new (h.front is kept known);
      steps = λ is bytes x. steps_grow h.fed (reads bytes limits late).tuples (h.read bytes x) limits
          (reads_fit bytes limits late) e.tariffs limits.backlog before posted (h.steps is);
      started =
          λ bytes x. (
            started.0,
            started_grows h.fed (reads bytes limits late).tuples (h.read bytes x) limits
                (reads_fit bytes limits late) e.tariffs width limits.backlog started.0 started.1,
            started.2,
          );
    }

-- what holds under a width and limits holds under equal ones
pub under : (P : ℕ → Limits → Type 0) (w n : ℕ) (l m : Limits) → w ≡ n → l ≡ m → P w l → P n m
under P w n l m wide same h = subst (λ k. P k m) wide (subst (P w) same h)

-- what is known of the bytes is known by whatever tells it
module _ (t : Task) (exact : Bool) (was_is is : List ℕ → Type 0) (sees : (bytes : List ℕ) → is bytes → was_is bytes)
    (jobs listed : Option CrewTold) (text new : Option (List ℕ)) (was posted : Option Posted) where
  pub seen_run : (answers answered : Option (List Finding)) (r : WorkedDay) →
      HasImported t exact was_is answers answered jobs listed text new was posted r →
      HasImported t exact is answers answered jobs listed text new was posted r
  seen_run answers answered r h = record {
    day = h.day;
    fit = h.fit;
    read = λ bytes b. h.read bytes (sees bytes b);
    short = h.short;
    count = h.count;
    found = h.found;
    found_are = h.found_are;
    few = h.few;
    wrote = h.wrote;
    exactly = h.exactly;
    closed = h.closed;
    right = h.right;
    stepped = h.stepped;
    stepped_right = h.stepped_right;
    started = h.started;
  }

  pub seen_stopped : (fault : DayFault) → HasStopped t exact was_is jobs listed text new was posted fault →
      HasStopped t exact is jobs listed text new was posted fault
  seen_stopped fault h =
      record {
        front = λ x bytes b. h.front x bytes (sees bytes b);
        steps =
            λ x bytes b. h.steps x bytes (sees bytes b);
        started = λ bytes b. h.started bytes (sees bytes b);
      }

-- a day that was stopped before anything was read
stopped_at_once : (fault : DayFault) → (fault ≡ ReadFault) ⊎ (fault ≡ NoMemory) →
    (text : List ℕ) (old : Option (List ℕ)) → WritesUpTo fault text old old
stopped_at_once fault why text old = ⊎_elim
    (λ (e : fault ≡ ReadFault). subst (λ f. WritesUpTo f text old old) (sym e) (0, Appends-nil old))
    (λ (e : fault ≡ NoMemory). subst (λ f. WritesUpTo f text old old) (sym e) (0, Appends-nil old)) why

pub why_read : (stop : ReadStop) → (of_reading stop ≡ ReadFault) ⊎ (of_reading stop ≡ NoMemory)
why_read reading.ReadFault = inl refl
why_read reading.NoMemory = inr refl

pub none_stopped : (t : Task) (exact : Bool) (is : List ℕ → Type 0) (told : Option CrewTold) (text : Option (List ℕ))
    (posted : Option Posted) (fault : DayFault) →
    (fault ≡ ReadFault) ⊎ (fault ≡ NoMemory) → HasStopped t exact is told told text text posted posted fault
none_stopped t exact is told text posted fault why = record {
  front = λ x bytes b kept known. stopped_at_once fault why
      (text_out (notices (reads bytes t.limits t.late).tuples t.tariffs t.number kept)) text;
  steps = λ x bytes b. record { steps = []; mark = 0; within = omega arith; are = refl; published = list_same posted };
  started = λ bytes b. none_first t.width t.limits (reads bytes t.limits t.late).tuples told;
}
