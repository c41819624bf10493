-- an import between two steps
use Rattle.std.proofs.Common.{◌≡◌, ℕ, ◌<◌, Bool, true, false, List, [], ◌∷◌, ◌++◌, length, map, sym, ap, ◌∙◌, arith}
use Rattle.std.proofs.Common.{subst}
use Rattle.std.specs.Prelude.{Option}
use Rattle.std.proofs.lemmas.Bool.{cond-true, cond-false}
use Rattle.std.proofs.lemmas.List.{map-append, length-map}
use Rattle.road_time.specs.Rates.{Tariffs}
use Rattle.ways_expressway.specs.declared.job.Job.{Job}
use Rattle.ways_expressway.specs.declared.finding.Finding.{Finding}
use Rattle.ways_expressway.specs.declared.lane_event.LaneEvent.{LaneEvent}
use Rattle.ways_expressway.specs.Ready.{IsReady}
use Rattle.ways_crews.specs.Numbers.{IsOneMore}
use Rattle.ways_crews.specs.Told.{CrewTold, WhereTold, ListsJob}
use Rattle.ways_crews.specs.Callers.{HasOut}
use Rattle.ways_crews.proofs.ListingLaws.{where_started}
use Rattle.day_floor.specs.Shares.{JobStart, State, can_give}
use Rattle.day_floor.specs.Steps.{after_give}
use Rattle.day_floor.specs.Sound.{IsTrue}
use Rattle.day_floor.specs.Jobs.{IsNext}
use Rattle.day_floor.specs.Starts.{next_start, HaveStarted}
use Rattle.day_floor.specs.Floors.{Setting, StandsFor}
use Rattle.day_floor.proofs.Jobs.{next_ready}
use Rattle.day_floor.proofs.Starts.{starts_give}
use Rattle.day_floor.proofs.Truths.{true_give}
use Rattle.day_import.specs.Tasks.{AreOpen}
use Rattle.day_import.specs.RoundRuns.{Runs, HasAnswered, start_of, given_if}
use Rattle.day_import.specs.declared.begun.Import.{Import}
use Rattle.day_import.proofs.OpenLaws.{few_open, open_give}

abbrev start_at : ℕ → ℕ → List LaneEvent → JobStart
start_at w n es = record { worker = w; number = n; events = es }

-- the job that is given is the one that starts
start_is : (tariffs : Tariffs) (s : State) (worker : ℕ) (job : Job) → IsNext tariffs s worker job →
    start_of job ≡ next_start s worker
start_is tariffs s worker job next =
    ap (λ w. start_at w job.number job.events) next.worker_is
    ∙ (ap (λ n. start_at worker n job.events) next.number ∙ ap (start_at worker s.given) next.events)

-- a worker that is given a job, or none
pub if_given : (s : State) (worker : ℕ) → can_give (s.share worker) ≡ true → after_give s worker ≡ given_if s worker
if_given s worker can = sym (cond-true (can_give (s.share worker)) (after_give s worker) s can)

pub if_none : (s : State) (worker : ℕ) → can_give (s.share worker) ≡ false → s ≡ given_if s worker
if_none s worker can = sym (cond-false (can_give (s.share worker)) (after_give s worker) s can)

module _ {S T : Type 0} (out : S → List ℕ) (number : T → ℕ) (holds : S → ℕ → Job → Type 0) (gave : S → T → Type 0)
    (exact : Bool) (jobs : S → Option CrewTold) (answers : S → Option (List Finding))
    (e : Setting) (told : Option CrewTold) (answered : Option (List Finding)) (run : Import T) (crew : S) (s : State)
    (h : Runs out number holds gave exact jobs answers e told answered run crew s) where
  abbrev Now : Import T → S → State → Type 0
  Now = Runs out number holds gave exact jobs answers e told answered

  -- the same of an import whose room alone is another
  pub same_runs : (now : Import T) → now.tickets.items ≡ run.tickets.items →
      now.floor.inboxes.width ≡ run.floor.inboxes.width → now.floor.limits ≡ run.floor.limits → StandsFor e now.floor s
      → Now now crew s
  same_runs now items width limits st = record {
    stands = st;
    tasks = h.tasks;
    tickets = h.tickets ∙ sym items;
    held = h.held;
    open' = subst (λ n. AreOpen e.tariffs n s (map (λ t. t.1) h.tasks)) (sym width) h.open';
    outs_are = h.outs_are;
    right = λ x. subst (λ n. IsTrue e.tariffs n s) (sym width) (h.right x);
    since = h.since;
    starts = subst (λ n. HaveStarted n now.floor.limits.backlog s (map start_of h.since)) (sym width)
        (subst (λ l. HaveStarted run.floor.inboxes.width l.backlog s (map start_of h.since)) (sym limits) h.starts);
    listing = h.listing;
    answers_are = h.answers_are;
  }

  -- no job was given
  pub none_runs : (now : Import T) (worker : ℕ) → now.tickets.items ≡ run.tickets.items →
      now.floor.inboxes.width ≡ run.floor.inboxes.width → now.floor.limits ≡ run.floor.limits →
      can_give (s.share worker) ≡ false → StandsFor e now.floor s → Now now crew (given_if s worker)
  none_runs now worker items width limits can st =
      subst (Now now crew) (if_none s worker can) (same_runs now items width limits st)

  module _ (worker : ℕ) (within : worker < run.floor.inboxes.width) (job : Job)
      (next : IsNext e.tariffs s worker job) where
    -- the job can be run
    pub given_ready : (before : List LaneEvent) × IsReady job.carriage before job.events
    given_ready = (
      (s.share worker).back,
      next_ready e.tariffs run.floor.inboxes.width run.floor.limits s worker job
          h.stands.terms h.stands.sound within next,
    )

    -- and the crew has room for it
    pub given_room : (tasks : List (T × Job)) × HasOut out number holds gave crew tasks × (length tasks < 64)
    given_room =
        let few =
        few_open e.tariffs run.floor.inboxes.width s worker within (map (λ t. t.1) h.tasks) h.open' next.may in
        let l = length-map h.tasks (λ (t : T × Job). t.1) in
        let most = h.stands.terms.few in
        (h.tasks, h.held, omega (arith, few, l, most))

    -- it was started
    pub given_runs : (now : Import T) (crewed : S) (ticket : T) → now.tickets.items ≡ run.tickets.items ++ ticket ∷ [] →
        now.floor.inboxes.width ≡ run.floor.inboxes.width → now.floor.limits ≡ run.floor.limits →
        StandsFor e now.floor (after_give s worker) →
        ((tasks : List (T × Job)) → HasOut out number holds gave crew tasks →
        HasOut out number holds gave crewed (tasks ++ (ticket, job) ∷ [])) →
        IsOneMore (number ticket) (out crew) (out crewed) →
        WhereTold (ListsJob (number ticket) job) (jobs crew) (jobs crewed) → answers crewed ≡ answers crew →
        Now now crewed (given_if s worker)
    given_runs now crewed ticket items width limits st held more lists same =
        subst (Now now crewed) (if_given s worker next.may) (record {
          stands = st;
          tasks = h.tasks ++ (ticket, job) ∷ [];
          tickets = map-append (λ (t : T × Job). t.0) h.tasks ((ticket, job) ∷ [])
              ∙ (ap (λ ts. ts ++ ticket ∷ []) h.tickets ∙ sym items);
          held = held h.tasks h.held;
          open' = subst
              (λ n. AreOpen e.tariffs n (after_give s worker) (map (λ t. t.1) (h.tasks ++ (ticket, job) ∷ [])))
              (sym width)
              (subst (AreOpen e.tariffs run.floor.inboxes.width (after_give s worker))
              (sym (map-append (λ (t : T × Job). t.1) h.tasks ((ticket, job) ∷ [])))
              (open_give e.tariffs run.floor.inboxes.width s worker within job (map (λ t. t.1) h.tasks) h.open' next));
          outs_are = map-append (λ (t : T × Job). t.1.worker) h.tasks ((ticket, job) ∷ [])
              ∙ (ap (λ ws. ws ++ job.worker ∷ []) h.outs_are ∙ ap (λ w. s.outs ++ w ∷ []) next.worker_is);
          right = λ x. true_give e.tariffs now.floor.inboxes.width s worker
              (subst (λ n. IsTrue e.tariffs n s) (sym width) (h.right x));
          since = h.since ++ job ∷ [];
          starts = subst
              (λ n. HaveStarted n now.floor.limits.backlog (after_give s worker) (map start_of (h.since ++ job ∷ [])))
              (sym width)
              (subst (λ l. HaveStarted run.floor.inboxes.width l.backlog (after_give s worker)
              (map start_of (h.since ++ job ∷ []))) (sym limits)
              (subst (HaveStarted run.floor.inboxes.width run.floor.limits.backlog (after_give s worker))
              (sym (map-append start_of h.since (job ∷ [])
              ∙ ap (λ j. map start_of h.since ++ j ∷ []) (start_is e.tariffs s worker job next)))
              (starts_give run.floor.inboxes.width run.floor.limits s (map start_of h.since) h.stands.sound h.starts
              worker within next.may)));
          listing = where_started told h.since (out crew) (out crewed) false (jobs crew) (jobs crewed)
              (number ticket) job h.listing lists more;
          answers_are = subst (HasAnswered answered s.found) (sym same) h.answers_are;
        })
