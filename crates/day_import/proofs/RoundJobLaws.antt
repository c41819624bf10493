-- the jobs of an import
use Rattle.std.proofs.Common.{◌≡◌, ℕ, ◌<◌, ◌≤◌, Bool, true, false, List, [], ◌∷◌, ◌++◌, length, take, map, refl, sym}
use Rattle.std.proofs.Common.{ap, ◌∙◌, arith, subst, append_assoc, append-nil}
use Rattle.std.specs.Prelude.{Option, Some, None}
use Rattle.std.specs.List.{AllByRecursion}
use Rattle.std.specs.Io.KnownBytes.{Appends}
use Rattle.std.proofs.Math.Seq.{take-length}
use Rattle.road_time.specs.declared.road.Tuple.{Tuple}
use Rattle.road_time.specs.declared.day.Limits.{Limits}
use Rattle.road_time.specs.Day.{notices, merged}
use Rattle.road_time.specs.Text.{out as text_out}
use Rattle.ways_expressway.specs.declared.job.Job.{Job}
use Rattle.ways_expressway.specs.declared.finding.Finding.{Finding}
use Rattle.ways_expressway.specs.declared.lane_event.LaneEvent.{LaneEvent}
use Rattle.ways_expressway.specs.Events.{events_for, position_told}
use Rattle.ways_expressway.specs.Results.{AreFirst}
use Rattle.ways_crews.specs.Told.{CrewTold, WhereTold}
use Rattle.ways_crews.specs.Callers.{HasOut, IsListingWhereTold, ListsAll, ListsFirst}
use Rattle.ways_crews.proofs.CallerLaws.{idle, all_home}
use Rattle.ways_crews.proofs.ListingLaws.{where_none, where_all, where_first}
use Rattle.day_floor.specs.Shares.{State, start, events_ahead}
use Rattle.day_floor.specs.Sound.{SoundState}
use Rattle.day_floor.specs.Starts.{HaveStarted, started_for}
use Rattle.day_floor.specs.Floors.{Setting, StandsFor}
use Rattle.day_floor.proofs.Events.{all_ahead, all_below, events_grow}
use Rattle.day_floor.proofs.Starts.{started_first, started_whole}
use Rattle.day_floor.proofs.Truths.{exact_notices, exact_charges, true_start}
use Rattle.day_floor.proofs.Marks.{settled_le}
use Rattle.day_import.specs.RoundRuns.{Runs, HasAnswered, start_of}
use Rattle.day_import.specs.Fronts.{HasText}
use Rattle.day_import.specs.WorkedDays.{AreRightFor, HaveAllStarted, HaveFirstStarted}
use Rattle.day_import.specs.declared.begun.Import.{Import}
use Rattle.day_import.proofs.OpenLaws.{open_start}

-- the first of the first are the first
pub first_then : {X : Type 0} (a b c : List X) → AreFirst a b → AreFirst b c → AreFirst a c
first_then a b c h k = (h.0 ++ k.0, k.1 ∙ (ap (λ xs. xs ++ k.0) h.1 ∙ append_assoc a h.0 k.0))

-- what was started for a state of a day is the first of the day's
pub first_started : (width : ℕ) (limits : Limits) (s : State) (day : List Tuple) (jobs : List Job) →
    SoundState width limits s → AreFirst s.fed day → HaveStarted width limits.backlog s (map start_of jobs) →
    HaveFirstStarted width limits.backlog day jobs
first_started width limits s day jobs sound first have = record {
  numbered = have.numbered;
  each = have.each;
  first = λ w k.
      first_then (started_for w (map start_of jobs)) (events_for s.fed w width) (events_for day w width)
      (started_first width limits s (map start_of jobs) sound have w k)
      (subst (λ d. AreFirst (events_for s.fed w width) (events_for d w width)) (sym first.1)
      (events_grow s.fed first.0 w width));
}

-- no event is ahead where all is settled
none_ahead : (n : ℕ) (es : List LaneEvent) → AllByRecursion (λ e. n ≤ position_told e) es →
    AllByRecursion (λ e. position_told e < n) es → es ≡ []
none_ahead n [] a b = refl
none_ahead n (e ∷ es) a b = absurd (let x = a.0 in let y = b.0 in omega (arith, x, y))

none_last : (xs ys : List LaneEvent) → xs ++ ys ≡ [] → ys ≡ []
none_last [] ys h = h
none_last (x ∷ xs) ys h = cc

pub all_started : (width : ℕ) (limits : Limits) (s : State) (day : List Tuple) (jobs : List Job) →
    SoundState width limits s → s.fed ≡ day → s.settled ≡ length day →
    HaveStarted width limits.backlog s (map start_of jobs) → HaveAllStarted width limits.backlog day jobs
all_started width limits s day jobs sound fed all have =
    let settled : s.settled ≡ length s.fed = all ∙ ap length (sym fed) in
    record {
      numbered = have.numbered;
      each = have.each;
      whole = λ w k.
          let sh = s.share w in
          let none =
          none_ahead s.settled (events_ahead sh) (all_ahead width limits s sound w k)
          (subst (λ n. AllByRecursion (λ e. position_told e < n) (events_ahead sh)) (sym settled)
          (all_below width limits s sound w k)) in
          subst (λ d. started_for w (map start_of jobs) ≡ events_for d w width) fed
          (started_whole width limits s (map start_of jobs) sound have w k (none_last sh.out sh.waiting none));
    }

-- no job was started
pub none_first : (width : ℕ) (limits : Limits) (day : List Tuple) (told : Option CrewTold) → (since : List Job)
    × HaveFirstStarted width limits.backlog day since × WhereTold (ListsFirst since) told told
none_first width limits day told = (
  [],
  record { numbered = tt; each = tt; first = λ w k. (events_for day w width, refl) },
  where_first told [] [] false told (where_none told [] false),
)

-- the same, of an equal width and equal limits
pub as_listed_first : (was width : ℕ) (old limits : Limits) (day : List Tuple) (told now : Option CrewTold) →
    was ≡ width → old ≡ limits →
    (since : List Job) × HaveFirstStarted was old.backlog day since × WhereTold (ListsFirst since) told now →
    (since : List Job) × HaveFirstStarted width limits.backlog day since × WhereTold (ListsFirst since) told now
as_listed_first was width old limits day told now e f h =
    subst (λ n. (since : List Job) × HaveFirstStarted n limits.backlog day since
    × WhereTold (ListsFirst since) told now) e
    (subst (λ l. (since : List Job) × HaveFirstStarted was l.backlog day since × WhereTold (ListsFirst since) told now)
    f h)

pub as_listed_all : (was width : ℕ) (old limits : Limits) (day : List Tuple) (told now : Option CrewTold) →
    was ≡ width → old ≡ limits →
    (since : List Job) × HaveAllStarted was old.backlog day since × WhereTold (ListsAll since) told now →
    (since : List Job) × HaveAllStarted width limits.backlog day since × WhereTold (ListsAll since) told now
as_listed_all was width old limits day told now e f h =
    subst (λ n. (since : List Job) × HaveAllStarted n limits.backlog day since × WhereTold (ListsAll since) told now) e
    (subst (λ l. (since : List Job) × HaveAllStarted was l.backlog day since × WhereTold (ListsAll since) told now) f h)

-- nothing was answered yet
none_answered : (told : Option (List Finding)) → HasAnswered told [] told
none_answered None = tt
none_answered (Some was) = ([], sym (append-nil was), refl)

module _ {S T : Type 0} (out : S → List ℕ) (number : T → ℕ) (holds : S → ℕ → Job → Type 0) (gave : S → T → Type 0)
    (exact : Bool) (jobs : S → Option CrewTold) (answers : S → Option (List Finding)) where
  -- an import that begins on a crew that has nothing out
  pub begun_runs : (e : Setting) (run : Import T) (crew : S) → StandsFor e run.floor start → run.tickets.items ≡ [] →
      out crew ≡ [] → Runs out number holds gave exact jobs answers e (jobs crew) (answers crew) run crew start
  begun_runs e run crew st none free = record {
    stands = st;
    tasks = [];
    tickets = sym none;
    held = idle out number holds gave crew free;
    open' = open_start e.tariffs run.floor.inboxes.width;
    outs_are = refl;
    right = λ x. true_start e.tariffs run.floor.inboxes.width;
    since = [];
    starts = record { are = refl; count = refl; numbered = tt; each = tt; whole = λ w k. refl };
    listing = where_none (jobs crew) (out crew) false;
    answers_are = none_answered (answers crew);
  }

  -- without tickets nothing is out
  no_tasks : (tasks : List (T × Job)) → map (λ t. t.0) tasks ≡ [] → tasks ≡ []
  no_tasks [] h = refl
  no_tasks (t ∷ tasks) h = cc

  module _ (e : Setting) (told : Option CrewTold) (answered : Option (List Finding)) (run : Import T) (crew : S)
      (s : State)
      (h : Runs out number holds gave exact jobs answers e told answered run crew s) where
    pub nothing_out : run.tickets.items ≡ [] → out crew ≡ []
    nothing_out none =
        all_home out number holds gave crew
        (subst (HasOut out number holds gave crew) (no_tasks h.tasks (h.tickets ∙ none)) h.held)

    module _ (all : s.settled ≡ length s.fed) where
      -- all jobs were started, and are listed
      pub runs_all : run.tickets.items ≡ [] → (since : List Job)
          × HaveAllStarted run.floor.inboxes.width run.floor.limits.backlog s.fed since
          × WhereTold (ListsAll since) told (jobs crew)
      runs_all none = (
        h.since,
        all_started run.floor.inboxes.width run.floor.limits s s.fed h.since h.stands.sound refl all h.starts,
        where_all told h.since (jobs crew)
            (subst (λ o. IsListingWhereTold told h.since o false (jobs crew)) (nothing_out none) h.listing),
      )

      -- those that were started since
      pub runs_listed : run.tickets.items ≡ [] → WhereTold (ListsAll h.since) told (jobs crew)
      runs_listed none = where_all told h.since (jobs crew)
          (subst (λ o. IsListingWhereTold told h.since o false (jobs crew)) (nothing_out none) h.listing)

      pub runs_first : (since : List Job)
          × HaveFirstStarted run.floor.inboxes.width run.floor.limits.backlog s.fed since
          × WhereTold (ListsFirst since) told (jobs crew)
      runs_first = (
        h.since,
        first_started run.floor.inboxes.width run.floor.limits s s.fed h.since h.stands.sound
            ([], sym (append-nil s.fed)) h.starts,
        where_first told h.since (out crew) false (jobs crew) h.listing,
      )

      whole : take s.settled s.fed ≡ s.fed
      whole = ap (λ n. take n s.fed) all ∙ take-length s.fed

      -- the text is that of the findings that were answered
      pub runs_merged : (old new : Option (List ℕ)) → HasText e s old new → (kept : ℕ → ℕ → ℕ → ℕ) →
          e.history ≡ Some kept → Appends old new (text_out (merged s.fed s.found e.number kept))
      runs_merged old new text kept known =
          subst (λ ts. Appends old new (text_out (merged ts s.found e.number kept))) whole (text kept known)

      -- the findings of an exact crew make the notices and charges of the rules
      pub runs_right : exact ≡ true → AreRightFor s.found s.fed e.tariffs e.number
      runs_right is =
          let w = run.floor.inboxes.width in
          let low = settled_le w run.floor.limits s h.stands.sound in
          subst (λ ts. AreRightFor s.found ts e.tariffs e.number) whole (record {
            notices_are =
                λ kept. exact_notices w run.floor.limits s h.stands.terms.some h.stands.sound s.settled low e.tariffs
                (h.right is) e.number kept;
            charges_are = exact_charges w run.floor.limits s h.stands.terms.some h.stands.sound s.settled low e.tariffs
                (h.right is);
          })

      -- with an exact crew the text is that of the rules
      pub runs_exact : (old new : Option (List ℕ)) → HasText e s old new → exact ≡ true → (kept : ℕ → ℕ → ℕ → ℕ) →
          e.history ≡ Some kept → Appends old new (text_out (notices s.fed e.tariffs e.number kept))
      runs_exact old new text is kept known =
          subst (λ ns. Appends old new (text_out ns)) ((runs_right is).notices_are kept)
          (runs_merged old new text kept known)
