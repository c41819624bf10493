-- Which jobs a crew tells of a day, and what is published of it, by how its import ended.
use Rattle.std.proofs.Common.{◌≡◌, inl, inr, ℕ, List, [], ◌∷◌, ◌++◌, length, map, Option, Some, None, refl, sym, ap}
use Rattle.std.proofs.Common.{◌∙◌, append-nil, append_assoc, arith, subst}
use Rattle.std.specs.Option.{option_map}
use Rattle.road_time.specs.declared.road.Tuple.{Tuple}
use Rattle.road_time.specs.Rates.{Tariffs}
use Rattle.road_time.specs.Day.{rules}
use Rattle.ways_expressway.specs.declared.job.Job.{Job}
use Rattle.ways_expressway.specs.declared.finding.Finding.{Finding}
use Rattle.ways_expressway.specs.Events.{events_for}
use Rattle.ways_crews.specs.Lists.{listing_of}
use Rattle.ways_crews.specs.Told.{CrewTold, WhereTold}
use Rattle.ways_crews.specs.Callers.{ListsAll, ListsFirst}
use Rattle.day_floor.specs.Operations.{Operation, Begin, Posted, posted_with, queued_with, IsRefused}
use Rattle.day_floor.specs.Starts.{started_for}
use Rattle.day_import.specs.declared.fault.DayFault.{DayFault}
use Rattle.day_import.specs.RoundRuns.{start_of}
use Rattle.day_import.specs.WorkedDays.{HaveAllStarted, HaveFirstStarted}
use Rattle.day_import.specs.Published.{HasSteps, published_of}
use Rattle.day_import.specs.Outcomes.{Task, HasStepsBy}
use Rattle.keep_office.specs.declared.kept.KeepFault.{KeepFault}
use Rattle.day_import.specs.declared.outcomes.Outcome.{Outcome}
use Rattle.day_import.specs.declared.outcomes.Outcome.TheVariants.{Stored, Answered, Refused}
use Rattle.day_import.specs.Imports.{IsOfKeptDay}
use Rattle.day_import.specs.Runs.{stopped_outcome, refused_outcome, WhereWorked, HasStartedJobs, HasDaySteps}
use Rattle.day_import.specs.Runs.{PublishesDay, PublishesUnderSome}
use Rattle.day_plan.specs.declared.work.Plan.{Plan}
use Rattle.day_import.specs.Planned.{WorksPlanned}
use Rattle.day_import.proofs.FinishLaws.{where_worked}
use Rattle.day_import.specs.declared.fault.DayFault.TheVariants as stop
use Rattle.keep_office.specs.declared.kept.KeepFault.TheVariants as keeping

-- a day whose work was stopped was not worked
pub stops_unworked : (s : DayFault) (P : Type 0) → WhereWorked (stopped_outcome s) P
stops_unworked stop.ReadFault P = tt
stops_unworked _ P = tt

-- nor one whose keeper refused
pub refused_unworked : (fault : KeepFault) (P : Type 0) → WhereWorked (refused_outcome fault) P
refused_unworked keeping.Failed P = tt
refused_unworked keeping.NoMemory P = tt

-- a day that is kept is not worked
pub kept_unworked : (outcome : Outcome) (P : Type 0) → IsOfKeptDay outcome → WhereWorked outcome P
kept_unworked (Stored kept) P h = absurd h
kept_unworked (Answered kept) P h = absurd h
kept_unworked (Refused line cause) P h = absurd h
kept_unworked _ P h = tt

-- what lists all lists the first
lists_first : (jobs : List Job) (was now : Option CrewTold) → WhereTold (ListsAll jobs) was now →
    WhereTold (ListsFirst jobs) was now
lists_first jobs None None h = tt
lists_first jobs None (Some now) h = absurd h
lists_first jobs (Some was) None h = absurd h
lists_first jobs (Some was) (Some now) h = (map listing_of jobs, [], h, sym (append-nil (map listing_of jobs)))

-- all jobs of a day are its first ones
all_first : (width backlog : ℕ) (day : List Tuple) (since : List Job) → HaveAllStarted width backlog day since →
    HaveFirstStarted width backlog day since
all_first width backlog day since h = record {
  numbered = h.numbered;
  each = h.each;
  first = λ worker within.
      ([], sym (h.whole worker within) ∙ sym (append-nil (started_for worker (map start_of since))));
}

-- the jobs of a day that was worked
pub started_all : (width backlog : ℕ) (day : List Tuple) (was now : Option CrewTold) (outcome : Outcome)
    (since : List Job)
    → HaveAllStarted width backlog day since → WhereTold (ListsAll since) was now →
    HasStartedJobs width backlog day was now outcome
started_all width backlog day was now outcome since h listed =
    record {
      since = since;
      started = all_first width backlog day since h;
      listed =
          lists_first since was now listed;
      all = where_worked outcome _ (h, listed);
    }

-- and of one whose work was stopped
pub started_first : (width backlog : ℕ) (day : List Tuple) (was now : Option CrewTold) (s : DayFault)
    (since : List Job) → HaveFirstStarted width backlog day since → WhereTold (ListsFirst since) was now
    → HasStartedJobs width backlog day was now (stopped_outcome s)
started_first width backlog day was now s since h listed =
    record { since = since; started = h; listed = listed; all = stops_unworked s _ }

-- a crew that started no job lists none more
told_same : (told : Option CrewTold) → WhereTold (ListsFirst []) told told
told_same None = tt
told_same (Some t) = ([], [], sym (append-nil t.listed), refl)

-- no job was started
pub none_started : (width backlog : ℕ) (day : List Tuple) (told : Option CrewTold) (outcome : Outcome)
    → WhereWorked outcome (HaveAllStarted width backlog day [] × WhereTold (ListsAll []) told told) →
    HasStartedJobs width backlog day told told outcome
none_started width backlog day told outcome h = record {
  since = [];
  started = record { numbered = tt; each = tt; first = λ worker within. (events_for day worker width, refl) };
  listed = told_same told;
  all = h;
}

-- a crew of a day whose keeper refused started no job
pub refused_started : (width backlog : ℕ) (day : List Tuple) (told : Option CrewTold) (fault : KeepFault)
    (outcome : Outcome)
    → outcome ≡ refused_outcome fault → HasStartedJobs width backlog day told told outcome
refused_started width backlog day told fault outcome is =
    subst (HasStartedJobs width backlog day told told) (sym is)
    (none_started width backlog day told (refused_outcome fault) (refused_unworked fault _))

-- and none is due by a plan
pub refused_planned : (plan : Plan) (backlog : ℕ) (day : List Tuple) (told now : Option CrewTold)
    (answers answered : Option (List Finding)) (fault : KeepFault) (outcome : Outcome) →
    outcome ≡ refused_outcome fault → WorksPlanned plan backlog day told now answers answered outcome
refused_planned plan backlog day told now answers answered fault outcome is =
    subst (WorksPlanned plan backlog day told now answers answered) (sym is) (refused_unworked fault _)

-- the steps of a day that was worked
pub stepped_all : (t : Task) (day : List Tuple) (old now : Option Posted) (outcome : Outcome) →
    HasStepsBy (rules day t.tariffs) t day (length day) old now →
    HasDaySteps t.tariffs day t.limits.backlog old now outcome
stepped_all t day old now outcome h =
    record {
      steps = h.steps;
      mark = length day;
      within = omega arith;
      are = h.are;
      published = h.published;
      whole =
          where_worked outcome _ refl;
    }

-- and of one whose work was stopped
pub stepped_some : (tariffs : Tariffs) (day : List Tuple) (backlog : ℕ) (old now : Option Posted) (s : DayFault) →
    HasSteps tariffs day backlog old now → HasDaySteps tariffs day backlog old now (stopped_outcome s)
stepped_some tariffs day backlog old now s h =
    record {
      steps = h.steps;
      mark = h.mark;
      within = h.within;
      are = h.are;
      published = h.published;
      whole =
          stops_unworked s _;
    }

-- after a begin the steps follow it
pub begun_published : (tariffs : Tariffs) (day : List Tuple) (number backlog : ℕ) (was : Posted)
    (old mid now : Option Posted) (outcome : Outcome) → old ≡ Some was →
    mid ≡ option_map (posted_with (Begin number)) old
    → HasDaySteps tariffs day backlog mid now outcome → PublishesDay tariffs day number backlog was now outcome
begun_published tariffs day number backlog was old mid now outcome e f h =
    let start : mid ≡ Some (posted_with (Begin number) was) = f ∙ ap (option_map (posted_with (Begin number))) e in
    let all : published_of now ≡ Some ((was.published ++ (was.queued ++ Begin number ∷ [])) ++ h.steps) =
    h.published ∙ ap (option_map (λ (p : Posted). p.published ++ h.steps)) start in
    let flat : (was.published ++ (was.queued ++ Begin number ∷ [])) ++ h.steps ≡ was.published
    ++ (was.queued ++ Begin number ∷ h.steps) =
    append_assoc was.published (was.queued ++ Begin number ∷ []) h.steps
    ∙ ap (λ (ops : List Operation). was.published ++ ops) (append_assoc was.queued (Begin number ∷ []) h.steps) in
    inl (record {
      steps = h.steps;
      mark = h.mark;
      within = h.within;
      are = h.are;
      published =
          all ∙ ap Some flat;
      whole = h.whole;
    })

-- a begin that was refused published nothing
pub refused_published : (number : ℕ) (was : Posted) (old now : Option Posted) → old ≡ Some was →
    IsRefused (Begin number) old now → published_of now ≡ Some was.published
refused_published number was old now e (inl same) = ap published_of (same ∙ e)
refused_published number was old now e (inr queued) =
    ap published_of (queued ∙ ap (option_map (queued_with (Begin number))) e)

-- nor did one that was not worked and whose publisher stands as it was
pub none_published : (day : List Tuple) (number backlog : ℕ) (was : Posted) (now : Option Posted) (outcome : Outcome) →
    now ≡ Some was → WhereWorked outcome ⊥ → PublishesUnderSome day number backlog was now outcome
none_published day number backlog was now outcome is unworked = ([], inr (ap published_of is, unworked))

-- as where a keeper refused
pub refused_none : (day : List Tuple) (number backlog : ℕ) (was : Posted) (now : Option Posted) (fault : KeepFault)
    (outcome : Outcome) → outcome ≡ refused_outcome fault → now ≡ Some was →
    PublishesUnderSome day number backlog was now outcome
refused_none day number backlog was now fault outcome is same =
    none_published day number backlog was now outcome same
    (subst (λ (o : Outcome). WhereWorked o ⊥) (sym is) (refused_unworked fault ⊥))
