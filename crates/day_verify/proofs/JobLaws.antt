-- Which jobs a crew tells of a day that is verified, by what is said of it.
use Rattle.std.proofs.Common.{◌∙◌, ℕ, List, [], map, Option, Some, None, refl, sym, append-nil}
use Rattle.road_time.specs.declared.road.Tuple.{Tuple}
use Rattle.ways_expressway.specs.declared.job.Job.{Job}
use Rattle.ways_expressway.specs.declared.finding.Finding.{Finding}
use Rattle.ways_expressway.specs.Events.{events_for}
use Rattle.ways_crews.specs.Lists.{listing_of}
use Rattle.ways_crews.specs.Told.{CrewTold, WhereTold}
use Rattle.ways_crews.specs.Callers.{ListsAll, ListsFirst}
use Rattle.day_plan.specs.declared.work.Plan.{Plan}
use Rattle.day_floor.specs.Starts.{started_for}
use Rattle.keep_office.specs.declared.kept.KeepFault.{KeepFault}
use Rattle.keep_office.specs.declared.kept.KeepFault.TheVariants as keeping
use Rattle.day_import.specs.declared.fault.DayFault.{DayFault}
use Rattle.day_import.specs.declared.fault.DayFault.TheVariants as stop
use Rattle.day_import.specs.RoundRuns.{start_of}
use Rattle.day_import.specs.WorkedDays.{HaveAllStarted, HaveFirstStarted}
use Rattle.day_import.specs.PlannedRounds.{HasPlannedJobs}
use Rattle.day_verify.specs.declared.verdict.Verdict.{Verdict}
use Rattle.day_verify.specs.declared.verdict.Verdict.TheVariants.{Verified, UnsoundAmount, UnsoundRecord, Differs}
use Rattle.day_verify.specs.declared.verdict.Verdict.TheVariants.{Refused}
use Rattle.day_verify.specs.Verdicts.{WhereRead, stopped_verdict, refused_verdict}
use Rattle.day_verify.specs.Jobs.{StartsJobs}

-- what holds, holds where a day was worked
where_read : (said : Verdict) (P : Type 0) → P → WhereRead said P
where_read (Verified kept amounts) P h = h
where_read (UnsoundAmount p) P h = h
where_read (UnsoundRecord a) P h = h
where_read (Differs kept found) P h = h
where_read (Refused line cause) P h = h
where_read _ P h = tt

-- a day whose work was stopped was not worked
stopped_unread : (s : DayFault) (P : Type 0) → WhereRead (stopped_verdict s) P
stopped_unread stop.ReadFault P = tt
stopped_unread stop.WriteFault P = tt
stopped_unread stop.KeeperFault P = tt
stopped_unread stop.NoMemory P = tt

-- nor was one whose keeper refused
pub refused_unread : (fault : KeepFault) (P : Type 0) → WhereRead (refused_verdict fault) P
refused_unread keeping.Failed P = tt
refused_unread keeping.NoMemory P = tt

-- what lists all lists the first
lists_first : (jobs : List Job) (was now : Option CrewTold) → WhereTold (ListsAll jobs) was now →
    WhereTold (ListsFirst jobs) was now
lists_first jobs None None h = tt
lists_first jobs None (Some now) h = absurd h
lists_first jobs (Some was) None h = absurd h
lists_first jobs (Some was) (Some now) h = (map listing_of jobs, [], h, sym (append-nil (map listing_of jobs)))

-- all jobs of a day are its first ones
all_first : (width backlog : ℕ) (day : List Tuple) (since : List Job) → HaveAllStarted width backlog day since →
    HaveFirstStarted width backlog day since
all_first width backlog day since h = record {
  numbered = h.numbered;
  each = h.each;
  first = λ worker within.
      ([], sym (h.whole worker within) ∙ sym (append-nil (started_for worker (map start_of since))));
}

module _ (plan : Plan) (backlog : ℕ) (day : List Tuple) (was now : Option CrewTold)
    (answers answered : Option (List Finding)) where
  -- the jobs of a day that was worked
  pub started_all : (said : Verdict) (since : List Job) → HaveAllStarted plan.width backlog day since →
      WhereTold (ListsAll since) was now
      → HasPlannedJobs plan.turns plan.width backlog day was now answers answered →
      StartsJobs plan backlog day was now answers answered said
  started_all said since h lists planned = record {
    since = since;
    started = all_first plan.width backlog day since h;
    listed = lists_first since was now lists;
    all = where_read said _ (h, lists);
    planned = where_read said _ planned;
  }

  -- and of one whose work was stopped
  pub started_first : (s : DayFault) (since : List Job) → HaveFirstStarted plan.width backlog day since →
      WhereTold (ListsFirst since) was now
      → StartsJobs plan backlog day was now answers answered (stopped_verdict s)
  started_first s since h lists = record {
    since = since;
    started = h;
    listed = lists;
    all = stopped_unread s _;
    planned = stopped_unread s _;
  }

-- a crew that started no job lists none more
told_same : (told : Option CrewTold) → WhereTold (ListsFirst []) told told
told_same None = tt
told_same (Some t) = ([], [], sym (append-nil t.listed), refl)

-- no job was started of a day that was not worked
pub none_started : (plan : Plan) (backlog : ℕ) (day : List Tuple) (told : Option CrewTold)
    (answers : Option (List Finding)) (said : Verdict) → ((P : Type 0) → WhereRead said P) →
    StartsJobs plan backlog day told told answers answers said
none_started plan backlog day told answers said unread = record {
  since = [];
  started = record {
    numbered = tt;
    each = tt;
    first = λ worker within. (events_for day worker plan.width, refl);
  };
  listed = told_same told;
  all = unread _;
  planned = unread _;
}
