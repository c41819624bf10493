-- The jobs that a command starts, from those that its parts started.
use Rattle.std.proofs.Common.{◌≡◌, ◌≢◌, inl, inr, ℕ, List, [], Option, Some, None, Result, Ok, Err, OnOk, OnErr}
use Rattle.std.proofs.Common.{IsOk, refl, sym, subst, ◌∙◌, arith, append-nil}
use Rattle.road_time.specs.declared.day.Limits.{Limits}
use Rattle.road_time.specs.declared.day.TheConstants.Limits.{DAY}
use Rattle.road_time.specs.declared.road.Tuple.{Tuple}
use Rattle.road_time.specs.Form.{Fault}
use Rattle.road_time.specs.Reads.{reads}
use Rattle.road_io.specs.declared.source.Failed.{Failed}
use Rattle.ways_crews.specs.Told.{CrewTold, WhereTold}
use Rattle.ways_crews.specs.Callers.{ListsFirst}
use Rattle.keep_office.specs.declared.kept.KeepFault.{KeepFault}
use Rattle.keep_office.specs.Calls.{WhenRefused}
use Rattle.keep_office.specs.Office.{Office, record_of}
use Rattle.day_reading.specs.declared.whole_day.ReadStop.{ReadStop}
use Rattle.day_import.specs.Imports.{Work, import_worked, unless_recorded, Merges, IsOfAnswers}
use Rattle.day_import.specs.declared.outcomes.Outcome.{Outcome}
use Rattle.day_import.specs.declared.outcomes.Outcome.TheVariants.{Stored, Already, Answered, Refused}
use Rattle.day_import.specs.declared.outcomes.Outcome.TheVariants.{WriteFault}
use Rattle.day_import.specs.declared.outcomes.Outcome.TheVariants.{NoMemory}
use Rattle.day_import.specs.Runs.{HasStartedJobs}
use Rattle.ways_audit.specs.Jobs.{StartsAll, StartsFirst, starts_of}
use Rattle.tuples_traffic.specs.Traffic.{generated}
use Rattle.office_words.specs.declared.command.Command.{Command}
use Rattle.office_words.specs.declared.command.DayRun.{DayRun}
use Rattle.office_words.specs.declared.command.Recomputing.{Recomputing}
use Rattle.office_words.specs.declared.command.Recomputing.TheVariants.{Plainly, InBulk}
use Rattle.office_commands.specs.declared.closing.Closing.{Closing}
use Rattle.office_commands.specs.Closings.{status_of}
use Rattle.office_commands.specs.Commands.{closing_by, compared_tuples}
use Rattle.office_commands.specs.Endings.{EndsCommand, code_of, stopping, refusing}
use Rattle.office_commands.specs.Starts.{WasWorked, StartsDay, SaysWorked, SaysImported, SaysCompared, StartsBulk}
use Rattle.office_commands.specs.Starts.{StartsAsked, SeesAsked, backlog_of}
use Rattle.office_commands.specs.Traffic.{plan_from_seed}
use Rattle.office_commands.proofs.OutcomeLaws.{code_is}
use Rattle.office_commands.proofs.RestLaws.{IsNew, is_new}
use Rattle.day_reading.specs.declared.whole_day.ReadStop.TheVariants as stops
use Rattle.keep_office.specs.declared.kept.KeepFault.TheVariants as keeping
use Rattle.office_words.specs.declared.command.Command.TheVariants as command

-- what is refused is not well
pub not_ok : {T E : Type 0} (r : Result T E) (y : E) → r ≡ Err y → IsOk r → ⊥
not_ok r y is ok = let no : ⊥ = cc (subst IsOk is ok) in no

-- a day whose line is named was worked
pub named_worked : (number : ℕ) (done : Outcome) (r : Result (Option Closing) Failed) →
    EndsCommand (closing_by number done) r → code_of r ≡ 2 → WasWorked done
named_worked number (Stored kept) (Ok c) e s = tt
named_worked number (Answered kept) (Ok c) e s = tt
named_worked number (Refused line cause) (Ok c) e s = tt
named_worked number WriteFault (Ok c) e s = absurd e
named_worked number done (Err x) e s = absurd (omega (arith, s))
named_worked number _ (Ok c) e s = absurd (omega (arith, code_is c _ e, s))

-- a day that was answered well was
pub answered_worked : (number : ℕ) (done : Outcome) (r : Result (Option Closing) Failed) →
    EndsCommand (closing_by number done) r → IsOfAnswers done → SaysWorked (code_of r) → WasWorked done
answered_worked number done r e own (inr s) = named_worked number done r e s
answered_worked number (Stored kept) (Ok c) e own (inl s) = tt
answered_worked number (Answered kept) (Ok c) e own (inl s) = tt
answered_worked number (Refused line cause) (Ok c) e own (inl s) = tt
answered_worked number (Already kept) (Ok c) e own (inl s) = absurd own
answered_worked number WriteFault (Ok c) e own (inl s) = absurd e
answered_worked number done (Err x) e own (inl s) = absurd (omega (arith, s))
answered_worked number _ (Ok c) e own (inl s) = absurd (omega (arith, code_is c _ e, s))

-- so was one that was stored anew
pub stored_worked : (w : WhenRefused) (work : Work) (number : ℕ) (bytes : List ℕ) (tuples : List Tuple)
    (refused : Option (ℕ × Fault)) (o : Office) (old new : Option (List ℕ)) (now : Option Office) (done : Outcome)
    (res : Result (Option Closing) Failed)
    → Merges w (unless_recorded None (import_worked work number bytes tuples refused o) number bytes o) o old new now
    done
    → EndsCommand (closing_by number done) res → code_of res ≡ 0 → WasWorked done
stored_worked w work number bytes tuples refused o old new now (Stored kept) (Ok c) m e s = tt
stored_worked w work number bytes tuples refused o old new now (Answered kept) (Ok c) m e s = tt
stored_worked w work number bytes tuples refused o old new now (Refused line cause) (Ok c) m e s = tt
stored_worked w work number bytes tuples refused o old new now (Already kept) (Ok c) m e s =
    absurd (subst IsNew (sym m.outcome_is) (is_new work number bytes tuples refused o))
stored_worked w work number bytes tuples refused o old new now WriteFault (Ok c) m e s = absurd e
stored_worked w work number bytes tuples refused o old new now done (Err x) m e s = absurd (omega (arith, s))
stored_worked w work number bytes tuples refused o old new now _ (Ok c) m e s =
    absurd (omega (arith, code_is c _ e, s))

-- the day of an import was, where its line is named or it was stored anew
pub imported_worked : (number : ℕ) (done : Outcome) (r : Result (Option Closing) Failed) (kept : Option Office) →
    EndsCommand (closing_by number done) r →
    ((o : Office) → kept ≡ Some o → record_of o number ≡ None → code_of r ≡ 0 → WasWorked done) →
    SaysImported number kept (code_of r) → WasWorked done
imported_worked number done r kept e anew (inl s) = anew s.1.0 s.1.1 s.1.2 s.0
imported_worked number done r kept e anew (inr s) = named_worked number done r e s

-- a crew that started no job lists none more
no_jobs : (told : Option CrewTold) → WhereTold (ListsFirst []) told told
no_jobs None = tt
no_jobs (Some t) = ([], [], sym (append-nil t.listed), refl)

-- no job was started
none_started : (width backlog : ℕ) (day : List Tuple) (told : Option CrewTold) →
    HasStartedJobs width backlog day told told NoMemory
none_started width backlog day told = record {
  since = [];
  started = record { numbered = tt; each = tt; first = λ worker within. (_, refl) };
  listed = no_jobs told;
  all = tt;
}

-- the jobs of a day on a crew that started none
pub day_none : (run' : DayRun) (backlog : ℕ) (day : List Tuple) (worked : Type 0) (told : Option CrewTold) →
    (worked → ⊥) → StartsDay run' backlog day worked told told
day_none run' backlog day worked told bad = record {
  outcome = NoMemory;
  jobs = none_started run'.plan.width backlog day told;
  planned = (None, None, tt);
  whole = λ w. absurd (bad w);
}

-- and where less says that it was worked
pub day_weaker : (run' : DayRun) (backlog : ℕ) (day : List Tuple) (worked less : Type 0) (told now : Option CrewTold) →
    (less → worked) → StartsDay run' backlog day worked told now → StartsDay run' backlog day less told now
day_weaker run' backlog day worked less told now f h =
    record { outcome = h.outcome; jobs = h.jobs; planned = h.planned; whole = λ q. h.whole (f q) }

-- a crew that started no job was told the first
no_first : (day : List Tuple) (width : ℕ) (told : Option CrewTold) → WhereTold (StartsFirst day width) told told
no_first day width None = tt
no_first day width (Some t) = ([], starts_of day width width, sym (append-nil t.listed), refl)

-- and one that was told all was
all_first : (day : List Tuple) (width : ℕ) (told now : Option CrewTold) → WhereTold (StartsAll day width) told now →
    WhereTold (StartsFirst day width) told now
all_first day width None None h = tt
all_first day width None (Some now) h = absurd h
all_first day width (Some was) None h = absurd h
all_first day width (Some was) (Some now) h =
    (starts_of day width width, [], h, sym (append-nil (starts_of day width width)))

-- the jobs of a day in bulk, by how its recomputing ended
pub bulk_starts : {T E : Type 0} (r : Result T E) (shards width : ℕ) (day : List Tuple) (told now : Option CrewTold) →
    OnOk r (WhereTold (StartsAll day width) told now) → OnErr r (WhereTold (StartsFirst day width) told now) →
    StartsBulk (InBulk shards width) day (IsOk r) told now
bulk_starts (Ok x) shards width day told now all first = (all_first day width told now all, λ ok. all)
bulk_starts (Err e) shards width day told now all first = (first, λ ok. absurd (cc ok))

-- on a crew that started none
pub bulk_none : (how : Recomputing) (day : List Tuple) (worked : Type 0) (told : Option CrewTold) → (worked → ⊥) →
    StartsBulk how day worked told told
bulk_none Plainly day worked told bad = tt
bulk_none (InBulk shards width) day worked told bad = (no_first day width told, λ w. absurd (bad w))

-- and where less says that notices were compared
pub bulk_weaker : (how : Recomputing) (day : List Tuple) (worked less : Type 0) (told now : Option CrewTold) →
    (less → worked) → StartsBulk how day worked told now → StartsBulk how day less told now
bulk_weaker Plainly day worked less told now f h = tt
bulk_weaker (InBulk shards width) day worked less told now f h = (h.0, λ q. h.1 (f q))

-- a run whose keeper refused compared nothing
pub refused_compared : (fault : KeepFault) → SaysCompared (status_of (refusing fault)) → ⊥
refused_compared keeping.Failed (inl s) = omega (arith, s)
refused_compared keeping.Failed (inr s) = omega (arith, s)
refused_compared keeping.NoMemory (inl s) = omega (arith, s)
refused_compared keeping.NoMemory (inr s) = omega (arith, s)

-- nor did one that names a line
pub named_compared : SaysCompared 2 → ⊥
named_compared (inl s) = omega (arith, s)
named_compared (inr s) = omega (arith, s)

-- nor did one that could not read
pub stopped_compared : (stop : ReadStop) → SaysCompared (status_of (stopping stop)) → ⊥
stopped_compared stops.ReadFault (inl s) = omega (arith, s)
stopped_compared stops.ReadFault (inr s) = omega (arith, s)
stopped_compared stops.NoMemory (inl s) = omega (arith, s)
stopped_compared stops.NoMemory (inr s) = omega (arith, s)

module _ (status code : ℕ) (same : status ≢ 5 → status ≢ 8 → status ≡ code) where
  -- what a status says is said by the one that a run was to end with
  back : (n : ℕ) → n ≢ 5 → n ≢ 8 → status ≡ n → code ≡ n
  back n five eight s = sym (same (λ e. five (sym s ∙ e)) (λ e. eight (sym s ∙ e))) ∙ s

  two : status ≡ 2 → code ≡ 2
  two s = back 2 (λ e. omega (arith, e)) (λ e. omega (arith, e)) s

  zero : status ≡ 0 → code ≡ 0
  zero s = back 0 (λ e. omega (arith, e)) (λ e. omega (arith, e)) s

  seven : status ≡ 7 → code ≡ 7
  seven s = back 7 (λ e. omega (arith, e)) (λ e. omega (arith, e)) s

  worked : SaysWorked status → SaysWorked code
  worked (inl s) = inl (zero s)
  worked (inr s) = inr (two s)

  compared : SaysCompared status → SaysCompared code
  compared (inl s) = inl (zero s)
  compared (inr s) = inr (seven s)

  imported : (number : ℕ) (kept : Option Office) → SaysImported number kept status → SaysImported number kept code
  imported number kept (inl s) = inl (zero s.0, s.1)
  imported number kept (inr s) = inr (two s)

  -- the jobs that a run started, by the status that it ends with
  pub starts_status : (limits : Limits) (m : Option Command) (bytes : List ℕ) (kept : Option Office)
      (told now : Option CrewTold) → StartsAsked limits m bytes kept code told now →
      StartsAsked limits m bytes kept status told now
  starts_status limits (Some (command.Answers run')) bytes kept told now h =
      day_weaker run' (backlog_of run' limits) (reads bytes limits run'.late).tuples (SaysWorked code)
      (SaysWorked status) told now worked h
  starts_status limits (Some (command.Import run')) bytes kept told now h =
      day_weaker run' (backlog_of run' limits) (reads bytes limits run'.late).tuples
      (SaysImported run'.day kept code) (SaysImported run'.day kept status) told now (imported run'.day kept) h
  starts_status limits (Some (command.Compare asked)) bytes kept told now h =
      bulk_weaker asked.how (compared_tuples limits asked bytes) (SaysCompared code) (SaysCompared status) told now
      compared h
  starts_status limits (Some (command.Rehearse seed size run')) bytes kept told now h =
      day_weaker run' (backlog_of run' DAY) (generated (plan_from_seed seed size)) (code ≡ 0) (status ≡ 0) told now
      zero h
  starts_status limits _ bytes kept told now h = tt

module _ (code : ℕ) (well : code ≢ 0) (parted : code ≢ 7) (named : code ≢ 2) where
  unworked : SaysWorked code → ⊥
  unworked (inl s) = well s
  unworked (inr s) = named s

  uncompared : SaysCompared code → ⊥
  uncompared (inl s) = well s
  uncompared (inr s) = parted s

  unimported : (number : ℕ) (kept : Option Office) → SaysImported number kept code → ⊥
  unimported number kept (inl s) = well s.0
  unimported number kept (inr s) = named s

  -- a run that did nothing started no job
  pub starts_other : (limits : Limits) (m : Option Command) (bytes : List ℕ) (kept : Option Office)
      (told : Option CrewTold) → StartsAsked limits m bytes kept code told told
  starts_other limits (Some (command.Answers run')) bytes kept told =
      day_none run' (backlog_of run' limits) (reads bytes limits run'.late).tuples (SaysWorked code) told unworked
  starts_other limits (Some (command.Import run')) bytes kept told =
      day_none run' (backlog_of run' limits) (reads bytes limits run'.late).tuples (SaysImported run'.day kept code)
      told (unimported run'.day kept)
  starts_other limits (Some (command.Compare asked)) bytes kept told =
      bulk_none asked.how (compared_tuples limits asked bytes) (SaysCompared code) told uncompared
  starts_other limits (Some (command.Rehearse seed size run')) bytes kept told =
      day_none run' (backlog_of run' DAY) (generated (plan_from_seed seed size)) (code ≡ 0) told well
  starts_other limits _ bytes kept told = tt

  -- and saw no day
  pub sees_other : (m : Option Command) (shards : ℕ) → SeesAsked m code shards
  sees_other (Some (command.Compare asked)) shards = λ said. absurd (uncompared said)
  sees_other _ shards = tt
