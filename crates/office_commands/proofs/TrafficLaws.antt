-- Generated traffic as a command, and what is kept of it.
use Rattle.std.proofs.Common.{◌≡◌, ◌≢◌, ◌≤◌, ◌∙◌, ℕ, List, [], Option, None, Result, Ok, Err, refl, sym, ap}
use Rattle.std.proofs.Common.{subst, arith}
use Rattle.std.proofs.lemmas.Bool.{cond-false, lt-leb}
use Rattle.road_time.specs.declared.day.TheConstants.Limits.{DAY}
use Rattle.road_time.specs.declared.road.Tuple.{Tuple}
use Rattle.road_time.specs.Tolls.{StretchTold}
use Rattle.road_time.specs.Form.{Fault}
use Rattle.road_time.specs.Reads.{reads}
use Rattle.road_io.specs.declared.source.Failed.{Failed}
use Rattle.road_io.proofs.SinkLaws.{appends_none}
use Rattle.std.specs.Io.KnownBytes.{Appends}
use Rattle.keep_office.specs.Calls.{WhenRefused}
use Rattle.keep_office.specs.Kept.{kept_record}
use Rattle.keep_office.specs.Office.{Office, nothing_kept}
use Rattle.keep_office.specs.declared.kept.DayRecord.{DayRecord}
use Rattle.day_import.specs.Imports.{DayAnswer, Work, Does, Merges, work_of, work_by, worked_record, import_worked}
use Rattle.day_import.specs.Imports.{unless_passed, import_answer, import_found}
use Rattle.day_import.specs.declared.outcomes.Outcome.{Outcome}
use Rattle.day_import.specs.declared.outcomes.Outcome.TheVariants.{Stored, Already, Answered, Refused, DayPassed}
use Rattle.day_import.specs.declared.outcomes.Outcome.TheVariants.{Differs, ReadFault, WriteFault, KeeperFault}
use Rattle.day_import.specs.declared.outcomes.Outcome.TheVariants.{NoMemory}
use Rattle.tuples_traffic.specs.declared.plan.GenPlan.{GenPlan}
use Rattle.tuples_traffic.specs.declared.plan.GenFault.{GenFault}
use Rattle.tuples_traffic.specs.declared.plan.GenFault.TheVariants as traffic
use Rattle.tuples_traffic.specs.Endings as generation
use Rattle.tuples_traffic.specs.Plans.{field_out}
use Rattle.tuples_traffic.specs.Traffic.{file_of, generated}
use Rattle.tuples_traffic.proofs.FileLaws.{accepted}
use Rattle.tuples_traffic.proofs.RangeLaws.{in_range}
use Rattle.office_commands.specs.declared.closing.Closing.{Closing}
use Rattle.office_commands.specs.Commands.{text_alone}
use Rattle.office_commands.specs.Endings.{Wrote}
use Rattle.office_commands.specs.Traffic.{EndsTraffic, rehearsed_record}
use Rattle.office_commands.proofs.ClosingLaws.{fault_empty}

module _ (plan : GenPlan) (o : Office) (old new : Option (List ℕ)) where
  -- what a generation wrote, as a command
  pub wrote_traffic : (done : Result ℕ GenFault) (r : Result (Option Closing) Failed) → EndsTraffic done r →
      generation.WroteFile done plan old new → Wrote (text_alone (file_of plan) o) r old new
  wrote_traffic (Ok n) (Ok c) e h = subst (λ x. Wrote (text_alone (file_of plan) o) (Ok x) old new) (sym e) (refl, h.1)
  wrote_traffic (Ok n) (Err x) e h = absurd e
  wrote_traffic (Err (traffic.Size field)) r e h = absurd e
  wrote_traffic (Err traffic.WriteFault) (Ok c) e h = absurd e
  wrote_traffic (Err traffic.WriteFault) (Err x) e h = h
  wrote_traffic (Err traffic.NoMemory) (Ok c) e h =
      subst (λ x. Wrote (text_alone (file_of plan) o) (Ok x) old new) (sym e)
      ([], fault_empty (text_alone (file_of plan) o), subst (λ now. Appends old now []) h (appends_none old))
  wrote_traffic (Err traffic.NoMemory) (Err x) e h = absurd e

-- the record of a whole file as a day, where nothing is kept
abbrev pub alone : ℕ → List ℕ → ℕ → DayRecord
alone day file late = kept_record day file (reads file DAY late).tuples nothing_kept

-- an import that should store this record stores it, or finds no memory
abbrev pub Stores : DayRecord → Outcome → Type 0
Stores r (Stored kept) = kept ≡ r
Stores r NoMemory = Unit {0}
Stores r _ = ⊥

module _ (w : WhenRefused) (a : DayAnswer) (r : DayRecord) (stored : a.outcome ≡ Stored r) (was : Office)
    (old new : Option (List ℕ)) (now : Option Office) where
  -- no outcome of a day that is not new is that
  other : (done : Outcome) → done ≡ a.outcome → Stores r done
  other done e = subst (Stores r) (sym (e ∙ stored)) refl

  -- so an import stores it, where nothing failed
  pub stores : (done : Outcome) → Does w a was old new now done → done ≢ ReadFault → done ≢ WriteFault →
      done ≢ KeeperFault → Stores r done
  stores (Stored kept) h read write keep = other (Stored kept) h.outcome_is
  stores (Already kept) h read write keep = other (Already kept) h.outcome_is
  stores (Answered kept) h read write keep = other (Answered kept) h.outcome_is
  stores (Refused line cause) h read write keep = other (Refused line cause) h.outcome_is
  stores (DayPassed last) h read write keep = other (DayPassed last) h.outcome_is
  stores (Differs kept found) h read write keep = other (Differs kept found) h.outcome_is
  stores ReadFault h read write keep = absurd (read refl)
  stores WriteFault h read write keep = absurd (write refl)
  stores KeeperFault h read write keep = absurd (keep refl)
  stores NoMemory h read write keep = tt

  -- also by what a crew found
  pub stores_found : (done : Outcome) → Merges w a was old new now done → done ≢ ReadFault → done ≢ WriteFault →
      done ≢ KeeperFault → Stores r done
  stores_found (Stored kept) h read write keep = other (Stored kept) h.outcome_is
  stores_found (Already kept) h read write keep = other (Already kept) h.outcome_is
  stores_found (Answered kept) h read write keep = other (Answered kept) h.outcome_is
  stores_found (Refused line cause) h read write keep = other (Refused line cause) h.outcome_is
  stores_found (DayPassed last) h read write keep = other (DayPassed last) h.outcome_is
  stores_found (Differs kept found) h read write keep = other (Differs kept found) h.outcome_is
  stores_found ReadFault h read write keep = absurd (read refl)
  stores_found WriteFault h read write keep = absurd (write refl)
  stores_found KeeperFault h read write keep = absurd (keep refl)
  stores_found NoMemory h read write keep = tt

module _ (day : ℕ) (some : 70 ≤ day) (file : List ℕ) (late : ℕ) (whole : (reads file DAY late).refused ≡ None) where
  -- the day's tuples
  abbrev tuples : List Tuple
  tuples = (reads file DAY late).tuples

  -- where nothing is kept no day is passed, and the file is stored with the work of its day
  stored_by : (work : Work) →
      (unless_passed (import_worked work day file tuples (reads file DAY late).refused nothing_kept) day
      nothing_kept).outcome ≡ Stored (worked_record work day file tuples nothing_kept)
  stored_by work =
      ap (λ (a : DayAnswer). a.outcome) (cond-false _ _ _ (lt-leb day 0 (omega (arith, some))))
      ∙ ap (λ (r : Option (ℕ × Fault)). (import_worked work day file tuples r nothing_kept).outcome) whole

  -- what an import by the rules is to answer
  pub alone_stored : (import_answer day late DAY file nothing_kept).outcome ≡ Stored (alone day file late)
  alone_stored = stored_by (work_of day tuples nothing_kept)

  -- and one by what a crew found
  pub found_stored : (found : List (ℕ × StretchTold)) →
      (import_found found day late DAY file nothing_kept).outcome ≡ Stored
      (worked_record (work_by found day tuples nothing_kept) day file tuples nothing_kept)
  found_stored found = stored_by (work_by found day tuples nothing_kept)

-- so no other outcome comes
pub none_else : (r : DayRecord) (done : Outcome) → Stores r done → ((kept : DayRecord) → done ≢ Stored kept) →
    done ≢ NoMemory → ⊥
none_else r (Stored kept) h stored memory = stored kept refl
none_else r NoMemory h stored memory = memory refl
none_else r _ h stored memory = h

module _ (plan : GenPlan) (late : ℕ) (file : List ℕ) (ranged : field_out plan ≡ None) (same : file ≡ file_of plan) where
  -- the file of a plan is read whole
  pub whole_file : (reads file DAY late).refused ≡ None
  whole_file = ap (λ bytes. (reads bytes DAY late).refused) same
      ∙ ap (λ r. r.refused) (accepted plan (in_range plan ranged) late)

  -- what is kept of it is that of the tuples that were generated
  pub alone_is : (day : ℕ) → alone day file late ≡ rehearsed_record day plan
  alone_is day = ap (λ bytes. alone day bytes late) same
      ∙ ap (λ r. kept_record day (file_of plan) r.tuples nothing_kept) (accepted plan (in_range plan ranged) late)

  -- and its tuples are those that were generated
  pub whole_tuples : (reads file DAY late).tuples ≡ generated plan
  whole_tuples = ap (λ bytes. (reads bytes DAY late).tuples) same
      ∙ ap (λ r. r.tuples) (accepted plan (in_range plan ranged) late)
