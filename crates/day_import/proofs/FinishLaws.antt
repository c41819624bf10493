-- What an import did, from what its stages did.
use Rattle.std.proofs.Common.{◌≡◌, ◌<◌, nat_le, inl, inr, ℕ, List, length, Option, Some, None, refl, sym, ap, subst}
use Rattle.std.proofs.Common.{◌∙◌, ◌⊎◌, []}
use Rattle.std.proofs.lemmas.Bool.{cond-false, lt-leb}
use Rattle.std.specs.Io.KnownBytes.{Appends}
use Rattle.road_time.specs.declared.road.Tuple.{Tuple}
use Rattle.road_time.specs.declared.day.SpentRow.{SpentRow}
use Rattle.road_time.specs.Form.{Fault}
use Rattle.road_time.specs.Rates.{Tariffs}
use Rattle.road_time.specs.Tolls.{StretchTold}
use Rattle.road_time.specs.Day.{given}
use Rattle.road_time.specs.Rows.{rows_from}
use Rattle.road_time.specs.Text.{out}
use Rattle.keep_office.specs.declared.kept.DayRecord.{DayRecord}
use Rattle.keep_office.specs.declared.kept.KeepFault.TheVariants as keeping
use Rattle.road_time.specs.History.{paid}
use Rattle.keep_office.specs.Office.{Office, last_day}
use Rattle.keep_office.specs.Kept.{with_day}
use Rattle.keep_office.specs.Calls.{WhenRefused, Leaves}
use Rattle.day_floor.specs.Closes.{IsClosed}
use Rattle.day_reading.specs.declared.whole_day.DayEnd.{DayEnd}
use Rattle.day_reading.specs.declared.whole_day.DayEnd.TheVariants.{Whole, Refused as RefusedAt}
use Rattle.day_reading.specs.Days.{EndsReading, LeavesBehind}
use Rattle.day_import.specs.declared.outcomes.Outcome.{Outcome}
use Rattle.day_import.specs.declared.outcomes.Outcome.TheVariants.{Stored, Already, Answered, Refused, Differs}
use Rattle.day_import.specs.declared.outcomes.Outcome.TheVariants.{ReadFault, WriteFault, KeeperFault, NoMemory}
use Rattle.day_import.specs.declared.day.WorkedDay.{WorkedDay}
use Rattle.day_import.specs.declared.fault.DayFault.{DayFault}
use Rattle.day_import.specs.declared.fault.DayFault.TheVariants as stop
use Rattle.day_import.specs.Imports.{DayAnswer, Work, work_by, worked_record, worked_office}
use Rattle.day_import.specs.Imports.{import_worked, answers_worked, unless_passed, Does, Merges, KeepsAll}
use Rattle.day_import.specs.Imports.{LeavesAlone, LeavesRead}
use Rattle.day_import.specs.Imports.{IsOfNewDay, IsOfKeptDay, KeepsUnlessRead}
use Rattle.day_import.specs.Stages.{run_record, Stores, Finishes, Tells, IsReadWhole, IsOfEnd}
use Rattle.day_import.specs.DayFaults.{WritesUpTo}
use Rattle.day_import.specs.Runs.{stopped_outcome, WhereWorked}
use Rattle.day_import.proofs.WorkLaws.{record_is, sums_are, rows_are}

module _ (w : WhenRefused) (work : Work) (number : ℕ) (bytes : List ℕ) (day : List Tuple) (o : Office)
    (old new : Option (List ℕ)) (now : Option Office) (wrote : Appends old new (out work.told)) where
  -- a day whose output was written and which was put, or refused
  stores_does : (kept : DayRecord) (rows : List SpentRow) (outcome : Outcome) →
      kept ≡ worked_record work number bytes day o → rows ≡ rows_from number work.charged
      → Stores w kept rows o now outcome → Does w (import_worked work number bytes day None o) o old new now outcome
  stores_does kept rows (Stored r) e f h =
      let next : with_day kept rows o ≡ worked_office work number bytes day o = cc in
      record { outcome_is = ap Stored (h.0 ∙ e); wrote = wrote; kept = h.1 ∙ ap Some next }
  stores_does kept rows KeeperFault e f h =
      let next : with_day kept rows o ≡ worked_office work number bytes day o = cc in
      inr (wrote, (h.0, h.1, subst (λ n. Leaves w keeping.Failed h.0 o n) next h.2))
  stores_does kept rows NoMemory e f h =
      let next : with_day kept rows o ≡ worked_office work number bytes day o = cc in
      inr (wrote, (h.0, h.1, subst (λ n. Leaves w keeping.NoMemory h.0 o n) next h.2))
  stores_does kept rows _ e f h = absurd h

-- what is done is done also where nothing is said of what was written before a fault
pub does_merges : (w : WhenRefused) (a : DayAnswer) (was : Office) (old new : Option (List ℕ)) (now : Option Office)
    (outcome : Outcome) → Does w a was old new now outcome → Merges w a was old new now outcome
does_merges w a was old new now ReadFault h = h.1
does_merges w a was old new now WriteFault h = h.1
does_merges w a was old new now KeeperFault (inl h) = inl h.1
does_merges w a was old new now KeeperFault (inr h) = inr h
does_merges w a was old new now NoMemory (inl h) = inl h.1
does_merges w a was old new now NoMemory (inr h) = inr h
does_merges w a was old new now _ h = h

module _ (w : WhenRefused) (number : ℕ) (found : List (ℕ × StretchTold)) (bytes : List ℕ) (day : List Tuple)
    (o : Office)
    (old new : Option (List ℕ)) (now : Option Office) (run : WorkedDay) (tariffs : Tariffs)
    (wrote : Appends old new (out (work_by found number day o).told)) (count : run.tuples ≡ length day)
    (closed : IsClosed run.closed number (given found) number (Some (paid o.rows)) day)
    (under : tariffs ≡ o.tariffs) where
  -- a day that was worked and finished
  pub finishes_does : (end : DayEnd) (refused : Option (ℕ × Fault)) (outcome : Outcome) → EndsReading end bytes refused
      → Finishes w number end run tariffs o now outcome
      → Does w (import_worked (work_by found number day o) number bytes day refused o) o old new now outcome
  finishes_does (Whole n None) refused outcome e h = absurd h
  finishes_does (Whole n (Some digest)) refused outcome e h =
      subst (λ (r : Option (ℕ × Fault)). Does w (import_worked (work_by found number day o) number bytes day r o) o old
      new now outcome) (sym e.0)
      (stores_does w (work_by found number day o) number bytes day o old new now wrote
      (run_record number n digest h.0 run tariffs) run.closed.rows outcome
      (record_is number found day o run closed bytes n digest h.0 tariffs count e.1 e.2 h.1 under)
      (rows_are number found day o run closed) h.2)
  finishes_does (RefusedAt line cause) refused outcome e h =
      let fault = e.0 in
      subst (λ (r : Option (ℕ × Fault)). Does w (import_worked (work_by found number day o) number bytes day r o) o old
      new now outcome) (sym e.1)
      (subst (Does w (import_worked (work_by found number day o) number bytes day (Some (line, fault)) o) o old new now)
      (sym h.0)
      (record { outcome_is = ap (Refused line) (sym e.2); wrote = wrote; kept = h.1 }))

module _ (w : WhenRefused) (number : ℕ) (found : List (ℕ × StretchTold)) (bytes : List ℕ) (day : List Tuple)
    (o : Office)
    (old new : Option (List ℕ)) (now : Option Office) (run : WorkedDay)
    (wrote : Appends old new (out (work_by found number day o).told)) (count : run.tuples ≡ length day)
    (closed : IsClosed run.closed number (given found) number (Some (paid o.rows)) day) (same : now ≡ Some o) where
  -- a day that is answered, or whose refused line is named
  pub tells_does : (end : DayEnd) (refused : Option (ℕ × Fault)) (outcome : Outcome) → EndsReading end bytes refused →
      Tells end run outcome
      → Does w (answers_worked (work_by found number day o) bytes day refused o) o old new now outcome
  tells_does (Whole n digest) refused outcome e h =
      let sums = sums_are number found day o run closed bytes n count e.1 in
      subst (λ (r : Option (ℕ × Fault)). Does w (answers_worked (work_by found number day o) bytes day r o) o old new now
      outcome) (sym e.0)
      (subst (Does w (answers_worked (work_by found number day o) bytes day None o) o old new now) (sym h)
      (record { outcome_is = ap Answered sums; wrote = wrote; kept = same }))
  tells_does (RefusedAt line cause) refused outcome e h =
      let fault = e.0 in
      subst (λ (r : Option (ℕ × Fault)). Does w (answers_worked (work_by found number day o) bytes day r o) o old new now
      outcome) (sym e.1)
      (subst (Does w (answers_worked (work_by found number day o) bytes day (Some (line, fault)) o) o old new now) (sym h)
      (record { outcome_is = ap (Refused line) (sym e.2); wrote = wrote; kept = same }))

-- the work of a day was stopped
pub stops_does : (w : WhenRefused) (a : DayAnswer) (o : Office) (old new : Option (List ℕ)) (now : Option Office)
    (s : DayFault) → WritesUpTo s a.text old new → now ≡ Some o → Does w a o old new now (stopped_outcome s)
stops_does w a o old new now stop.ReadFault h same = (h, same)
stops_does w a o old new now stop.WriteFault h same = (h, same)
stops_does w a o old new now stop.KeeperFault h same = inl (h, same)
stops_does w a o old new now stop.NoMemory h same = inl (h, same)

-- the same over any crew
pub stops_merges : (w : WhenRefused) (a : DayAnswer) (o : Office) (old new : Option (List ℕ)) (now : Option Office)
    (s : DayFault) → now ≡ Some o → Merges w a o old new now (stopped_outcome s)
stops_merges w a o old new now stop.ReadFault same = same
stops_merges w a o old new now stop.WriteFault same = same
stops_merges w a o old new now stop.KeeperFault same = inl same
stops_merges w a o old new now stop.NoMemory same = inl same

-- the text of importing a day that was read is that of its notices, refused or not
pub text_worked : (work : Work) (number : ℕ) (bytes : List ℕ) (day : List Tuple) (refused : Option (ℕ × Fault))
    (o : Office) → (import_worked work number bytes day refused o).text ≡ out work.told
text_worked work number bytes day None o = refl
text_worked work number bytes day (Some (line, fault)) o = refl

-- and so that of answering it
pub text_answered : (work : Work) (bytes : List ℕ) (day : List Tuple) (refused : Option (ℕ × Fault)) (o : Office) →
    (answers_worked work bytes day refused o).text ≡ out work.told
text_answered work bytes day None o = refl
text_answered work bytes day (Some (line, fault)) o = refl

-- a day after all that is kept is read
pub new_is_read : (read : DayAnswer) (number : ℕ) (o : Office) → last_day o < number →
    unless_passed read number o ≡ read
new_is_read read number o h = cond-false (nat_le number (last_day o)) _ _ (lt-leb number (last_day o) h)

-- what holds holds where a day was worked
pub where_worked : (outcome : Outcome) (P : Type 0) → P → WhereWorked outcome P
where_worked (Stored kept) P p = p
where_worked (Answered kept) P p = p
where_worked (Refused line cause) P p = p
where_worked _ P p = tt

-- where the work of a day was stopped, what is kept is as it was
pub stops_keeps : (s : DayFault) (P : Type 0) → P → KeepsAll (stopped_outcome s) P
stops_keeps stop.ReadFault P p = p
stops_keeps stop.WriteFault P p = p
stops_keeps _ P p = tt

-- of a day that is kept the others are left alone
pub kept_alone : (outcome : Outcome) (source others : Type 0) → IsOfKeptDay outcome → others →
    LeavesAlone outcome source others
kept_alone (Already kept) source others h o = o
kept_alone (Differs kept found) source others h o = o
kept_alone ReadFault source others h o = tt
kept_alone NoMemory source others h o = tt
kept_alone _ source others h o = absurd h

-- of a day that was read to its end no line was refused
pub whole_unrefused : (end : DayEnd) (bytes : List ℕ) (refused : Option (ℕ × Fault)) → EndsReading end bytes refused →
    IsReadWhole end → refused ≡ None
whole_unrefused (Whole n digest) bytes refused e h = e.0
whole_unrefused (RefusedAt line cause) bytes refused e h = absurd h

-- what was kept where a day begins to be read is kept, or the source was read to its end and did not fail
pub read_first : (before mid now : Option Office) (end : DayEnd) (bytes : List ℕ) (refused : Option (ℕ × Fault))
    (left : Option (List ℕ)) (faults later : ℕ) → mid ≡ before → (now ≡ mid) ⊎ IsReadWhole end →
    EndsReading end bytes refused → (refused ≡ None → left ≡ Some []) → later ≡ faults →
    KeepsUnlessRead before now left faults later
read_first before mid now end bytes refused left faults later same (inl still) ends rest passed = inl (still ∙ same)
read_first before mid now end bytes refused left faults later same (inr whole) ends rest passed =
    inr (rest (whole_unrefused end bytes refused ends whole), passed)

-- the same behind a call that left what was kept
pub read_after : (before mid now : Option Office) (left : Option (List ℕ)) (faults later : ℕ) → mid ≡ before →
    KeepsUnlessRead mid now left faults later → KeepsUnlessRead before now left faults later
read_after before mid now left faults later same (inl still) = inl (still ∙ same)
read_after before mid now left faults later same (inr read) = inr read

-- what is left of the source of a day that was answered, or whose refused line was named
pub tells_leaves : (run' : WorkedDay) (end : DayEnd) (refused : Option (ℕ × Fault)) (bytes : List ℕ)
    (left : Option (List ℕ)) (outcome : Outcome)
    → EndsReading end bytes refused → LeavesBehind end bytes left → Tells end run' outcome →
    LeavesRead outcome refused bytes left
tells_leaves run' (Whole n digest) refused bytes left outcome e l h =
    subst (λ (o : Outcome). LeavesRead o refused bytes left) (sym h) (e.0, l)
tells_leaves run' (RefusedAt line cause) refused bytes left outcome e l h =
    subst (λ (o : Outcome). LeavesRead o refused bytes left) (sym h) (e, l)

-- what is left of that of a day that was stored, or whose refused line was named
pub ends_leaves : (end : DayEnd) (refused : Option (ℕ × Fault)) (bytes : List ℕ) (left : Option (List ℕ))
    (outcome : Outcome)
    → EndsReading end bytes refused → LeavesBehind end bytes left → IsOfNewDay outcome → IsOfEnd end outcome →
    LeavesRead outcome refused bytes left
ends_leaves (Whole n digest) refused bytes left (Stored kept) e l new h = (e.0, l)
ends_leaves (RefusedAt line cause) refused bytes left (Stored kept) e l new h = absurd h
ends_leaves end refused bytes left (Refused line cause) e l new h =
    (subst (λ (d : DayEnd). EndsReading d bytes refused) h e, subst (λ (d : DayEnd). LeavesBehind d bytes left) h l)
ends_leaves end refused bytes left (Answered kept) e l new h = absurd new
ends_leaves end refused bytes left _ e l new h = tt

-- of a day whose work was stopped nothing is said
pub stops_leaves : (s : DayFault) (refused : Option (ℕ × Fault)) (bytes : List ℕ) (left : Option (List ℕ)) →
    LeavesRead (stopped_outcome s) refused bytes left
stops_leaves stop.ReadFault refused bytes left = tt
stops_leaves _ refused bytes left = tt

-- nor of one that is kept
pub kept_leaves : (outcome : Outcome) (refused : Option (ℕ × Fault)) (bytes : List ℕ) (left : Option (List ℕ)) →
    IsOfKeptDay outcome → LeavesRead outcome refused bytes left
kept_leaves (Stored kept) refused bytes left h = absurd h
kept_leaves (Answered kept) refused bytes left h = absurd h
kept_leaves (Refused line cause) refused bytes left h = absurd h
kept_leaves _ refused bytes left h = tt
