-- What a run leaves of its source, from what its parts left.
use Rattle.std.proofs.Common.{◌≡◌, ◌≢◌, ◌⊎◌, ℕ, Bool, true, false, if◌then◌else◌, nat_le, List, Option, Some, None}
use Rattle.std.proofs.Common.{Result, Ok, Err, refl, sym, subst, ◌∙◌, arith, []}
use Rattle.std.specs.Str.{bytes_eq}
use Rattle.road_time.specs.declared.road.Tuple.{Tuple}
use Rattle.road_time.specs.Form.{Fault}
use Rattle.road_io.specs.declared.source.Failed.{Failed}
use Rattle.tuples_text.specs.declared.cause.Cause.{Cause}
use Rattle.road_digest.specs.declared.digest.Digest.{Digest}
use Rattle.keep_office.specs.declared.kept.DayRecord.{DayRecord}
use Rattle.keep_office.specs.declared.kept.KeepFault.{KeepFault}
use Rattle.keep_office.specs.Calls.{WhenRefused}
use Rattle.road_digest.specs.Digests.{found_digest}
use Rattle.keep_office.specs.Office.{Office, last_day}
use Rattle.day_reading.specs.Days.{EndsReading, LeavesBehind}
use Rattle.day_reading.specs.declared.whole_day.DayEnd.{DayEnd}
use Rattle.day_reading.specs.declared.whole_day.ReadStop.{ReadStop}
use Rattle.day_import.specs.Imports.{Work, import_worked, again, unwritten, unless_passed, unless_recorded, Merges}
use Rattle.day_import.specs.Imports.{LeavesRest, LeavesRead, IsOfAnswers, IsUncompared}
use Rattle.day_import.specs.declared.outcomes.Outcome.{Outcome}
use Rattle.day_import.specs.declared.outcomes.Outcome.TheVariants.{Stored, Already, Answered, Refused, DayPassed}
use Rattle.day_import.specs.declared.outcomes.Outcome.TheVariants.{Differs, ReadFault, WriteFault, KeeperFault}
use Rattle.day_import.specs.declared.outcomes.Outcome.TheVariants.{NoMemory}
use Rattle.office_commands.specs.declared.closing.Closing.{Closing}
use Rattle.office_commands.specs.Closings.{status_of}
use Rattle.office_commands.specs.Commands.{closing_by}
use Rattle.office_commands.specs.Days.{refused_at}
use Rattle.office_commands.specs.Endings.{EndsCommand, code_of, stopping, refusing}
use Rattle.office_commands.specs.Entries.{IsComparison}
use Rattle.office_commands.specs.Rests.{HasStoppedReading, HasEnded, HasReadTo, EndsAt, SaysBy, LeavesOfDay}
use Rattle.office_commands.proofs.OutcomeLaws.{code_is, neither}
use Rattle.keep_office.specs.declared.kept.KeepFault.TheVariants as keeping
use Rattle.day_reading.specs.declared.whole_day.DayEnd.TheVariants as day_end
use Rattle.day_reading.specs.declared.whole_day.ReadStop.TheVariants as stops
use Rattle.office_commands.specs.declared.closing.Closing.TheVariants as closing

module _ (refused : Option (ℕ × Fault)) (bytes : List ℕ) (left : Option (List ℕ)) where
  -- what a status says of the reading
  abbrev To : ℕ → Type 0
  To code = HasReadTo refused code bytes left

  -- a run that ended otherwise says nothing of its reading
  pub to_other : (code : ℕ) → code ≢ 0 → code ≢ 7 → code ≢ 2 → To code
  to_other code well parted named =
      record {
        answered = λ s. absurd (well s);
        compared = λ s. absurd (parted s);
        refused_there =
            λ s. absurd (named s);
      }

  -- a run that could not read
  pub to_stopped : (stop : ReadStop) → To (status_of (stopping stop))
  to_stopped stops.ReadFault = to_other 4 (λ s. omega (arith, s)) (λ s. omega (arith, s)) (λ s. omega (arith, s))
  to_stopped stops.NoMemory = to_other 8 (λ s. omega (arith, s)) (λ s. omega (arith, s)) (λ s. omega (arith, s))

  -- nor one whose keeper refused
  pub to_refused : (fault : KeepFault) → To (status_of (refusing fault))
  to_refused keeping.Failed = to_other 6 (λ s. omega (arith, s)) (λ s. omega (arith, s)) (λ s. omega (arith, s))
  to_refused keeping.NoMemory = to_other 8 (λ s. omega (arith, s)) (λ s. omega (arith, s)) (λ s. omega (arith, s))

  -- a day that was read, and what is said of it
  pub to_by : (d : Option (ℕ × Cause)) (code : ℕ) → EndsAt d refused bytes left → SaysBy d code → To code
  to_by None code ends says =
      record { answered = λ s. ends; compared = λ s. ends; refused_there = λ s. absurd (says s) }
  to_by (Some r) code ends says =
      record {
        answered = λ s. absurd (omega (arith, says, s));
        compared =
            λ s. absurd (omega (arith, says, s));
        refused_there = λ s. ends;
      }

  -- where the reading of a day ended
  pub ends_at : (end : DayEnd) → EndsReading end bytes refused → LeavesBehind end bytes left →
      EndsAt (refused_at end) refused bytes left
  ends_at (day_end.Whole n digest) e l = (e.0, l)
  ends_at (day_end.Refused line cause) e l = (line, e.0, e.1, l)

  -- a command that ended well
  answered_well : (c : Option Closing) (k : Closing) → c ≡ Some k → status_of k ≡ 0 → HasEnded refused left →
      To (code_of (Ok c))
  answered_well c k e zero ended =
      record {
        answered = λ s. ended;
        compared = λ s. ended;
        refused_there =
            λ s. absurd (omega (arith, code_is c k e, zero, s));
      }

  -- a command that ended otherwise
  answered_ill : (c : Option Closing) (k : Closing) → c ≡ Some k → status_of k ≢ 0 → status_of k ≢ 7 → status_of k ≢ 2 →
      To (code_of (Ok c))
  answered_ill c k e well parted named =
      to_other (code_of (Ok c)) (λ s. well (sym (code_is c k e) ∙ s)) (λ s. parted (sym (code_is c k e) ∙ s))
      (λ s. named (sym (code_is c k e) ∙ s))

  -- a day that was answered
  pub answered_to : (number : ℕ) (done : Outcome) (r : Result (Option Closing) Failed) →
      EndsCommand (closing_by number done) r
      → IsOfAnswers done → LeavesRead done refused bytes left → To (code_of r)
  answered_to number (Answered kept) (Ok c) e own l = answered_well c _ e refl l
  answered_to number (Refused line cause) (Ok c) e own l = record {
    answered = λ s. absurd (omega (arith, code_is c _ e, s));
    compared = λ s. absurd (omega (arith, code_is c _ e, s));
    refused_there = λ s. (line, l.0.0, l.0.1, l.1);
  }
  answered_to number ReadFault (Ok c) e own l =
      answered_ill c _ e (λ s. omega (arith, s)) (λ s. omega (arith, s)) (λ s. omega (arith, s))
  answered_to number KeeperFault (Ok c) e own l =
      answered_ill c _ e (λ s. omega (arith, s)) (λ s. omega (arith, s)) (λ s. omega (arith, s))
  answered_to number NoMemory (Ok c) e own l =
      answered_ill c _ e (λ s. omega (arith, s)) (λ s. omega (arith, s)) (λ s. omega (arith, s))
  answered_to number WriteFault (Ok c) e own l = absurd e
  answered_to number WriteFault (Err x) e own l =
      to_other 5 (λ s. omega (arith, s)) (λ s. omega (arith, s)) (λ s. omega (arith, s))
  answered_to number _ (Err x) e own l = absurd e
  answered_to number _ r e own l = absurd own

  -- a day that was to be kept, and a line of which was refused
  pub imported_to : (number : ℕ) (done : Outcome) (r : Result (Option Closing) Failed) →
      EndsCommand (closing_by number done) r
      → LeavesRead done refused bytes left → code_of r ≡ 2 → HasStoppedReading refused bytes left
  imported_to number (Refused line cause) (Ok c) e l s = (line, l.0.0, l.0.1, l.1)
  imported_to number WriteFault (Ok c) e l s = absurd e
  imported_to number done (Err x) e l s = absurd (omega (arith, s))
  imported_to number _ (Ok c) e l s = absurd (omega (arith, code_is c _ e, s))

-- a day whose import ended at a refused line, or as the keeper failed, was compared with none
pub imported_alone : (number : ℕ) (P : Type 0) (done : Outcome) (r : Result (Option Closing) Failed) →
    EndsCommand (closing_by number done) r → (IsUncompared done → P) → (code_of r ≡ 2) ⊎ (code_of r ≡ 6) → P
imported_alone number P (Already kept) (Ok c) e h s =
    absurd (neither _ 0 (code_is c _ e) (λ t. omega (arith, t)) (λ t. omega (arith, t)) s)
imported_alone number P (Answered kept) (Ok c) e h s =
    absurd (neither _ 0 (code_is c _ e) (λ t. omega (arith, t)) (λ t. omega (arith, t)) s)
imported_alone number P (Differs kept found) (Ok c) e h s =
    absurd (neither _ 3 (code_is c _ e) (λ t. omega (arith, t)) (λ t. omega (arith, t)) s)
imported_alone number P ReadFault (Ok c) e h s =
    absurd (neither _ 4 (code_is c _ e) (λ t. omega (arith, t)) (λ t. omega (arith, t)) s)
imported_alone number P NoMemory (Ok c) e h s =
    absurd (neither _ 8 (code_is c _ e) (λ t. omega (arith, t)) (λ t. omega (arith, t)) s)
imported_alone number P (Already kept) (Err x) e h s = absurd e
imported_alone number P (Answered kept) (Err x) e h s = absurd e
imported_alone number P (Differs kept found) (Err x) e h s = absurd e
imported_alone number P ReadFault (Err x) e h s = absurd e
imported_alone number P NoMemory (Err x) e h s = absurd e
imported_alone number P _ r e h s = h tt

-- how the import of a day that is kept ends
abbrev IsAgain : Outcome → Type 0
IsAgain (Already kept) = Unit {0}
IsAgain (Differs kept found) = Unit {0}
IsAgain _ = ⊥

-- and that of one that is not, unless it is stopped
abbrev pub IsNew : Outcome → Type 0
IsNew (Stored kept) = Unit {0}
IsNew (Refused line cause) = Unit {0}
IsNew (DayPassed last) = Unit {0}
IsNew _ = ⊥

-- that of a comparison is one
is_again : (kept : DayRecord) (found : Digest) → IsAgain (again kept found)
is_again kept found = go (bytes_eq found.bytes kept.digest.bytes)
  where
    go : (b : Bool) → IsAgain (if b then Already kept else Differs kept.digest found)
    go true = tt
    go false = tt

-- that of a day that is read is one
pub is_new : (work : Work) (number : ℕ) (bytes : List ℕ) (tuples : List Tuple) (refused : Option (ℕ × Fault))
    (o : Office) → IsNew (unless_passed (import_worked work number bytes tuples refused o) number o).outcome
is_new work number bytes tuples refused o = go (nat_le number (last_day o)) refused
  where
    go : (b : Bool) (r : Option (ℕ × Fault)) →
        IsNew (if b then unwritten (DayPassed (last_day o)) o else import_worked work number bytes tuples r o).outcome
    go true r = tt
    go false None = tt
    go false (Some (line, fault)) = tt

-- what an import that ended well leaves of its source
pub rests : (w : WhenRefused) (work : Work) (number : ℕ) (bytes : List ℕ) (tuples : List Tuple)
    (refused : Option (ℕ × Fault)) (o : Office) (r : Option DayRecord)
    (old new : Option (List ℕ)) (now : Option Office) (left : Option (List ℕ)) (done : Outcome)
    (res : Result (Option Closing) Failed)
    → Merges w (unless_recorded r (import_worked work number bytes tuples refused o) number bytes o) o old new now done
    → ((kept : DayRecord) → done ≡ Stored kept → left ≡ Some []) → LeavesRest done r bytes left
    → EndsCommand (closing_by number done) res → code_of res ≡ 0 → LeavesOfDay r bytes left
rests w work number bytes tuples refused o None old new now left (Stored kept) (Ok c) m whole rest e s = whole kept refl
rests w work number bytes tuples refused o (Some k) old new now left (Stored kept) (Ok c) m whole rest e s =
    absurd (subst IsAgain (sym m.outcome_is) (is_again k (found_digest bytes k.bytes)))
rests w work number bytes tuples refused o None old new now left (Already kept) (Ok c) m whole rest e s =
    absurd (subst IsNew (sym m.outcome_is) (is_new work number bytes tuples refused o))
rests w work number bytes tuples refused o (Some k) old new now left (Already kept) (Ok c) m whole rest e s = rest
rests w work number bytes tuples refused o None old new now left (Answered kept) res m whole rest e s =
    absurd (subst IsNew (sym m.outcome_is) (is_new work number bytes tuples refused o))
rests w work number bytes tuples refused o (Some k) old new now left (Answered kept) res m whole rest e s =
    absurd (subst IsAgain (sym m.outcome_is) (is_again k (found_digest bytes k.bytes)))
rests w work number bytes tuples refused o r old new now left WriteFault (Ok c) m whole rest e s = absurd e
rests w work number bytes tuples refused o r old new now left done (Err x) m whole rest e s = absurd (omega (arith, s))
rests w work number bytes tuples refused o r old new now left _ (Ok c) m whole rest e s =
    absurd (omega (arith, code_is c _ e, s))

-- a comparison names no refused line
pub compared_says : (c : Closing) → IsComparison c → status_of c ≢ 2
compared_says (closing.Agree notices) h = λ s. omega (arith, s)
compared_says (closing.DiffersLine line wanted found) h = λ s. omega (arith, s)
compared_says _ h = absurd h

-- nor does a run that could not read
pub stopped_says : (stop : ReadStop) → status_of (stopping stop) ≢ 2
stopped_says stops.ReadFault = λ s. omega (arith, s)
stopped_says stops.NoMemory = λ s. omega (arith, s)

-- nor one whose keeper refused
pub refused_says : (fault : KeepFault) → status_of (refusing fault) ≢ 2
refused_says keeping.Failed = λ s. omega (arith, s)
refused_says keeping.NoMemory = λ s. omega (arith, s)

-- where a status names a refused line, one was refused
pub says_refused : (d : Option (ℕ × Cause)) (code : ℕ) → SaysBy d code → code ≡ 2 → d ≢ None
says_refused None code says s = absurd (says s)
says_refused (Some named) code says s = λ e. let bad : ⊥ = cc in bad

-- where something is left of a day that was read, a line was refused
pub ends_there : (refused : Option (ℕ × Fault)) (bytes : List ℕ) (left : Option (List ℕ)) (d : Option (ℕ × Cause)) →
    EndsAt d refused bytes left → left ≢ Some [] → d ≢ None
ends_there refused bytes left None ends more = absurd (more ends.1)
ends_there refused bytes left (Some named) ends more = λ e. let bad : ⊥ = cc in bad
