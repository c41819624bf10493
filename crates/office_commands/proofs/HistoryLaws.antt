-- What a command that keeps a history names and keeps, from what keeping it did.
use Rattle.std.proofs.Common.{◌≡◌, ◌≢◌, ◌∙◌, ◌==◌, ◌⊎◌, ℕ, Bool, true, false, if◌then◌else◌, List, [], ◌∷◌, Option}
use Rattle.std.proofs.Common.{Some, None, refl, sym, ap, subst, arith}
use Rattle.std.specs.Str.{bytes_eq}
use Rattle.road_time.specs.declared.day.Limits.{Limits}
use Rattle.road_time.specs.declared.day.SpentRow.{SpentRow}
use Rattle.keep_office.specs.declared.kept.DayRecord.{DayRecord}
use Rattle.keep_office.specs.declared.kept.PastRecord.{PastRecord}
use Rattle.road_digest.specs.Digests.{found_digest}
use Rattle.keep_office.specs.PastReads.{PastFault, past_reads}
use Rattle.keep_office.specs.Calls.{WhenRefused}
use Rattle.keep_office.specs.Office.{Office}
use Rattle.day_reading.specs.Days.{StopsSoon}
use Rattle.day_past.specs.declared.outcomes.PastCause.{PastCause}
use Rattle.day_past.specs.Imports.{PastAnswer, past_again, past_read, past_new, past_by_kept, DoesPast}
use Rattle.day_past.specs.Imports.{LeavesPast, RefusesSoon, KeepsAllPast, IsPastUncompared}
use Rattle.day_past.specs.declared.outcomes.PastOutcome.{PastOutcome}
use Rattle.day_past.specs.declared.outcomes.PastOutcome.TheVariants.{Stored, Already, Row, PastLate, OtherBase}
use Rattle.day_past.specs.declared.outcomes.PastOutcome.TheVariants.{Differs, ReadFault, KeeperFault, NoMemory}
use Rattle.office_commands.specs.declared.closing.Closing.{Closing}
use Rattle.office_commands.specs.Commands.{past_closing, past_by}
use Rattle.office_commands.specs.Closings.{status_of}
use Rattle.office_commands.specs.Endings.{StandsBefore, HoldsSame, sort_of, KeepsBy}
use Rattle.office_commands.specs.Rests.{LeavesOfPast, HasStoppedPast, HasReadPast}
use Rattle.office_commands.proofs.ClosingLaws.{fault_empty}
use Rattle.office_commands.proofs.OutcomeLaws.{neither}

module _ (w : WhenRefused) (base : ℕ) (a : PastAnswer) (was : Office) (now : Option Office) where
  -- the closing line of a history that was kept, or of why not
  stands_by : (done : PastOutcome) → DoesPast w a was now done →
      StandsBefore (past_by base a) (past_closing base done) []
  stands_by ReadFault h = fault_empty (past_by base a)
  stands_by KeeperFault h = fault_empty (past_by base a)
  stands_by NoMemory h = fault_empty (past_by base a)
  stands_by _ h = (ap (λ d. Some (past_closing base d)) h.outcome_is, refl)

  -- and what is kept after it
  keeps_by : (done : PastOutcome) → DoesPast w a was now done →
      KeepsBy (sort_of (past_closing base done)) w (past_by base a) was now
  keeps_by (Stored r) h = h.kept
  keeps_by (Already r) h = h.kept
  keeps_by (Row line cause) h = h.kept
  keeps_by (PastLate last) h = h.kept
  keeps_by (OtherBase kept) h = h.kept
  keeps_by (Differs kept found) h = h.kept
  keeps_by _ h = h

  -- the same of the closing that is named
  pub past_stands : (done : PastOutcome) (c : Closing) → c ≡ past_closing base done → DoesPast w a was now done →
      StandsBefore (past_by base a) c []
  past_stands done c e h = subst (λ k. StandsBefore (past_by base a) k []) (sym e) (stands_by done h)

  -- and what is kept
  pub past_keeps : (done : PastOutcome) (c : Closing) → c ≡ past_closing base done → DoesPast w a was now done →
      KeepsBy (sort_of c) w (past_by base a) was now
  past_keeps done c e h = subst (λ k. KeepsBy (sort_of k) w (past_by base a) was now) (sym e) (keeps_by done h)

-- an end that a new history has alone
abbrev IsNew : PastOutcome → Type 0
IsNew (Stored r) = Unit {0}
IsNew (Row line cause) = Unit {0}
IsNew _ = ⊥

-- a kept history is no new one, and no line of it is refused
again_apart : (k : PastRecord) (base : ℕ) (bytes : List ℕ) (done : PastOutcome) → done ≡ past_again k base bytes →
    IsNew done → ⊥
again_apart k base bytes done e new = go (k.base == base) (bytes_eq (found_digest bytes k.bytes).bytes k.digest.bytes) e
  where
    go : (b s : Bool) → done ≡ (if b then (if s then Already k else Differs k.digest (found_digest bytes k.bytes)) else
        OtherBase k.base) → ⊥
    go true true is = subst IsNew is new
    go true false is = subst IsNew is new
    go false s is = subst IsNew is new

-- a history that is read is none that is kept
read_apart : (kept : PastRecord) (base : ℕ) (bytes : List ℕ) (rows : List SpentRow) (refused : Option (ℕ × PastFault))
    (o : Office) → Already kept ≡ (past_read base bytes rows refused o).outcome → ⊥
read_apart kept base bytes rows None o e = let bad : ⊥ = cc in bad
read_apart kept base bytes rows (Some (line, fault)) o e = let bad : ⊥ = cc in bad

-- nor is one that is to be read
new_apart : (kept : PastRecord) (days : List DayRecord) (base : ℕ) (limits : Limits) (bytes : List ℕ) (o : Office) →
    Already kept ≡ (past_new days base limits bytes o).outcome → ⊥
new_apart kept [] base limits bytes o e =
    read_apart kept base bytes (past_reads bytes base limits).rows (past_reads bytes base limits).refused o e
new_apart kept (d ∷ ds) base limits bytes o e = let bad : ⊥ = cc in bad

-- a line that is named is the first refused one
read_named : (line : ℕ) (cause : PastCause) (base : ℕ) (bytes : List ℕ) (rows : List SpentRow)
    (refused : Option (ℕ × PastFault)) (o : Office) (left : Option (List ℕ))
    → Row line cause ≡ (past_read base bytes rows refused o).outcome → StopsSoon line bytes left →
    HasStoppedPast refused bytes left
read_named line cause base bytes rows None o left e soon = let bad : ⊥ = cc in absurd bad
read_named line cause base bytes rows (Some (other, fault)) o left e soon =
    let same : line ≡ other = cc in
    (other, fault, refl, subst (λ (n : ℕ). StopsSoon n bytes left) same soon)

-- the same where no history is kept
new_named : (line : ℕ) (cause : PastCause) (days : List DayRecord) (base : ℕ) (limits : Limits) (bytes : List ℕ)
    (o : Office) (left : Option (List ℕ))
    → Row line cause ≡ (past_new days base limits bytes o).outcome → StopsSoon line bytes left →
    HasStoppedPast (past_reads bytes base limits).refused bytes left
new_named line cause [] base limits bytes o left e soon =
    read_named line cause base bytes (past_reads bytes base limits).rows (past_reads bytes base limits).refused o left e
    soon
new_named line cause (d ∷ ds) base limits bytes o left e soon = let bad : ⊥ = cc in absurd bad

module _ (limits : Limits) (base : ℕ) (kept : Option PastRecord) (bytes : List ℕ) (left : Option (List ℕ)) where
  -- what a status says of the reading
  abbrev ReadTo : ℕ → Type 0
  ReadTo status = HasReadPast limits base status kept bytes left

  -- a run that ended well
  read_well : (c k : Closing) → c ≡ k → status_of k ≡ 0 → LeavesOfPast kept bytes left → ReadTo (status_of c)
  read_well c k e zero rest =
      record { ended = λ s. rest; refused_there = λ s. absurd (omega (arith, ap status_of e, zero, s)) }

  -- and one that ended otherwise
  read_ill : (c k : Closing) → c ≡ k → status_of k ≢ 0 → status_of k ≢ 2 → ReadTo (status_of c)
  read_ill c k e well named =
      record {
        ended = λ s. absurd (well (sym (ap status_of e) ∙ s));
        refused_there =
            λ s. absurd (named (sym (ap status_of e) ∙ s));
      }

-- what a history that was kept, or a line of which was refused, leaves of its source
pub past_rest : (w : WhenRefused) (limits : Limits) (base : ℕ) (bytes : List ℕ) (o : Office) (p : Option PastRecord)
    (now : Option Office) (left : Option (List ℕ)) (done : PastOutcome) (c : Closing)
    → c ≡ past_closing base done → DoesPast w (past_by_kept p base limits bytes o) o now done →
    LeavesPast done p bytes left
    → RefusesSoon done bytes left
    → HasReadPast limits base (status_of c) p bytes left
past_rest w limits base bytes o None now left (Stored r) c e h rest soon =
    read_well limits base None bytes left c _ e refl rest
past_rest w limits base bytes o (Some k) now left (Stored r) c e h rest soon =
    absurd (again_apart k base bytes (Stored r) h.outcome_is tt)
past_rest w limits base bytes o None now left (Already r) c e h rest soon =
    absurd (new_apart r o.days base limits bytes o h.outcome_is)
past_rest w limits base bytes o (Some k) now left (Already r) c e h rest soon =
    read_well limits base (Some k) bytes left c _ e refl rest
past_rest w limits base bytes o None now left (Row line cause) c e h rest soon = record {
  ended = λ s. absurd (omega (arith, ap status_of e, s));
  refused_there = λ s. new_named line cause o.days base limits bytes o left h.outcome_is soon;
}
past_rest w limits base bytes o (Some k) now left (Row line cause) c e h rest soon =
    absurd (again_apart k base bytes (Row line cause) h.outcome_is tt)
past_rest w limits base bytes o p now left _ c e h rest soon =
    read_ill limits base p bytes left c _ e (λ s. omega (arith, s)) (λ s. omega (arith, s))

-- what is kept is as it was, unless a history was put, the keeper failed or memory ran out
pub past_held : (base : ℕ) (P : Type 0) (done : PastOutcome) (c : Closing) → c ≡ past_closing base done →
    KeepsAllPast done P → HoldsSame (status_of c) P
past_held base P (Stored r) c e h = λ well failed room. absurd (well (ap status_of e))
past_held base P KeeperFault c e h = λ well failed room. absurd (failed (ap status_of e))
past_held base P NoMemory c e h = λ well failed room. absurd (room (ap status_of e))
past_held base P _ c e h = λ well failed room. h

-- a history that ended at a refused line, or as the keeper failed, was compared with none
pub past_alone : (base : ℕ) (P : Type 0) (done : PastOutcome) (c : Closing) → c ≡ past_closing base done →
    (IsPastUncompared done → P) → (status_of c ≡ 2) ⊎ (status_of c ≡ 6) → P
past_alone base P (Already r) c e h s =
    absurd (neither _ 0 (ap status_of e) (λ t. omega (arith, t)) (λ t. omega (arith, t)) s)
past_alone base P (Differs k found) c e h s =
    absurd (neither _ 3 (ap status_of e) (λ t. omega (arith, t)) (λ t. omega (arith, t)) s)
past_alone base P ReadFault c e h s =
    absurd (neither _ 4 (ap status_of e) (λ t. omega (arith, t)) (λ t. omega (arith, t)) s)
past_alone base P NoMemory c e h s =
    absurd (neither _ 8 (ap status_of e) (λ t. omega (arith, t)) (λ t. omega (arith, t)) s)
past_alone base P _ c e h s = h tt
