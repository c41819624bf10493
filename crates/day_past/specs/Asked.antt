-- How a keeper was asked where a history was imported.
use Rattle.std.specs.Prelude.{ℕ, ◌≡◌, ◌≤◌, ◌+◌, true, Some, None}
use Rattle.day_floor.specs.Asking.{AskingPlan, PassesCalls, FailsAfter}
use Rattle.day_past.specs.declared.outcomes.PastOutcome.{PastOutcome}
use Rattle.day_past.specs.declared.outcomes.PastOutcome.TheVariants.{Stored, Already, Row, PastLate, OtherBase}
use Rattle.day_past.specs.declared.outcomes.PastOutcome.TheVariants.{Differs, ReadFault, KeeperFault, NoMemory}

-- the next call of a keeper is planned to fail
abbrev pub FailsFirst : AskingPlan → Type 0
FailsFirst None = ⊥
FailsFirst (Some p) = p 0 ≡ true

-- what a keeper was asked where no history is kept, after so many calls are due before the source is read; where the
-- history is stored, one put more. The keeper's fault is that of the first call that was planned to fail; no other end
-- but want of memory comes behind such a call
abbrev pub AsksNewPast : ℕ → PastOutcome → AskingPlan → AskingPlan → Type 0
AsksNewPast n (Stored kept) old now = PassesCalls (n + 1) old now
AsksNewPast n (Already kept) old now = ⊥
AsksNewPast n (Row line cause) old now = PassesCalls n old now
AsksNewPast n (PastLate last) old now = PassesCalls n old now
AsksNewPast n (OtherBase kept) old now = ⊥
AsksNewPast n (Differs kept found) old now = ⊥
AsksNewPast n ReadFault old now = PassesCalls n old now
AsksNewPast n KeeperFault old now = (k : ℕ) × (k ≤ n) × FailsAfter k old now
AsksNewPast n NoMemory old now = Unit {0}

-- what it was asked in all: for the history that is kept, and where none is, for the greatest day; and then, where
-- this one is stored, the put
abbrev pub AsksPast : PastOutcome → AskingPlan → AskingPlan → Type 0
AsksPast (Stored kept) old now = PassesCalls 3 old now
AsksPast (Already kept) old now = PassesCalls 1 old now
AsksPast (Row line cause) old now = PassesCalls 2 old now
AsksPast (PastLate last) old now = PassesCalls 2 old now
AsksPast (OtherBase kept) old now = PassesCalls 1 old now
AsksPast (Differs kept found) old now = PassesCalls 1 old now
AsksPast ReadFault old now = (k : ℕ) × (1 ≤ k) × (k ≤ 2) × PassesCalls k old now
AsksPast KeeperFault old now = (k : ℕ) × (k ≤ 2) × FailsAfter k old now
AsksPast NoMemory old now = Unit {0}

-- an end that comparing with a kept history has
abbrev pub IsOfKeptPast : PastOutcome → Type 0
IsOfKeptPast (Already kept) = Unit {0}
IsOfKeptPast (OtherBase kept) = Unit {0}
IsOfKeptPast (Differs kept found) = Unit {0}
IsOfKeptPast ReadFault = Unit {0}
IsOfKeptPast NoMemory = Unit {0}
IsOfKeptPast _ = ⊥
