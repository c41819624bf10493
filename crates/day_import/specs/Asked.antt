-- How a keeper was asked where a day was imported or answered.
use Rattle.std.specs.Prelude.{ℕ, ◌+◌, ◌-◌}
use Rattle.day_floor.specs.Asking.{AskingPlan, PassesCalls}
use Rattle.day_import.specs.AskedRounds.{PassesSome, FailsAtLast}
use Rattle.day_import.specs.declared.outcomes.Outcome.{Outcome}
use Rattle.day_import.specs.declared.outcomes.Outcome.TheVariants.{Stored, Already, Answered, Refused, DayPassed}
use Rattle.day_import.specs.declared.outcomes.Outcome.TheVariants.{Differs, ReadFault, WriteFault, KeeperFault}
use Rattle.day_import.specs.declared.outcomes.Outcome.TheVariants.{NoMemory}

-- what a keeper was asked, by how a day ended, where so many calls come before its work: of an import they are three,
-- which ask for the day, for the greatest one and for the tariffs. Then come the amounts that it asks for, and, where
-- it is stored, the put. The keeper's fault is that of the first call that was planned to fail; no other end but want of
-- memory comes behind such a call
abbrev pub AsksBy : ℕ → Outcome → AskingPlan → AskingPlan → Type 0
AsksBy n (Stored kept) old now = (k : ℕ) × PassesCalls (n + (k + 1)) old now
AsksBy n (Already kept) old now = PassesCalls (n - 2) old now
AsksBy n (Answered kept) old now = (k : ℕ) × PassesCalls (n + k) old now
AsksBy n (Refused line cause) old now = (k : ℕ) × PassesCalls (n + k) old now
AsksBy n (DayPassed last) old now = PassesCalls (n - 1) old now
AsksBy n (Differs kept found) old now = PassesCalls (n - 2) old now
AsksBy n ReadFault old now = PassesSome old now
AsksBy n WriteFault old now = (k : ℕ) × PassesCalls (n + k) old now
AsksBy n KeeperFault old now = FailsAtLast old now
AsksBy n NoMemory old now = Unit {0}
