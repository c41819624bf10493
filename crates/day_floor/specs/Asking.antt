-- How often a keeper is asked, and which of its calls pass.
use Rattle.std.specs.Prelude.{ℕ, ◌≡◌, ◌+◌, ◌<◌, ◌≤◌, Bool, true, false, List, [], ◌∷◌, Option, Some, None, Result, Ok}
use Rattle.std.specs.Prelude.{Err}
use Rattle.road_time.specs.declared.road.Tuple.{Tuple}
use Rattle.road_time.specs.declared.road.Tuple.TheVariants.{Report as ReportTuple, Balance as BalanceTuple}
use Rattle.road_time.specs.declared.road.Tuple.TheVariants.{Spent as SpentTuple, Travel}
use Rattle.day_floor.specs.declared.fault.SettleFault.{SettleFault}
use Rattle.day_floor.specs.declared.fault.SettleFault.TheVariants.{KeeperFault, WriteFault, NoMemory}
use Rattle.day_floor.specs.declared.due_slot.Due.{Due}
use Rattle.day_floor.specs.declared.due_slot.Due.TheVariants.{Nothing, Report, Balance, Spent}

-- which of a keeper's calls to come fail, where it tells that, the next being 0
abbrev pub AskingPlan : Type 0
AskingPlan = Option (ℕ → Bool)

-- so many calls passed, none of which was planned to fail, and those after them stay planned as they were
abbrev pub PassesCalls : ℕ → AskingPlan → AskingPlan → Type 0
PassesCalls n None now = Unit {0}
PassesCalls n (Some p) None = ⊥
PassesCalls n (Some p) (Some q) = ((i : ℕ) → i < n → p i ≡ false) × ((i : ℕ) → q i ≡ p (i + n))

-- at most so many calls passed
abbrev pub PassesUpTo : ℕ → AskingPlan → AskingPlan → Type 0
PassesUpTo n old now = (k : ℕ) × (k ≤ n) × PassesCalls k old now

-- so many calls passed, and the next failed as it was planned
abbrev pub FailsAfter : ℕ → AskingPlan → AskingPlan → Type 0
FailsAfter n None now = Unit {0}
FailsAfter n (Some p) None = ⊥
FailsAfter n (Some p) (Some q) = ((i : ℕ) → i < n → p i ≡ false) × (p n ≡ true) × ((i : ℕ) → q i ≡ p (i + (n + 1)))

-- how often a keeper is asked where a tuple is settled: once for an amount of an earlier day
abbrev pub asked_by : Tuple → ℕ
asked_by (ReportTuple r) = 0
asked_by (BalanceTuple time vid qid) = 0
asked_by (SpentTuple time vid xway qid day) = 1
asked_by (Travel time) = 0

-- how often a keeper is asked where several tuples are settled
abbrev pub requests_of : List Tuple → ℕ
requests_of [] = 0
requests_of (x ∷ xs) = asked_by x + requests_of xs

-- how often a keeper is asked where a slot is settled
abbrev pub slot_asked : Due → ℕ
slot_asked Nothing = 0
slot_asked (Report time vid charge told) = 0
slot_asked (Balance time vid qid) = 0
slot_asked (Spent time vid qid xway day) = 1

-- one call was made, which failed exactly where that is answered
abbrev pub AsksOnce : {T : Type 0} → Result T SettleFault → AskingPlan → AskingPlan → Type 0
AsksOnce (Ok x) old now = PassesCalls 1 old now
AsksOnce (Err KeeperFault) old now = FailsAfter 0 old now
AsksOnce (Err WriteFault) old now = ⊥
AsksOnce (Err NoMemory) old now = PassesCalls 1 old now
