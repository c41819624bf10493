-- Who is to blame for a fault, by how a command ended.
use Rattle.std.specs.Prelude.{ℕ, ◌≡◌, ◌≢◌, ◌≤◌, ◌⊎◌, Option, Some, Result, Ok, IsErr}
use Rattle.road_io.specs.declared.source.Failed.{Failed}
use Rattle.road_io.specs.Faults.{Rose}
use Rattle.office_commands.specs.declared.closing.Closing.{Closing}
use Rattle.office_commands.specs.declared.closing.Closing.TheVariants.{KeeperFault}

-- the counts of faults of a source and of an aside never fall, one of them rose where reading failed, and it does not
-- fail where neither does; both stand where reading did not fail and no fault of another object is told
pub record ReadFaults (before now aside_before aside_now : ℕ) (fine aside_fine failed quiet : Type 0) : Type 0 where
  pub later : before ≤ now
  pub aside_later : aside_before ≤ aside_now
  pub cause : failed → Rose before now ⊎ Rose aside_before aside_now
  pub still : (failed → ⊥) → quiet → (now ≡ before) × (aside_now ≡ aside_before)
  pub sure : fine → aside_fine → failed → ⊥

-- neither the sink nor the keeper failed
abbrev pub TellsNoOther : Result (Option Closing) Failed → Type 0
TellsNoOther r = (IsErr r → ⊥) × (r ≢ Ok (Some KeeperFault))
