-- What a run that begins anew promises of each object that it was given.
use Rattle.std.specs.Prelude.{ℕ, ◌≡◌, Option, Some}
use Rattle.road_io.specs.declared.sink.Sink.{Ghosts as SinkGhosts}
use Rattle.keep_office.specs.Office.{Office}
use Rattle.keep_office.specs.Renewals.{IsRenewedOr}
use Rattle.keep_office.specs.declared.calls.Keeper.{Ghosts as KeeperGhosts}
use Rattle.office_commands.specs.Ran.{Objects}
use Rattle.office_ends.specs.declared.ending.Ending.{Ending}
use Rattle.office_ends.specs.Drops.{command_answer, DoesCommand}
use Rattle.office_ends.specs.Endings.{Closes}

-- a base and how many amounts may go were named: what the sink and the keeper hold then, and that all else is as it was
pub record BeginsAnew {S A O K C : Type 0} (g : SinkGhosts O) (k : KeeperGhosts K) (named : Option ℕ) (base status : ℕ)
    (old new : Objects S A O K C) : Type 0 where
  pub renews : (o : Office) → k.told old.keeper ≡ Some o →
      DoesCommand (command_answer named base o) (k.told new.keeper) status (g.written old.sink) (g.written new.sink)
  pub whole : (o : Office) → k.told old.keeper ≡ Some o → IsRenewedOr base o (k.told new.keeper)
  pub closes : (e : Ending) × Closes e status (g.written old.sink) (g.written new.sink)
  pub alone : (new.source ≡ old.source) × (new.aside ≡ old.aside) × (new.crew ≡ old.crew)
