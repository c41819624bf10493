-- What a source holds that is opened at its first read.
use Rattle.std.specs.Prelude.{ℕ, List, Option}
use Rattle.road_io.specs.declared.late.Opening.{Opening}
use Rattle.road_io.specs.declared.late.Opening.TheVariants.{Unopened, Opened, Refused}

-- what is left of a source that is opened at its first read: what its reader has, or what it holds for as long as none
-- was had
abbrev pub late_left : {R : Type 0} → Option (List ℕ) → (R → Option (List ℕ)) → Opening R → Option (List ℕ)
late_left holds remaining Unopened = holds
late_left holds remaining (Opened reader) = remaining reader
late_left holds remaining Refused = holds
