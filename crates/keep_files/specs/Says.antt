-- What a call of a file says, and that the next call is of the same path.
use Rattle.std.specs.Prelude.{◌≡◌, Result}
use Rattle.keep_office.specs.declared.kept.KeepFault.{KeepFault}
use Rattle.keep_files.specs.declared.database.Database.{Database}
use Rattle.keep_files.specs.Causes.{IsSaid}

-- a call that failed says why, no other call says anything, and the path stays
abbrev pub Says : {A S P : Type 0} → Result A KeepFault → Database S P → Database S P → Type 0
Says result old new = IsSaid result old.cause new.cause × (new.path ≡ old.path)
