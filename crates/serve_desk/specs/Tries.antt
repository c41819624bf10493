-- A put that looks first whether it may be put.
use Rattle.std.specs.Prelude.{◌≡◌, ◌⊎◌, Option, Some, Result, IsErr}
use Rattle.keep_office.specs.declared.kept.KeepFault.{KeepFault}
use Rattle.keep_office.specs.Office.{Office}
use Rattle.keep_office.specs.Calls.{WhenRefused, Puts}

-- it may be put, and is put as its keeper puts, all or what a refused put leaves; or it is refused, and all is as it
-- was
abbrev pub Tries : WhenRefused → Type 0 → (Office → Office) → Office → Option Office → Result (Unit {0}) KeepFault →
    Type 0
Tries w MayPut next o after r = (MayPut × Puts w (Some o) after r next) ⊎ (IsErr r × (after ≡ Some o))
