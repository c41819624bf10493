-- What a keeper keeps after a put.
use Rattle.std.proofs.Common.{◌≡◌, Option, Some, None, Result, Ok, Err, refl, ap}
use Rattle.keep_office.specs.declared.kept.KeepFault.{KeepFault}
use Rattle.keep_office.specs.Calls.{WhenRefused, Puts, Leaves}
use Rattle.keep_office.specs.Office.{Office}

-- the office is the one that was to be, or what a refused put leaves
abbrev pub PutBy : WhenRefused → Office → (Office → Office) → Option Office → Result (Unit {0}) KeepFault → Type 0
PutBy w o next after (Ok u) = after ≡ Some (next o)
PutBy w o next after (Err e) = (p : Office) × (after ≡ Some p) × Leaves w e p o (next o)

-- so it is where the office was told
pub put_by : (w : WhenRefused) (o : Office) (next : Office → Office) (after : Option Office)
    (r : Result (Unit {0}) KeepFault) → Puts w (Some o) after r next → PutBy w o next after r
put_by w o next None r h = absurd h
put_by w o next (Some p) (Ok u) h = ap (λ x. Some x) h
put_by w o next (Some p) (Err e) h = (p, refl, h)
