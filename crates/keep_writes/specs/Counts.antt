-- The count of a keeper's faults.
use Rattle.std.specs.Prelude.{ℕ, ◌+◌, ◌-◌, ◌^◌, min, Result, Ok, Err}
use Rattle.keep_office.specs.declared.kept.KeepFault.{KeepFault}
use Rattle.keep_office.specs.declared.kept.KeepFault.TheVariants.{Failed, NoMemory}

-- the count of faults after a call: one more where it failed, up to the last value
abbrev pub faults_after : {T : Type 0} → ℕ → Result T KeepFault → ℕ
faults_after n (Ok x) = n
faults_after n (Err Failed) = min (n + 1) (2 ^ 64 - 1)
faults_after n (Err NoMemory) = n
