-- What was written of a plan's file, by how the generation ended.
use Rattle.std.specs.Prelude.{ℕ, ◌≡◌, ◌<◌, List, length, take, Option, Result, Ok, Err}
use Rattle.std.specs.Io.KnownBytes.{Appends}
use Rattle.tuples_traffic.specs.declared.plan.GenPlan.{GenPlan}
use Rattle.tuples_traffic.specs.declared.plan.GenFault.{GenFault}
use Rattle.tuples_traffic.specs.declared.plan.GenFault.TheVariants.{Size, WriteFault, NoMemory}
use Rattle.tuples_traffic.specs.Traffic.{generated, file_of}

-- what was written as the generation ended: the file, whose lines are counted, or fewer of its first bytes, or nothing
abbrev pub WroteFile : Result ℕ GenFault → GenPlan → Option (List ℕ) → Option (List ℕ) → Type 0
WroteFile (Ok lines) plan old new = (lines ≡ length (generated plan)) × Appends old new (file_of plan)
WroteFile (Err (Size field)) plan old new = old ≡ new
WroteFile (Err WriteFault) plan old new = (k : ℕ) × (k < length (file_of plan))
    × Appends old new (take k (file_of plan))
WroteFile (Err NoMemory) plan old new = old ≡ new
