-- How the command `renew BASE` ends, and what it writes.
use Rattle.std.specs.Prelude.{◌≡◌, ◌⊎◌, ◌<◌, ℕ, List, ◌++◌, length, take, codes, Option, Some, None, Result}
use Rattle.std.specs.Prelude.{Ok, Err}
use Rattle.std.specs.Fmt.{decimal}
use Rattle.std.specs.Io.KnownBytes.{Appends}
use Rattle.road_time.specs.declared.day.SpentRow.{SpentRow}
use Rattle.keep_office.specs.declared.kept.KeepFault.{KeepFault}
use Rattle.keep_office.specs.declared.kept.KeepFault.TheVariants as keeping
use Rattle.keep_office.specs.declared.renewing.Renewal.{Renewal}
use Rattle.keep_office.specs.declared.renewing.Renewal.TheVariants as ends
use Rattle.office_ends.specs.declared.ending.Ending.{Ending}
use Rattle.office_ends.specs.declared.ending.Ending.TheVariants.{Begun, Early, Drops, Unfit, KeeperFault, NoMemory}

-- how the command ends by how a renewal does, before which so many amounts went and of which this one may not fit
abbrev pub ending_of : ℕ → Option SpentRow → Renewal → Ending
ending_of dropped unfit (ends.Renewed kept) = Begun kept.base kept.rows dropped
ending_of dropped unfit (ends.Early last) = Early last
ending_of dropped unfit ends.Unfit = Unfit unfit

-- how it ends where a call fails
abbrev pub failing : KeepFault → Ending
failing keeping.Failed = KeeperFault
failing keeping.NoMemory = NoMemory

-- the same where a call may have failed
abbrev pub ending_by : ℕ → Option SpentRow → Result Renewal KeepFault → Ending
ending_by dropped unfit (Ok outcome) = ending_of dropped unfit outcome
ending_by dropped unfit (Err fault) = failing fault

-- the line of an office that began anew
abbrev pub begun_line : ℕ → ℕ → ℕ → List ℕ
begun_line base rows dropped =
    codes "# renewed base "
    ++ (decimal base
    ++ (codes " rows " ++ (decimal rows ++ (codes " dropped " ++ (decimal dropped ++ codes "\n")))))

-- the line of a base that is not above the last day
abbrev pub early_line : ℕ → List ℕ
early_line last = codes "# renew early last " ++ (decimal last ++ codes "\n")

-- the line of amounts that would go
abbrev pub drops_line : ℕ → List ℕ
drops_line rows = codes "# renew drops rows " ++ (decimal rows ++ codes "\n")

-- the line of an amount that no history may have
abbrev pub unfit_line : SpentRow → List ℕ
unfit_line r =
    codes "# renew unfit day "
    ++ (decimal r.day
    ++ (codes " vid "
    ++ (decimal r.vid ++ (codes " xway " ++ (decimal r.xway ++ (codes " tolls " ++ (decimal r.tolls ++ codes "\n")))))))

-- the closing line, with its LF
abbrev pub ending_line : Ending → List ℕ
ending_line (Begun base rows dropped) = begun_line base rows dropped
ending_line (Early last) = early_line last
ending_line (Drops rows) = drops_line rows
ending_line (Unfit None) = codes "# renew unfit\n"
ending_line (Unfit (Some row)) = unfit_line row
ending_line KeeperFault = codes "# keeper fault\n"
ending_line NoMemory = codes "# no memory\n"

-- the status that it goes with
abbrev pub status_of : Ending → ℕ
status_of (Begun base rows dropped) = 0
status_of (Early last) = 3
status_of (Drops rows) = 3
status_of (Unfit row) = 3
status_of KeeperFault = 6
status_of NoMemory = 8

-- a closing line was written and the status is its own, or the sink failed after some first bytes of it and not all
abbrev pub Closes : Ending → ℕ → Option (List ℕ) → Option (List ℕ) → Type 0
Closes e status old new =
    ((status ≡ status_of e) × Appends old new (ending_line e))
    ⊎ ((status ≡ 5) × ((k : ℕ) × (k < length (ending_line e)) × Appends old new (take k (ending_line e))))
