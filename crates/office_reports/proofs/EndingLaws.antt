-- How a report that has a text ends.
use Rattle.std.proofs.Common.{◌≡◌, ℕ, List, Option, Some, Result, Ok, Err, refl}
use Rattle.office_reports.specs.declared.report_fault.ReportFault.{ReportFault}
use Rattle.office_reports.specs.declared.report_fault.ReportFault.TheVariants.{NoDay, KeeperFault, Unsound, WriteFault, NoMemory}
use Rattle.office_reports.specs.Endings.{WroteText, Reported}

-- a report that has a text, and wrote it as it ended
pub reported : (r : Result (Unit {0}) ReportFault) (old new : Option (List ℕ)) (text : List ℕ) →
    WroteText r old new text → (r ≡ Err NoDay → ⊥) → Reported r old new (Some text)
reported (Ok u) old new text w own = w
reported (Err NoDay) old new text w own = absurd (own refl)
reported (Err KeeperFault) old new text w own = w
reported (Err (Unsound day)) old new text w own = absurd w
reported (Err WriteFault) old new text w own = w
reported (Err NoMemory) old new text w own = w
