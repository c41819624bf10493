use Rattle.std.proofs.Common.{◌≡◌, take}
use Rattle.office_reports.specs.AccidentLog.{log_text}
use Rattle.office_reports.proofs.mishaps.text_of.Given as goal

abbrev pub invariant-loop-mishap : goal.invariant-loop-mishap
invariant-loop-mishap l = l.text.items ≡ log_text (take l.mishap-index l.mishaps)
