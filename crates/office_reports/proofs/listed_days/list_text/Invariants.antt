use Rattle.std.proofs.Common.{◌≡◌, take}
use Rattle.office_reports.specs.DayLists.{list_text}
use Rattle.office_reports.proofs.listed_days.list_text.Given as goal

abbrev pub invariant-loop-kept : goal.invariant-loop-kept
invariant-loop-kept l = l.text.items ≡ list_text (take l.kept-index l.days)
