use Rattle.std.proofs.Common.{◌+◌, arith}
use Rattle.office_commands.specs.Entries.{most_compared}
use Rattle.office_commands.proofs.BoundLaws.{lines_within}
use Rattle.office_commands.proofs.aside.compare_end.Goals as goal

pub returns-in-Ok-Line-clause-bounded : goal.returns-in-Ok-Line-clause-bounded
returns-in-Ok-Line-clause-bounded g c = λ lines bytes s.
    lines_within c.next_entry.new.cutter (g.A.Source.left c.next_entry.new.aside) bytes (lines + 1)
    (most_compared lines) (c.next_entry.ensures.read lines bytes s) (omega arith)

pub returns-in-Ok-Long-clause-bounded : goal.returns-in-Ok-Long-clause-bounded
returns-in-Ok-Long-clause-bounded g c = λ lines bytes s.
    lines_within c.next_entry.new.cutter (g.A.Source.left c.next_entry.new.aside) bytes (lines + 1)
    (most_compared lines) (c.next_entry.ensures.read lines bytes s) (omega arith)

pub returns-in-Ok-End-clause-bounded : goal.returns-in-Ok-End-clause-bounded
returns-in-Ok-End-clause-bounded g c = λ lines bytes s.
    lines_within c.next_entry.new.cutter (g.A.Source.left c.next_entry.new.aside) bytes (lines + 1)
    (most_compared lines) (c.next_entry.ensures.read lines bytes s) (omega arith)

pub returns-in-Err-clause-bounded : goal.returns-in-Err-clause-bounded
returns-in-Err-clause-bounded g c = λ lines bytes s.
    lines_within c.next_entry.new.cutter (g.A.Source.left c.next_entry.new.aside) bytes (lines + 1)
    (most_compared lines) (c.next_entry.ensures.read lines bytes s) (omega arith)
