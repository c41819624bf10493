-- A check that could not read.
use Rattle.std.proofs.Common.{inl, inr, ℕ, List, [], Option, Some, Ok, arith}
use Rattle.road_io.proofs.SinkLaws.{appends_none}
use Rattle.day_reading.specs.declared.whole.CheckStop.{CheckStop}
use Rattle.day_reading.specs.declared.whole.CheckStop.TheVariants as checks
use Rattle.office_commands.specs.Commands.{Answer}
use Rattle.office_commands.specs.Endings.{Wrote, stopping_check, code_of}
use Rattle.office_commands.specs.Rests.{ReadsToEnd}
use Rattle.office_commands.proofs.ClosingLaws.{fault_empty}

-- it wrote nothing
pub wrote_unchecked : (a : Answer) (s : CheckStop) (old : Option (List ℕ)) →
    Wrote a (Ok (Some (stopping_check s))) old old
wrote_unchecked a checks.ReadFault old = ([], fault_empty a, appends_none old)
wrote_unchecked a checks.NoMemory old = ([], fault_empty a, appends_none old)

-- and its status does not say that it came to the end
pub unread_end : (s : CheckStop) (before after : Option (List ℕ)) →
    ReadsToEnd (code_of (Ok (Some (stopping_check s)))) before after
unread_end checks.ReadFault before after (inl e) = absurd (omega (arith, e))
unread_end checks.ReadFault before after (inr e) = absurd (omega (arith, e))
unread_end checks.NoMemory before after (inl e) = absurd (omega (arith, e))
unread_end checks.NoMemory before after (inr e) = absurd (omega (arith, e))
