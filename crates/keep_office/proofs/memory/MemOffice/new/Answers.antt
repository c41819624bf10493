use Rattle.std.proofs.Common.{[]}
use Rattle.keep_office.proofs.SoundLaws.{nothing_sound, no_tariffs}
use Rattle.keep_office.proofs.memory.MemOffice.new.Goals as goal

pub invariant_of-result : goal.invariant_of-result
invariant_of-result c =
    record { sound = rw (c.new.ensures.items, c.new-2.ensures.items, c.new-3.ensures) (nothing_sound [] no_tariffs) }
