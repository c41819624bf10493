use Rattle.std.proofs.Common.{arith}
use Rattle.day_floor.proofs.Marks.{is_mark, settled_le, all_back}
use Rattle.day_floor.proofs.laws.mark_law.Goals as goal

pub returns-clause-greatest : goal.returns-clause-greatest
returns-clause-greatest c = is_mark

pub returns-clause-settled : goal.returns-clause-settled
returns-clause-settled c =
    λ width limits s sound. (settled_le width limits s sound, omega (arith, (is_mark width s).within, sound.pending))

pub returns-clause-whole : goal.returns-clause-whole
returns-clause-whole c = all_back
