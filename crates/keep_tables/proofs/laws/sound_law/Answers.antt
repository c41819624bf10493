use Rattle.keep_tables.proofs.StandLaws.{stands_sound}
use Rattle.keep_tables.proofs.laws.sound_law.Goals as goal

pub returns : goal.returns
returns c = stands_sound
