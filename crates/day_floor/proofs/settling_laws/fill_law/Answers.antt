use Rattle.std.proofs.Common.{◌+◌, length, refl}
use Rattle.day_floor.proofs.GivenLaws.{slots_filled}
use Rattle.day_floor.proofs.settling_laws.fill_law.Goals as goal

pub returns : goal.returns
returns c = λ found finding before rest at r slot here none is. slots_filled found (length before + at) finding before
    rest at r slot refl none here is
