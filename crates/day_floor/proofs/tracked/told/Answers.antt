use Rattle.std.proofs.Common.{refl}
use Rattle.day_floor.proofs.RunLaws.{told_is}
use Rattle.day_floor.proofs.tracked.told.Goals as goal

pub returns : goal.returns
returns c = λ own r k e g. told_is own r c.args.here c.args.last c.args.now _ k e g c.begins_after-begins.ensures refl
    c.left_from.ensures.is c.charge_for.ensures
