use Rattle.std.proofs.Common.{refl}
use Rattle.keep_office.specs.Kept.{with_past}
use Rattle.keep_office.proofs.AnewLaws.{puts_under, under_sound}
use Rattle.keep_office.proofs.anew_calls.AnewKeeperKeeper.put_past.Goals as goal

pub returns-clause-state : goal.returns-clause-state
returns-clause-state c =
    rw c.count.ensures.same
    (puts_under c.args.self.now.kept c.put_past-answer.new.self c.args.self.now.tariffs c.put_past-answer.result
    (with_past c.args.kept.now c.args.rows.now) refl c.put_past-answer.ensures.state)

pub returns-clause-sound : goal.returns-clause-sound
returns-clause-sound c =
    under_sound c.put_past-answer.new.self c.args.self.now.tariffs c.put_past-answer.ensures.sound c.args.self.now.valid
