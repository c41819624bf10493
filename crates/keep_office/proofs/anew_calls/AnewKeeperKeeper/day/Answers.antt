use Rattle.std.proofs.Common.{◌≡◌}
use Rattle.keep_office.specs.Office.{record_of}
use Rattle.keep_office.proofs.AnewLaws.{reads_under, under_sound}
use Rattle.keep_office.proofs.anew_calls.AnewKeeperKeeper.day.Goals as goal

pub returns-clause-state : goal.returns-clause-state
returns-clause-state c =
    rw c.count.ensures.same
    (reads_under c.args.self.now.kept c.day-answer.new.self c.args.self.now.tariffs c.day-answer.result (λ o kept. kept ≡ record_of o c.args.day)
    (λ o kept. kept ≡ record_of o c.args.day) (λ x h. h) c.day-answer.ensures.state)

pub returns-clause-sound : goal.returns-clause-sound
returns-clause-sound c =
    under_sound c.day-answer.new.self c.args.self.now.tariffs c.day-answer.ensures.sound c.args.self.now.valid
