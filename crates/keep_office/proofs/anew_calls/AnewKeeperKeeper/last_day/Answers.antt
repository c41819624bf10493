use Rattle.std.proofs.Common.{◌≡◌}
use Rattle.keep_office.specs.Office.{last_day}
use Rattle.keep_office.proofs.AnewLaws.{reads_under, under_sound}
use Rattle.keep_office.proofs.anew_calls.AnewKeeperKeeper.last_day.Goals as goal

pub returns-clause-state : goal.returns-clause-state
returns-clause-state c =
    rw c.count.ensures.same
    (reads_under c.args.self.now.kept c.last_day-answer.new.self c.args.self.now.tariffs c.last_day-answer.result (λ o last. last ≡ last_day o)
    (λ o last. last ≡ last_day o) (λ x h. h) c.last_day-answer.ensures.state)

pub returns-clause-sound : goal.returns-clause-sound
returns-clause-sound c =
    under_sound c.last_day-answer.new.self c.args.self.now.tariffs c.last_day-answer.ensures.sound c.args.self.now.valid
