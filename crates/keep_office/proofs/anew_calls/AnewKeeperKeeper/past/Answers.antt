use Rattle.std.proofs.Common.{◌≡◌}
use Rattle.keep_office.proofs.AnewLaws.{reads_under, under_sound}
use Rattle.keep_office.proofs.anew_calls.AnewKeeperKeeper.past.Goals as goal

pub returns-clause-state : goal.returns-clause-state
returns-clause-state c =
    rw c.count.ensures.same
    (reads_under c.args.self.now.kept c.past-answer.new.self c.args.self.now.tariffs c.past-answer.result (λ o past. past ≡ o.past)
    (λ o past. past ≡ o.past) (λ x h. h) c.past-answer.ensures.state)

pub returns-clause-sound : goal.returns-clause-sound
returns-clause-sound c =
    under_sound c.past-answer.new.self c.args.self.now.tariffs c.past-answer.ensures.sound c.args.self.now.valid
