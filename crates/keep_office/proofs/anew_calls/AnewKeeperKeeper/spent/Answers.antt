use Rattle.std.proofs.Common.{◌≡◌}
use Rattle.road_time.specs.History.{paid}
use Rattle.keep_office.proofs.AnewLaws.{reads_under, under_sound}
use Rattle.keep_office.proofs.anew_calls.AnewKeeperKeeper.spent.Goals as goal

pub returns-clause-state : goal.returns-clause-state
returns-clause-state c =
    rw c.count.ensures.same
    (reads_under c.args.self.now.kept c.spent-answer.new.self c.args.self.now.tariffs c.spent-answer.result (λ o tolls. tolls ≡ paid o.rows c.args.day c.args.vid c.args.xway)
    (λ o tolls. tolls ≡ paid o.rows c.args.day c.args.vid c.args.xway) (λ x h. h) c.spent-answer.ensures.state)

pub returns-clause-sound : goal.returns-clause-sound
returns-clause-sound c =
    under_sound c.spent-answer.new.self c.args.self.now.tariffs c.spent-answer.ensures.sound c.args.self.now.valid
