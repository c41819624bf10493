use Rattle.std.proofs.Common.{◌≡◌}
use Rattle.keep_office.specs.Office.{vehicle_rows_between}
use Rattle.keep_office.proofs.AnewLaws.{reads_under, under_sound}
use Rattle.keep_office.proofs.anew_calls.AnewKeeperKeeper.vehicle_rows.Goals as goal

pub returns-clause-state : goal.returns-clause-state
returns-clause-state c =
    rw c.count.ensures.same
    (reads_under c.args.self.now.kept c.vehicle_rows-answer.new.self c.args.self.now.tariffs c.vehicle_rows-answer.result (λ o rows. rows.items ≡ vehicle_rows_between o c.args.vid c.args.from c.args.to)
    (λ o rows. rows.items ≡ vehicle_rows_between o c.args.vid c.args.from c.args.to) (λ x h. h) c.vehicle_rows-answer.ensures.state)

pub returns-clause-sound : goal.returns-clause-sound
returns-clause-sound c =
    under_sound c.vehicle_rows-answer.new.self c.args.self.now.tariffs c.vehicle_rows-answer.ensures.sound c.args.self.now.valid
