use Rattle.road_time.proofs.AllowedLaws.{admitted}
use Rattle.day_reading.proofs.intake.take_tuple.Goals as goal

pub returns-in-Ok-put-clause-takes : goal.returns-in-Ok-put-clause-takes
returns-in-Ok-put-clause-takes c = λ limits late before stands.
    let none = c.in-Ok.ensures.judged limits late before stands in (
      none,
      c.in-Ok.ensures.admitted limits late before stands,
      λ taken is. c.in-Ok-put.ensures.put late before taken is
          (admitted limits late before c.args.tuple.now none).0,
    )
