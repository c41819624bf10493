use Rattle.day_reading.proofs.judging.admit.Goals as goal

pub returns-in-Ok : goal.returns-in-Ok
returns-in-Ok c = λ limits late before stands.
    (c.in-Ok.ensures.judged limits late before stands, c.in-Ok.ensures.admitted limits late before stands)
