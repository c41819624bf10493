use Rattle.ways_crews.proofs.CallerLaws.{one_finished, task_is_out}
use Rattle.ways_crews.proofs.open_jobs.finish_among.Goals as goal

pub finish-requires-clause-out : goal.finish-requires-clause-out
finish-requires-clause-out g c =
    let k = g.C.Crew in let (before, job, after, h) = c.requires in
    (task_is_out k.out k.number k.holds k.gave _ before _ after h).there

pub finish-requires-clause-given : goal.finish-requires-clause-given
finish-requires-clause-given g c =
    let k = g.C.Crew in let (before, job, after, h) = c.requires in
    (task_is_out k.out k.number k.holds k.gave _ before _ after h).given

pub returns-clause-out : goal.returns-clause-out
returns-clause-out g c before job after h =
    let k = g.C.Crew in let e = c.finish.ensures in
    one_finished k.out k.number k.holds k.gave _ _ before _ after h e.out e.others e.tickets

pub returns-clause-shape : goal.returns-clause-shape
returns-clause-shape g c before job after h =
    let k = g.C.Crew in c.finish.ensures.shape job (task_is_out k.out k.number k.holds k.gave _ before _ after h).held

pub returns-clause-run : goal.returns-clause-run
returns-clause-run g c exact before job after h =
    let k = g.C.Crew in
    c.finish.ensures.run exact job (task_is_out k.out k.number k.holds k.gave _ before _ after h).held
