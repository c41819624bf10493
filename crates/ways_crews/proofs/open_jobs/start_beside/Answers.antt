use Rattle.std.proofs.Common.{arith}
use Rattle.ways_crews.proofs.CallerLaws.{one_started}
use Rattle.ways_crews.proofs.open_jobs.start_beside.Goals as goal

pub start-requires-clause-room : goal.start-requires-clause-room
start-requires-clause-room g c = let (tasks, open', few) = c.requires.room in let all = open'.all in omega arith

pub returns-clause-out : goal.returns-clause-out
returns-clause-out g c tasks h =
    let k = g.C.Crew in let e = c.start.ensures in
    one_started k.out k.number k.holds k.gave _ _ _ _ tasks h e.out e.held e.given e.others e.tickets
