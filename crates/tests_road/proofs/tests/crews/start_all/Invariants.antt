use Rattle.std.proofs.Common.{◌≡◌, List, map, length}
use Rattle.ways_expressway.specs.declared.job.Job.{Job}
use Rattle.ways_crews.specs.Callers.{HasOut}
use Rattle.tests_road.proofs.tests.crews.start_all.Given as goal

abbrev pub invariant-loop-number : goal.invariant-loop-number
invariant-loop-number g l =
    let k = g.C.Crew in
    (tasks : List (g.row.C-Ticket.Denot × Job)) × (map (λ t. t.0) tasks ≡ l.tickets.items)
    × HasOut k.out k.number k.holds k.gave l.crew tasks × (length tasks ≡ l.number)
