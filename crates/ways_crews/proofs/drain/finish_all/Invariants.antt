use Rattle.std.proofs.Common.{◌≡◌, Bool, true, List, map, length}
use Rattle.std.specs.Prelude.{Option}
use Rattle.ways_expressway.specs.declared.job.Job.{Job}
use Rattle.ways_crews.specs.Told.{CrewTold}
use Rattle.ways_crews.specs.Callers.{HasOut, IsListingWhereTold}
use Rattle.ways_crews.proofs.drain.finish_all.Given as goal

abbrev pub invariant-loop-ticket : goal.invariant-loop-ticket
invariant-loop-ticket g l =
    let k = g.C.Crew in
    record {
      out : (tasks : List (g.row.C-Ticket.Denot × Job)) × (map (λ t. t.0) tasks ≡ l.tickets.items)
          × HasOut k.out k.number k.holds k.gave l.crew tasks;
      told : (before : Option CrewTold) (jobs : List Job) (refused : Bool) →
          IsListingWhereTold before jobs (k.out l.initial.crew) refused (k.jobs l.initial.crew) →
          IsListingWhereTold before jobs (k.out l.crew) true (k.jobs l.crew);
      which : k.which l.crew ≡ k.which l.initial.crew;
    }

abbrev pub decreases-loop-ticket : goal.decreases-loop-ticket
decreases-loop-ticket g l = length l.tickets.items
