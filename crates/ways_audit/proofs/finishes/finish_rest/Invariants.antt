use Rattle.std.proofs.Common.{◌≡◌, List, [], false, length}
use Rattle.std.specs.Prelude.{Option}
use Rattle.road_time.specs.Rates.{Tariffs}
use Rattle.ways_expressway.specs.declared.job.Job.{Job}
use Rattle.ways_crews.specs.Told.{CrewTold}
use Rattle.ways_audit.specs.Jobs.{Running}
use Rattle.ways_audit.proofs.FinishLaws.{Finishing}
use Rattle.ways_audit.proofs.finishes.finish_rest.Given as goal

abbrev pub invariant-loop-ticket : goal.invariant-loop-ticket
invariant-loop-ticket g l =
    let k = g.C.Crew in
    record {
      runs : (told : Option CrewTold) (tariffs : Tariffs) (todo : List Job) →
          Running k.out k.number k.holds k.gave k.jobs told l.initial.crew tariffs l.initial.tickets.items [] todo false
          →
          Finishing k.out k.number k.holds k.gave k.jobs k.exact k.answers (k.answers l.initial.crew) told tariffs todo
          l.crew l.tickets.items l.whole l.found.items;
      which : k.which l.crew ≡ k.which l.initial.crew;
    }

abbrev pub decreases-loop-ticket : goal.decreases-loop-ticket
decreases-loop-ticket g l = length l.tickets.items
