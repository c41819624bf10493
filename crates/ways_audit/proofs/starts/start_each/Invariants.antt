use Rattle.std.proofs.Common.{◌≡◌, length}
use Rattle.ways_audit.specs.Jobs.{HasStarted}
use Rattle.ways_audit.specs.Routing.{HaveEvents}
use Rattle.ways_audit.proofs.starts.start_each.Given as goal

abbrev pub invariant-loop-worker : goal.invariant-loop-worker
invariant-loop-worker g l =
    let k = g.C.Crew in
    record {
      runs : HasStarted k.out k.number k.holds k.gave k.jobs (k.jobs l.fn.crew) l.crew l.tariffs l.tickets.items
          l.tuples l.width l.worker;
      len : length l.lists ≡ l.width;
      events : HaveEvents l.lists l.tuples l.width l.worker;
      which : k.which l.crew ≡ k.which l.fn.crew;
      answers : k.answers l.crew ≡ k.answers l.fn.crew;
    }
