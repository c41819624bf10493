use Rattle.std.proofs.Common.{◌≡◌, List, length}
use Rattle.std.specs.Prelude.{Option}
use Rattle.ways_expressway.specs.declared.finding.Finding.{Finding}
use Rattle.ways_crews.specs.Told.{CrewTold}
use Rattle.day_floor.specs.Shares.{State}
use Rattle.day_floor.specs.Floors.{Setting}
use Rattle.day_import.specs.RoundRuns.{Runs, OnlyTakesBack, HaveComeInOrder}
use Rattle.day_import.proofs.work.finish_firsts.Given as goal

abbrev pub invariant-loop-run : goal.invariant-loop-run
invariant-loop-run g l =
    let k = g.C.Crew in
    record {
      width : l.run.floor.inboxes.width ≡ l.fn.run.floor.inboxes.width;
      limits : l.run.floor.limits ≡ l.fn.run.floor.limits;
      which : k.which l.crew ≡ k.which l.fn.crew;
      came : (e : Setting) (told : Option CrewTold) (answered : Option (List Finding)) (s : State) →
          Runs k.out k.number k.holds k.gave k.exact k.jobs k.answers e told answered l.fn.run l.fn.crew s →
          (now : State) × OnlyTakesBack s now × HaveComeInOrder s now
          × Runs k.out k.number k.holds k.gave k.exact k.jobs k.answers e told answered l.run l.crew now;
    }

abbrev pub decreases-loop-run : goal.decreases-loop-run
decreases-loop-run g l = length l.run.tickets.items
