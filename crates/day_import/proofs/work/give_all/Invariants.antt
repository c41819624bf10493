use Rattle.std.proofs.Common.{◌≡◌, List}
use Rattle.std.specs.Prelude.{Option}
use Rattle.ways_expressway.specs.declared.finding.Finding.{Finding}
use Rattle.ways_crews.specs.Told.{CrewTold}
use Rattle.day_floor.specs.Shares.{State}
use Rattle.day_floor.specs.Floors.{Setting}
use Rattle.day_import.specs.RoundRuns.{Runs, given_all}
use Rattle.day_import.proofs.work.give_all.Given as goal

abbrev pub invariant-loop-worker : goal.invariant-loop-worker
invariant-loop-worker g l =
    let k = g.C.Crew in
    record {
      width : l.run.floor.inboxes.width ≡ l.fn.run.floor.inboxes.width;
      limits : l.run.floor.limits ≡ l.fn.run.floor.limits;
      which : k.which l.crew ≡ k.which l.fn.crew;
      given : (e : Setting) (told : Option CrewTold) (answered : Option (List Finding)) (s : State) →
          Runs k.out k.number k.holds k.gave k.exact k.jobs k.answers e told answered l.fn.run l.fn.crew s →
          Runs k.out k.number k.holds k.gave k.exact k.jobs k.answers e told answered l.run l.crew
          (given_all s l.worker);
    }
