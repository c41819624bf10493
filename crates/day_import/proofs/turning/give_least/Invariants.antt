use Rattle.std.proofs.Common.{◌≡◌, ◌<◌, ℕ, List, []}
use Rattle.std.specs.Prelude.{Option}
use Rattle.ways_expressway.specs.declared.finding.Finding.{Finding}
use Rattle.ways_crews.specs.Told.{CrewTold}
use Rattle.day_floor.specs.Shares.{State}
use Rattle.day_floor.specs.Floors.{Setting}
use Rattle.day_import.specs.RoundRuns.{Runs}
use Rattle.day_import.specs.Turns.{IsGiven}
use Rattle.day_import.specs.Drawn.{given_least}
use Rattle.day_import.proofs.turning.give_least.Given as goal

abbrev pub invariant-loop-worker : goal.invariant-loop-worker
invariant-loop-worker g l =
    let k = g.C.Crew in
    record {
      width : l.run.floor.inboxes.width ≡ l.fn.run.floor.inboxes.width;
      limits : l.run.floor.limits ≡ l.fn.run.floor.limits;
      which : k.which l.crew ≡ k.which l.fn.crew;
      given : (e : Setting) (told : Option CrewTold) (answered : Option (List Finding)) (s : State) →
          Runs k.out k.number k.holds k.gave k.exact k.jobs k.answers e told answered l.fn.run l.fn.crew s →
          (now : State) × (n : ℕ) × IsGiven l.fn.run.floor.inboxes.width n s now
          × Runs k.out k.number k.holds k.gave k.exact k.jobs k.answers e told answered l.run l.crew now
          × (l.run.tickets.items ≡ [] → (v : ℕ) → v < l.worker → (now.share v).waiting ≡ [])
          × (now ≡ given_least l.fn.run.floor.inboxes.width l.worker s);
    }
