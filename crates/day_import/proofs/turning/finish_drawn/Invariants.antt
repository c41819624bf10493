use Rattle.std.proofs.Common.{◌≡◌, ◌≤◌, ◌<◌, ◌+◌, ◌-◌, ℕ, List, length}
use Rattle.std.specs.Prelude.{Option}
use Rattle.road_time.specs.Tolls.{StretchTold as RoadFinding}
use Rattle.day_plan.specs.Draws.{drawn, after_draws}
use Rattle.ways_expressway.specs.declared.finding.Finding.{Finding}
use Rattle.ways_crews.specs.Told.{CrewTold}
use Rattle.day_floor.specs.Shares.{State}
use Rattle.day_floor.specs.Floors.{Setting}
use Rattle.day_import.specs.RoundRuns.{Runs, after_backs}
use Rattle.day_import.specs.Turns.{IsMoved}
use Rattle.day_import.specs.Drawn.{ComeAsDrawn}
use Rattle.day_import.proofs.turning.finish_drawn.Given as goal

abbrev pub invariant-loop-rng : goal.invariant-loop-rng
invariant-loop-rng g l =
    let k = g.C.Crew in
    record {
      width : l.run.floor.inboxes.width ≡ l.fn.run.floor.inboxes.width;
      limits : l.run.floor.limits ≡ l.fn.run.floor.limits;
      which : k.which l.crew ≡ k.which l.fn.crew;
      held : l.held ≡ length l.fn.run.tickets.items;
      below : (drawn l.held l.fn.rng).0 < l.held;
      left : l.left + (1 + (drawn l.held l.fn.rng).0) ≡ l.held;
      low : l.left ≤ length l.run.tickets.items;
      drawn : l.rng ≡ after_draws (1 + (l.held - length l.run.tickets.items)) l.fn.rng;
      fewer : length l.run.tickets.items ≤ length l.fn.run.tickets.items;
      came : (e : Setting) (told : Option CrewTold) (answered : Option (List Finding)) (s : State) →
          Runs k.out k.number k.holds k.gave k.exact k.jobs k.answers e told answered l.fn.run l.fn.crew s →
          (now : State) × (n : ℕ) × IsMoved l.fn.run.floor.inboxes.width n s now
          × (length l.run.tickets.items + n ≡ length l.fn.run.tickets.items)
          × Runs k.out k.number k.holds k.gave k.exact k.jobs k.answers e told answered l.run l.crew now
          × ((backs : List (ℕ × List (ℕ × RoadFinding))) × (now ≡ after_backs s backs) × (length backs ≡ n)
          × ComeAsDrawn l.fn.rng s backs);
    }

abbrev pub decreases-loop-rng : goal.decreases-loop-rng
decreases-loop-rng g l = length l.run.tickets.items
