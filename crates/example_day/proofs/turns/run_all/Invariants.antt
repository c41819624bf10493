use Rattle.std.proofs.Common.{◌≡◌}
use Rattle.day_floor.specs.Shares.{State}
use Rattle.day_floor.specs.Written.{settled_charges}
use Rattle.day_floor.specs.Floors.{Setting, StandsFor, StandsForSome}
use Rattle.day_floor.specs.Sound.{IsTrue}
use Rattle.example_day.specs.Turns.{after_runs}
use Rattle.example_day.proofs.turns.run_all.Given as goal

abbrev pub invariant-loop-worker : goal.invariant-loop-worker
invariant-loop-worker l = record {
  width : l.floor.inboxes.width ≡ l.fn.floor.inboxes.width;
  limits : l.floor.limits ≡ l.fn.floor.limits;
  some : StandsForSome l.floor;
  charged : (g : Setting) (s : State) → StandsFor g l.fn.floor s →
      settled_charges (after_runs g.tariffs s l.worker) ≡ settled_charges s;
  right : (g : Setting) (s : State) → StandsFor g l.fn.floor s → IsTrue g.tariffs l.fn.floor.inboxes.width s →
      IsTrue g.tariffs l.fn.floor.inboxes.width (after_runs g.tariffs s l.worker);
  ran : (g : Setting) (s : State) → StandsFor g l.fn.floor s → StandsFor g l.floor (after_runs g.tariffs s l.worker);
}
