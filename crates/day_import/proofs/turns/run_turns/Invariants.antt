use Rattle.std.proofs.Common.{◌≡◌, ◌-◌, ◌+◌, ◌*◌, ℕ, List, [], length}
use Rattle.std.specs.Prelude.{Option}
use Rattle.road_time.specs.Day.{sum_of}
use Rattle.road_io.specs.Plans.{NeverFails}
use Rattle.road_io.specs.Rooms.{Endless}
use Rattle.day_reading.specs.Ahead.{has_more, IsGatheringAhead, HasReadAhead, HasFailedAhead}
use Rattle.ways_expressway.specs.declared.finding.Finding.{Finding}
use Rattle.ways_crews.specs.Told.{CrewTold}
use Rattle.day_floor.specs.Answers.{history_of}
use Rattle.day_floor.specs.SettlingBoards.{IsAbreast}
use Rattle.day_floor.specs.Shares.{State, start, mark}
use Rattle.day_floor.specs.Written.{settled_charges}
use Rattle.day_floor.specs.Floors.{Setting}
use Rattle.day_import.specs.AskedRounds.{PassesSome}
use Rattle.day_import.specs.RoundRuns.{Runs}
use Rattle.day_import.specs.Days.{IsOn}
use Rattle.day_import.specs.Drawn.{TurnMade, AreTurns}
use Rattle.day_import.proofs.turns.run_turns.Given as goal

abbrev pub invariant-day : goal.invariant-day
invariant-day g l =
    let k = g.C.Crew in
    record {
      width : l.run.floor.inboxes.width ≡ l.fn.run.floor.inboxes.width;
      limits : l.run.floor.limits ≡ l.fn.run.floor.limits;
      crew : k.which l.crew ≡ k.which l.fn.crew;
      unfailed : HasFailedAhead l.ahead → ⊥;
      source_same : g.S.Source.name l.source ≡ g.S.Source.name l.fn.source;
      read : (lines : ℕ) (bytes : List ℕ) → HasReadAhead l.fn.ahead lines (g.S.Source.left l.fn.source) bytes →
          HasReadAhead l.ahead lines (g.S.Source.left l.source) bytes;
      publisher : g.P.Publisher.which l.publisher ≡ g.P.Publisher.which l.fn.publisher;
      same : g.K.Keeper.told l.keeper ≡ g.K.Keeper.told l.fn.keeper;
      source_stands : g.S.Source.faults l.source ≡ g.S.Source.faults l.fn.source;
      source_sure : NeverFails (g.S.Source.plan l.fn.source) → NeverFails (g.S.Source.plan l.source);
      sink_stands : g.O.Sink.faults l.sink ≡ g.O.Sink.faults l.fn.sink;
      sink_sure : g.O.Sink.room l.fn.sink ≡ Endless → g.O.Sink.room l.sink ≡ Endless;
      keeper_stands : g.K.Keeper.faults l.keeper ≡ g.K.Keeper.faults l.fn.keeper;
      keeper_sure : NeverFails (g.K.Keeper.plan l.fn.keeper) → NeverFails (g.K.Keeper.plan l.keeper);
      asked : PassesSome (g.K.Keeper.plan l.fn.keeper) (g.K.Keeper.plan l.keeper);
      at : (e : Setting) (told : Option CrewTold) (answered : Option (List Finding)) (late : ℕ) →
          Runs k.out k.number k.holds k.gave k.exact k.jobs k.answers e told answered l.fn.run l.fn.crew start →
          IsGatheringAhead l.fn.ahead l.fn.run.floor.limits late [] →
          e.number ≡ l.day → e.history ≡ history_of (g.K.Keeper.told l.fn.keeper) →
          (now : State) × IsOn l.fn.run.floor.limits late e l.fn.ahead l.ahead (g.S.Source.left l.fn.source)
          (g.S.Source.left l.source) (g.O.Sink.written l.fn.sink) (g.O.Sink.written l.sink)
          (g.P.Publisher.posted l.fn.publisher) (g.P.Publisher.posted l.publisher) now
          × (now.settled ≡ mark l.fn.run.floor.inboxes.width now) × (l.settled ≡ now.settled)
          × Runs k.out k.number k.holds k.gave k.exact k.jobs k.answers e told answered l.run l.crew now
          × IsAbreast (g.P.Publisher.posted l.publisher) (sum_of (settled_charges now))
          × (now.settled + l.pending ≡ length now.fed)
          × ((turns : List TurnMade)
          × AreTurns l.plan.width l.fn.run.floor.limits.backlog l.fn.rng turns now l.rng (has_more l.ahead));
    }

abbrev pub decreases-day : goal.decreases-day
decreases-day g l =
    (l.run.floor.limits.lines - (l.settled + l.pending)) +
    (2 * (2 * l.run.floor.limits.lines - l.run.floor.given) + length l.run.tickets.items)
