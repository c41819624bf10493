use Rattle.std.proofs.Common.{◌≡◌, ◌≤◌, ◌++◌, List, take, drop, length, Ok}
use Rattle.road_time.specs.declared.road.Tuple.{Tuple}
use Rattle.road_time.specs.Sights.{Sight}
use Rattle.road_time.specs.Tolls.{StretchTold}
use Rattle.day_floor.specs.Answers.{history_of}
use Rattle.day_floor.specs.Faults.{SinkFaults, KeeperFaults}
use Rattle.day_floor.specs.SettlingRuns.{StandsFor, InRun, Waits, is_digested}
use Rattle.day_floor.proofs.settler.Settler.settle_run.Given as goal

abbrev pub invariant-loop : goal.invariant-loop
invariant-loop g l = record {
  run : (finding : Sight → StretchTold) (before rest : List Tuple) →
      StandsFor l.fn.self finding l.number (history_of (g.K.Keeper.told l.fn.keeper)) before →
      Waits l.fn.slots.items finding before rest → l.count ≤ length rest →
      InRun l.self finding l.number (history_of (g.K.Keeper.told l.keeper)) before (take l.counter rest)
      (g.O.Sink.written l.fn.sink, g.O.Sink.room l.fn.sink) (g.O.Sink.written l.sink, g.O.Sink.room l.sink)
      (g.K.Keeper.plan l.fn.keeper) (g.K.Keeper.plan l.keeper)
      × Waits l.slots.items finding (before ++ take l.counter rest) (drop l.counter rest);
  same : g.K.Keeper.told l.keeper ≡ g.K.Keeper.told l.fn.keeper;
  sink : SinkFaults {T = Unit {0}} (g.O.Sink.faults l.fn.sink) (g.O.Sink.faults l.sink) (g.O.Sink.room l.fn.sink)
      (g.O.Sink.room l.sink) (Ok tt);
  keeper : KeeperFaults {T = Unit {0}} (g.K.Keeper.faults l.fn.keeper) (g.K.Keeper.faults l.keeper)
      (g.K.Keeper.plan l.fn.keeper) (g.K.Keeper.plan l.keeper) (Ok tt);
  digested : is_digested l.self ≡ is_digested l.fn.self;
}
