use Rattle.std.proofs.Common.{◌≡◌, ◌-◌, None, length}
use Rattle.std.specs.Io.KnownBytes.{Keeps}
use Rattle.road_io.specs.Plans.{NeverFails}
use Rattle.road_io.specs.Cutter.{held, ahead, line_number, fault_of}
use Rattle.road_io.proofs.cutter.LineCutter.advance.Given as goal

abbrev pub invariant-loop-answer : goal.invariant-loop-answer
invariant-loop-answer g l = record {
  number : line_number l.self ≡ line_number l.initial.self;
  none : fault_of l.self ≡ None;
  ahead : Keeps (ahead l.initial.self (g.S.Source.left l.initial.source)) (ahead l.self (g.S.Source.left l.source));
  sure : NeverFails (g.S.Source.plan l.initial.source) → NeverFails (g.S.Source.plan l.source);
  same : g.S.Source.name l.source ≡ g.S.Source.name l.initial.source;
  still : g.S.Source.faults l.source ≡ g.S.Source.faults l.initial.source;
}

abbrev pub decreases-loop-answer : goal.decreases-loop-answer
decreases-loop-answer g l = 201 - length (held l.self)
