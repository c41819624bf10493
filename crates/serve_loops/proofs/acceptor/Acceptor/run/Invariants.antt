use Rattle.std.proofs.Common.{◌≡◌, ◌-◌, ◌^◌, false}
use Rattle.serve_loops.specs.Wires.{wire_by}
use Rattle.serve_loops.specs.Acceptors.{AcceptorServes, TurnOf, AcceptorTurned}
use Rattle.serve_loops.proofs.acceptor.Acceptor.run.Given as goal

-- the acceptor did not fail, and its listener accepted as many connections as tickets were drawn and turns done
abbrev pub invariant-loop-alloc : goal.invariant-loop-alloc
invariant-loop-alloc g l =
    let n = g.N.Listener in
    let k = g.N.Line.Link in
    AcceptorServes n.faults g.H.Host.follows l.initial.self l.self × (l.self.failed ≡ false)
    × (n.accepted l.self.listener ≡ l.stub.drawn.amount)
    × (l.stub.drawn.parts ≡ l.initial.stub.drawn.parts) × (l.stub.ends.parts ≡ l.initial.stub.ends.parts)
    × AcceptorTurned n.accepted (TurnOf n.gives n.takes (wire_by k.left k.plan k.written k.room k.faults)
    (g.H.Host.attends l.host)) l.initial.self l.self

-- the tickets that may still be drawn
abbrev pub decreases-loop-alloc : goal.decreases-loop-alloc
decreases-loop-alloc g l = 2 ^ 64 - l.stub.drawn.amount
