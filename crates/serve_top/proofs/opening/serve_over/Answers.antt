use Rattle.std.proofs.Common.{◌≡◌, ◌∙◌, ap, sym, subst, length, map, arith}
use Rattle.std.specs.List.{All, AllZip}
use Rattle.std.proofs.lemmas.List.{length-map}
use Rattle.std.proofs.lemmas.List.Elements.{length_all_zip}
use Rattle.serve_top.specs.Doors.{has_fault}
use Rattle.serve_loops.specs.Wires.{wire_by}
use Rattle.serve_loops.specs.Acceptors.{TurnOf}
use Rattle.serve_top.specs.Served.{EarServed}
use Rattle.serve_top.proofs.EarLaws.{fresh_in, rose_fails, none_fails, ears_served}
use Rattle.serve_top.proofs.opening.serve_over.Goals as goal

pub serve-end-requires-clause-fresh : goal.serve-end-requires-clause-fresh
serve-end-requires-clause-fresh g c κs within =
    fresh_in g.N.Listener.accepted g.N.Listener.faults c.seat-acceptors.result
    (subst (All (λ ear. (g.N.Listener.accepted ear ≡ 0) × (g.N.Listener.faults ear ≡ 0))) (sym c.seat-acceptors.ensures)
    c.requires.fresh)

pub rise-requires-clause-room : goal.rise-requires-clause-room
rise-requires-clause-room g c =
    let seated = ap length c.seat-acceptors.ensures in
    let long = length-map c.seat-acceptors.result (λ acceptor. acceptor.listener) in
    let kept = length_all_zip _ c.seat-acceptors.result c.serve-end.new.acceptors c.serve-end.ensures.acceptors in
    omega (arith, seated, long, kept, c.requires.for_ears)

pub returns-clause-fault : goal.returns-clause-fault
returns-clause-fault g c is =
    ap (has_fault g.N.Listener.faults) c.rise.ensures
    ∙ rose_fails g.N.Listener.faults c.seat-acceptors.result c.serve-end.new.acceptors (c.serve-end.ensures.cause is)

pub returns-clause-sound : goal.returns-clause-sound
returns-clause-sound g c is =
    let n = g.N.Listener in
    ap (has_fault n.faults) c.rise.ensures
    ∙ none_fails n.accepted n.faults g.C.Shared.Host.follows c.seat-acceptors.result c.serve-end.new.acceptors
    (subst (All (λ ear. (n.accepted ear ≡ 0) × (n.faults ear ≡ 0))) (sym c.seat-acceptors.ensures) c.requires.fresh)
    c.serve-end.ensures.acceptors (λ failed. cc (sym is ∙ c.serve-end.ensures.end.1 failed))

pub returns-clause-desk : goal.returns-clause-desk
returns-clause-desk g c =
    let n = g.N.Listener in
    let k = g.N.Line.Link in
    let turn = TurnOf n.gives n.takes (wire_by k.left k.plan k.written k.room k.faults)
    (g.C.Shared.Host.attends c.share-desk.result) in
    record {
      desk = c.share-desk.result;
      four = c.share-desk.ensures.works;
      within = c.share-desk.ensures.bounds;
      served = subst (λ ears. AllZip (EarServed n.faults n.accepted turn) ears c.rise.result) c.seat-acceptors.ensures
          (subst (λ ears. AllZip (EarServed n.faults n.accepted turn) (map (λ acceptor. acceptor.listener) c.seat-acceptors.result)
          ears) (sym c.rise.ensures)
          (ears_served n.faults n.accepted g.C.Shared.Host.follows turn c.seat-acceptors.result c.serve-end.new.acceptors c.serve-end.ensures.acceptors
          c.serve-end.ensures.turns));
    }
