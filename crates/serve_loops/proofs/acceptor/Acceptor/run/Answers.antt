use Rattle.std.proofs.Common.{◌≡◌, ◌∙◌, true, false, sym, rules, ⊎_elim, arith}
use Rattle.std.proofs.lemmas.Bool.{cases_Bool, false≢true}
use Rattle.serve_loops.specs.Wires.{wire_by}
use Rattle.serve_loops.specs.Acceptors.{TurnOf}
use Rattle.serve_loops.specs.declared.acceptor.Acceptor.{Acceptor}
use Rattle.serve_loops.proofs.AcceptorLaws.{serves_on, one_turn}
use Rattle.serve_loops.proofs.acceptor.Acceptor.run.Goals as goal

pub loop-alloc-preserved : goal.loop-alloc-preserved
loop-alloc-preserved g c =
    let n = g.N.Listener in
    let k = g.N.Line.Link in
    let inv = c.loop-alloc.invariant in
    let old : Acceptor g.row.N.Denot g.row.Q.Denot =
    record { listener = c.args.self.now.listener; reader = c.args.self.now.reader; failed = false } in
    let mid = c.loop-alloc.self in
    let new = c.turn.new.self in
    let went : c.turn.result ≡ true = search rules in
    let fine : new.failed ≡ false =
    ⊎_elim (λ (yes : new.failed ≡ true). absurd (false≢true (sym (c.turn.ensures.failed yes) ∙ went)))
    (λ (no : new.failed ≡ false). no) (cases_Bool new.failed) in
    let more = c.turn.ensures.accepts went in
    let drew = c.draw.ensures.drawn c.loop-alloc-test.true in (
      serves_on n.faults g.H.Host.follows g.met.H.Host.goes_on old mid new inv.0 inv.1 c.turn.ensures.serves fine,
      fine,
      omega (arith, more, inv.2, drew),
      c.draw.ensures.drawn_parts ∙ inv.3,
      c.draw.ensures.ends_parts ∙ inv.4,
      one_turn n.accepted (TurnOf n.gives n.takes (wire_by k.left k.plan k.written k.room k.faults)
          (g.H.Host.attends c.args.host.now)) old mid new inv.5 inv.1 (c.turn.ensures.turns went) more,
    )

pub loop-alloc-init : goal.loop-alloc-init
loop-alloc-init g c = let stays = g.met.H.Host.stays c.args.self.now.reader in search rules
