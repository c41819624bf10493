use Rattle.std.proofs.Common.{◌≡◌, ◌*◌, ◌∙◌, ap, arith, refl}
use Rattle.sha2.specs.Sha256.{add_state, compress, rounds, schedule}
use Rattle.road_sha.proofs.rounds.compress.Goals as goal

pub turns-init : goal.turns-init
unfolding rounds
turns-init c = λ b ready. refl

pub turns-preserved : goal.turns-preserved
turns-preserved c = λ b ready.
    c.eight_rounds-next.ensures b _ ready (c.turns.invariant b ready) ∙ ap (rounds c.args.hash.now (schedule b 48)) (omega arith)

pub returns : goal.returns
unfolding compress
returns c = λ b ready.
    let done : 8 * c.turns.turn ≡ 64 = omega (arith, c.turns.auto.turn-end) in
    c.sums.ensures ∙ ap (add_state c.args.hash.now) (rw done at (c.turns.invariant b ready))
