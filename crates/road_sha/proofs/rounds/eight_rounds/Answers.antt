use Rattle.std.proofs.Common.{◌+◌, arith, refl}
use Rattle.road_sha.proofs.BlockLemmas.{one_round, rounds_at}
use Rattle.road_sha.proofs.rounds.eight_rounds.Goals as goal

pub returns : goal.returns
returns c = λ b h ready held.
    let words = c.args.words.now in
    let lane = c.args.lane in
    let t = c.args.t in
    let e1 = one_round words b h _ _ lane t _ ready (omega arith) refl c.round-v1.ensures held in
    let e2 = rounds_at b h (t + 1 + 1) (t + 2) (omega arith) (one_round words b h _ _ lane (t + 1) _ ready (omega arith) refl c.round-v2.ensures e1) in
    let e3 = rounds_at b h (t + 2 + 1) (t + 3) (omega arith) (one_round words b h _ _ lane (t + 2) _ ready (omega arith) refl c.round-v3.ensures e2) in
    let e4 = rounds_at b h (t + 3 + 1) (t + 4) (omega arith) (one_round words b h _ _ lane (t + 3) _ ready (omega arith) refl c.round-v4.ensures e3) in
    let e5 = rounds_at b h (t + 4 + 1) (t + 5) (omega arith) (one_round words b h _ _ lane (t + 4) _ ready (omega arith) refl c.round-v5.ensures e4) in
    let e6 = rounds_at b h (t + 5 + 1) (t + 6) (omega arith) (one_round words b h _ _ lane (t + 5) _ ready (omega arith) refl c.round-v6.ensures e5) in
    let e7 = rounds_at b h (t + 6 + 1) (t + 7) (omega arith) (one_round words b h _ _ lane (t + 6) _ ready (omega arith) refl c.round-v7.ensures e6) in
    rounds_at b h (t + 7 + 1) (t + 8) (omega arith) (one_round words b h _ _ lane (t + 7) _ ready (omega arith) refl c.round.ensures e7)
