use Rattle.std.proofs.Common.{◌≡◌, ◌*◌, ◌-◌, ◌%◌, ◌^◌, ◌∙◌, ℕ, ◌∷◌, length, replicate, ap, arith}
use Rattle.sha2.specs.Sha256.{digest_bytes, sha256}
use Rattle.sha2.proofs.Absorbing256.{padding-take}
use Rattle.road_sha.proofs.HeldLemmas.{counts, finishes}
use Rattle.road_sha.proofs.hasher.Sha256.finalize.Goals as goal

pub returns : goal.returns
unfolding sha256
returns c = λ m held.
    let count = counts c.args.self m held in
    let zeros : ℕ = (119 - c.used.result % 64) % 64 in
    let same : zeros ≡ (119 - length m % 64) % 64 = omega (arith, c.used.ensures) in
    let bits : c.args.self.length * 8 % 2 ^ 64 ≡ length m * 8 % 2 ^ 64 = omega arith in
    let padded = c.update-2.ensures _ (c.update.ensures m held) in
    let end = padding-take 0x80 0 zeros (omega arith) ∙ ap (λ (n : ℕ). 0x80 ∷ replicate n 0) same in
    c.bytes_of.ensures
    ∙ ap (λ hash. digest_bytes hash 8) (finishes c.update-2.new.self m _ _ _ _ padded end (rw bits at c.to_be_bytes.ensures) (omega arith) c.absorb.ensures)
