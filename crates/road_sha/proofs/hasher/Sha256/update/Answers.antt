use Rattle.std.proofs.Common.{◌++◌, ◌∙◌, ap, arith, subst, take}
use Rattle.std.proofs.lemmas.List.{append-nil, take_rest}
use Rattle.road_sha.specs.Hashers.{Holds}
use Rattle.road_sha.proofs.HeldLemmas.{last_piece, next_piece}
use Rattle.road_sha.proofs.hasher.Sha256.update.Goals as goal

pub groups-init : goal.groups-init
groups-init c = (omega arith, λ m held. rw (append-nil m) held)

pub groups-preserved : goal.groups-preserved
groups-preserved c = (
  omega arith,
  λ m held.
      subst (Holds c.fill.new.self) (next_piece m c.args.bytes.now c.groups.from _ _ (omega arith))
      (c.fill.ensures (m ++ take c.groups.from c.args.bytes.now) (c.groups.invariant.1 m held)),
)

pub returns : goal.returns
returns c = λ m held.
    subst (Holds c.keep.new.self) (ap (λ rest. (m ++ take c.groups.from c.args.bytes.now) ++ rest) (take_rest c.args.bytes.now c.groups.from) ∙ last_piece m c.args.bytes.now c.groups.from)
    (c.keep.ensures (m ++ take c.groups.from c.args.bytes.now) (c.groups.invariant.1 m held))
