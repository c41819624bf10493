use Rattle.std.proofs.Common.{◌≡◌, ◌++◌, [], sym, ap, subst, append-nil, ◌∙◌, rules}
use Rattle.road_digest.specs.Digests.{Took}
use Rattle.road_digest.specs.declared.held.HeldDigest.{HeldDigest}
use Rattle.road_digest.specs.Beside.{WillHold}
use Rattle.road_digest.proofs.beside_digester.BesideDigester.add_here.Goals as goal

pub returns-clause-took : goal.returns-clause-took
returns-clause-took g c bytes took =
    let all = bytes ++ c.args.piece.now in
    let before = c.recall-back.ensures.took took.0 took.1 in
    let waited : c.deref.result.now ≡ c.args.self.now.waiting.items = search rules in
    let both = c.add-2.ensures (took.0 ++ c.deref.result.now) (c.add.ensures took.0 before) in
    let seen : took.0 ++ c.deref.result.now ≡ bytes = ap (λ ys. took.0 ++ ys) waited ∙ sym took.2 in
    let whole = subst (λ xs. Took c.add-2.new.self (xs ++ c.args.piece.now)) seen both in
    let empty : c.hold.new.self.waiting.items ≡ [] = search rules in (
      all,
      subst (λ (h : HeldDigest). WillHold h all) (sym c.hold.ensures.held) whole,
      sym (ap (λ ys. all ++ ys) empty ∙ append-nil all),
    )
