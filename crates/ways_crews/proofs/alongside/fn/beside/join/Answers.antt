use Rattle.std.proofs.Common.{rules, ◌≡◌, length, take, drop, ◌++◌, sym, subst, ℕ}
use Rattle.std.proofs.Math.Seq.{take-append_seam}
use Rattle.ways_crews.specs.Helpers.{AreHelpersOf}
use Rattle.ways_crews.proofs.alongside.fn.beside.join.Goals as goal

pub returns : goal.returns
returns g c crew are =
    let new = c.help_each.new.helpers in
    let rest = drop (length new) c.captures.all.items in
    let same : length new ≡ c.captures.all.len = search rules in
    let whole : take c.captures.all.len (new ++ rest) ≡ new =
    subst (λ (n : ℕ). take n (new ++ rest) ≡ new) same (take-append_seam new rest) in
    subst (AreHelpersOf crew) (sym whole)
    (c.help_each.ensures crew (subst (AreHelpersOf crew) (sym c.as_mut_slice.ensures.value) are))
