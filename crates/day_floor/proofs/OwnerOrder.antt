-- the order of owners
use Rattle.std.proofs.Common.{◌≡◌, ℕ, ◌==◌, ◌&&◌, true, refl, ap, ◌∙◌}
use Rattle.std.specs.declared.cmp.Ordering.{Ordering}
use Rattle.std.specs.Ordering.{nat_cmp, ordering_then, is_eq, eq_by_cmp}
use Rattle.std.specs.declared.cmp.Ordering.TheVariants.{Less, Equal, Greater}
use Rattle.std.specs.Cmp.{IsTotalOrder, then_total, on_total, nat_cmp_total, unsigned_tied, nat_eq_equiv}
use Rattle.std.specs.FinMap.{IsAntisymmetric, nat_cmp-IsAntisymmetric}
use Rattle.std.proofs.lemmas.Bool.{and_parts, eqb-true}
use Rattle.day_floor.specs.Sums.{owner_cmp, same_owner}

-- the order of owners

-- a total order
pub owner_total : IsTotalOrder owner_cmp
owner_total = then_total (on_total (λ (a : ℕ × ℕ). a.0) nat_cmp_total) (on_total (λ (a : ℕ × ℕ). a.1) nat_cmp_total)

-- two pairs by their parts
pair_same : {a b c d : ℕ} → a ≡ c → b ≡ d → ◌≡◌ {A = ℕ × ℕ} (a, b) (c, d)
pair_same p q = cc

-- owners that tie are one
tied_by : (x y : ℕ × ℕ) (r : Ordering) → nat_cmp x.0 y.0 ≡ r → ordering_then r (nat_cmp x.1 y.1) ≡ Equal → x ≡ y
tied_by x y Less p e = cc
tied_by x y Equal p e = pair_same (nat_cmp-IsAntisymmetric x.0 y.0 p) (nat_cmp-IsAntisymmetric x.1 y.1 e)
tied_by x y Greater p e = cc

-- in which only equal owners tie
pub owner_ties : IsAntisymmetric owner_cmp
owner_ties x y e = tied_by x y (nat_cmp x.0 y.0) refl e

-- two comparisons tie where both do
tied_then : (r s : Ordering) → is_eq (ordering_then r s) ≡ (is_eq r && is_eq s)
tied_then Less s = refl
tied_then Equal s = refl
tied_then Greater s = refl

-- two owners tie where they are the same
pub owner_tied : (q k : ℕ × ℕ) → eq_by_cmp owner_cmp q k ≡ same_owner q k
owner_tied q k = tied_then (nat_cmp q.0 k.0) (nat_cmp q.1 k.1)
    ∙ (ap (λ b. b && is_eq (nat_cmp q.1 k.1)) (unsigned_tied q.0 k.0)
    ∙ ap (λ b. (q.0 == k.0) && b) (unsigned_tied q.1 k.1))

-- either way round
pub same_flip : (a b : ℕ × ℕ) → same_owner a b ≡ same_owner b a
same_flip a b = ap (λ x. x && a.1 == b.1) (nat_eq_equiv.symm a.0 b.0)
    ∙ ap (λ x. b.0 == a.0 && x) (nat_eq_equiv.symm a.1 b.1)

-- owners that are the same
pub same_is : (a b : ℕ × ℕ) → same_owner a b ≡ true → a ≡ b
same_is a b h = let parts = and_parts (a.0 == b.0) (a.1 == b.1) h in
    pair_same (eqb-true a.0 b.0 parts.0) (eqb-true a.1 b.1 parts.1)
