-- Values that pass the test of sameness are the same.
use base.Stored.{Gv, gnil, gnum, gcons}
use Rattle.std.proofs.Common.{◌≡◌, ℕ, ◌==◌, true, refl, ap, ap₂, subst, arith}
use Rattle.std.specs.Coded.{Coded}
use Rattle.std.proofs.lemmas.Bool.{and_parts}
use Rattle.std.proofs.lemmas.Bool.Decides.{nat_tests}
use Rattle.keep_tables.specs.Same.{same_code, same}

-- numbers that pass the test are the same
number_same : (m n : ℕ) → (m == n) ≡ true → m ≡ n
number_same m n h = grind (arith, nat_tests, h)

-- a number passes with itself
number_itself : (n : ℕ) → (n == n) ≡ true
number_itself n = grind (arith, nat_tests)

-- a code passes with itself
code_itself : (a : Gv) → same_code a a ≡ true
code_itself gnil = refl
code_itself (gnum n) = number_itself n
code_itself (gcons a b) = rw (code_itself a, code_itself b) refl

-- codes that pass are the same
code_same : (a b : Gv) → same_code a b ≡ true → a ≡ b
code_same gnil gnil h = refl
code_same gnil (gnum n) h = absurd (cc)
code_same gnil (gcons a b) h = absurd (cc)
code_same (gnum m) gnil h = absurd (cc)
code_same (gnum m) (gnum n) h = ap gnum (number_same m n h)
code_same (gnum m) (gcons a b) h = absurd (cc)
code_same (gcons a b) gnil h = absurd (cc)
code_same (gcons a b) (gnum n) h = absurd (cc)
code_same (gcons a b) (gcons c d) h = let p = and_parts (same_code a c) (same_code b d) h in
    ap₂ gcons (code_same a c p.0) (code_same b d p.1)

-- a value passes with itself
pub same_itself : {X : Type 0} (coded : Coded X) (x : X) → same coded x x ≡ true
same_itself coded x = code_itself (coded.code x)

-- so do values that are the same
pub same_if : {X : Type 0} (coded : Coded X) (x y : X) → x ≡ y → same coded x y ≡ true
same_if coded x y e = subst (λ z. same coded x z ≡ true) e (same_itself coded x)

-- values that pass are the same
pub same_is : {X : Type 0} (coded : Coded X) (x y : X) → same coded x y ≡ true → x ≡ y
same_is coded x y h = coded.inj x y (code_same (coded.code x) (coded.code y) h)
