-- Laws of bytes that are read and dropped.
use Rattle.std.proofs.Common.{◌≡◌, ℕ, ◌+◌, ◌≤◌, List, ◌++◌, length, drop, Option, Some, None, sym, ap, subst, ◌∙◌}
use Rattle.std.proofs.Common.{arith}
use Rattle.std.proofs.Math.Seq.{drop-append_seam}
use Rattle.std.proofs.lemmas.List.{drop-drop}
use Rattle.std.specs.Io.KnownBytes.{Consumes, Keeps}
use Rattle.road_io.specs.Within.{ReadsWithin}

-- nothing was read
pub within_none : (a b : Option (List ℕ)) (most : ℕ) → Keeps a b → ReadsWithin most a b
within_none a None most k bytes is = absurd (subst (λ o. Keeps o None) is k)
within_none a (Some ys) most k bytes is = (0, omega arith, ap Some (subst (λ o. Keeps o (Some ys)) is k))

-- more was read
pub within_on : (a b c : Option (List ℕ)) (most more sum : ℕ) (bs : List ℕ) → ReadsWithin most a b →
    Consumes b c bs → length bs ≤ more → most + more ≤ sum → ReadsWithin sum a c
within_on a b None most more sum bs h took le few bytes is =
    absurd (subst (λ o. Consumes o None bs) (h bytes is).2 took)
within_on a b (Some zs) most more sum bs h took le few bytes is =
    let before = h bytes is in
    let split : drop before.0 bytes ≡ bs ++ zs = subst (λ o. Consumes o (Some zs) bs) before.2 took in (
      before.0 + length bs,
      omega (arith, before.1),
      ap Some
          (sym (sym (drop-drop (length bs) before.0 bytes) ∙ ap (drop (length bs)) split ∙ drop-append_seam bs zs)),
    )

-- fewer were read than may be
pub within_more : (a b : Option (List ℕ)) (few most : ℕ) → ReadsWithin few a b → few ≤ most → ReadsWithin most a b
within_more a b few most h le bytes is =
    let before = h bytes is in
    (before.0, omega (arith, before.1), before.2)
