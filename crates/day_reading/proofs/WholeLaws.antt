-- Bytes of a source, taken piece by piece.
use Rattle.std.proofs.Common.{◌≡◌, ℕ, ◌+◌, ◌≤◌, List, [], ◌++◌, drop, Option, Some, None, refl, sym, ap, subst, ◌∙◌}
use Rattle.std.proofs.Common.{arith}
use Rattle.std.proofs.Common.{append_assoc}
use Rattle.std.proofs.lemmas.List.{drop-drop}
use Rattle.std.specs.Io.KnownBytes.{Consumes, IsAtEnd}
use Rattle.road_time.specs.declared.day.Limits.{Limits}
use Rattle.road_io.specs.Within.{ReadsWithin}
use Rattle.day_reading.specs.declared.checker.Checker.{Checker}
use Rattle.day_reading.specs.Checking.{HasChecked, ChecksOn}

-- no more was read than by one and by the other
pub within_both : (a b c : Option (List ℕ)) (few more sum : ℕ) → ReadsWithin few a b → ReadsWithin more b c →
    few + more ≤ sum → ReadsWithin sum a c
within_both a b c few more sum h k le bytes is =
    let x = h bytes is in
    let y = k (drop x.0 bytes) x.2 in
    (x.0 + y.0, omega (arith, x.1, y.1, le), y.2 ∙ ap (λ ys. Some ys) (drop-drop y.0 x.0 bytes))

module _ (k k' : Checker) (limits : Limits) (late : ℕ) (left : Option (List ℕ)) (bytes piece : List ℕ)
    (h : ChecksOn k limits late left bytes)
    (took : (taken : List ℕ) → HasChecked k limits late taken → HasChecked k' limits late (taken ++ piece)) where
  -- a piece more was taken, and the rest is left
  pub piece_more : (after : Option (List ℕ)) → Consumes left after piece → ChecksOn k' limits late after bytes
  piece_more None c = absurd (subst (λ o. Consumes o None piece) h.left_is c)
  piece_more (Some now) c =
      let split : h.now ≡ piece ++ now = subst (λ o. Consumes o (Some now) piece) h.left_is c in
      record {
        taken = h.taken ++ piece;
        now = now;
        left_is = refl;
        bytes_are = h.bytes_are ∙ ap (λ ys. h.taken ++ ys) split ∙ sym (append_assoc h.taken piece now);
        has_checked = took h.taken h.has_checked;
      }

  -- at the end nothing is left
  pub piece_last : (after : Option (List ℕ)) → Consumes left after piece → IsAtEnd after → after ≡ Some []
  piece_last None c end = absurd (subst (λ o. Consumes o None piece) h.left_is c)
  piece_last (Some now) c end = ap (λ ys. Some ys) end
