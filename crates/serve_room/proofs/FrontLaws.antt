-- Laws of bytes that came before those of a link.
use Rattle.std.proofs.Common.{◌≡◌, ℕ, ◌≤◌, List, [], ◌++◌, length, drop, Option, Some, None, refl, ap, ◌∙◌}
use Rattle.std.proofs.Common.{append_assoc}
use Rattle.std.proofs.lemmas.List.{drop_all}
use Rattle.std.specs.Io.KnownBytes.{Consumes, prepend_known}
use Rattle.serve_room.specs.Fronts.{left_behind}

-- bytes that came before are given first
pub given : (left : Option (List ℕ)) (front bytes : List ℕ) (at next : ℕ) →
    drop at front ≡ bytes ++ drop next front → Consumes (left_behind front at left) (left_behind front next left) bytes
given None front bytes at next e = tt
given (Some xs) front bytes at next e = ap (λ l. l ++ xs) e ∙ append_assoc bytes (drop next front) xs

-- no byte before
none_before : (left : Option (List ℕ)) → prepend_known [] left ≡ left
none_before None = refl
none_before (Some xs) = refl

-- behind the front is the link
pub behind : (left : Option (List ℕ)) (front : List ℕ) (at : ℕ) → length front ≤ at → left_behind front at left ≡ left
behind left front at over = ap (λ l. prepend_known l left) (drop_all at front over) ∙ none_before left
