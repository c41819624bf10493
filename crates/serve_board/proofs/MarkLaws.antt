-- what all vehicles owe while marks are published, and beginnings of beginnings
use Rattle.std.proofs.Common.{◌≡◌, ℕ, zero, suc, ◌+◌, ◌*◌, ◌^◌, ◌<◌, ◌≤◌, List, [], ◌∷◌, ◌++◌, refl, ap, sym, subst, ◌∙◌}
use Rattle.std.proofs.Common.{arith}
use Rattle.std.proofs.lemmas.List.{append_assoc}
use Rattle.day_floor.specs.Operations.{Operation, Step, Posted, posted_with}
use Rattle.day_floor.specs.Boards.{board_after, all_accounts}
use Rattle.serve_board.specs.Passes.{StartsWith}
use Rattle.serve_board.specs.Worked.{marks_to}
use Rattle.serve_board.proofs.CallerLaws.{step_adds}

-- what begins with a list that begins with another begins with that
pub further : (xs ys zs : List Operation) → StartsWith ys xs → StartsWith zs ys → StartsWith zs xs
further xs ys zs (r, e) (s, f) = (r ++ s, f ∙ ap (λ l. l ++ s) e ∙ append_assoc xs r s)

-- a mark more is owed as much more
one_more : (n : ℕ) → all_accounts (board_after (marks_to (suc n))) ≡ all_accounts (board_after (marks_to n)) + (0 + suc n)
one_more n =
    step_adds (record { published = marks_to n; queued = [] }) (record { vid = 100; xway = 0; toll = suc n } ∷ []) (suc n)
    refl

-- so many marks are owed little
pub marks_few : (n : ℕ) → n ≤ 65535 → all_accounts (board_after (marks_to n)) ≤ 65536 * n
marks_few zero few = omega arith
marks_few (suc n) few = let before = marks_few n (omega (arith, few)) in omega (arith, before, one_more n, few)

-- so a mark more may be published
pub next_fits : (p : Posted) (n toll : ℕ) → p ≡ record { published = marks_to n; queued = [] } → toll ≡ suc n → n < 65535 →
    all_accounts (board_after (posted_with (Step (record { vid = 100; xway = 0; toll = toll } ∷ []) toll) p).published)
    < 2 ^ 63
next_fits p n toll is next few =
    subst (λ (q : Posted). all_accounts
    (board_after (posted_with (Step (record { vid = 100; xway = 0; toll = toll } ∷ []) toll) q).published) < 2 ^ 63)
    (sym is)
    (subst (λ t. all_accounts
    (board_after (marks_to n ++ Step (record { vid = 100; xway = 0; toll = t } ∷ []) t ∷ [])) < 2 ^ 63)
    (sym next) (let owed = marks_few (suc n) (omega (arith, few)) in omega (arith, owed, few)))
