-- for callers: what a publisher's next operation comes to
use Rattle.std.proofs.Common.{◌≡◌, ℕ, ◌+◌, List, [], ◌∷◌, ◌++◌, ap, ◌∙◌}
use Rattle.std.proofs.lemmas.List.Sums.{fold-append, sum_by-append}
use Rattle.road_time.specs.Day.{ChargedToll, sum_of}
use Rattle.day_floor.specs.Operations.{Step, Posted, posted_with}
use Rattle.day_floor.specs.Boards.{blank, board_with, board_after, all_accounts}

-- where nothing is queued, a step adds its charges to what all vehicles owe
pub step_adds : (p : Posted) (cs : List ChargedToll) (mark : ℕ) → p.queued ≡ [] →
    all_accounts (board_after (posted_with (Step cs mark) p).published) ≡ all_accounts (board_after p.published)
    + sum_of cs
step_adds p cs mark none =
    ap (λ xs. all_accounts (board_after (p.published ++ (xs ++ Step cs mark ∷ [])))) none
    ∙ (ap all_accounts (fold-append board_with blank p.published (Step cs mark ∷ []))
    ∙ sum_by-append (λ (c : ChargedToll). c.toll) (board_after p.published).charged cs)
