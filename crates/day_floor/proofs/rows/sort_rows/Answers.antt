use Rattle.std.proofs.Common.{rules}
use Rattle.std.proofs.lemmas.List.Sorted.{answers_always}
use Rattle.day_floor.specs.Sums.{owner_of}
use Rattle.day_floor.proofs.rows.sort_rows.Goals as goal

pub returns-clause-sorted : goal.returns-clause-sorted
returns-clause-sorted c =
    c.sort_unstable_by_key.ensures.sorted owner_of (answers_always _ _ _ (λ f a r g h. search rules))
