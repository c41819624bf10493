use Rattle.std.proofs.Common.{rules}
use Rattle.std.proofs.lemmas.List.Sorted.{answers_always}
use Rattle.road_time.specs.Tuples.{time_of}
use Rattle.tuples_traffic.proofs.SortLaws.{by_time_from_sort}
use Rattle.tuples_traffic.proofs.generating.sort.Goals as goal

pub returns : goal.returns
returns c =
    let key = answers_always _ _ _ (λ f a r g h. search rules) in
    by_time_from_sort _ _ (c.in_ok-sort_by_key.ensures.sorted time_of key) (c.sort_by_key.ensures.stable time_of key)
