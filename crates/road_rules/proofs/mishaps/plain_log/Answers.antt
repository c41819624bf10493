use Rattle.std.proofs.Common.{◌≡◌, ◌+◌, ◌++◌, rules, ℕ, arith, ap, sym, ◌∙◌, map}
use Rattle.std.specs.List.{filter_map, flat_map, range_with_len}
use Rattle.road_time.specs.Tuples.{reports}
use Rattle.road_time.specs.Log.{places_of}
use Rattle.road_rules.specs.Halts.{halts_of}
use Rattle.road_rules.specs.Groups.{shown_group, groups_of, mishap_in}
use Rattle.road_rules.proofs.GroupLaws.{log_is, flat_more}
use Rattle.road_rules.proofs.mishaps.plain_log.Goals as goal

pub returns : goal.returns
returns c =
    let day = c.args.tuples.now in
    let last = c.last_second-last.result in
    let end : c.loop-from.from ≡ last + 1 = omega arith in
    c.loop-from.invariant
    ∙ ap (λ n. flat_map (λ (s : ℕ). filter_map (mishap_in last s) (map shown_group c.in_ok-groups.groups.items))
    (range_with_len 0 n)) end
    ∙ ap (λ gs. flat_map (λ (s : ℕ). filter_map (mishap_in last s) gs) (range_with_len 0 (last + 1)))
    c.in_ok-groups.ensures
    ∙ ap (λ z. flat_map
    (λ (s : ℕ). filter_map (mishap_in z s) (groups_of (halts_of (reports day)) (places_of (reports day))))
    (range_with_len 0 (z + 1))) c.last_second-last.ensures.exact
    ∙ sym (log_is day c.requires.in_order)

pub loop-from-preserved : goal.loop-from-preserved
loop-from-preserved c =
    let begun =
    λ (s : ℕ). filter_map (mishap_in c.last_second-last.result s) (map shown_group c.in_ok-groups.groups.items) in
    let same : c.as_slice.result.now ≡ c.in_ok-groups.groups.items = search rules in
    c.in_ok-add_mishaps.ensures
    ∙ ap (λ gs. c.loop-from.log.items ++ filter_map (mishap_in c.last_second-last.result c.loop-from.from)
    (map shown_group gs)) same
    ∙ ap (λ xs. xs ++ begun c.loop-from.from) c.loop-from.invariant ∙ sym (flat_more begun c.loop-from.from)
