use Rattle.std.proofs.Common.{rules, ◌≡◌, length, ap, subst, ◌∙◌}
use Rattle.road_time.specs.Order.{IsByTime}
use Rattle.road_time.specs.Text.{lines_text}
use Rattle.road_time.proofs.OrderLaws.{by_time_only}
use Rattle.tuples_traffic.specs.Traffic.{traffic, generated, file_of}
use Rattle.tuples_traffic.proofs.generating.make_file.Goals as goal

pub returns-clause-lines : goal.returns-clause-lines
unfolding generated
returns-clause-lines c =
    let sorted = c.sort.new.tuples.items in
    let count : c.len.result ≡ length sorted = search rules in
    count ∙ ap length
    (by_time_only (traffic c.args.plan.now) sorted
    (subst (λ ts. IsByTime ts sorted) c.in_ok-tuples.ensures c.in_ok-sort.ensures))

pub returns-clause-text : goal.returns-clause-text
unfolding file_of generated
returns-clause-text c =
    let sorted = c.sort.new.tuples.items in
    c.in_ok-text.ensures
    ∙ ap lines_text
    (c.as_slice.ensures.value
    ∙ by_time_only (traffic c.args.plan.now) sorted
    (subst (λ ts. IsByTime ts sorted) c.in_ok-tuples.ensures c.in_ok-sort.ensures))
