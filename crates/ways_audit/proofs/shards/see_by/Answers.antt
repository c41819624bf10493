use Rattle.std.proofs.Common.{◌++◌}
use Rattle.ways_audit.proofs.TakenLaws.{went_over}
use Rattle.ways_audit.proofs.shards.see_by.Goals as goal

pub returns-clause-told : goal.returns-clause-told
returns-clause-told g c = λ given seen.
    let ts = c.args.tuples.now in
    c.in_ok-list.ensures.list (given ++ ts) given
    (went_over c.args.shards.now c.go_over_by.new.shards ts c.go_over_by.ensures.len c.in_ok-go_over_by.ensures.each
    (c.all_serve.ensures c.if-not-all_serve.false) given seen)

pub returns-clause-seen : goal.returns-clause-seen
returns-clause-seen g c = λ given seen.
    let ts = c.args.tuples.now in
    c.in_ok-list.ensures.left (given ++ ts) given
    (went_over c.args.shards.now c.go_over_by.new.shards ts c.go_over_by.ensures.len c.in_ok-go_over_by.ensures.each
    (c.all_serve.ensures c.if-not-all_serve.false) given seen)
