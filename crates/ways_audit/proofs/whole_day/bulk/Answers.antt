use Rattle.std.proofs.Common.{ap, ◌∙◌}
use Rattle.road_time.specs.Day.{merged}
use Rattle.ways_expressway.proofs.PartitionLaws.{merge_all as merge_laws}
use Rattle.road_time.specs.History.{paid}
use Rattle.ways_audit.proofs.whole_day.bulk.Goals as goal

pub returns-clause-exact : goal.returns-clause-exact
returns-clause-exact g c = λ e.
    let day = c.args.tuples.now in
    let kept = paid c.args.history.now in
    c.in_ok-all.ensures.merged
    ∙ ap (λ found. merged day found c.args.day kept) (c.in_ok-found.ensures.exact e)
    ∙ merge_laws day c.requires.fit.in_order c.args.tariffs.now c.args.width c.requires.wide c.args.day kept
