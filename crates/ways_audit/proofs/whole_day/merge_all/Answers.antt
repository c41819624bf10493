use Rattle.std.proofs.Common.{[], map, length, ap, sym, subst, ◌∙◌}
use Rattle.road_time.specs.Day.{given, notices_by}
use Rattle.road_time.specs.Sights.{moments}
use Rattle.ways_expressway.specs.Findings.{shown}
use Rattle.ways_audit.specs.Closing.{IsPlaced}
use Rattle.ways_audit.proofs.JobLaws.{tracked_long, few_tolls}
use Rattle.ways_audit.proofs.whole_day.merge_all.Goals as goal

pub close-requires-clause-len : goal.close-requires-clause-len
close-requires-clause-len c = ap length c.requires.tracked ∙ tracked_long [] c.args.tuples.now

pub close-requires-clause-found : goal.close-requires-clause-found
close-requires-clause-found c =
    let fs = map shown c.args.found.items in (
      fs,
      subst (λ ps. IsPlaced ps fs) (sym c.as_slice.ensures.value) c.in_ok-places.ensures.placed,
      few_tolls c.args.found.items c.requires.possible,
    )

pub returns-clause-merged : goal.returns-clause-merged
returns-clause-merged c =
    let fs = map shown c.args.found.items in
    let placed = subst (λ ps. IsPlaced ps fs) (sym c.as_slice.ensures.value) c.in_ok-places.ensures.placed in
    c.from_vec.ensures.list
    ∙ (c.in_ok-notices.ensures fs placed (few_tolls c.args.found.items c.requires.possible)
    ∙ ap (λ kept. notices_by (given fs) c.args.day kept (moments c.args.tuples.now))
    (λ i day vid xway. c.in_ok-payments.ensures day vid xway i))
