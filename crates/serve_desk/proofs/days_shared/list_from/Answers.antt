use Rattle.std.proofs.Common.{◌∙◌, inl, inr, refl, arith}
use Rattle.serve_desk.proofs.DayLaws.{counts_still, counts_later}
use Rattle.serve_desk.proofs.SharedLaws.{lists_more, lists_none, lists_all}
use Rattle.serve_desk.proofs.days_shared.list_from.Goals as goal

pub loop-day-init : goal.loop-day-init
loop-day-init g c = record {
  few = omega (arith, c.from-day.ensures, c.ranges.first.fits);
  from = omega (arith, c.from-day.ensures);
  to = inl (omega (arith, c.from-day.ensures));
  lists = lists_none g.K.Keeper.told c.args.first c.from-day.result c.new-days.result.items c.from-day.ensures
      c.new-days.ensures.items;
  still = refl;
}

pub loop-day-preserved : goal.loop-day-preserved
loop-day-preserved g c =
    let at = c.loop-day.day in
    let still = c.loop-day.invariant in
    let (k, kept, added, is) = c.in-Ok.ensures.added in
    record {
      few = omega (arith, c.loop-day-test.true, c.ranges.last.fits);
      from = omega (arith, still.from);
      to = inr (omega (arith, c.loop-day-test.true));
      lists = lists_more g.K.Keeper.told k kept c.args.first at c.loop-day.days.items c.add_shared.new.days.items
          still.from added is still.lists;
      still = c.in-Ok.ensures.cause.still refl ∙ still.still;
    }

pub returns-clause-lists : goal.returns-clause-lists
returns-clause-lists g c =
    lists_all g.K.Keeper.told c.args.first c.args.last c.loop-day.day c.loop-day.days.items c.loop-day.invariant.from
    c.loop-day.invariant.to (omega (arith, c.loop-day-test.false)) c.loop-day.invariant.lists

pub returns-clause-cause : goal.returns-clause-cause
returns-clause-cause g c = counts_still _ _ c.loop-day.days c.loop-day.invariant.still

pub returns-in-Err-clause-cause : goal.returns-in-Err-clause-cause
returns-in-Err-clause-cause g c =
    counts_later _ _ _ c.in-Err.fault c.loop-day.invariant.still c.in-Err.ensures.cause
