use Rattle.std.proofs.Common.{sym, subst}
use Rattle.std.proofs.lemmas.List.{take_more}
use Rattle.road_time.specs.declared.day.TheConstants.Limits.{DAY}
use Rattle.tuples_text.specs.Gates.{StandsFor}
use Rattle.tests_road.proofs.DayLaws.{day_more}
use Rattle.tests_road.proofs.tests.days.is_day.Goals as goal

pub loop-tuple-preserved : goal.loop-tuple-preserved
loop-tuple-preserved c =
    let day = c.args.tuples.now in
    let i = c.loop-tuple.tuple-index in
    let valid = c.is_valid.ensures c.if-not-is_valid.false in
    record {
      stands = subst (λ ts. StandsFor c.admit.new.self DAY 0 ts) (sym (take_more day i _ c.loop-tuple-test.true))
          (c.in-Ok.ensures.admitted DAY 0 _ c.loop-tuple.invariant.stands);
      fit = day_more day i _ c.loop-tuple-test.true c.if-tuples-gt1000.false valid
          (c.in-Ok.ensures.judged DAY 0 _ c.loop-tuple.invariant.stands) c.loop-tuple.invariant.fit;
    }
