use Rattle.std.proofs.Common.{◌≤◌, ◌<◌, ◌++◌, refl, sym, ap, ◌∙◌, arith}
use Rattle.road_time.proofs.EachLaws.{weakened}
use Rattle.keep_office.specs.Office.{record_of}
use Rattle.serve_desk.specs.Days.{as_list}
use Rattle.serve_desk.proofs.DayLaws.{below_none, below_all, below_more, counts_still, counts_later, sound_is}
use Rattle.serve_desk.proofs.kept_days.days_from.Goals as goal

pub loop-day-init : goal.loop-day-init
loop-day-init g c = record {
  few = omega (arith, c.from-day.ensures, c.ranges.first.fits);
  told = λ o told. told;
  found = λ o told first.
      c.new-days.ensures.items ∙ sym (below_none c.from-day.result o.days
      (weakened (λ r. c.args.first ≤ r.day) (λ r. c.from-day.result ≤ r.day) (λ r h. omega (arith, h, c.from-day.ensures))
      o.days first));
  still = refl;
}

pub loop-day-preserved : goal.loop-day-preserved
loop-day-preserved g c =
    let at = c.loop-day.day in
    let still = c.loop-day.invariant in
    record {
      few = omega (arith, c.loop-day-test.true, c.ranges.last.fits);
      told = λ o told. c.add_day.ensures.told o (still.told o told);
      found = λ o told first.
          let before = still.told o told in
          let sound = sound_is _ o (c.add_day.ensures.told o before) c.add_day.ensures.sound in
          c.in-Ok.ensures.added o before ∙ ap (λ xs. xs ++ as_list (record_of o at)) (still.found o told first)
          ∙ below_more at o.days sound.days_rise;
      still = c.in-Ok.ensures.cause.still refl ∙ still.still;
    }

pub returns-clause-found : goal.returns-clause-found
returns-clause-found g c = λ o told first last.
    let at = c.loop-day.day in
    c.loop-day.invariant.found o told first
    ∙ below_all at o.days
    (weakened (λ r. r.day ≤ c.args.last) (λ r. r.day < at) (λ r h. omega (arith, h, c.loop-day-test.false)) o.days last)

pub returns-clause-cause : goal.returns-clause-cause
returns-clause-cause g c = counts_still _ _ c.loop-day.days c.loop-day.invariant.still

pub returns-in-Err-clause-cause : goal.returns-in-Err-clause-cause
returns-in-Err-clause-cause g c =
    counts_later _ _ _ c.in-Err.fault c.loop-day.invariant.still c.in-Err.ensures.cause
