use Rattle.std.proofs.Common.{◌≡◌, ◌∙◌, ◌+◌, ◌<◌, ◌++◌, [], refl, sym, ap, subst, arith}
use Rattle.std.specs.List.{cons_option}
use Rattle.road_time.proofs.EachLaws.{weakened}
use Rattle.keep_office.specs.Office.{record_of, last_from}
use Rattle.office_reports.specs.Spans.{in_span}
use Rattle.office_reports.proofs.SpanLaws.{none_yet, one_more, all_in, days_rise, one_record, days_most}
use Rattle.office_reports.proofs.finding_days.days_within.Goals as goal

pub loop-day-init : goal.loop-day-init
loop-day-init g c =
    let start : c.from-day.result ≡ c.args.from = c.from-day.ensures in
    record {
      kept = refl;
      faults = refl;
      plan = λ never. never;
      low = omega (arith, start);
      found = λ o told sound. c.new-records.ensures.items
          ∙ sym (subst (λ n. in_span (λ r. r.day) c.args.from n o.days ≡ []) (sym start)
          (none_yet (λ r. r.day) c.args.from o.days));
    }

pub loop-day-preserved : goal.loop-day-preserved
loop-day-preserved g c =
    let inv = c.loop-day.invariant in
    let day = c.loop-day.day in
    let ok = c.in-Ok.is in
    record {
      kept = c.push_day.ensures.kept ∙ inv.kept;
      faults = c.push_day.ensures.keeper.still (λ bad. let no : ⊥ = cc in no) ∙ inv.faults;
      plan = λ never. c.push_day.ensures.still (inv.plan never);
      low = omega (arith, inv.low);
      found = λ o told sound.
          let pushed : c.push_day.new.records.items
          ≡ c.loop-day.records.items ++ cons_option (record_of o day) [] =
          c.in-Ok.ensures.pushed o (inv.kept ∙ told) in
          pushed ∙ ap (λ rs. rs ++ cons_option (record_of o day) []) (inv.found o told sound)
          ∙ sym (one_more (λ r. r.day) c.args.from day o.days inv.low (days_rise o.days sound.days_rise)
          ∙ ap (λ rs. in_span (λ r. r.day) c.args.from day o.days ++ rs) (one_record o.days day sound.days_rise));
    }

pub returns-clause-exact : goal.returns-clause-exact
returns-clause-exact g c = λ o told sound low last.
    c.loop-day.invariant.found o told sound
    ∙ all_in (λ r. r.day) c.args.from c.loop-day.day o.days low
    (weakened (λ r. r.day < last_from o.days o.past + 1) (λ r. r.day < c.loop-day.day)
    (λ r h. omega (arith, h, last)) o.days (days_most o.days o.past))
