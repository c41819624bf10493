use Rattle.std.proofs.Common.{◌≡◌, ◌∙◌, [], refl, sym, ap, subst, arith}
use Rattle.std.specs.List.{fold}
use Rattle.keep_office.specs.Office.{rows_between}
use Rattle.office_reports.specs.Spans.{in_span}
use Rattle.office_reports.specs.Charges.{with_amount, sums_of}
use Rattle.office_reports.proofs.SpanLaws.{none_yet, sums_more}
use Rattle.office_reports.proofs.charged.sums_within.Goals as goal

pub loop-day-init : goal.loop-day-init
loop-day-init g c =
    let start : c.from-day.result ≡ c.args.from = c.from-day.ensures in
    record {
      kept = refl;
      faults = refl;
      plan = λ never. never;
      low = omega (arith, start);
      sums = λ o told sound. c.new-sums.ensures.empty
          ∙ sym (ap sums_of (subst (λ n. in_span (λ r. r.day) c.args.from n o.rows ≡ []) (sym start)
          (none_yet (λ r. r.day) c.args.from o.rows)));
    }

pub loop-day-preserved : goal.loop-day-preserved
loop-day-preserved g c =
    let inv = c.loop-day.invariant in
    let day = c.loop-day.day in
    let ok = c.in-Ok.is in
    record {
      kept = c.add_day.ensures.kept ∙ inv.kept;
      faults = c.add_day.ensures.keeper.still (λ bad. let no : ⊥ = cc in no) ∙ inv.faults;
      plan = λ never. c.add_day.ensures.still (inv.plan never);
      low = omega (arith, inv.low);
      sums = λ o told sound.
          let added : c.add_day.new.sums.entries ≡ fold with_amount c.loop-day.sums.entries (rows_between o day day) =
          c.in-Ok.ensures.added o (inv.kept ∙ told) in
          added ∙ ap (λ s. fold with_amount s (rows_between o day day)) (inv.sums o told sound)
          ∙ sym (sums_more o.rows c.args.from day inv.low sound.rows_rise);
    }
