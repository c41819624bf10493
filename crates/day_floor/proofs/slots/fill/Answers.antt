use Rattle.std.proofs.Common.{◌≡◌, ◌+◌, ◌<◌, ◌++◌, length, take, drop, map, get_or, None, pos, rules, ap, sym, ◌∙◌}
use Rattle.std.proofs.Common.{subst}
use Rattle.std.specs.List.{AllByRecursion}
use Rattle.std.proofs.Math.Seq.{take-length}
use Rattle.road_time.specs.Day.{given}
use Rattle.ways_expressway.specs.declared.finding.Finding.{Finding as CodeFinding}
use Rattle.ways_expressway.specs.Findings.{shown}
use Rattle.day_floor.specs.Sound.{AreFresh, ReportAt}
use Rattle.day_floor.specs.Slots.{slots_of}
use Rattle.day_floor.proofs.Filled.{fresh_at, midst, around, one_further}
use Rattle.day_floor.proofs.slots.fill.Goals as goal

pub loop-finding-preserved : goal.loop-finding-preserved
loop-finding-preserved c = record {
  len = search rules;
  filled = λ found before rest are long fresh reports.
      let fs = c.args.findings.now in
      let i = c.loop-finding.finding-index in
      let within : i < length fs = search rules in
      let d : CodeFinding = record { position = 0; lav = pos 0; toll = 0; alert = None } in
      let f = get_or fs i d in
      let parts = around fs i d within in
      let fresh_now = fresh_at found (map shown (take i fs)) (shown f) (map shown (drop (i + 1) fs))
      (subst (AreFresh found) parts fresh) in
      let report = midst (λ g. ReportAt (before ++ rest) g.0) (map shown (take i fs)) (shown f)
      (map shown (drop (i + 1) fs)) (subst (AllByRecursion (λ g. ReportAt (before ++ rest) g.0)) parts reports) in
      subst (λ gs. c.fill_one.new.slots.items ≡ slots_of (given gs) before rest) (sym (one_further found fs i d within))
      (c.fill_one.ensures.filled (found ++ map shown (take i fs)) before rest
      (c.loop-finding.invariant.filled found before rest are long fresh reports) long fresh_now report);
}

pub returns-clause-filled : goal.returns-clause-filled
returns-clause-filled c = λ found before rest are long fresh reports.
    let fs = c.args.findings.now in
    let all : c.loop-finding.finding-index ≡ length fs = search rules in
    let whole : take c.loop-finding.finding-index fs ≡ fs = ap (λ n. take n fs) all ∙ take-length fs in
    subst (λ gs. c.loop-finding.slots.items ≡ slots_of (given (found ++ map shown gs)) before rest) whole
    (c.loop-finding.invariant.filled found before rest are long fresh reports)
