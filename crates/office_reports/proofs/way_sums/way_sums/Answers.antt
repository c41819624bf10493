use Rattle.std.proofs.Common.{◌∙◌, rules}
use Rattle.std.proofs.lemmas.List.{length-set}
use Rattle.office_reports.proofs.WayLaws.{added_sums, added_bound}
use Rattle.office_reports.proofs.way_sums.way_sums.Goals as goal

pub loop-row-preserved : goal.loop-row-preserved
loop-row-preserved c =
    let inv = c.loop-row.invariant in
    record {
      sums = added_sums c.loop-row.sums c.args.rows.now c.loop-row.row-index _ c.from.result (search rules)
          (search (rules, inv.size)) (search rules) inv.sums;
      size = length-set _ _ _ ∙ inv.size;
      bound = added_bound c.loop-row.sums c.args.rows.now c.loop-row.row-index _ c.from.result (search rules)
          (search (rules, inv.size)) (search rules) (search rules) inv.bound;
    }
