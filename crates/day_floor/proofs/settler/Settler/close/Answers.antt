use Rattle.std.proofs.Common.{subst, ◌∙◌}
use Rattle.road_time.specs.Sights.{moments}
use Rattle.road_time.specs.Day.{charges_by}
use Rattle.road_time.specs.Text.{out}
use Rattle.road_time.proofs.RowLaws.{only_rows}
use Rattle.day_floor.specs.Sums.{AreRowsOf}
use Rattle.day_floor.proofs.SumLaws.{amount_by}
use Rattle.day_floor.proofs.SettlingBookLaws.{total_is}
use Rattle.day_floor.proofs.settler.Settler.close.Goals as goal

pub returns-clause-closed : goal.returns-clause-closed
returns-clause-closed g c = λ finding number history before h.
    let cs = charges_by finding (moments before) in
    let are = subst (λ m. AreRowsOf m c.args.day c.in-Ok.rows.items) h.book.spent c.in-Ok.ensures in
    record {
      rows = c.from_vec.ensures
          ∙ only_rows cs c.args.day c.in-Ok.rows.items
          (record {
            in_order = are.in_order;
            of_day = are.of_day;
            none_zero = are.none_zero;
            exact =
                λ v x. are.exact v x ∙ amount_by cs v x;
          });
      total = c.total-total.ensures.total ∙ total_is finding c.args.self.book before h.book;
      told = h.told;
      told_are = h.told_are;
      count = c.end-notices.ensures.count ∙ h.count;
      digest = c.end-notices.ensures.digest (out h.told) h.took;
    }
