use Rattle.std.proofs.Common.{◌∙◌}
use Rattle.road_time.proofs.RowLaws.{only_rows}
use Rattle.day_floor.proofs.SumLaws.{account_by, total_by, amount_by}
use Rattle.day_floor.proofs.accounts_laws.book_law.Goals as goal

pub returns : goal.returns
returns c = λ cs. (
  account_by cs,
  total_by cs,
  λ number rows are. only_rows cs number rows
      (record {
        in_order = are.in_order;
        of_day = are.of_day;
        none_zero = are.none_zero;
        exact = λ v x. are.exact v x
            ∙ amount_by cs v x;
      }),
)
