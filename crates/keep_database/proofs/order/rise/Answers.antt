use Rattle.std.proofs.Common.{rules}
use Rattle.std.proofs.lemmas.Fn.{always_returns_same}
use Rattle.std.specs.Ordering.{is_lt}
use Rattle.keep_office.specs.Office.{row_cmp}
use Rattle.keep_office.proofs.RowOrder.{row_total}
use Rattle.keep_database.proofs.RiseLaws.{rise_answer}
use Rattle.keep_database.proofs.order.rise.Goals as goal

pub returns : goal.returns
returns c =
    rise_answer row_total _ _
    (c.is_sorted_by.ensures.cases (λ x y. is_lt (row_cmp x y))
    (always_returns_same _ _ _ (λ a r g called. search rules)))
