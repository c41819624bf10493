use Rattle.std.proofs.Common.{◌<◌, List, Vec, Global, length, get_or, ap, subst, ◌∙◌}
use Rattle.sqlite_value.specs.Order.{Row}
use Rattle.road_time.specs.declared.day.SpentRow.{SpentRow}
use Rattle.keep_tables.specs.Codec.{spent_row}
use Rattle.keep_tables.specs.Stands.{FitsSpent}
use Rattle.keep_database.specs.Exact.{IsAmount}
use Rattle.keep_database.proofs.ExactLaws.{next_row}
use Rattle.keep_database.proofs.GiveLaws.{err_as}
use Rattle.keep_database.proofs.RowItems.{item_at, next_item}
use Rattle.keep_database.proofs.answers.all_amounts.Goals as goal

pub found-preserved : goal.found-preserved
found-preserved c = (
  λ rows fits is.
      let i = c.found.row-index in
      let amount = c.in_ok-amount.amount in
      let at = item_at spent_row FitsSpent rows i c.row-item.result amount
      (subst (λ (l : List Row). i < length l) is c.found-test.true) fits in
      let row = c.row-item.is ∙ ap (λ (l : List Row). get_or l i c.row-item.result) is ∙ at.is in
      rw c.in_ok-push.ensures.items
      (next_item rows c.found.rows.items i amount at.within (c.found.invariant.0 rows fits is)
      (c.in_ok-amount.ensures.gives (get_or rows i amount) at.has row)),
  rw c.in_ok-push.ensures.items
      (next_row IsAmount c.args.found.now c.found.rows.items c.found.row-index c.row-item.result c.in_ok-amount.amount
      c.found-test.true c.row-item.is c.found.invariant.1 c.in_ok-amount.ensures.exact),
)

pub returns-in_err-amount-clause-gives : goal.returns-in_err-amount-clause-gives
returns-in_err-amount-clause-gives c rows fits is =
    let i = c.found.row-index in
    let any : SpentRow = record { day = 0; vid = 0; xway = 0; tolls = 0 } in
    let at = item_at spent_row FitsSpent rows i c.row-item.result any
    (subst (λ (l : List Row). i < length l) is c.found-test.true) fits in
    let row = c.row-item.is ∙ ap (λ (l : List Row). get_or l i c.row-item.result) is ∙ at.is in
    err_as (λ (r : SpentRow). r) (λ (v : Vec SpentRow Global). v.items) c.from_residual.result c.in_err-amount.field-0.0
    (get_or rows i any) rows c.from_residual.ensures.1
    (c.in_err-amount.ensures.gives (get_or rows i any) at.has row)
