use Rattle.std.proofs.Common.{◌≡◌, pos, ap, ◌∙◌}
use Rattle.sqlite_value.specs.declared.value.Value.TheVariants.{Int}
use Rattle.sqlite_value.specs.Order.{column}
use Rattle.keep_database.proofs.GiveLaws.{is_there, amount_alone}
use Rattle.keep_database.proofs.answers.amount_in.Goals as goal

pub returns-in-len1-clause-gives : goal.returns-in-len1-clause-gives
returns-in-len1-clause-gives c tolls has =
    let row : column c.row-item.result 0 ≡ Int (pos tolls) = ap (λ l. column l 0) c.row-item.is
    ∙ amount_alone c.args.found.now tolls c.row-item.result c.in-len1.len_at_least c.in-len1.len_below has in
    c.number_63.ensures.gives tolls (is_there c.row-item.result tolls row) row
