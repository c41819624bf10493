use Rattle.std.proofs.Common.{◌≡◌, ◌∙◌, ◌-◌, nat_le, true, false, Some, Ok, Err, ap, sym, subst, arith}
use Rattle.keep_office.specs.Office.{last_day, rows_between}
use Rattle.keep_office.proofs.CallLaws.{reads_same, reads_ok}
use Rattle.keep_office.specs.declared.renewing.Renewal.TheVariants.{Early}
use Rattle.keep_office.specs.Renewed.{history_rows, are_fit}
use Rattle.keep_office.specs.Renewals.{renew_answer, renewed_if, DoesRenewal}
use Rattle.keep_office.proofs.RenewLaws.{unread_does, early_does, later_does}
use Rattle.keep_office.proofs.renewing.begin_above.Goals as goal

pub returns-then-base-last-clause-does : goal.returns-then-base-last-clause-does
returns-then-base-last-clause-does g c = λ o told.
    let before = g.K.Keeper.told c.args.keeper.now in
    let after = g.K.Keeper.told c.last_day.new.self in
    let same : after ≡ Some o = reads_same before after c.last_day.result (λ p n. n ≡ last_day p)
    c.last_day.ensures.state ∙ told in
    let last : c.in-Ok.last ≡ last_day o =
    reads_ok before after c.last_day.result (λ p n. n ≡ last_day p) o c.in-Ok.last c.last_day.ensures.state told
    c.in-Ok.is in
    let low : nat_le c.args.base (last_day o) ≡ true = grind (arith, last, c.if-base-last.true) in
    subst (λ t. DoesRenewal g.K.Keeper.refuses (renew_answer c.args.base o) o t (Ok (Early c.in-Ok.last))) (sym same)
    (early_does g.K.Keeper.refuses c.args.base c.in-Ok.last o last low)

pub returns-in-Err-rows-clause-does : goal.returns-in-Err-rows-clause-does
returns-in-Err-rows-clause-does g c = λ o told.
    let before = g.K.Keeper.told c.args.keeper.now in
    let mid = g.K.Keeper.told c.last_day.new.self in
    let after = g.K.Keeper.told c.rows.new.self in
    let first = reads_same before mid c.last_day.result (λ p n. n ≡ last_day p) c.last_day.ensures.state in
    let second = reads_same mid after c.rows.result
    (λ p rows. rows.items ≡ rows_between p (c.args.base - 69) (c.args.base - 1)) c.rows.ensures.state in
    unread_does g.K.Keeper.refuses (renew_answer c.args.base o) o c.in-Err-rows.fault after (second ∙ first ∙ told)

pub returns-clause-does : goal.returns-clause-does
returns-clause-does g c = λ o told.
    let w = g.K.Keeper.refuses in
    let base = c.args.base in
    let before = g.K.Keeper.told c.args.keeper.now in
    let mid = g.K.Keeper.told c.last_day.new.self in
    let after = g.K.Keeper.told c.rows.new.self in
    let first : mid ≡ Some o = reads_same before mid c.last_day.result (λ p n. n ≡ last_day p) c.last_day.ensures.state
    ∙ told in
    let second : after ≡ Some o = reads_same mid after c.rows.result
    (λ p rows. rows.items ≡ rows_between p (base - 69) (base - 1)) c.rows.ensures.state ∙ first in
    let last : c.in-Ok.last ≡ last_day o =
    reads_ok before mid c.last_day.result (λ p n. n ≡ last_day p) o c.in-Ok.last c.last_day.ensures.state told
    c.in-Ok.is in
    let found : c.in-Ok-rows.rows.items ≡ history_rows base o =
    reads_ok mid after c.rows.result (λ p rows. rows.items ≡ rows_between p (base - 69) (base - 1)) o c.in-Ok-rows.rows
    c.rows.ensures.state first c.in-Ok-rows.is in
    let is : c.as_slice.result.now ≡ history_rows base o = c.as_slice.ensures.value ∙ found in
    let high : nat_le base (last_day o) ≡ false = grind (arith, last, c.if-base-last.false) in
    later_does w base o (g.K.Keeper.told c.begin.new.keeper) c.begin.result high
    (subst (λ rows. DoesRenewal w (renewed_if (are_fit base rows) base o) o (g.K.Keeper.told c.begin.new.keeper)
    c.begin.result) is (c.begin.ensures.does o second is))
