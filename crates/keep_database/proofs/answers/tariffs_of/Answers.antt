use Rattle.std.proofs.Common.{◌≡◌, ◌<◌, ◌^◌, ◌+◌, ℕ, List, length, get_or, drop, ap, sym, subst, ◌∙◌}
use Rattle.std.specs.List.{fold}
use Rattle.std.proofs.lemmas.List.{drop_more}
use Rattle.sqlite_value.specs.Order.{Row}
use Rattle.road_time.specs.declared.tariff.Tariff.{Tariff}
use Rattle.road_time.specs.Rates.{Tariffs, IsTariff}
use Rattle.keep_tables.specs.Shown.{tariff_columns}
use Rattle.keep_database.specs.declared.records.OwnTariff.{OwnTariff}
use Rattle.keep_database.specs.Exact.{with_entry}
use Rattle.keep_database.proofs.ExactLaws.{next_tariff, no_tariffs}
use Rattle.keep_database.proofs.GatherLaws.{gathers, entries_valid}
use Rattle.keep_database.proofs.GiveLaws.{err_as}
use Rattle.keep_database.proofs.RowItems.{item_at}
use Rattle.keep_database.proofs.answers.tariffs_of.Goals as goal

pub found-init : goal.found-init
found-init c = (λ ts are low is. rw c.new-tariffs.ensures (gathers ts are), rw c.new-tariffs.ensures no_tariffs)

pub found-preserved : goal.found-preserved
found-preserved c = (
  λ ts are low is.
      let i = c.found.row-index in
      let own = c.in_ok-own.own in
      let e : ℕ × Tariff = (own.xway, own.tariff) in
      let at = item_at tariff_columns (λ (x : ℕ × Tariff). (x.0 < 2 ^ 8) × IsTariff x.1) ts i c.row-item.result e
      (subst (λ (l : List Row). i < length l) is c.found-test.true) (entries_valid ts are low) in
      let row = c.row-item.is ∙ ap (λ (l : List Row). get_or l i c.row-item.result) is ∙ at.is in
      let same : e ≡ get_or ts i e = c.in_ok-own.ensures.gives (get_or ts i e) at.has.0 at.has.1 row in
      let set : c.set.new.self ≡ with_entry c.found.tariffs (get_or ts i e) = c.in_ok-set.ensures.set
      ∙ ap (with_entry c.found.tariffs) same in
      ap (λ (l : Tariffs). fold with_entry l (drop (i + 1) ts)) set
      ∙ sym (ap (fold with_entry c.found.tariffs) (drop_more ts i e at.within)) ∙ c.found.invariant.0 ts are low is,
  rw c.in_ok-set.ensures.set
      (next_tariff c.args.found.now c.found.tariffs c.found.row-index c.row-item.result
      (c.in_ok-own.own.xway, c.in_ok-own.own.tariff) c.found-test.true c.row-item.is c.found.invariant.1
      c.in_ok-own.ensures.exact),
)

pub returns-in_err-own-clause-gives : goal.returns-in_err-own-clause-gives
returns-in_err-own-clause-gives c ts are low is =
    let i = c.found.row-index in
    let e : ℕ × Tariff = (0, record { crowd = 0; speed = 0; factor = 0 }) in
    let at = item_at tariff_columns (λ (x : ℕ × Tariff). (x.0 < 2 ^ 8) × IsTariff x.1) ts i c.row-item.result e
    (subst (λ (l : List Row). i < length l) is c.found-test.true) (entries_valid ts are low) in
    let row = c.row-item.is ∙ ap (λ (l : List Row). get_or l i c.row-item.result) is ∙ at.is in
    err_as (λ (own : OwnTariff). (own.xway, own.tariff)) (λ (x : Tariffs). x) c.from_residual.result
    c.in_err-own.field-0.0 (get_or ts i e) ts c.from_residual.ensures.1
    (c.in_err-own.ensures.gives (get_or ts i e) at.has.0 at.has.1 row)
