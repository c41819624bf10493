use Rattle.std.proofs.Common.{◌≡◌, [], ◌∷◌, Some, IsSome, refl, sym, ap, subst, ◌∙◌}
use Rattle.std.specs.FinMap.{get}
use Rattle.day_floor.specs.Sums.{account_in, with_charge, spent_by}
use Rattle.day_floor.specs.Books.{Accounts}
use Rattle.day_floor.proofs.SumLaws.{account_none}
use Rattle.day_floor.proofs.WorkedLaws.{told_it, charge, some_is, rows_by, one_total, answers_made}
use Rattle.day_floor.proofs.worked.a_charge_of_nothing.Goals as goal

pub charge-requires-clause-told : goal.charge-requires-clause-told
charge-requires-clause-told c =
    let told : get c.notify-2.new.self.told 100 ≡ Some 0 =
    ap (λ (s : Accounts). get s.told 100) c.in_ok-notify-2.ensures.told ∙ told_it c.notify.new.self.told 0 in
    subst IsSome (sym told) refl

pub returns : goal.returns
returns c =
    let told : get c.notify-2.new.self.told 100 ≡ Some 0 =
    ap (λ (s : Accounts). get s.told 100) c.in_ok-notify-2.ensures.told ∙ told_it c.notify.new.self.told 0 in
    let toll : c.in_ok-charged.charged ≡ 0 = some_is c.in_ok-charged.charged 0 (c.in_ok-charged.ensures.toll ∙ told) in
    let spent : c.charge.new.self.spent ≡ spent_by (charge 0 ∷ []) =
    ap (λ (s : Accounts). s.spent) c.in_ok-charged.ensures.booked
    ∙ (ap (λ n. with_charge c.notify-2.new.self.spent (charge n)) toll
    ∙ ap (λ m. with_charge m (charge 0)) (ap (λ (s : Accounts). s.spent) c.in_ok-notify-2.ensures.told
    ∙ (ap (λ (s : Accounts). s.spent) c.in_ok-notify.ensures.told
    ∙ ap (λ (s : Accounts). s.spent) c.new-book.ensures))) in (
      answers_made toll
          (c.balance-balance.ensures.account
          ∙ (ap (λ (s : Accounts). account_in s.spent 5) c.new-book.ensures ∙ account_none 5))
          (c.total.ensures.total ∙ one_total c.charge.new.self.spent 0 spent),
      rows_by (charge 0 ∷ []) c.charge.new.self.spent 100 c.in_ok-rows.rows.items spent c.in_ok-rows.ensures,
    )
