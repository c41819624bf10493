use Rattle.std.proofs.Common.{◌≡◌, ℕ, ◌+◌, Some, IsSome, refl, sym, ap, subst, ◌∙◌}
use Rattle.std.specs.FinMap.{empty, get}
use Rattle.day_floor.specs.Sums.{SpentMap, with_charge, spent_by}
use Rattle.day_floor.specs.Books.{Accounts}
use Rattle.day_floor.proofs.WorkedLaws.{told_it, charge_on, three, some_is, rows_by, three_account, three_total}
use Rattle.day_floor.proofs.WorkedLaws.{answers_made}
use Rattle.day_floor.proofs.worked.two_expressways.Goals as goal

-- a book with one charge more
more : (a b : Accounts) (xway n : ℕ) (m : SpentMap) →
    b ≡ record a { spent = with_charge a.spent (record { vid = 100; xway = xway; toll = n }); made = a.made + 1 } →
    n ≡ 2 → a.spent ≡ m → b.spent ≡ with_charge m (charge_on xway)
more a b xway n m e is was = ap (λ (s : Accounts). s.spent) e
    ∙ (ap (λ k. with_charge a.spent (record { vid = 100; xway = xway; toll = k })) is
    ∙ ap (λ x. with_charge x (charge_on xway)) was)

pub charge-requires-clause-told : goal.charge-requires-clause-told
charge-requires-clause-told c =
    let told : get c.notify.new.self.told 100 ≡ Some 2 =
    ap (λ (s : Accounts). get s.told 100) c.in_ok-notify.ensures.told ∙ told_it c.new-book.result.told 2 in
    subst IsSome (sym told) refl

pub returns : goal.returns
returns c =
    let told : get c.notify.new.self.told 100 ≡ Some 2 =
    ap (λ (s : Accounts). get s.told 100) c.in_ok-notify.ensures.told ∙ told_it c.new-book.result.told 2 in
    let after : get c.charge.new.self.told 100 ≡ Some 2 =
    ap (λ (s : Accounts). get s.told 100) c.in_ok-charge.ensures.booked ∙ told in
    let last : get c.charge-2.new.self.told 100 ≡ Some 2 =
    ap (λ (s : Accounts). get s.told 100) c.in_ok-charge-2.ensures.booked ∙ after in
    let none : c.notify.new.self.spent ≡ empty = ap (λ (s : Accounts). s.spent) c.in_ok-notify.ensures.told
    ∙ ap (λ (s : Accounts). s.spent) c.new-book.ensures in
    let one = more c.notify.new.self c.charge.new.self 1 c.in_ok-charge.field-0 empty c.in_ok-charge.ensures.booked
    (some_is c.in_ok-charge.field-0 2 (c.in_ok-charge.ensures.toll ∙ told)) none in
    let two = more c.charge.new.self c.charge-2.new.self 0 c.in_ok-charge-2.field-0 (with_charge empty (charge_on 1))
    c.in_ok-charge-2.ensures.booked (some_is c.in_ok-charge-2.field-0 2 (c.in_ok-charge-2.ensures.toll ∙ after))
    one in
    let toll : c.in_ok-charged.charged ≡ 2 = some_is c.in_ok-charged.charged 2 (c.in_ok-charged.ensures.toll ∙ last) in
    let spent : c.charge-3.new.self.spent ≡ spent_by three =
    more c.charge-2.new.self c.charge-3.new.self 1 c.in_ok-charged.charged
    (with_charge (with_charge empty (charge_on 1)) (charge_on 0)) c.in_ok-charged.ensures.booked toll two in (
      answers_made toll (c.balance.ensures.account ∙ three_account c.charge-3.new.self.spent spent)
          (c.total.ensures.total ∙ three_total c.charge-3.new.self.spent spent),
      rows_by three c.charge-3.new.self.spent 100 c.in_ok-rows.rows.items spent c.in_ok-rows.ensures,
    )
