use Rattle.std.proofs.Common.{◌≡◌, ℤ, pos, ◌+ℤ◌, true, IfSome, SomeIff, FitsSigned, sym, subst, to_z, of_z, w64, rules}
use Rattle.sqlite_value.specs.declared.value.Value.TheVariants.{Int}
use Rattle.sqlite_trees.specs.Tree.{rowid}
use Rattle.sqlite_trees.specs.View.{IsShaped}
use Rattle.sqlite_exec.specs.Write.{IsLast}
use Rattle.sqlite_trees.specs.declared.store.Shape.TheVariants.{Table}
use Rattle.keep_puts.proofs.ClearLaws.{last_numbered, lends_number}
use Rattle.keep_puts.proofs.AmountLaws.{above_last, after_one, some_next, some_numbers}
use Rattle.keep_puts.proofs.amounts.next_number.Goals as goal

pub returns-in-Int-clause-next : goal.returns-in-Int-clause-next
returns-in-Int-clause-next g c clean =
    let old = g.S.Store.view c.args.store.now in
    let rows = old.trees 1 in
    let row = c.last.new.row in
    let is : rowid row ≡ Int c.in-Int.number = sym c.in-Int.ensures in
    let shaped = subst (λ s. IsShaped s rows) c.requires
    (g.met.S.Store.ordered c.args.store.now (c.in_ok-last.ensures.sound clean) 1) in
    let last : IsLast rows row true = subst (IsLast rows row) c.if-not-branch.false (c.in_ok-last.ensures.ok clean) in
    let whole : to_z w64 (of_z w64 c.in-Int.number) ≡ c.in-Int.number = search rules in
    after_one rows c.in-Int.number c.after.result
    (subst (λ (m : ℤ). IfSome c.after.result (λ next. next ≡ m +ℤ pos 1)) whole
    (some_next _ c.after.result _ c.after.ensures))
    (above_last rows row c.in-Int.number shaped.0 last is)

pub returns-in-Int-clause-room : goal.returns-in-Int-clause-room
returns-in-Int-clause-room g c clean count left =
    let old = g.S.Store.view c.args.store.now in
    let rows = old.trees 1 in
    let row = c.last.new.row in
    let is : rowid row ≡ Int c.in-Int.number = sym c.in-Int.ensures in
    let last : IsLast rows row true = subst (IsLast rows row) c.if-not-branch.false (c.in_ok-last.ensures.ok clean) in
    let whole : to_z w64 (of_z w64 c.in-Int.number) ≡ c.in-Int.number = search rules in
    some_numbers c.after.result (c.in-Int.number +ℤ pos 1) count
    (subst (λ (m : ℤ). SomeIff c.after.result (FitsSigned w64 (m +ℤ pos 1)) (m +ℤ pos 1)) whole c.after.ensures)
    (left.after last.0 row c.in-Int.number last.1 is)

pub returns-in_default-clause-room : goal.returns-in_default-clause-room
returns-in_default-clause-room g c clean =
    let old = g.S.Store.view c.args.store.now in
    let rows = old.trees 1 in
    let row = c.last.new.row in
    let shaped : IsShaped Table rows = subst (λ s. IsShaped s rows) c.requires
    (g.met.S.Store.ordered c.args.store.now (c.in_ok-last.ensures.sound clean) 1) in
    let last : IsLast rows row true = subst (IsLast rows row) c.if-not-branch.false (c.in_ok-last.ensures.ok clean) in
    absurd (lends_number c.get.result (rowid row) c.get.ensures (last_numbered rows row shaped last)
    c.in_default.not-Int)
