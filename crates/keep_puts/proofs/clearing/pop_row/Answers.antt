use Rattle.std.proofs.Common.{◌≡◌, ℤ, true, sym, subst, to_z, of_z, w64, arith, rules}
use Rattle.sqlite_value.specs.declared.value.Value.TheVariants.{Int}
use Rattle.sqlite_trees.specs.Tree.{rowid, without_rowid}
use Rattle.sqlite_trees.specs.View.{IsClean, IsShaped, SetsTree}
use Rattle.sqlite_trees.specs.declared.store.Shape.TheVariants.{Table}
use Rattle.sqlite_exec.specs.Write.{IsLast}
use Rattle.keep_puts.proofs.ClearLaws.{one_popped, fewer_rows, last_numbered, lends_number}
use Rattle.keep_puts.proofs.clearing.pop_row.Goals as goal

pub returns-in_default-clause-why : goal.returns-in_default-clause-why
returns-in_default-clause-why g c clean =
    let old = g.S.Store.view c.args.store.now in
    let rows = old.trees c.args.table in
    let row = c.last.new.row in
    let shaped : IsShaped Table rows = subst (λ s. IsShaped s rows) c.requires
    (g.met.S.Store.ordered c.args.store.now (c.in_ok-last.ensures.sound clean) c.args.table) in
    let last : IsLast rows row true = subst (IsLast rows row) c.if-not-branch.false (c.in_ok-last.ensures.ok clean) in
    absurd (lends_number c.get.result (rowid row) c.get.ensures (last_numbered rows row shaped last)
    c.in_default.not-Int)

pub returns-clause-pops : goal.returns-clause-pops
returns-clause-pops g c clean =
    let old = g.S.Store.view c.args.store.now in
    let mid = g.S.Store.view c.last.new.store in
    let new = g.S.Store.view c.delete.new.self in
    let rows = old.trees c.args.table in
    let row = c.last.new.row in
    let early : IsClean mid = omega (arith, clean, c.delete.ensures.quiet.clean) in
    let is : rowid row ≡ Int c.in-Int.number = sym c.in-Int.ensures in
    let last : IsLast rows row true = subst (IsLast rows row) c.if-not-branch.false (c.in_ok-last.ensures.ok early) in
    let whole : to_z w64 (of_z w64 c.in-Int.number) ≡ c.in-Int.number = search rules in
    one_popped old mid new c.args.table (without_rowid c.in-Int.number) (c.in_ok-last.ensures.same early)
    (subst (λ (n : ℤ). SetsTree mid new c.args.table (without_rowid n)) whole (c.in_ok-delete.ensures.ok clean))
    (fewer_rows rows row c.in-Int.number last is)
