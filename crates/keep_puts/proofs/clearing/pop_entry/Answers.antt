use Rattle.std.proofs.Common.{true, subst, arith}
use Rattle.sqlite_trees.specs.Tree.{remove_entry, order_of}
use Rattle.sqlite_trees.specs.View.{IsClean}
use Rattle.sqlite_exec.specs.Write.{IsLast}
use Rattle.keep_puts.proofs.ClearLaws.{one_popped, fewer_entries}
use Rattle.keep_puts.proofs.clearing.pop_entry.Goals as goal

pub returns-clause-pops : goal.returns-clause-pops
returns-clause-pops g c clean =
    let old = g.S.Store.view c.args.store.now in
    let mid = g.S.Store.view c.last.new.store in
    let new = g.S.Store.view c.remove.new.self in
    let entries = old.trees 2 in
    let entry = c.last.new.row in
    let order = order_of (mid.shape 2) in
    let early : IsClean mid = omega (arith, clean, c.remove.ensures.quiet.clean) in
    let last : IsLast entries entry true =
    subst (IsLast entries entry) c.if-not-branch.false (c.in_ok-last.ensures.ok early) in
    one_popped old mid new 2 (remove_entry order entry) (c.in_ok-last.ensures.same early)
    (c.in_ok-remove.ensures.ok clean) (fewer_entries order entries entry last)
