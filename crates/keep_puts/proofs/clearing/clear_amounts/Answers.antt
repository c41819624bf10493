use Rattle.std.proofs.Common.{Bool, subst, arith}
use Rattle.sqlite_trees.specs.View.{IsClean}
use Rattle.keep_puts.specs.Steps.{IfDone}
use Rattle.keep_puts.specs.Clears.{Clears}
use Rattle.keep_puts.proofs.ClearLaws.{amounts_cleared, done_then}
use Rattle.keep_puts.proofs.clearing.clear_amounts.Goals as goal

pub returns-clause-clears : goal.returns-clause-clears
returns-clause-clears g c clean =
    let a = g.S.Store.view c.args.store.now in
    let mid = g.S.Store.view c.clear_table.new.store in
    let last = g.S.Store.view c.clear_index.new.store in
    let early : IsClean mid = omega (arith, c.clear_index.ensures.quiet.clean) in
    let first : Clears 1 a.trees mid.trees =
    subst (λ (b : Bool). IfDone b (Clears 1 a.trees mid.trees)) c.if-not-branch.false
    (c.in_ok-clear_table.ensures.clears early) in
    done_then c.clear_index.result _ _ (c.clear_index.ensures.clears clean)
    (λ second. amounts_cleared a.trees mid.trees last.trees first second)
