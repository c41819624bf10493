use Rattle.std.proofs.Common.{Bool, subst, arith}
use Rattle.sqlite_trees.specs.View.{IsClean}
use Rattle.keep_puts.specs.Steps.{IfDone}
use Rattle.keep_puts.specs.Clears.{ClearsAmounts, ClearsDays}
use Rattle.keep_puts.proofs.ClearLaws.{all_cleared, done_then}
use Rattle.keep_puts.proofs.clearing.clear.Goals as goal

pub returns-clause-clears : goal.returns-clause-clears
returns-clause-clears g c clean =
    let a = g.S.Store.view c.args.store.now in
    let first = g.S.Store.view c.clear_amounts.new.store in
    let second = g.S.Store.view c.clear_days.new.store in
    let last = g.S.Store.view c.clear_table.new.store in
    let late : IsClean second = omega (arith, c.clear_table.ensures.quiet.clean) in
    let early : IsClean first = omega (arith, late, c.clear_days.ensures.quiet.clean) in
    let one : ClearsAmounts a.trees first.trees =
    subst (λ (b : Bool). IfDone b (ClearsAmounts a.trees first.trees)) c.if-not-branch.false
    (c.in_ok-clear_amounts.ensures.clears early) in
    let two : ClearsDays first.trees second.trees =
    subst (λ (b : Bool). IfDone b (ClearsDays first.trees second.trees)) c.if-not-branch-2.false
    (c.in_ok-clear_days.ensures.clears late) in
    done_then c.clear_table.result _ _ (c.clear_table.ensures.clears clean)
    (λ three. all_cleared a.trees first.trees second.trees last.trees one two three)
