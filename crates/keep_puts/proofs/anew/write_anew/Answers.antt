use Rattle.std.proofs.Common.{Bool, subst, arith}
use Rattle.sqlite_trees.specs.View.{IsClean}
use Rattle.keep_puts.specs.Steps.{IfDone}
use Rattle.keep_puts.specs.Clears.{ClearsAll}
use Rattle.keep_puts.proofs.ClearLaws.{begun_anew, done_then}
use Rattle.keep_puts.proofs.anew.write_anew.Goals as goal

pub returns-clause-wrote : goal.returns-clause-wrote
returns-clause-wrote g c clean =
    let a = g.S.Store.view c.args.store.now in
    let mid = g.S.Store.view c.clear.new.store in
    let last = g.S.Store.view c.write_past.new.store in
    let early : IsClean mid = omega (arith, c.write_past.ensures.quiet.clean) in
    let gone : ClearsAll a.trees mid.trees =
    subst (λ (b : Bool). IfDone b (ClearsAll a.trees mid.trees)) c.if-not-branch.false
    (c.in_ok-clear.ensures.clears early) in
    done_then c.write_past.result _ _ (c.write_past.ensures.wrote clean)
    (λ puts. begun_anew a.trees mid.trees last.trees c.args.kept.now c.args.rows.now gone puts)

pub returns-clause-puts : goal.returns-clause-puts
returns-clause-puts g c clean =
    let a = g.S.Store.view c.args.store.now in
    let mid = g.S.Store.view c.clear.new.store in
    let early : IsClean mid = omega (arith, c.write_past.ensures.quiet.clean) in
    let gone : ClearsAll a.trees mid.trees =
    subst (λ (b : Bool). IfDone b (ClearsAll a.trees mid.trees)) c.if-not-branch.false
    (c.in_ok-clear.ensures.clears early) in
    done_then c.write_past.result _ _ (c.write_past.ensures.puts clean)
    (λ puts. record { emptied = mid.trees; clears = gone; puts = puts })
