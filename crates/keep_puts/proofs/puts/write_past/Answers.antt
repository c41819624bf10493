use Rattle.std.proofs.Common.{Bool, pos, subst, arith}
use Rattle.sqlite_trees.specs.View.{IsClean}
use Rattle.keep_tables.specs.Codec.{past_row}
use Rattle.keep_tables.specs.Stands.{FitsPast}
use Rattle.keep_puts.specs.Steps.{IfDone, Joins}
use Rattle.keep_puts.proofs.OfficeLaws.{past_made, past_fresh, done_both}
use Rattle.keep_puts.proofs.ClearLaws.{done_then}
use Rattle.keep_puts.proofs.puts.write_past.Goals as goal

pub returns-clause-wrote : goal.returns-clause-wrote
returns-clause-wrote g c clean =
    let a = g.S.Store.view c.args.store.now in
    let first = g.S.Store.view c.put_history.new.store in
    let last = g.S.Store.view c.put_amounts.new.store in
    let early : IsClean first = omega (arith, c.put_amounts.ensures.quiet.clean) in
    let kept = c.args.kept.now in
    let one : Joins 3 (past_row kept) (pos 1) a.trees first.trees =
    subst (λ (b : Bool). IfDone b (Joins 3 (past_row kept) (pos 1) a.trees first.trees)) c.if-not-branch.false
    (c.in_ok-put_history.ensures.done early) in
    let fits : FitsPast kept = c.in_ok-put_history.ensures.fits in
    done_both c.put_amounts.result _ _ _ c.put_amounts.ensures.fits (c.put_amounts.ensures.adds clean)
    (λ small adds o stand none. past_made a.trees first.trees last.trees kept c.args.rows.now o c.requires.fits fits
    small one adds stand none)

pub returns-clause-fresh : goal.returns-clause-fresh
returns-clause-fresh g c clean =
    let a = g.S.Store.view c.args.store.now in
    let first = g.S.Store.view c.put_history.new.store in
    let early : IsClean first = omega (arith, c.put_amounts.ensures.quiet.clean) in
    let kept = c.args.kept.now in
    let one : Joins 3 (past_row kept) (pos 1) a.trees first.trees =
    subst (λ (b : Bool). IfDone b (Joins 3 (past_row kept) (pos 1) a.trees first.trees)) c.if-not-branch.false
    (c.in_ok-put_history.ensures.done early) in
    done_both c.put_amounts.result _ _ _ c.put_amounts.ensures.fits (c.put_amounts.ensures.follow clean)
    (λ small follow. past_fresh a.trees first.trees kept c.args.rows.now one follow)

pub returns-clause-puts : goal.returns-clause-puts
returns-clause-puts g c clean =
    let a = g.S.Store.view c.args.store.now in
    let first = g.S.Store.view c.put_history.new.store in
    let early : IsClean first = omega (arith, c.put_amounts.ensures.quiet.clean) in
    let kept = c.args.kept.now in
    let one : Joins 3 (past_row kept) (pos 1) a.trees first.trees =
    subst (λ (b : Bool). IfDone b (Joins 3 (past_row kept) (pos 1) a.trees first.trees)) c.if-not-branch.false
    (c.in_ok-put_history.ensures.done early) in
    done_then c.put_amounts.result _ _ (c.put_amounts.ensures.puts clean)
    (λ puts. record { recorded = first.trees; record_joins = one; amounts = puts })
