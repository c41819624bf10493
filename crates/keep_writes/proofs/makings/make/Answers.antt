use Rattle.std.proofs.Common.{sym, subst, ◌∙◌, arith, inl}
use Rattle.sqlite.specs.Effect.{Database}
use Rattle.sqlite.specs.Held.{state}
use Rattle.sqlite.specs.State.{HasCleanDisk}
use Rattle.keep_tables.specs.Stands.{StandsForOffice}
use Rattle.keep_tables.proofs.StepLaws.{kept_then}
use Rattle.keep_writes.specs.Growth.{HasVersion, LacksVersion, IsOurs}
use Rattle.keep_writes.specs.Objects.{MayBeMade}
use Rattle.keep_writes.proofs.GrowLaws.{on_ok, on_both, on_err, err_stands}
use Rattle.keep_writes.proofs.LeaveLaws.{same_survives, tables_leave, kept_there}
use Rattle.keep_writes.proofs.CauseLaws.{err_handed}
use Rattle.keep_writes.proofs.UnmadeLaws.{tables_after, unmade_now, unmade_settled}
use Rattle.keep_writes.proofs.makings.make.Goals as goal

pub returns-in_err-settle-clause-stands : goal.returns-in_err-settle-clause-stands
returns-in_err-settle-clause-stands g c clean here o stands =
    err_stands (state g.S.Store c.args.conn.now) (state g.S.Store c.settle.new.conn) c.from_residual.result _ o
    c.from_residual.ensures.0 here stands (c.settle.ensures.kept clean)

pub returns-clause-stands : goal.returns-clause-stands
returns-clause-stands g c clean here o stands =
    let mid = state g.S.Store c.settle.new.conn in
    let early : HasCleanDisk mid = omega (arith, c.make_here.ensures.crash.clean) in
    let before = c.make_here.ensures.open clean here in
    let now = c.in_ok-settle.ensures.settled early before in
    let kept = (c.settle.ensures.kept early).committed before in (
      c.make_here.ensures.made clean now o (subst (λ (d : Database). StandsForOffice d o) (sym (now ∙ kept)) stands),
      on_err c.make_here.result _ _ (c.make_here.ensures.refused clean)
          (λ same. subst (λ (d : Database). StandsForOffice d o) (sym (same.committed here ∙ kept)) stands),
    )

pub returns-clause-left : goal.returns-clause-left
returns-clause-left g c clean foreign =
    let mid = state g.S.Store c.settle.new.conn in
    let early : HasCleanDisk mid = omega (arith, c.make_here.ensures.crash.clean) in
    kept_there (λ db. ¬ MayBeMade db) (state g.S.Store c.args.conn.now) mid (state g.S.Store c.make_here.new.conn)
    (c.make_here.ensures.open clean) (c.in_ok-settle.ensures.settled early) (c.settle.ensures.kept early)
    (c.make_here.ensures.left clean) foreign

pub returns-clause-crash : goal.returns-clause-crash
returns-clause-crash g c =
    same_survives (state g.S.Store c.args.conn.now) (state g.S.Store c.settle.new.conn)
    (state g.S.Store c.make_here.new.conn)
    (λ early here. c.in_ok-settle.ensures.settled early here) c.settle.ensures.kept c.settle.ensures.survives
    c.make_here.ensures.crash

pub returns-in_err-settle-clause-why : goal.returns-in_err-settle-clause-why
returns-in_err-settle-clause-why g c clean =
    err_handed c.from_residual.result c.in_err-settle.field-0.0 _ c.from_residual.ensures.1
    (unmade_now g.S.Store c.args.conn.now c.settle.new.conn _ (inl (c.in_err-settle.ensures.undo clean)))

pub returns-clause-why : goal.returns-clause-why
returns-clause-why g c clean =
    let mid = c.settle.new.conn in
    let early : HasCleanDisk (state g.S.Store mid) = omega (arith, c.make_here.ensures.crash.clean) in
    unmade_settled g.S.Store c.args.conn.now mid c.make_here.new.conn c.make_here.result
    (c.in_ok-settle.ensures.calm early) (c.settle.ensures.kept early) c.settle.ensures.survives
    (c.make_here.ensures.why clean (c.in_ok-settle.ensures.settled early))

pub returns-clause-there : goal.returns-clause-there
returns-clause-there g c clean has =
    let mid = state g.S.Store c.settle.new.conn in
    let early : HasCleanDisk mid = omega (arith, c.make_here.ensures.crash.clean) in
    kept_there HasVersion (state g.S.Store c.args.conn.now) mid (state g.S.Store c.make_here.new.conn)
    (c.make_here.ensures.open clean) (c.in_ok-settle.ensures.settled early) (c.settle.ensures.kept early)
    (c.make_here.ensures.there clean) has

pub returns-clause-rest : goal.returns-clause-rest
returns-clause-rest g c clean =
    let early : HasCleanDisk (state g.S.Store c.settle.new.conn) = omega (arith, c.make_here.ensures.crash.clean) in
    c.make_here.ensures.rest clean (c.in_ok-settle.ensures.settled early) (c.in_ok-settle.ensures.calm early)

pub returns-clause-ours : goal.returns-clause-ours
returns-clause-ours g c clean =
    let mid = state g.S.Store c.settle.new.conn in
    let early : HasCleanDisk mid = omega (arith, c.make_here.ensures.crash.clean) in
    let rest = c.make_here.ensures.rest clean (c.in_ok-settle.ensures.settled early)
    (c.in_ok-settle.ensures.calm early) in
    on_both c.make_here.result _ _ rest
    (λ h.
    let before = c.make_here.ensures.open clean h.is_open in
    let same = c.in_ok-settle.ensures.settled early before ∙ (c.settle.ensures.kept early).committed before in
    on_ok c.make_here.result _ _ (c.make_here.ensures.ours clean) (subst IsOurs same))

pub returns-clause-wrote : goal.returns-clause-wrote
returns-clause-wrote g c clean lacks =
    let mid = state g.S.Store c.settle.new.conn in
    let early : HasCleanDisk mid = omega (arith, c.make_here.ensures.crash.clean) in
    let rest = c.make_here.ensures.rest clean (c.in_ok-settle.ensures.settled early)
    (c.in_ok-settle.ensures.calm early) in
    on_both c.make_here.result _ _ rest
    (λ h.
    let before = c.make_here.ensures.open clean h.is_open in
    let same = c.in_ok-settle.ensures.settled early before ∙ (c.settle.ensures.kept early).committed before in
    on_ok c.make_here.result _ _
    (c.make_here.ensures.wrote clean (c.in_ok-settle.ensures.settled early) (subst LacksVersion (sym same) lacks))
    (tables_after g.S.Store c.args.conn.now c.settle.new.conn c.make_here.new.conn (c.settle.ensures.kept early)))

pub returns-clause-refused : goal.returns-clause-refused
returns-clause-refused g c clean =
    let mid = state g.S.Store c.settle.new.conn in
    let early : HasCleanDisk mid = omega (arith, c.make_here.ensures.crash.clean) in
    on_err c.make_here.result _ _ (c.make_here.ensures.refused clean)
    (kept_then (state g.S.Store c.args.conn.now) mid (state g.S.Store c.make_here.new.conn)
    (c.settle.ensures.kept early))

pub returns-clause-leaves : goal.returns-clause-leaves
returns-clause-leaves g c =
    tables_leave g.S.Store c.args.conn.now c.settle.new.conn c.make_here.new.conn
    (λ early here. c.in_ok-settle.ensures.settled early here) c.settle.ensures.kept c.settle.ensures.survives
    c.make_here.ensures.leaves
