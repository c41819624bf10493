use Rattle.std.proofs.Common.{sym, subst, arith, inl, inr, refl}
use Rattle.sqlite.specs.Effect.{Database}
use Rattle.sqlite.specs.Held.{state}
use Rattle.sqlite.specs.State.{HasCleanDisk}
use Rattle.keep_tables.proofs.StepLaws.{kept_then}
use Rattle.sqlite.specs.Listing.{understood}
use Rattle.keep_tables.specs.Texts.{list_days}
use Rattle.keep_writes.specs.Growth.{Stood, IsUnderstood, SaysIf}
use Rattle.keep_writes.specs.Objects.{Lists, texts_of}
use Rattle.keep_writes.proofs.GrowLaws.{on_ok, on_err, stood_by}
use Rattle.keep_writes.proofs.LeaveLaws.{here_survives, here_leaves}
use Rattle.keep_writes.proofs.CauseLaws.{err_handed}
use Rattle.keep_writes.proofs.UnmadeLaws.{settled_on, tables_after, unmade_now, unmade_then}
use Rattle.keep_writes.proofs.makings.grow_by.Goals as goal

pub returns-clause-grown : goal.returns-clause-grown
returns-clause-grown g c clean lacks o stands =
    let old = state g.S.Store c.args.conn.now in
    let early : HasCleanDisk (state g.S.Store c.is_there.new.conn) = omega (arith, c.grow_listed.ensures.crash.clean) in
    let is_old = c.in_ok-is_old.is_old in
    c.grow_listed.ensures.grown clean o
    (subst (λ (d : Database). Stood is_old d o) (sym (c.in_ok-is_old.ensures.same early).0.now_is)
    (stood_by is_old old.now o stands lacks (c.in_ok-is_old.ensures.says early)))

pub returns-clause-open : goal.returns-clause-open
returns-clause-open g c clean here =
    let early : HasCleanDisk (state g.S.Store c.is_there.new.conn) = omega (arith, c.grow_listed.ensures.crash.clean) in
    (c.is_there.ensures.kept early).was_open (c.grow_listed.ensures.open clean here)

pub returns-clause-refused : goal.returns-clause-refused
returns-clause-refused g c clean =
    let old = state g.S.Store c.args.conn.now in
    let mid = state g.S.Store c.is_there.new.conn in
    let early : HasCleanDisk mid = omega (arith, c.grow_listed.ensures.crash.clean) in
    on_err c.grow_listed.result _ _ (c.grow_listed.ensures.refused clean)
    (kept_then old mid (state g.S.Store c.grow_listed.new.conn) (c.is_there.ensures.kept early))

pub returns-clause-left : goal.returns-clause-left
returns-clause-left g c clean foreign =
    let old = state g.S.Store c.args.conn.now in
    let mid = state g.S.Store c.is_there.new.conn in
    let early : HasCleanDisk mid = omega (arith, c.grow_listed.ensures.crash.clean) in
    let is_old = c.in_ok-is_old.is_old in
    kept_then old mid (state g.S.Store c.grow_listed.new.conn) (c.is_there.ensures.kept early)
    (c.grow_listed.ensures.left clean
    (λ lists. foreign (
      is_old,
      subst (λ (d : Database). Lists d (texts_of is_old))
          (c.in_ok-is_old.ensures.same early).0.now_is lists,
    )))

pub returns-clause-crash : goal.returns-clause-crash
returns-clause-crash g c =
    here_survives (state g.S.Store c.args.conn.now) (state g.S.Store c.is_there.new.conn)
    (state g.S.Store c.grow_listed.new.conn) c.in_ok-is_old.is_old
    c.in_ok-is_old.ensures.same c.in_ok-is_old.ensures.says c.is_there.ensures.survives c.grow_listed.ensures.crash

pub returns-in_err-is_old-clause-why : goal.returns-in_err-is_old-clause-why
returns-in_err-is_old-clause-why g c clean settled =
    let refused = c.in_err-is_old.ensures.refused clean in
    err_handed c.from_residual.result c.in_err-is_old.field-0.0 _ c.from_residual.ensures.1
    (inr (unmade_now g.S.Store c.args.conn.now c.is_there.new.conn _
    (inr (inl (list_days, (1, refl), refused.0, refused.1, settled)))))

pub returns-clause-why : goal.returns-clause-why
returns-clause-why g c clean settled =
    let early : HasCleanDisk (state g.S.Store c.is_there.new.conn) = omega (arith, c.grow_listed.ensures.crash.clean) in
    let same = (c.in_ok-is_old.ensures.same early).0 in
    unmade_then g.S.Store c.args.conn.now c.is_there.new.conn c.grow_listed.new.conn c.grow_listed.result same.mode
    (c.is_there.ensures.kept early) c.is_there.ensures.survives
    (c.grow_listed.ensures.why clean (settled_on (state g.S.Store c.args.conn.now) (state g.S.Store c.is_there.new.conn)
    settled same)
    (subst (λ (d : Database). SaysIf c.in_ok-is_old.is_old (IsUnderstood (understood d.schema list_days)))
    (sym same.now_is) (c.in_ok-is_old.ensures.says early)))

pub returns-clause-ours : goal.returns-clause-ours
returns-clause-ours g c clean =
    let early : HasCleanDisk (state g.S.Store c.is_there.new.conn) = omega (arith, c.grow_listed.ensures.crash.clean) in
    let is_old = c.in_ok-is_old.is_old in
    on_ok c.grow_listed.result _ _ (c.grow_listed.ensures.listed clean)
    (λ h. (is_old, subst (λ (d : Database). Lists d (texts_of is_old)) (c.in_ok-is_old.ensures.same early).0.now_is h))

pub returns-clause-wrote : goal.returns-clause-wrote
returns-clause-wrote g c clean settled =
    let early : HasCleanDisk (state g.S.Store c.is_there.new.conn) = omega (arith, c.grow_listed.ensures.crash.clean) in
    let same = (c.in_ok-is_old.ensures.same early).0 in
    on_ok c.grow_listed.result _ _
    (c.grow_listed.ensures.wrote clean
    (settled_on (state g.S.Store c.args.conn.now) (state g.S.Store c.is_there.new.conn) settled same)
    (subst (λ (d : Database). SaysIf c.in_ok-is_old.is_old (IsUnderstood (understood d.schema list_days)))
    (sym same.now_is) (c.in_ok-is_old.ensures.says early)))
    (tables_after g.S.Store c.args.conn.now c.is_there.new.conn c.grow_listed.new.conn
    (c.is_there.ensures.kept early))

pub returns-clause-leaves : goal.returns-clause-leaves
returns-clause-leaves g c =
    here_leaves g.S.Store c.in_ok-is_old.is_old c.args.conn.now c.is_there.new.conn c.grow_listed.new.conn
    c.in_ok-is_old.ensures.same c.in_ok-is_old.ensures.says c.is_there.ensures.survives c.grow_listed.ensures.leaves
