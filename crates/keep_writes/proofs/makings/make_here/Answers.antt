use Rattle.std.proofs.Common.{Bool, sym, subst, ◌∙◌, arith, inl, inr, refl}
use Rattle.sqlite.specs.Effect.{Database}
use Rattle.sqlite.specs.Held.{state}
use Rattle.sqlite.specs.Listing.{understood}
use Rattle.sqlite.specs.State.{HasCleanDisk}
use Rattle.keep_tables.specs.Stands.{HasOffice, StandsForOffice}
use Rattle.keep_tables.specs.Texts.{find_version}
use Rattle.keep_writes.specs.Growth.{IsUnderstood, SaysIf, LacksVersion}
use Rattle.keep_tables.proofs.StepLaws.{kept_then}
use Rattle.keep_writes.specs.Objects.{MayBeMade}
use Rattle.keep_writes.proofs.GrowLaws.{on_ok, six_there}
use Rattle.keep_writes.proofs.LeaveLaws.{open_survives, open_leaves}
use Rattle.keep_writes.proofs.CauseLaws.{err_handed}
use Rattle.keep_writes.proofs.UnmadeLaws.{settled_on, tables_after, unmade_now, unmade_then}
use Rattle.keep_writes.proofs.makings.make_here.Goals as goal

pub returns-then-branch-clause-made : goal.returns-then-branch-clause-made
returns-then-branch-clause-made g c clean same o stands =
    let old = state g.S.Store c.args.conn.now in
    let said = subst (λ (b : Bool). SaysIf b (IsUnderstood (understood old.now.schema find_version))) c.if-branch.true
    (c.in_ok-is_there.ensures.says clean) in
    subst (λ (d : Database). HasOffice d o) (sym ((c.in_ok-is_there.ensures.same clean).0.committed_is ∙ sym same))
    (six_there old.now o stands said)

pub returns-clause-made : goal.returns-clause-made
returns-clause-made g c clean same o stands =
    let old = state g.S.Store c.args.conn.now in
    let early : HasCleanDisk (state g.S.Store c.is_there.new.conn) = omega (arith, c.grow_by.ensures.crash.clean) in
    let lacks = subst (λ (b : Bool). SaysIf b (IsUnderstood (understood old.now.schema find_version))) c.if-branch.false
    (c.in_ok-is_there.ensures.says early) in
    let now = (c.in_ok-is_there.ensures.same early).0.now_is in
    c.grow_by.ensures.grown clean (subst LacksVersion (sym now) lacks) o
    (subst (λ (d : Database). StandsForOffice d o) (sym now) stands)

pub returns-clause-left : goal.returns-clause-left
returns-clause-left g c clean foreign =
    let old = state g.S.Store c.args.conn.now in
    let mid = state g.S.Store c.is_there.new.conn in
    let early : HasCleanDisk mid = omega (arith, c.grow_by.ensures.crash.clean) in
    kept_then old mid (state g.S.Store c.grow_by.new.conn) (c.is_there.ensures.kept early)
    (c.grow_by.ensures.left clean
    (λ made. foreign (subst MayBeMade (c.in_ok-is_there.ensures.same early).0.now_is made)))

pub returns-clause-crash : goal.returns-clause-crash
returns-clause-crash g c =
    let old = state g.S.Store c.args.conn.now in
    open_survives old (state g.S.Store c.is_there.new.conn) (state g.S.Store c.grow_by.new.conn)
    c.in_ok-is_there.ensures.same
    (λ early. subst (λ (b : Bool). SaysIf b (IsUnderstood (understood old.now.schema find_version))) c.if-branch.false
    (c.in_ok-is_there.ensures.says early)) c.is_there.ensures.survives c.grow_by.ensures.crash

pub returns-in_err-is_there-clause-why : goal.returns-in_err-is_there-clause-why
returns-in_err-is_there-clause-why g c clean settled =
    let refused = c.in_err-is_there.ensures.refused clean in
    err_handed c.from_residual.result c.in_err-is_there.field-0.0 _ c.from_residual.ensures.1
    (inr (unmade_now g.S.Store c.args.conn.now c.is_there.new.conn _
    (inr (inl (find_version, (0, refl), refused.0, refused.1, settled)))))

pub returns-clause-why : goal.returns-clause-why
returns-clause-why g c clean settled =
    let early : HasCleanDisk (state g.S.Store c.is_there.new.conn) = omega (arith, c.grow_by.ensures.crash.clean) in
    unmade_then g.S.Store c.args.conn.now c.is_there.new.conn c.grow_by.new.conn c.grow_by.result
    (c.in_ok-is_there.ensures.same early).0.mode (c.is_there.ensures.kept early) c.is_there.ensures.survives
    (c.grow_by.ensures.why clean (settled_on (state g.S.Store c.args.conn.now) (state g.S.Store c.is_there.new.conn)
    settled (c.in_ok-is_there.ensures.same early).0))

pub returns-clause-there : goal.returns-clause-there
returns-clause-there g c clean has =
    let old = state g.S.Store c.args.conn.now in
    let early : HasCleanDisk (state g.S.Store c.is_there.new.conn) = omega (arith, c.grow_by.ensures.crash.clean) in
    let lacks = subst (λ (b : Bool). SaysIf b (IsUnderstood (understood old.now.schema find_version))) c.if-branch.false
    (c.in_ok-is_there.ensures.says early) in
    absurd (lacks has)

pub returns-then-branch-clause-wrote : goal.returns-then-branch-clause-wrote
returns-then-branch-clause-wrote g c clean settled lacks =
    let old = state g.S.Store c.args.conn.now in
    let said = subst (λ (b : Bool). SaysIf b (IsUnderstood (understood old.now.schema find_version))) c.if-branch.true
    (c.in_ok-is_there.ensures.says clean) in
    absurd (lacks said)

pub returns-then-branch-clause-ours : goal.returns-then-branch-clause-ours
returns-then-branch-clause-ours g c clean =
    let old = state g.S.Store c.args.conn.now in
    inl
    (subst (λ (b : Bool). SaysIf b (IsUnderstood (understood old.now.schema find_version))) c.if-branch.true
    (c.in_ok-is_there.ensures.says clean))

pub returns-clause-ours : goal.returns-clause-ours
returns-clause-ours g c clean =
    let early : HasCleanDisk (state g.S.Store c.is_there.new.conn) = omega (arith, c.grow_by.ensures.crash.clean) in
    on_ok c.grow_by.result _ _ (c.grow_by.ensures.ours clean)
    (λ h. inr (subst MayBeMade (c.in_ok-is_there.ensures.same early).0.now_is h))

pub returns-then-branch-clause-rest : goal.returns-then-branch-clause-rest
returns-then-branch-clause-rest g c clean settled calm =
    let same = (c.in_ok-is_there.ensures.same clean).0 in
    record {
      is_open = same.is_open;
      seen = settled_on (state g.S.Store c.args.conn.now) (state g.S.Store c.is_there.new.conn) settled same same.is_open;
      calm = same.mode ∙ calm;
    }

pub returns-clause-wrote : goal.returns-clause-wrote
returns-clause-wrote g c clean settled lacks =
    let early : HasCleanDisk (state g.S.Store c.is_there.new.conn) = omega (arith, c.grow_by.ensures.crash.clean) in
    let same = (c.in_ok-is_there.ensures.same early).0 in
    on_ok c.grow_by.result _ _
    (c.grow_by.ensures.wrote clean
    (settled_on (state g.S.Store c.args.conn.now) (state g.S.Store c.is_there.new.conn) settled same))
    (tables_after g.S.Store c.args.conn.now c.is_there.new.conn c.grow_by.new.conn (c.is_there.ensures.kept early))

pub returns-clause-leaves : goal.returns-clause-leaves
returns-clause-leaves g c =
    let old = state g.S.Store c.args.conn.now in
    open_leaves g.S.Store c.args.conn.now c.is_there.new.conn c.grow_by.new.conn c.in_ok-is_there.ensures.same
    (λ early. subst (λ (b : Bool). SaysIf b (IsUnderstood (understood old.now.schema find_version))) c.if-branch.false
    (c.in_ok-is_there.ensures.says early)) c.is_there.ensures.survives c.grow_by.ensures.leaves
