use Rattle.std.proofs.Common.{◌≡◌, sym, subst, ◌∙◌, arith, inl, inr, refl}
use Rattle.sqlite.specs.Effect.{Database}
use Rattle.sqlite.specs.Held.{state}
use Rattle.sqlite.specs.State.{HasCleanDisk}
use Rattle.keep_tables.proofs.StepLaws.{kept_then}
use Rattle.sqlite.specs.Listing.{understood}
use Rattle.keep_tables.specs.Texts.{list_days}
use Rattle.keep_writes.specs.Growth.{Stood, IsUnderstood, SaysIf}
use Rattle.keep_writes.specs.Objects.{Lists, texts_of}
use Rattle.keep_writes.proofs.GrowLaws.{on_ok, on_err}
use Rattle.keep_writes.proofs.LeaveLaws.{listed_survives, listed_leaves}
use Rattle.keep_writes.proofs.CauseLaws.{err_handed}
use Rattle.keep_writes.proofs.UnmadeLaws.{settled_on, tables_after, unmade_now, unmade_then}
use Rattle.keep_writes.proofs.makings.grow_listed.Goals as goal

pub returns-clause-grown : goal.returns-clause-grown
returns-clause-grown g c clean o stood =
    let early : HasCleanDisk (state g.S.Store c.list_texts.new.conn) = omega (arith, c.grow.ensures.crash.clean) in
    c.grow.ensures.grown clean o
    (subst (λ (d : Database). Stood c.args.is_old d o) (sym (c.in_ok-texts.ensures.same early).0.now_is) stood)

pub returns-clause-open : goal.returns-clause-open
returns-clause-open g c clean here =
    let early : HasCleanDisk (state g.S.Store c.list_texts.new.conn) = omega (arith, c.grow.ensures.crash.clean) in
    (c.list_texts.ensures.kept early).was_open (c.grow.ensures.open clean here)

pub returns-clause-refused : goal.returns-clause-refused
returns-clause-refused g c clean =
    let early : HasCleanDisk (state g.S.Store c.list_texts.new.conn) = omega (arith, c.grow.ensures.crash.clean) in
    on_err c.grow.result _ _ (c.grow.ensures.refused clean)
    (kept_then (state g.S.Store c.args.conn.now) (state g.S.Store c.list_texts.new.conn)
    (state g.S.Store c.grow.new.conn) (c.list_texts.ensures.kept early))

pub returns-clause-left : goal.returns-clause-left
returns-clause-left g c clean foreign =
    let early : HasCleanDisk (state g.S.Store c.list_texts.new.conn) = omega (arith, c.grow.ensures.crash.clean) in
    absurd (foreign
    (subst (Lists (state g.S.Store c.args.conn.now).now)
    (sym c.deref.ensures.value ∙ c.are_texts.ensures.0 c.if-not-are_texts.false)
    (c.in_ok-texts.ensures.lists early)))

pub returns-clause-crash : goal.returns-clause-crash
returns-clause-crash g c =
    listed_survives (state g.S.Store c.args.conn.now) (state g.S.Store c.list_texts.new.conn)
    (state g.S.Store c.grow.new.conn) c.args.is_old c.in_ok-texts.ensures.same
    (λ early. subst (Lists (state g.S.Store c.args.conn.now).now)
    (sym c.deref.ensures.value ∙ c.are_texts.ensures.0 c.if-not-are_texts.false)
    (c.in_ok-texts.ensures.lists early)) c.list_texts.ensures.survives c.grow.ensures.crash

pub returns-in_err-texts-clause-why : goal.returns-in_err-texts-clause-why
returns-in_err-texts-clause-why g c clean settled says =
    err_handed c.from_residual.result c.in_err-texts.field-0.0 _ c.from_residual.ensures.1
    (inr (unmade_now g.S.Store c.args.conn.now c.list_texts.new.conn _
    (inr (inr (inl (settled, c.in_err-texts.ensures.refused clean))))))

pub returns-then-not-are_texts-clause-why : goal.returns-then-not-are_texts-clause-why
returns-then-not-are_texts-clause-why g c clean settled says =
    let here = (c.in_ok-texts.ensures.same clean).0.was_open in
    let is = settled here in
    let other = λ (same : c.in_ok-texts.texts.items ≡ texts_of c.args.is_old).
    absurd (let wrong = sym c.if-not-are_texts.true ∙ c.are_texts.ensures.1 (c.deref.ensures.value ∙ same) in cc) in
    inr (unmade_now g.S.Store c.args.conn.now c.list_texts.new.conn _
    (inr (inr (inr (inl (
      here,
      c.args.is_old,
      subst (λ (d : Database). SaysIf c.args.is_old (IsUnderstood (understood d.schema list_days))) is says,
      c.in_ok-texts.texts.items,
      subst (λ (d : Database). Lists d c.in_ok-texts.texts.items) is (c.in_ok-texts.ensures.lists clean),
      other,
      refl,
    ))))))

pub returns-clause-why : goal.returns-clause-why
returns-clause-why g c clean settled says =
    let early : HasCleanDisk (state g.S.Store c.list_texts.new.conn) = omega (arith, c.grow.ensures.crash.clean) in
    let same = (c.in_ok-texts.ensures.same early).0 in
    unmade_then g.S.Store c.args.conn.now c.list_texts.new.conn c.grow.new.conn c.grow.result
    (c.in_ok-texts.ensures.same early).0.mode (c.list_texts.ensures.kept early) c.list_texts.ensures.survives
    (c.grow.ensures.why clean
    (settled_on (state g.S.Store c.args.conn.now) (state g.S.Store c.list_texts.new.conn) settled same)
    (subst (λ (d : Database). SaysIf c.args.is_old (IsUnderstood (understood d.schema list_days)))
    (sym same.now_is) says)
    (subst (λ (d : Database). Lists d (texts_of c.args.is_old)) (sym same.now_is)
    (subst (Lists (state g.S.Store c.args.conn.now).now)
    (sym c.deref.ensures.value ∙ c.are_texts.ensures.0 c.if-not-are_texts.false)
    (c.in_ok-texts.ensures.lists early))))

pub returns-clause-listed : goal.returns-clause-listed
returns-clause-listed g c clean =
    let early : HasCleanDisk (state g.S.Store c.list_texts.new.conn) = omega (arith, c.grow.ensures.crash.clean) in
    on_ok c.grow.result _ _ (c.grow.ensures.rest clean)
    (λ _. subst (Lists (state g.S.Store c.args.conn.now).now)
    (sym c.deref.ensures.value ∙ c.are_texts.ensures.0 c.if-not-are_texts.false)
    (c.in_ok-texts.ensures.lists early))

pub returns-clause-wrote : goal.returns-clause-wrote
returns-clause-wrote g c clean settled says =
    let early : HasCleanDisk (state g.S.Store c.list_texts.new.conn) = omega (arith, c.grow.ensures.crash.clean) in
    let same = (c.in_ok-texts.ensures.same early).0 in
    on_ok c.grow.result _ _
    (c.grow.ensures.wrote clean
    (settled_on (state g.S.Store c.args.conn.now) (state g.S.Store c.list_texts.new.conn) settled same)
    (subst (λ (d : Database). SaysIf c.args.is_old (IsUnderstood (understood d.schema list_days)))
    (sym same.now_is) says)
    (subst (λ (d : Database). Lists d (texts_of c.args.is_old)) (sym same.now_is)
    (subst (Lists (state g.S.Store c.args.conn.now).now)
    (sym c.deref.ensures.value ∙ c.are_texts.ensures.0 c.if-not-are_texts.false)
    (c.in_ok-texts.ensures.lists early))))
    (tables_after g.S.Store c.args.conn.now c.list_texts.new.conn c.grow.new.conn (c.list_texts.ensures.kept early))

pub returns-clause-leaves : goal.returns-clause-leaves
returns-clause-leaves g c =
    listed_leaves g.S.Store c.args.is_old c.args.conn.now c.list_texts.new.conn c.grow.new.conn
    c.in_ok-texts.ensures.same
    (λ early. subst (Lists (state g.S.Store c.args.conn.now).now)
    (sym c.deref.ensures.value ∙ c.are_texts.ensures.0 c.if-not-are_texts.false)
    (c.in_ok-texts.ensures.lists early)) c.list_texts.ensures.survives c.grow.ensures.leaves
