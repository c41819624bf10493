use Rattle.std.proofs.Common.{[], List, ◌∙◌, inl, inr, sym, subst, subst₂, IsTrue, arith}
use Rattle.sqlite.specs.Effect.{Database}
use Rattle.sqlite.specs.Held.{state}
use Rattle.sqlite.specs.State.{HasCleanDisk}
use Rattle.keep_tables.specs.Stands.{contents_of}
use Rattle.keep_tables.proofs.DayReadLaws.{days_shown}
use Rattle.keep_writes.specs.Growth.{IsUnsealed}
use Rattle.keep_writes.proofs.CauseLaws.{err_handed, err_then}
use Rattle.sqlite_value.specs.Order.{Row}
use Rattle.road_digest.specs.declared.digest.Digest.{Digest}
use Rattle.keep_writes.specs.Unmade.{SealsEach, RefusesSeals, EndsTables, EndsInside}
use Rattle.keep_writes.proofs.GrowLaws.{on_ok}
use Rattle.keep_writes.proofs.UnmadeRuns.{step_now, days_sealed, seals_end}
use Rattle.keep_writes.proofs.RunLaws.{all_none}
use Rattle.keep_writes.proofs.seals.seal_tables.Goals as goal

pub returns-clause-seals : goal.returns-clause-seals
returns-clause-seals g c clean inside o unsealed =
    let old = state g.S.Store c.args.tx.now.conn.now in
    let mid = state g.S.Store c.all_days.new.tx.conn.now in
    let early : HasCleanDisk mid = omega (arith, c.seal_days.ensures.survives.clean) in
    let same = c.in_ok-days.ensures.same early in
    let listed = days_shown [] (record (contents_of o) { sealed = [] }) old mid c.in_ok-days.days.items unsealed.tables
    unsealed.sound.days_rise (c.in_ok-days.ensures.shown early) in
    let still = subst (λ (d : Database). IsUnsealed d o) (sym same.0.now_is) unsealed in
    let within : IsTrue mid.in_transaction = same.0.mode ∙ inside in
    c.seal_days.ensures.seals clean within o still c.in_ok-seal.ensures.sealed (c.deref.ensures.value ∙ listed)

pub returns-in_err-seal-clause-refused : goal.returns-in_err-seal-clause-refused
returns-in_err-seal-clause-refused g c clean inside =
    let old = c.args.tx.now.conn.now in
    err_handed c.from_residual.result c.in_err-seal.field-0.0 _ c.from_residual.ensures.1
    (step_now g.S.Store (EndsTables g.S.Store []) old old _ inside
    (inr (inl (all_none g.S.Store old, inl c.in_err-seal.ensures.memory))))

pub returns-in_err-days-clause-refused : goal.returns-in_err-days-clause-refused
returns-in_err-days-clause-refused g c clean inside =
    let old = c.args.tx.now.conn.now in
    let mid = c.all_days.new.tx.conn.now in
    err_handed c.from_residual-in_err-days.result c.in_err-days.field-0.0 _ c.from_residual-in_err-days.ensures.1
    (step_now g.S.Store (EndsTables g.S.Store []) old mid _ inside
    (inr (inl (all_none g.S.Store old, inr (c.in_err-days.ensures.refused clean inside)))))

pub returns-clause-refused : goal.returns-clause-refused
returns-clause-refused g c clean inside =
    let old = c.args.tx.now.conn.now in
    let mid = c.all_days.new.tx.conn.now in
    let new = c.seal_days.new.tx.conn.now in
    let rows = c.in_ok-days.days.items in
    let early : HasCleanDisk (state g.S.Store mid) = omega (arith, c.seal_days.ensures.survives.clean) in
    let within : IsTrue (state g.S.Store mid).in_transaction = (c.in_ok-days.ensures.same early).0.mode ∙ inside in
    err_then c.seal_days.result _ _ (c.seal_days.ensures.refused clean within)
    (λ e h. seals_end g.S.Store rows old mid new e (c.in_ok-days.ensures.shown early)
    (c.in_ok-days.ensures.kept early) c.all_days.ensures.survives
    (subst₂ (λ (d : Digest) (l : List Row). EndsInside g.S.Store (RefusesSeals g.S.Store d l) mid new e)
    c.in_ok-seal.ensures.sealed c.deref.ensures.value h))

pub returns-clause-texts : goal.returns-clause-texts
returns-clause-texts g c clean inside =
    let old = c.args.tx.now.conn.now in
    let mid = c.all_days.new.tx.conn.now in
    let new = c.seal_days.new.tx.conn.now in
    let rows = c.in_ok-days.days.items in
    let early : HasCleanDisk (state g.S.Store mid) = omega (arith, c.seal_days.ensures.survives.clean) in
    let within : IsTrue (state g.S.Store mid).in_transaction = (c.in_ok-days.ensures.same early).0.mode ∙ inside in
    on_ok c.seal_days.result _ _ (c.seal_days.ensures.texts clean within)
    (λ ran. days_sealed g.S.Store rows old mid new (c.in_ok-days.ensures.shown early)
    (subst₂ (λ (d : Digest) (l : List Row). SealsEach g.S.Store d l mid new)
    c.in_ok-seal.ensures.sealed c.deref.ensures.value ran))
