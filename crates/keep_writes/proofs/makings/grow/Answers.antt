use Rattle.std.proofs.Common.{◌≡◌, inr, refl, sym, subst, ◌∙◌, rules, arith}
use Rattle.sqlite.specs.Held.{state}
use Rattle.sqlite.specs.State.{HasCleanDisk, Survives}
use Rattle.keep_writes.specs.Growth.{CommitsGrown, IsAtRest}
use Rattle.keep_writes.proofs.GrowLaws.{on_ok}
use Rattle.keep_writes.proofs.LeaveLaws.{grown_survives, grown_leaves}
use Rattle.sqlite.specs.Steps.{FailsToCommit}
use Rattle.keep_writes.specs.Unmade.{CommitsTables, IsUnmade, LeavesGrown}
use Rattle.keep_writes.proofs.CauseLaws.{err_then, err_handed}
use Rattle.keep_writes.proofs.UnmadeLaws.{commit_unmade, tables_begun, unmade_begun}
use Rattle.keep_writes.proofs.makings.grow.Goals as goal

pub returns-clause-crash : goal.returns-clause-crash
returns-clause-crash g c =
    let old = c.args.conn.now in
    let last = c.write_tables.new.tx.conn.now in
    let end = c.commit.new.self.0 in
    let begun = c.transaction-tx.ensures.begun in
    let whole = grown_survives g.S.Store old (state g.S.Store last) (state g.S.Store end) c.args.is_old
    (rw begun at c.write_tables.ensures.survives) c.commit.ensures.survives
    (λ late. (rw begun at (c.in_ok-write_tables.ensures.inside late)) refl)
    (λ late o stood. (rw begun at (c.in_ok-write_tables.ensures.wrote late)) refl o stood) in
    let same : end ≡ c.conn-2-1.given.0 = search rules in
    subst (λ h. Survives (state g.S.Store old) (state g.S.Store h) (CommitsGrown c.args.is_old (state g.S.Store old)))
    same whole

pub returns-in_err-write_tables-clause-why : goal.returns-in_err-write_tables-clause-why
returns-in_err-write_tables-clause-why g c clean settled says lists =
    let last = c.write_tables.new.tx.conn.now in
    let end = c.drop-tx.new.self.0 in
    let begun = c.transaction-tx.ensures.begun in
    let same : end ≡ c.conn-1.given.0 = search rules in
    let late : HasCleanDisk (state g.S.Store end) = subst (λ h. HasCleanDisk (state g.S.Store h)) (sym same) clean in
    let early : HasCleanDisk (state g.S.Store last) = omega (arith, late, c.drop-tx.ensures.survives.clean) in
    err_handed c.from_residual.result c.in_err-write_tables.field-0.0 _ c.from_residual.ensures.1
    (inr
    (subst (λ k. IsUnmade g.S.Store c.args.conn.now k c.in_err-write_tables.field-0.0) same
    (unmade_begun g.S.Store c.args.is_old c.args.conn.now last end _ settled says lists
    ((rw begun at (c.in_err-write_tables.ensures.refused early)) refl) c.drop-tx.ensures.survives)))

pub returns-clause-why : goal.returns-clause-why
returns-clause-why g c clean settled says lists =
    let last = c.write_tables.new.tx.conn.now in
    let end = c.commit.new.self.0 in
    let begun = c.transaction-tx.ensures.begun in
    let same : end ≡ c.conn-2-1.given.0 = search rules in
    let late : HasCleanDisk (state g.S.Store end) = subst (λ h. HasCleanDisk (state g.S.Store h)) (sym same) clean in
    let early : HasCleanDisk (state g.S.Store last) = omega (arith, late, c.commit.ensures.survives.clean) in
    err_then c.commit.result (FailsToCommit (state g.S.Store last) (state g.S.Store end)) _ (c.commit.ensures.err late)
    (λ e h. inr
    (subst (λ k. IsUnmade g.S.Store c.args.conn.now k e) same
    (commit_unmade g.S.Store c.args.is_old c.args.conn.now last end e settled says lists
    ((rw begun at (c.in_ok-write_tables.ensures.texts early)) refl)
    ((rw begun at (c.in_ok-write_tables.ensures.inside early)) refl)
    (rw begun at c.write_tables.ensures.survives) h)))

pub returns-clause-wrote : goal.returns-clause-wrote
returns-clause-wrote g c clean settled says lists =
    let last = c.write_tables.new.tx.conn.now in
    let end = c.commit.new.self.0 in
    let same : end ≡ c.conn-2-1.given.0 = search rules in
    let late : HasCleanDisk (state g.S.Store end) = subst (λ h. HasCleanDisk (state g.S.Store h)) (sym same) clean in
    let begun = c.transaction-tx.ensures.begun in
    let early : HasCleanDisk (state g.S.Store last) = omega (arith, late, c.commit.ensures.survives.clean) in
    on_ok c.commit.result _ _ (c.commit.ensures.ok late)
    (λ h. subst (λ k. CommitsTables g.S.Store c.args.conn.now k) same
    (tables_begun g.S.Store c.args.is_old c.args.conn.now last end settled says lists
    ((rw begun at (c.in_ok-write_tables.ensures.texts early)) refl) h.1.committed_is))

pub returns-clause-rest : goal.returns-clause-rest
returns-clause-rest g c clean =
    let end = c.commit.new.self.0 in
    let same : end ≡ c.conn-2-1.given.0 = search rules in
    let late : HasCleanDisk (state g.S.Store end) = subst (λ h. HasCleanDisk (state g.S.Store h)) (sym same) clean in
    on_ok c.commit.result _ _ (c.commit.ensures.ok late)
    (λ h. subst (λ k. IsAtRest (state g.S.Store k)) same
    (record { is_open = h.1.is_open; seen = h.1.now_is ∙ sym h.1.committed_is; calm = h.1.mode }))

pub returns-clause-leaves : goal.returns-clause-leaves
returns-clause-leaves g c =
    let old = c.args.conn.now in
    let last = c.write_tables.new.tx.conn.now in
    let end = c.commit.new.self.0 in
    let begun = c.transaction-tx.ensures.begun in
    let same : end ≡ c.conn-2-1.given.0 = search rules in
    subst (λ k. Survives (state g.S.Store old) (state g.S.Store k) (LeavesGrown g.S.Store c.args.is_old old)) same
    (grown_leaves g.S.Store c.args.is_old old last end (rw begun at c.write_tables.ensures.survives)
    c.commit.ensures.survives (λ late. (rw begun at (c.in_ok-write_tables.ensures.texts late)) refl))
