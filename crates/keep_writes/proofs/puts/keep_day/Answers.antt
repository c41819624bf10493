use Rattle.std.proofs.Common.{◌≡◌, refl, sym, subst, rules, inl, inr, arith, true, IsTrue}
use Rattle.sqlite.specs.Held.{state}
use Rattle.sqlite.specs.State.{HasCleanDisk, Survives}
use Rattle.keep_office.specs.Kept.{IsLater, with_day}
use Rattle.keep_tables.specs.Steps.{CommitsNow}
use Rattle.keep_tables.proofs.CrashLaws.{commit_survives}
use Rattle.sqlite.specs.Steps.{FailsToCommit}
use Rattle.keep_writes.specs.Causes.{RefusedOf, WritesSome}
use Rattle.keep_writes.specs.Writes.{day_texts}
use Rattle.keep_writes.specs.Runs.{CommitsRun, LeavesNow}
use Rattle.keep_writes.proofs.RunLaws.{commits_begun, commit_leaves}
use Rattle.keep_writes.proofs.CauseLaws.{err_then, err_handed, on_then, commit_refused}
use Rattle.keep_writes.proofs.CauseLaws.{refused_begun}
use Rattle.keep_writes.proofs.puts.keep_day.Goals as goal

pub returns-in_err-write_day-clause-because : goal.returns-in_err-write_day-clause-because
returns-in_err-write_day-clause-because g c clean settled =
    let last = c.write_day.new.tx.conn.now in
    let end = c.drop-tx.new.self.0 in
    let begun = c.transaction-tx.ensures.begun in
    let same : end ≡ c.conn-1.given.0 = search rules in
    let late : HasCleanDisk (state g.S.Store end) = subst (λ h. HasCleanDisk (state g.S.Store h)) (sym same) clean in
    let early : HasCleanDisk (state g.S.Store last) = omega (arith, late, c.drop-tx.ensures.survives.clean) in
    err_handed c.from_residual.result c.in_err-write_day.field-0.0 _ c.from_residual.ensures.1
    (inr
    (subst (λ k. RefusedOf g.S.Store (day_texts c.args.kept.now c.args.rows.now) c.args.conn.now k c.in_err-write_day.field-0.0) same
    (refused_begun g.S.Store c.args.conn.now last end _ settled
    ((rw begun at (c.in_err-write_day.ensures.refused early)) refl) c.drop-tx.ensures.survives)))

pub returns-clause-because : goal.returns-clause-because
returns-clause-because g c clean settled =
    let last = c.write_day.new.tx.conn.now in
    let end = c.commit.new.self.0 in
    let begun = c.transaction-tx.ensures.begun in
    let same : end ≡ c.conn-2-1.given.0 = search rules in
    let late : HasCleanDisk (state g.S.Store end) = subst (λ h. HasCleanDisk (state g.S.Store h)) (sym same) clean in
    let early : HasCleanDisk (state g.S.Store last) = omega (arith, late, c.commit.ensures.survives.clean) in
    let some : WritesSome (day_texts c.args.kept.now c.args.rows.now) =
    record { text = _; rest = _; is = refl } in
    err_then c.commit.result (FailsToCommit (state g.S.Store last) (state g.S.Store end)) _ (c.commit.ensures.err late)
    (λ e h. inr
    (subst (λ k. RefusedOf g.S.Store (day_texts c.args.kept.now c.args.rows.now) c.args.conn.now k e) same
    (commit_refused g.S.Store (day_texts c.args.kept.now c.args.rows.now) some c.args.conn.now last end e settled
    ((rw begun at (c.in_ok-write_day.ensures.ran early)) refl)
    ((rw begun at (c.in_ok-write_day.ensures.inside early)) refl)
    (rw begun at c.write_day.ensures.survives) h)))

pub returns-clause-open : goal.returns-clause-open
returns-clause-open g c clean =
    let last = c.write_day.new.tx.conn.now in
    let end = c.commit.new.self.0 in
    let begun = c.transaction-tx.ensures.begun in
    let same : end ≡ c.conn-2-1.given.0 = search rules in
    let late : HasCleanDisk (state g.S.Store end) = subst (λ h. HasCleanDisk (state g.S.Store h)) (sym same) clean in
    let early : HasCleanDisk (state g.S.Store last) = omega (arith, late, c.commit.ensures.survives.clean) in
    on_then c.commit.result _ _ (c.commit.ensures.ok late)
    (λ h. (
      ((rw begun at (c.in_ok-write_day.ensures.inside early)) refl).was_open,
      subst (λ k. IsTrue (state g.S.Store k).is_open) same h.1.is_open,
    ))

pub returns-clause-crash : goal.returns-clause-crash
returns-clause-crash g c =
    let old = c.args.conn.now in
    let last = c.write_day.new.tx.conn.now in
    let end = c.commit.new.self.0 in
    let begun = c.transaction-tx.ensures.begun in
    let next = with_day c.args.kept.now c.args.rows.now in
    let whole = commit_survives g.S.Store old (state g.S.Store last) (state g.S.Store end) (IsLater c.args.kept.now.day)
    next (rw begun at c.write_day.ensures.survives) c.commit.ensures.survives
    (λ late. (rw begun at (c.in_ok-write_day.ensures.inside late)) refl)
    (λ late o has fit. (rw begun at (c.in_ok-write_day.ensures.wrote late)) refl o has fit) in
    let same : end ≡ c.conn-2-1.given.0 = search rules in
    subst (λ h. Survives (state g.S.Store old) (state g.S.Store h)
    (CommitsNow (IsLater c.args.kept.now.day) next (state g.S.Store old))) same whole

pub returns-clause-wrote : goal.returns-clause-wrote
returns-clause-wrote g c clean settled =
    let last = c.write_day.new.tx.conn.now in
    let end = c.commit.new.self.0 in
    let begun = c.transaction-tx.ensures.begun in
    let same : end ≡ c.conn-2-1.given.0 = search rules in
    let late : HasCleanDisk (state g.S.Store end) = subst (λ h. HasCleanDisk (state g.S.Store h)) (sym same) clean in
    let early : HasCleanDisk (state g.S.Store last) = omega (arith, late, c.commit.ensures.survives.clean) in
    on_then c.commit.result _ _ (c.commit.ensures.ok late)
    (λ h. subst (λ k. CommitsRun g.S.Store (day_texts c.args.kept.now c.args.rows.now) c.args.conn.now k) same
    (commits_begun g.S.Store (day_texts c.args.kept.now c.args.rows.now) c.args.conn.now last end settled
    ((rw begun at (c.in_ok-write_day.ensures.ran early)) refl) h.1.committed_is))

pub returns-clause-leaves : goal.returns-clause-leaves
returns-clause-leaves g c =
    let last = c.write_day.new.tx.conn.now in
    let end = c.commit.new.self.0 in
    let begun = c.transaction-tx.ensures.begun in
    let same : end ≡ c.conn-2-1.given.0 = search rules in
    subst (λ k. Survives (state g.S.Store c.args.conn.now) (state g.S.Store k)
    (LeavesNow g.S.Store (day_texts c.args.kept.now c.args.rows.now) c.args.conn.now)) same
    (commit_leaves g.S.Store (day_texts c.args.kept.now c.args.rows.now) c.args.conn.now last end
    (rw begun at c.write_day.ensures.survives) c.commit.ensures.survives
    (λ late. (rw begun at (c.in_ok-write_day.ensures.ran late)) refl))
