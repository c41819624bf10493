use Rattle.std.proofs.Common.{[], ◌∙◌, arith, inl, inr}
use Rattle.sqlite.specs.Held.{state}
use Rattle.sqlite.specs.State.{HasCleanDisk}
use Rattle.sqlite.specs.Values.{bound}
use Rattle.sqlite.proofs.StateLemmas.{survives_weaker}
use Rattle.keep_tables.proofs.AskLaws.{asked_keeps, asked_changes_nothing, asked_commits_nothing}
use Rattle.keep_tables.proofs.PutLaws.{survives_both}
use Rattle.keep_tables.proofs.StepLaws.{kept_then}
use Rattle.keep_writes.proofs.CauseLaws.{cause_of, refused_after, refused_now}
use Rattle.keep_database.proofs.looks.look.Goals as goal

pub returns-in-Err-clause-why : goal.returns-in-Err-clause-why
returns-in-Err-clause-why g c clean =
    cause_of g.S.Store [] c.args.conn.now c.settle.new.conn c.refusal.result c.in-Err.error
    c.refusal.ensures
    (c.in-Err.ensures.refused clean)

pub returns-in-Ok-clause-kept : goal.returns-in-Ok-clause-kept
returns-in-Ok-clause-kept g c clean =
    let mid = state g.S.Store c.settle.new.conn in
    let new = state g.S.Store c.query_all.new.self in
    let early : HasCleanDisk mid = omega (arith, c.query_all.ensures.survives.clean) in
    kept_then (state g.S.Store c.args.conn.now) mid new (c.settle.ensures.kept early)
    (asked_keeps (λ rows. rows.items) c.args.sql.now (bound c.args.params.now) mid new c.query_all.result c.requires.0
    (c.query_all.ensures.ok clean) (c.query_all.ensures.err clean))

pub returns-in-Ok-clause-shown : goal.returns-in-Ok-clause-shown
returns-in-Ok-clause-shown g c clean =
    let mid = state g.S.Store c.settle.new.conn in
    let new = state g.S.Store c.query_all.new.self in
    let early : HasCleanDisk mid = omega (arith, c.query_all.ensures.survives.clean) in
    let shown = c.in-Ok.ensures.ok clean in
    let still =
    (asked_changes_nothing c.args.sql.now (bound c.args.params.now) mid new c.in-Ok.rows.items c.requires.0
    shown).0 in
    record {
      before = c.settle.new.conn;
      now = c.in_default.ensures.settled early still.was_open ∙ (c.settle.ensures.kept early).committed still.was_open;
      is_open = still.is_open;
      shown = shown;
    }

pub returns-in-Ok-clause-survives : goal.returns-in-Ok-clause-survives
returns-in-Ok-clause-survives g c =
    let mid = state g.S.Store c.settle.new.conn in
    let new = state g.S.Store c.query_all.new.self in
    survives_both (state g.S.Store c.args.conn.now) mid new c.settle.ensures.survives
    (survives_weaker mid new _ (λ _. ⊥)
    (λ _ db. asked_commits_nothing c.args.sql.now (bound c.args.params.now) mid db c.requires.0)
    c.query_all.ensures.survives)

pub returns-in-Err-query_all-clause-kept : goal.returns-in-Err-query_all-clause-kept
returns-in-Err-query_all-clause-kept g c clean =
    let mid = state g.S.Store c.settle.new.conn in
    let new = state g.S.Store c.query_all.new.self in
    let early : HasCleanDisk mid = omega (arith, c.query_all.ensures.survives.clean) in
    kept_then (state g.S.Store c.args.conn.now) mid new (c.settle.ensures.kept early)
    (asked_keeps (λ rows. rows.items) c.args.sql.now (bound c.args.params.now) mid new c.query_all.result c.requires.0
    (c.query_all.ensures.ok clean) (c.query_all.ensures.err clean))

pub returns-in-Err-query_all-clause-why : goal.returns-in-Err-query_all-clause-why
returns-in-Err-query_all-clause-why g c clean =
    let mid = c.settle.new.conn in
    let early : HasCleanDisk (state g.S.Store mid) = omega (arith, c.query_all.ensures.survives.clean) in
    cause_of g.S.Store [] c.args.conn.now c.query_all.new.self c.refusal-in-Err-query_all.result
    c.in-Err-query_all.error
    c.refusal-in-Err-query_all.ensures
    (refused_after g.S.Store c.args.conn.now mid c.query_all.new.self _ (c.settle.ensures.kept early)
    c.settle.ensures.survives
    (refused_now g.S.Store mid c.query_all.new.self c.args.sql.now (bound c.args.params.now) c.in-Err-query_all.error
    (inr (inl (c.requires.1, c.in_default.ensures.settled early, c.in-Err-query_all.ensures.err clean)))))

pub returns-in-Err-query_all-clause-survives : goal.returns-in-Err-query_all-clause-survives
returns-in-Err-query_all-clause-survives g c =
    let mid = state g.S.Store c.settle.new.conn in
    let new = state g.S.Store c.query_all.new.self in
    survives_both (state g.S.Store c.args.conn.now) mid new c.settle.ensures.survives
    (survives_weaker mid new _ (λ _. ⊥)
    (λ _ db. asked_commits_nothing c.args.sql.now (bound c.args.params.now) mid db c.requires.0)
    c.query_all.ensures.survives)
