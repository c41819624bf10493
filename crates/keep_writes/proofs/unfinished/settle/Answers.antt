use Rattle.std.proofs.Common.{refl, sym, ◌∙◌, inl, rules}
use Rattle.sqlite.specs.Held.{state}
use Rattle.sqlite.proofs.StateLemmas.{survives_weaker}
use Rattle.keep_tables.proofs.StepLaws.{kept_undone, kept_if_refused, undone, undo_commits_nothing}
use Rattle.keep_tables.specs.Texts.{undo}
use Rattle.keep_writes.proofs.CauseLaws.{refused_now}
use Rattle.keep_writes.proofs.unfinished.settle.Goals as goal

pub returns-in-Ok-clause-settled : goal.returns-in-Ok-clause-settled
returns-in-Ok-clause-settled g c clean still =
    let back = undone (state g.S.Store c.args.conn.now) (state g.S.Store c.execute.new.self) _
    (c.in-Ok.ensures.runs clean) in
    let both = back.undone still in both.0 ∙ sym both.1

pub returns-in-Ok-clause-kept : goal.returns-in-Ok-clause-kept
returns-in-Ok-clause-kept g c clean =
    kept_undone _ _
    (undone (state g.S.Store c.args.conn.now) (state g.S.Store c.execute.new.self) _ (c.in-Ok.ensures.runs clean))

pub returns-in-Ok-clause-survives : goal.returns-in-Ok-clause-survives
returns-in-Ok-clause-survives g c =
    survives_weaker (state g.S.Store c.args.conn.now) (state g.S.Store c.execute.new.self) _ (λ _. ⊥)
    (λ _ db. undo_commits_nothing _ db) c.execute.ensures.survives

pub returns-in-Err-clause-kept : goal.returns-in-Err-clause-kept
returns-in-Err-clause-kept g c clean =
    kept_if_refused (state g.S.Store c.args.conn.now) (state g.S.Store c.execute.new.self) _ _ _
    (c.in-Err.ensures.runs clean)

pub returns-in-Err-clause-survives : goal.returns-in-Err-clause-survives
returns-in-Err-clause-survives g c =
    survives_weaker (state g.S.Store c.args.conn.now) (state g.S.Store c.execute.new.self) _ (λ _. ⊥)
    (λ _ db. undo_commits_nothing _ db) c.execute.ensures.survives

pub returns-in-Ok-clause-calm : goal.returns-in-Ok-clause-calm
returns-in-Ok-clause-calm g c clean =
    (undone (state g.S.Store c.args.conn.now) (state g.S.Store c.execute.new.self) _
    (c.in-Ok.ensures.runs clean)).autocommit

pub returns-in-Err-clause-refused : goal.returns-in-Err-clause-refused
returns-in-Err-clause-refused g c clean =
    refused_now g.S.Store c.args.conn.now c.execute.new.self undo _ c.in-Err.error
    (inl (refl, refl, search rules, c.in-Err.ensures.runs clean))

pub returns-in-Err-clause-undo : goal.returns-in-Err-clause-undo
returns-in-Err-clause-undo g c clean = (search rules, c.in-Err.ensures.runs clean)
