use Rattle.std.proofs.Common.{[]}
use Rattle.sqlite.specs.Held.{state}
use Rattle.sqlite.proofs.StateLemmas.{survives_weaker}
use Rattle.keep_tables.proofs.AskLaws.{asked_keeps, asked_commits_nothing}
use Rattle.keep_writes.specs.Objects.{list_texts}
use Rattle.keep_writes.proofs.ObjectLaws.{list_texts_asks, answer_lists, answer_same}
use Rattle.keep_writes.proofs.objects.list_texts.Goals as goal

pub returns-clause-lists : goal.returns-clause-lists
returns-clause-lists g c clean =
    answer_lists (λ rows. rows.items) (state g.S.Store c.args.conn.now) (state g.S.Store c.query_all.new.self)
    c.query_all.result (c.query_all.ensures.ok clean)

pub returns-clause-same : goal.returns-clause-same
returns-clause-same g c clean =
    answer_same (λ rows. rows.items) (state g.S.Store c.args.conn.now) (state g.S.Store c.query_all.new.self)
    c.query_all.result (c.query_all.ensures.ok clean)

pub returns-clause-kept : goal.returns-clause-kept
returns-clause-kept g c clean =
    asked_keeps (λ rows. rows.items) list_texts [] (state g.S.Store c.args.conn.now)
    (state g.S.Store c.query_all.new.self) c.query_all.result list_texts_asks (c.query_all.ensures.ok clean)
    (c.query_all.ensures.err clean)

pub returns-clause-survives : goal.returns-clause-survives
returns-clause-survives g c =
    survives_weaker (state g.S.Store c.args.conn.now) (state g.S.Store c.query_all.new.self) _ (λ _. ⊥)
    (λ _ db. asked_commits_nothing list_texts [] (state g.S.Store c.args.conn.now) db list_texts_asks)
    c.query_all.ensures.survives

pub returns-clause-refused : goal.returns-clause-refused
returns-clause-refused g c clean = c.query_all.ensures.err clean
