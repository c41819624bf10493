use Rattle.keep_files.proofs.NameLaws.{names_asked}
use Rattle.keep_files.proofs.database.lists_nothing.Goals as goal

pub returns-in-Ok : goal.returns-in-Ok
returns-in-Ok g c =
    names_asked g.S.Store (λ rows. rows.items) c.args.conn.now c.query_all.new.self c.query_all.result
    c.query_all.ensures.ok c.query_all.ensures.err c.query_all.ensures.survives

pub returns-in-Err : goal.returns-in-Err
returns-in-Err g c =
    names_asked g.S.Store (λ rows. rows.items) c.args.conn.now c.query_all.new.self c.query_all.result
    c.query_all.ensures.ok c.query_all.ensures.err c.query_all.ensures.survives
