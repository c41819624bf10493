use Rattle.std.proofs.Common.{◌≡◌, to_z, of_z, w64, rules, refl}
use Rattle.sqlite.specs.Held.{state}
use Rattle.keep_tables.specs.Texts.{put_spent}
use Rattle.keep_tables.proofs.SpentWriteLaws.{spent_edit, spent_put}
use Rattle.keep_writes.proofs.RunLaws.{all_once}
use Rattle.keep_writes.proofs.CauseLaws.{text_refused}
use Rattle.keep_writes.proofs.spent_writes.put_amount.Goals as goal

pub returns-in-Ok-clause-adds : goal.returns-in-Ok-clause-adds
returns-in-Ok-clause-adds g c clean inside schema =
    let old = state g.S.Store c.args.tx.now.conn.now in
    let new = state g.S.Store c.execute.new.self.conn.now in
    let whole : to_z w64 (of_z w64 c.args.tolls) ≡ c.args.tolls = search rules in
    let ran =
    (rw (
      c.params-to_sql.ensures,
      c.params-to_sql-2.ensures,
      c.params-to_sql-3.ensures,
      c.params-to_sql-4.ensures,
      c.from.ensures,
      whole,
      c.requires.stored,
    ) at (c.in-Ok.ensures.runs clean inside)).0 in
    let e = spent_edit old new c.args.row.now c.in-Ok.field-0 schema ran in
    record {
      schema = e.3;
      rows =
          λ kept are. (spent_put old new c.args.row.now c.in-Ok.field-0 kept schema are ran).1;
      others = e.5;
    }

pub returns-in-Err-clause-refused : goal.returns-in-Err-clause-refused
returns-in-Err-clause-refused g c clean inside =
    let whole : to_z w64 (of_z w64 c.args.tolls) ≡ c.args.tolls = search rules in
    let ran = rw (
      c.params-to_sql.ensures,
      c.params-to_sql-2.ensures,
      c.params-to_sql-3.ensures,
      c.params-to_sql-4.ensures,
      c.from.ensures,
      whole,
      c.requires.stored,
    ) at (c.in-Err.ensures.runs clean inside) in
    text_refused g.S.Store c.args.tx.now.conn.now c.execute.new.self.conn.now put_spent _ c.in-Err.error
    (2, refl) inside ran

pub returns-in-Ok-clause-ran : goal.returns-in-Ok-clause-ran
returns-in-Ok-clause-ran g c clean inside =
    let whole : to_z w64 (of_z w64 c.args.tolls) ≡ c.args.tolls = search rules in
    let ran = rw (
      c.params-to_sql.ensures,
      c.params-to_sql-2.ensures,
      c.params-to_sql-3.ensures,
      c.params-to_sql-4.ensures,
      c.from.ensures,
      whole,
      c.requires.stored,
    ) at (c.in-Ok.ensures.runs clean inside) in
    all_once g.S.Store c.args.tx.now.conn.now c.execute.new.self.conn.now put_spent _ c.in-Ok.field-0 inside ran

pub returns-in-Ok-clause-fits : goal.returns-in-Ok-clause-fits
returns-in-Ok-clause-fits g c = (search rules, search rules, search rules, c.requires.small)

pub returns-in-Err-clause-fits : goal.returns-in-Err-clause-fits
returns-in-Err-clause-fits g c = (search rules, search rules, search rules, c.requires.small)
