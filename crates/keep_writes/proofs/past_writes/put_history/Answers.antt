use Rattle.std.proofs.Common.{◌≡◌, to_z, of_z, w64, rules, refl}
use Rattle.sqlite.specs.Held.{state}
use Rattle.keep_tables.specs.Texts.{put_past}
use Rattle.keep_tables.proofs.DayWriteLaws.{past_puts}
use Rattle.keep_tables.proofs.PutLaws.{whole_by}
use Rattle.keep_writes.proofs.RunLaws.{all_once}
use Rattle.keep_writes.proofs.CauseLaws.{text_refused}
use Rattle.keep_writes.proofs.past_writes.put_history.Goals as goal

pub returns-in-Ok-clause-puts : goal.returns-in-Ok-clause-puts
returns-in-Ok-clause-puts g c clean inside contents holds none =
    let old = state g.S.Store c.args.tx.now.conn.now in
    let new = state g.S.Store c.execute.new.self.conn.now in
    let bytes : to_z w64 (of_z w64 c.column-bytes.result) ≡ c.column-bytes.result = search rules in
    let count : to_z w64 (of_z w64 c.column-count.result) ≡ c.column-count.result = search rules in
    let ran =
    (rw (
      c.params-to_sql.ensures,
      c.params-to_sql-2.ensures,
      c.params-to_sql-3.ensures,
      c.params-to_sql-4.ensures,
      c.bytes_of-digest.ensures.same,
      bytes,
      count,
      c.column-bytes.ensures,
      c.column-count.ensures,
    )
    at (c.in-Ok.ensures.runs clean inside)).0 in
    past_puts old new contents c.args.kept.now c.in-Ok.field-0 holds none ran

pub returns-in-Err-clause-refused : goal.returns-in-Err-clause-refused
returns-in-Err-clause-refused g c clean inside =
    let bytes : to_z w64 (of_z w64 c.column-bytes.result) ≡ c.column-bytes.result = search rules in
    let count : to_z w64 (of_z w64 c.column-count.result) ≡ c.column-count.result = search rules in
    let ran = rw (
      c.params-to_sql.ensures,
      c.params-to_sql-2.ensures,
      c.params-to_sql-3.ensures,
      c.params-to_sql-4.ensures,
      c.bytes_of-digest.ensures.same,
      bytes,
      count,
      c.column-bytes.ensures,
      c.column-count.ensures,
    ) at (c.in-Err.ensures.runs clean inside) in
    text_refused g.S.Store c.args.tx.now.conn.now c.execute.new.self.conn.now put_past _ c.in-Err.error
    (3, refl) inside ran

pub returns-in-Ok-clause-ran : goal.returns-in-Ok-clause-ran
returns-in-Ok-clause-ran g c clean inside =
    let bytes : to_z w64 (of_z w64 c.column-bytes.result) ≡ c.column-bytes.result = search rules in
    let count : to_z w64 (of_z w64 c.column-count.result) ≡ c.column-count.result = search rules in
    let ran = rw (
      c.params-to_sql.ensures,
      c.params-to_sql-2.ensures,
      c.params-to_sql-3.ensures,
      c.params-to_sql-4.ensures,
      c.bytes_of-digest.ensures.same,
      bytes,
      count,
      c.column-bytes.ensures,
      c.column-count.ensures,
    ) at (c.in-Ok.ensures.runs clean inside) in
    all_once g.S.Store c.args.tx.now.conn.now c.execute.new.self.conn.now put_past _ c.in-Ok.field-0 inside ran

pub returns-in-Ok-clause-fits : goal.returns-in-Ok-clause-fits
returns-in-Ok-clause-fits g c = (
  search rules,
  c.requires.bytes,
  c.requires.rows,
  whole_by c.args.kept.now.digest c.bytes_of-digest.ensures.long
      c.bytes_of-digest.ensures.each,
)

pub returns-in-Err-clause-fits : goal.returns-in-Err-clause-fits
returns-in-Err-clause-fits g c = (
  search rules,
  c.requires.bytes,
  c.requires.rows,
  whole_by c.args.kept.now.digest c.bytes_of-digest.ensures.long
      c.bytes_of-digest.ensures.each,
)
