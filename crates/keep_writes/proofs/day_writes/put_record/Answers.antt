use Rattle.std.proofs.Common.{◌≡◌, to_z, of_z, w64, rules, refl}
use Rattle.sqlite.specs.Held.{state}
use Rattle.keep_tables.specs.Texts.{put_day}
use Rattle.keep_tables.proofs.DayWriteLaws.{day_puts}
use Rattle.keep_tables.proofs.PutLaws.{whole_by}
use Rattle.keep_writes.proofs.RunLaws.{all_once}
use Rattle.keep_writes.proofs.CauseLaws.{text_refused}
use Rattle.keep_writes.proofs.day_writes.put_record.Goals as goal

pub returns-in-Ok-clause-puts : goal.returns-in-Ok-clause-puts
returns-in-Ok-clause-puts g c clean inside contents holds later =
    let old = state g.S.Store c.args.tx.now.conn.now in
    let new = state g.S.Store c.execute.new.self.conn.now in
    let bytes : to_z w64 (of_z w64 c.column-bytes.result) ≡ c.column-bytes.result = search rules in
    let tuples : to_z w64 (of_z w64 c.column-tuples.result) ≡ c.column-tuples.result = search rules in
    let notices : to_z w64 (of_z w64 c.column-notices.result) ≡ c.column-notices.result = search rules in
    let total : to_z w64 (of_z w64 c.column-total.result) ≡ c.column-total.result = search rules in
    let ran = (rw (
      c.params-to_sql.ensures,
      c.params-to_sql-2.ensures,
      c.params-to_sql-3.ensures,
      c.params-to_sql-4.ensures,
      c.params-to_sql-5.ensures,
      c.params-to_sql-6.ensures,
      c.params-to_sql-7.ensures,
      c.bytes_of-digest.ensures.same,
      bytes,
      tuples,
      notices,
      c.bytes_of-told.ensures.same,
      total,
      c.column-bytes.ensures,
      c.column-tuples.ensures,
      c.column-notices.ensures,
      c.column-total.ensures,
    )
    at (c.in-Ok.ensures.runs clean inside)).0 in
    day_puts old new contents c.args.kept.now c.in-Ok.field-0 holds later ran

pub returns-in-Err-clause-refused : goal.returns-in-Err-clause-refused
returns-in-Err-clause-refused g c clean inside =
    let bytes : to_z w64 (of_z w64 c.column-bytes.result) ≡ c.column-bytes.result = search rules in
    let tuples : to_z w64 (of_z w64 c.column-tuples.result) ≡ c.column-tuples.result = search rules in
    let notices : to_z w64 (of_z w64 c.column-notices.result) ≡ c.column-notices.result = search rules in
    let total : to_z w64 (of_z w64 c.column-total.result) ≡ c.column-total.result = search rules in
    let ran = rw (
      c.params-to_sql.ensures,
      c.params-to_sql-2.ensures,
      c.params-to_sql-3.ensures,
      c.params-to_sql-4.ensures,
      c.params-to_sql-5.ensures,
      c.params-to_sql-6.ensures,
      c.params-to_sql-7.ensures,
      c.bytes_of-digest.ensures.same,
      bytes,
      tuples,
      notices,
      c.bytes_of-told.ensures.same,
      total,
      c.column-bytes.ensures,
      c.column-tuples.ensures,
      c.column-notices.ensures,
      c.column-total.ensures,
    ) at (c.in-Err.ensures.runs clean inside) in
    text_refused g.S.Store c.args.tx.now.conn.now c.execute.new.self.conn.now put_day _ c.in-Err.error
    (0, refl) inside ran

pub returns-in-Ok-clause-ran : goal.returns-in-Ok-clause-ran
returns-in-Ok-clause-ran g c clean inside =
    let bytes : to_z w64 (of_z w64 c.column-bytes.result) ≡ c.column-bytes.result = search rules in
    let tuples : to_z w64 (of_z w64 c.column-tuples.result) ≡ c.column-tuples.result = search rules in
    let notices : to_z w64 (of_z w64 c.column-notices.result) ≡ c.column-notices.result = search rules in
    let total : to_z w64 (of_z w64 c.column-total.result) ≡ c.column-total.result = search rules in
    let ran = rw (
      c.params-to_sql.ensures,
      c.params-to_sql-2.ensures,
      c.params-to_sql-3.ensures,
      c.params-to_sql-4.ensures,
      c.params-to_sql-5.ensures,
      c.params-to_sql-6.ensures,
      c.params-to_sql-7.ensures,
      c.bytes_of-digest.ensures.same,
      bytes,
      tuples,
      notices,
      c.bytes_of-told.ensures.same,
      total,
      c.column-bytes.ensures,
      c.column-tuples.ensures,
      c.column-notices.ensures,
      c.column-total.ensures,
    ) at (c.in-Ok.ensures.runs clean inside) in
    all_once g.S.Store c.args.tx.now.conn.now c.execute.new.self.conn.now put_day _ c.in-Ok.field-0 inside ran

pub returns-in-Ok-clause-digest : goal.returns-in-Ok-clause-digest
returns-in-Ok-clause-digest g c =
    whole_by c.args.kept.now.digest c.bytes_of-digest.ensures.long c.bytes_of-digest.ensures.each

pub returns-in-Ok-clause-told : goal.returns-in-Ok-clause-told
returns-in-Ok-clause-told g c =
    whole_by c.args.kept.now.notices_digest c.bytes_of-told.ensures.long c.bytes_of-told.ensures.each

pub returns-in-Err-clause-digest : goal.returns-in-Err-clause-digest
returns-in-Err-clause-digest g c =
    whole_by c.args.kept.now.digest c.bytes_of-digest.ensures.long c.bytes_of-digest.ensures.each

pub returns-in-Err-clause-told : goal.returns-in-Err-clause-told
returns-in-Err-clause-told g c =
    whole_by c.args.kept.now.notices_digest c.bytes_of-told.ensures.long c.bytes_of-told.ensures.each
