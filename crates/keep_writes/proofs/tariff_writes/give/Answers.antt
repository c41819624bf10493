use Rattle.std.proofs.Common.{refl}
use Rattle.sqlite.specs.Held.{state}
use Rattle.keep_tables.specs.Texts.{put_tariff}
use Rattle.keep_tables.proofs.TariffWriteLaws.{put_writes}
use Rattle.keep_writes.proofs.RunLaws.{all_once}
use Rattle.keep_writes.proofs.CauseLaws.{text_refused}
use Rattle.keep_writes.proofs.tariff_writes.give.Goals as goal

pub returns-in-Ok-clause-gave : goal.returns-in-Ok-clause-gave
returns-in-Ok-clause-gave g c clean inside o has own =
    put_writes (state g.S.Store c.args.tx.now.conn.now) (state g.S.Store c.execute.new.self.conn.now) c.args.xway
    c.in-Ok.field-0 c.args.tariff.now o c.ranges.xway.fits c.requires own has
    (rw (
      c.params-to_sql.ensures,
      c.params-to_sql-2.ensures,
      c.params-to_sql-3.ensures,
      c.params-to_sql-4.ensures,
      c.from.ensures,
      c.from-2.ensures,
      c.from-3.ensures,
    ) at (c.in-Ok.ensures.runs clean inside)).0

pub returns-in-Err-clause-refused : goal.returns-in-Err-clause-refused
returns-in-Err-clause-refused g c clean inside =
    let ran = rw (
      c.params-to_sql.ensures,
      c.params-to_sql-2.ensures,
      c.params-to_sql-3.ensures,
      c.params-to_sql-4.ensures,
      c.from.ensures,
      c.from-2.ensures,
      c.from-3.ensures,
    ) at (c.in-Err.ensures.runs clean inside) in
    text_refused g.S.Store c.args.tx.now.conn.now c.execute.new.self.conn.now put_tariff _ c.in-Err.error
    (5, refl) inside ran

pub returns-in-Ok-clause-ran : goal.returns-in-Ok-clause-ran
returns-in-Ok-clause-ran g c clean inside =
    let ran = rw (
      c.params-to_sql.ensures,
      c.params-to_sql-2.ensures,
      c.params-to_sql-3.ensures,
      c.params-to_sql-4.ensures,
      c.from.ensures,
      c.from-2.ensures,
      c.from-3.ensures,
    ) at (c.in-Ok.ensures.runs clean inside) in
    all_once g.S.Store c.args.tx.now.conn.now c.execute.new.self.conn.now put_tariff _ c.in-Ok.field-0 inside ran
