use Rattle.std.proofs.Common.{ℕ, Ok, pos, [], ◌∷◌, sym, subst₂, refl}
use Rattle.sqlite_value.specs.declared.value.Value.TheVariants.{Int, Blob}
use Rattle.sqlite.specs.Held.{state}
use Rattle.sqlite.specs.State.{Executes}
use Rattle.road_digest.specs.declared.digest.Digest.{Digest}
use Rattle.keep_tables.specs.Texts.{put_seal}
use Rattle.keep_tables.proofs.DayWriteLaws.{seal_puts}
use Rattle.keep_tables.proofs.PutLaws.{whole_by}
use Rattle.keep_writes.proofs.RunLaws.{all_once}
use Rattle.keep_writes.proofs.CauseLaws.{text_refused}
use Rattle.keep_writes.proofs.day_writes.put_seal.Goals as goal

pub returns-in-Ok-clause-puts : goal.returns-in-Ok-clause-puts
returns-in-Ok-clause-puts g c clean inside version contents holds r day seal later =
    let old = state g.S.Store c.args.tx.now.conn.now in
    let new = state g.S.Store c.execute.new.self.conn.now in
    let ran =
    (rw (c.params-to_sql.ensures, c.params-to_sql-2.ensures, c.bytes_of-bytes.ensures.same) at
    (c.in-Ok.ensures.runs clean inside)).0 in
    seal_puts version old new contents r c.in-Ok.field-0 holds later
    (subst₂ (λ (n : ℕ) (d : Digest). Executes put_seal (Int (pos n) ∷ Blob d.bytes ∷ []) old new (Ok c.in-Ok.field-0))
    (sym day) (sym seal) ran)

pub returns-in-Err-clause-refused : goal.returns-in-Err-clause-refused
returns-in-Err-clause-refused g c clean inside =
    let ran = rw (c.params-to_sql.ensures, c.params-to_sql-2.ensures, c.bytes_of-bytes.ensures.same) at (c.in-Err.ensures.runs clean inside) in
    text_refused g.S.Store c.args.tx.now.conn.now c.execute.new.self.conn.now put_seal _ c.in-Err.error
    (1, refl) inside ran

pub returns-in-Ok-clause-ran : goal.returns-in-Ok-clause-ran
returns-in-Ok-clause-ran g c clean inside =
    let ran = rw (c.params-to_sql.ensures, c.params-to_sql-2.ensures, c.bytes_of-bytes.ensures.same) at (c.in-Ok.ensures.runs clean inside) in
    all_once g.S.Store c.args.tx.now.conn.now c.execute.new.self.conn.now put_seal _ c.in-Ok.field-0 inside ran

pub returns-in-Ok-clause-fits : goal.returns-in-Ok-clause-fits
returns-in-Ok-clause-fits g c = whole_by c.args.seal.now c.bytes_of-bytes.ensures.long c.bytes_of-bytes.ensures.each

pub returns-in-Err-clause-fits : goal.returns-in-Err-clause-fits
returns-in-Err-clause-fits g c = whole_by c.args.seal.now c.bytes_of-bytes.ensures.long c.bytes_of-bytes.ensures.each

pub returns-in-Err-clause-text : goal.returns-in-Err-clause-text
returns-in-Err-clause-text g c clean inside =
    rw (c.params-to_sql.ensures, c.params-to_sql-2.ensures, c.bytes_of-bytes.ensures.same) at
    (c.in-Err.ensures.runs clean inside)
