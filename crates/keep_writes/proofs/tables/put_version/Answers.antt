use Rattle.sqlite.specs.Held.{state}
use Rattle.keep_tables.proofs.MigrationLaws.{version_puts}
use Rattle.keep_writes.proofs.GrowLaws.{on_ok}
use Rattle.keep_tables.specs.Texts.{put_version}
use Rattle.keep_writes.proofs.UnmadeRuns.{text_done}
use Rattle.keep_writes.proofs.tables.put_version.Goals as goal

pub returns-clause-puts : goal.returns-clause-puts
returns-clause-puts g c clean inside contents holds =
    on_ok c.run.result _ _ (c.run.ensures.ran clean inside)
    (λ ran. version_puts (state g.S.Store c.args.tx.now.conn.now) (state g.S.Store c.run.new.tx.conn.now) contents
    ran.0 holds ran.1)

pub returns-clause-texts : goal.returns-clause-texts
returns-clause-texts g c clean inside =
    on_ok c.run.result _ _ (c.run.ensures.within clean inside)
    (λ ran. text_done g.S.Store c.args.tx.now.conn.now c.run.new.tx.conn.now put_version inside ran)
