use Rattle.sqlite.specs.Held.{state}
use Rattle.keep_office.specs.Kept.{HasNoDays, with_past}
use Rattle.keep_writes.specs.Writes.{past_texts}
use Rattle.keep_database.proofs.TellLaws.{untold_fits}
use Rattle.keep_files.specs.Does.{PutFails}
use Rattle.keep_files.proofs.DoesLaws.{put_does, put_fails}
use Rattle.keep_files.proofs.puts.PutPastPutting.put.Goals as goal

pub put_past-requires : goal.put_past-requires
put_past-requires g c = record { fits = c.requires; first = untold_fits g.S.Steady.is_steady g.met.S.Shuts.shuts _ _ }

-- of an office
pub returns-clause-does : goal.returns-clause-does
returns-clause-does g c =
    let writes = past_texts c.args.self.kept.now c.args.self.rows.now in
    put_does (λ _. PutFails g.S.Store writes c.args.kept.now c.put_past.new.self) HasNoDays
    (with_past c.args.self.kept.now c.args.self.rows.now)
    (state g.S.Store c.args.kept.now.conn) (state g.S.Store c.put_past.new.self.conn)
    c.put_past.result c.put_past.ensures.put
    (λ clean o stands. put_fails g.S.Store writes c.args.kept.now c.put_past.new.self c.put_past.result
    (c.put_past.ensures.why clean o stands) (c.put_past.ensures.told clean))
    c.put_past.ensures.crash c.put_past.ensures.open

-- of any database
pub returns-clause-runs : goal.returns-clause-runs
returns-clause-runs g c = record {
  wrote = c.put_past.ensures.wrote;
  version = c.put_past.ensures.version;
  refused = c.put_past.ensures.refused;
  leaves = c.put_past.ensures.leaves;
  spares = c.put_past.ensures.spares;
  quiet = c.put_past.ensures.quiet;
  made = c.put_past.ensures.made;
}
