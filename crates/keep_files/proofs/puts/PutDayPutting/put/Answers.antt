use Rattle.sqlite.specs.Held.{state}
use Rattle.keep_office.specs.Kept.{IsLater, with_day}
use Rattle.keep_writes.specs.Writes.{day_texts}
use Rattle.keep_database.proofs.TellLaws.{untold_fits}
use Rattle.keep_files.specs.Does.{PutFails}
use Rattle.keep_files.proofs.DoesLaws.{put_does, put_fails}
use Rattle.keep_files.proofs.puts.PutDayPutting.put.Goals as goal

pub put_day-requires : goal.put_day-requires
put_day-requires g c = record { fits = c.requires; later = untold_fits g.S.Steady.is_steady g.met.S.Shuts.shuts _ _ }

-- of an office
pub returns-clause-does : goal.returns-clause-does
returns-clause-does g c =
    let writes = day_texts c.args.self.kept.now c.args.self.rows.now in
    put_does (λ _. PutFails g.S.Store writes c.args.kept.now c.put_day.new.self)
    (IsLater c.args.self.kept.now.day) (with_day c.args.self.kept.now c.args.self.rows.now)
    (state g.S.Store c.args.kept.now.conn) (state g.S.Store c.put_day.new.self.conn)
    c.put_day.result c.put_day.ensures.put
    (λ clean o stands. put_fails g.S.Store writes c.args.kept.now c.put_day.new.self c.put_day.result
    (c.put_day.ensures.why clean o stands) (c.put_day.ensures.told clean))
    c.put_day.ensures.crash c.put_day.ensures.open

-- of any database
pub returns-clause-runs : goal.returns-clause-runs
returns-clause-runs g c = record {
  wrote = c.put_day.ensures.wrote;
  version = c.put_day.ensures.version;
  refused = c.put_day.ensures.refused;
  leaves = c.put_day.ensures.leaves;
  spares = c.put_day.ensures.spares;
  quiet = c.put_day.ensures.quiet;
  made = c.put_day.ensures.made;
}
