use Rattle.sqlite.specs.Held.{state}
use Rattle.keep_office.specs.Kept.{with_tariff_of}
use Rattle.keep_tables.specs.Steps.{FitsAny}
use Rattle.keep_writes.specs.Writes.{tariff_texts}
use Rattle.keep_files.specs.Does.{PutFails}
use Rattle.keep_files.proofs.DoesLaws.{put_does, put_fails}
use Rattle.keep_files.proofs.puts.PutTariffPutting.put.Goals as goal

-- of an office
pub returns-clause-does : goal.returns-clause-does
returns-clause-does g c =
    let writes = tariff_texts c.args.self.xway c.args.self.tariff.now in
    put_does (λ _. PutFails g.S.Store writes c.args.kept.now c.put_tariff.new.self) FitsAny
    (with_tariff_of c.args.self.xway c.args.self.tariff.now)
    (state g.S.Store c.args.kept.now.conn) (state g.S.Store c.put_tariff.new.self.conn)
    c.put_tariff.result (λ clean here o stands fit. c.put_tariff.ensures.put clean here o stands)
    (λ clean o stands. put_fails g.S.Store writes c.args.kept.now c.put_tariff.new.self c.put_tariff.result
    (c.put_tariff.ensures.why clean o stands) (c.put_tariff.ensures.told clean))
    c.put_tariff.ensures.crash c.put_tariff.ensures.open

-- of any database
pub returns-clause-runs : goal.returns-clause-runs
returns-clause-runs g c = record {
  wrote = c.put_tariff.ensures.wrote;
  version = c.put_tariff.ensures.version;
  refused = c.put_tariff.ensures.refused;
  leaves = c.put_tariff.ensures.leaves;
  spares = c.put_tariff.ensures.spares;
  quiet = c.put_tariff.ensures.quiet;
  made = c.put_tariff.ensures.made;
}
