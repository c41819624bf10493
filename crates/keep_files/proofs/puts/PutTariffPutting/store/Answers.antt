use Rattle.keep_files.proofs.StoringLaws.{puts_any}
use Rattle.keep_files.proofs.puts.PutTariffPutting.store.Goals as goal

pub returns : goal.returns
returns g c = puts_any g.S.Store _ _ _ _ _ _ _ c.put_tariff.ensures.stores c.put_tariff.ensures.writes
