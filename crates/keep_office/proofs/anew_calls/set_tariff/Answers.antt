use Rattle.keep_office.proofs.TariffLaws.{tariffs_set}
use Rattle.keep_office.proofs.anew_calls.set_tariff.Goals as goal

pub returns-in-Ok-clause-valid : goal.returns-in-Ok-clause-valid
returns-in-Ok-clause-valid c valid =
    tariffs_set c.set.result c.args.tariffs.now c.set.new.self c.args.xway c.args.tariff.now c.set.ensures.set
    c.set.ensures.kept valid c.requires
