use Rattle.std.proofs.Common.{subst}
use Rattle.keep_office.specs.Calls.{Puts}
use Rattle.keep_office.specs.Kept.{with_tariff_of}
use Rattle.serve_desk.proofs.puts.put_one_tariff.Goals as goal

pub returns : goal.returns
returns g c =
    let p = c.put_tariff-answer in
    record {
      shared =
          record {
            was = c.open_for_put.new.kept.keeper;
            now = p.new.self;
            did = λ o told.
                subst
                (λ t. Puts g.K.Keeper.refuses t (g.K.Keeper.told p.new.self) p.result
                (with_tariff_of c.args.xway c.args.tariff.now))
                told p.ensures.state;
            later = p.ensures.cause.later;
          };
    }
