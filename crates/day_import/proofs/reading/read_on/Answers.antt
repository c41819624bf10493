use Rattle.std.proofs.Common.{◌≡◌, [], rules}
use Rattle.day_import.proofs.ReaderLaws.{read_first, read_stopped}
use Rattle.day_import.proofs.reading.read_on.Goals as goal

pub returns-in-Ok-clause-read_on : goal.returns-in-Ok-clause-read_on
returns-in-Ok-clause-read_on g c =
    let none : c.clear.new.self.items ≡ [] = search rules in
    read_first c.args.whole c.args.count _ _ _ _ _ _ none c.in-Ok.ensures.gathered

pub returns-in-Err-clause-read_on : goal.returns-in-Err-clause-read_on
returns-in-Err-clause-read_on g c = read_stopped c.args.whole c.in-Err.stop _ _ _ _ _ _
