use Rattle.std.proofs.Common.{inl}
use Rattle.keep_files.proofs.database.Database.read.Goals as goal

-- what was held is where it lay, and the call was made
pub returns-in-Ok-clause-does : goal.returns-in-Ok-clause-does
returns-in-Ok-clause-does g c =
    inl (c.in-Ok.ensures.there, rw c.in-Ok.ensures.same at c.read_ready.ensures.does)

pub returns-in-Ok-clause-tried : goal.returns-in-Ok-clause-tried
returns-in-Ok-clause-tried g c = rw c.in-Ok.ensures.same at c.read_ready.ensures.tried
