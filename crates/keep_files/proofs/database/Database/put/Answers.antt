use Rattle.std.proofs.Common.{◌≡◌, inl}
use Rattle.keep_files.proofs.database.Database.put.Goals as goal

-- what was held is where it lay, and the put was told once its file was looked for again
pub returns-in-Ok-clause-does : goal.returns-in-Ok-clause-does
returns-in-Ok-clause-does g c =
    let path : c.put_ready-answer.new.self.path ≡ c.args.self.now.path =
    rw c.in-Ok.ensures.same at c.put_ready-answer.ensures.stays in
    inl (
      c.in-Ok.ensures.there,
      record {
        before = c.put_ready-answer.new.self.kept;
        told = c.put_ready-answer.new.self.cause;
        answer = c.put_ready-answer.result;
        done = rw c.in-Ok.ensures.same at c.put_ready-answer.ensures.does;
        then = rw c.confirmed.ensures.lies (rw path at c.confirmed.ensures.does);
      },
    )

pub returns-in-Ok-clause-tried : goal.returns-in-Ok-clause-tried
returns-in-Ok-clause-tried g c = rw c.in-Ok.ensures.same at c.put_ready-answer.ensures.tried

pub returns-in-Ok-clause-folded : goal.returns-in-Ok-clause-folded
returns-in-Ok-clause-folded g c = c.confirmed.ensures.folded c.put_ready-answer.ensures.folded
