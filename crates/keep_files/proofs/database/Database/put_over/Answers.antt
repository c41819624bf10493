use Rattle.std.proofs.Common.{◌≡◌, inl, inr}
use Rattle.keep_files.specs.Openings.{IsAdopted}
use Rattle.keep_files.proofs.AskedLaws.{made_of, unopened_for}
use Rattle.keep_files.proofs.database.Database.put_over.Goals as goal

pub returns-in-Ok-clause-does : goal.returns-in-Ok-clause-does
returns-in-Ok-clause-does g c =
    inl
    (made_of g.S.Store _ _ _ _ _ _ (IsAdopted g.S.Store (λ from. from ≡ c.args.conn)) c.in-Ok.kept c.in-Ok.ensures.made
    c.put_whole.ensures.does)

pub returns-in-Err-clause-does : goal.returns-in-Err-clause-does
returns-in-Err-clause-does g c =
    inr (
      c.requires.none,
      unopened_for _ _ _ c.in-Err.cause c.in-Err.ensures.unmade
          (c.say.ensures.fault, c.say.ensures.which),
    )
