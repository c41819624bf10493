use Rattle.std.proofs.Common.{inl, inr, subst}
use Rattle.keep_files.specs.Asked.{IsReadyToRead}
use Rattle.keep_files.proofs.database.Database.read_ready.Goals as goal

-- a call of a whole file
pub returns-in-Whole-clause-does : goal.returns-in-Whole-clause-does
returns-in-Whole-clause-does g c =
    inr
    (inl
    (record {
      before = c.in-Whole.kept;
      after = c.ask-answer.new.kept;
      ready =
          subst (IsReadyToRead _ _ c.args.self.now.kept)
          c.in-Whole.is c.in-Ok.ensures.ready;
      does = c.ask-answer.ensures.does;
      shown = c.ask-answer.ensures.shows;
      kept = c.unless_failed.ensures.held;
      says = c.unless_failed.ensures.says;
    }))

-- a call of trees
pub returns-clause-does : goal.returns-clause-does
returns-clause-does g c =
    inl
    (record {
      before = c.in-Trees.trees;
      after = c.look-answer.new.trees;
      ready =
          subst (IsReadyToRead _ _ c.args.self.now.kept)
          c.in-Trees.is c.in-Ok.ensures.ready;
      looks = c.look-answer.ensures.looks;
      kept = c.unless_failed-2.ensures.held;
      says = c.unless_failed-2.ensures.says;
    })
