use Rattle.std.proofs.Common.{string_bytes, subst}
use Rattle.keep_files.specs.Asked.{IsReadyOf}
use Rattle.keep_files.proofs.AskedLaws.{asked_unread, asked_whole, asked_by_trees}
use Rattle.keep_files.proofs.database.Database.put_ready.Goals as goal

-- of nothing
pub returns-in-Err-clause-does : goal.returns-in-Err-clause-does
returns-in-Err-clause-does g c =
    asked_unread g.P.Pages g.S.Store g.S.Opens.gives g.S.Opens.refuses _ _ _ _ c.args.self.now.kept
    (string_bytes c.args.self.now.path) _ _ _ c.in-Err.cause c.in-Err.ensures.unopened c.in-Err.ensures.none
    c.in-Err.ensures.refused (c.say.ensures.fault, c.say.ensures.which)

-- of a keeper that is held, or of the whole file
pub returns-in-Whole-clause-does : goal.returns-in-Whole-clause-does
returns-in-Whole-clause-does g c =
    asked_whole g.P.Pages g.S.Store g.S.Opens.gives g.S.Opens.refuses _ _ _ _ c.args.self.now.kept
    (string_bytes c.args.self.now.path) _ _ _ c.in-Whole.kept
    (subst (IsReadyOf g.S.Store g.S.Opens.gives g.P.Pages (string_bytes c.args.self.now.path) c.args.self.now.kept)
    c.in-Whole.is c.in-Ok.ensures.ready)
    c.put_whole.ensures.does

-- of the store of trees
pub returns-in-Trees-clause-does : goal.returns-in-Trees-clause-does
returns-in-Trees-clause-does g c =
    asked_by_trees g.P.Pages g.S.Store g.S.Opens.gives g.S.Opens.refuses _ _ _ _ c.args.self.now.kept
    (string_bytes c.args.self.now.path) _ _ _ c.in-Trees.trees
    (subst (IsReadyOf g.S.Store g.S.Opens.gives g.P.Pages (string_bytes c.args.self.now.path) c.args.self.now.kept)
    c.in-Trees.is c.in-Ok.ensures.ready)
    (rw c.in-Ok.ensures.named at c.put_by_trees.ensures.does)
