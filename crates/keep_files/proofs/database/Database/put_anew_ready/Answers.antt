use Rattle.std.proofs.Common.{inl, inr, refl, string_bytes, subst, sym}
use Rattle.keep_files.specs.Asked.{IsReadyOf}
use Rattle.keep_files.specs.Openings.{FromStore, AsTrees, AsWhole}
use Rattle.keep_files.specs.Refusals.{IsLost}
use Rattle.keep_files.specs.Origins.{IsFirst, OfFile, PutsNothing, of_store}
use Rattle.keep_files.proofs.AnewLaws.{anew_by_trees, not_anew}
use Rattle.keep_files.proofs.OriginLaws.{ready_trees_come, ready_whole_comes, taken_comes}
use Rattle.keep_files.proofs.database.Database.put_anew_ready.Goals as goal

-- nothing was opened
pub returns-in-Err-clause-does : goal.returns-in-Err-clause-does
returns-in-Err-clause-does g c =
    not_anew g.P.Pages g.S.Store g.S.Opens.gives g.S.Opens.refuses g.S.Opens.foreign _
    (string_bytes c.args.self.now.path) _ _ _
    (OfFile g.S.Store g.S.Opens.gives PutsNothing (string_bytes c.args.self.now.path) c.args.self.now.kept)
    c.in-Err.cause c.in-Err.ensures.none (inl (inl c.in-Err.ensures.refused))
    (c.say.ensures.fault, c.say.ensures.which)

-- trees are there
pub returns-in-Trees-clause-does : goal.returns-in-Trees-clause-does
returns-in-Trees-clause-does g c =
    anew_by_trees g.P.Pages g.S.Store g.S.Opens.gives g.S.Opens.refuses g.S.Opens.foreign _
    (string_bytes c.args.self.now.path) c.args.self.now.kept _ _ _
    c.in-Trees.trees
    (ready_trees_come g.S.Store g.S.Opens.gives g.P.Pages (string_bytes c.args.self.now.path) c.args.self.now.kept
    c.in-Trees.trees
    (subst (IsReadyOf g.S.Store g.S.Opens.gives g.P.Pages (string_bytes c.args.self.now.path) c.args.self.now.kept)
    c.in-Trees.is c.in-Ok.ensures.ready))
    (rw c.in-Ok.ensures.named at c.put_anew_by.ensures.does)

-- the trees of the whole file are found
pub returns-in-Ok-to_read_again-clause-does : goal.returns-in-Ok-to_read_again-clause-does
returns-in-Ok-to_read_again-clause-does g c =
    anew_by_trees g.P.Pages g.S.Store g.S.Opens.gives g.S.Opens.refuses g.S.Opens.foreign _
    (string_bytes c.args.self.now.path) c.args.self.now.kept _ _ _
    c.in-Ok-to_read_again.trees
    (of_store c.into_store.result (AsTrees c.in-Ok-to_read_again.trees)
    (taken_comes g.S.Store g.S.Opens.gives PutsNothing
    (IsFirst g.S.Opens.gives (string_bytes c.args.self.now.path) c.args.self.now.kept)
    c.give_up.result c.into_store.result
    (subst (λ conn. OfFile g.S.Store g.S.Opens.gives PutsNothing (string_bytes c.args.self.now.path)
    c.args.self.now.kept (AsWhole conn))
    (sym c.give_up.ensures)
    (ready_whole_comes g.S.Store g.S.Opens.gives g.P.Pages (string_bytes c.args.self.now.path) c.args.self.now.kept
    c.in-Whole.whole
    (subst (IsReadyOf g.S.Store g.S.Opens.gives g.P.Pages (string_bytes c.args.self.now.path) c.args.self.now.kept)
    c.in-Whole.is c.in-Ok.ensures.ready)))
    c.into_store.ensures.undone c.into_store.ensures.quiet)
    c.in-Ok-to_read_again.ensures.opened)
    (rw c.in-Ok.ensures.named at c.put_anew_by-in-Ok-to_read_again.ensures.does)

-- they are not
pub returns-in-Err-None-clause-does : goal.returns-in-Err-None-clause-does
returns-in-Err-None-clause-does g c =
    let foreign : _ =
    subst (IsLost (g.S.Opens.foreign (FromStore c.into_store.result)) (g.S.Opens.refuses (FromStore c.into_store.result)))
    c.in-Err-None.field-0-is c.in-Err-None.ensures.lost in
    not_anew g.P.Pages g.S.Store g.S.Opens.gives g.S.Opens.refuses g.S.Opens.foreign _
    (string_bytes c.args.self.now.path) _ _ _
    (OfFile g.S.Store g.S.Opens.gives PutsNothing (string_bytes c.args.self.now.path) c.args.self.now.kept)
    _ c.in-Ok.ensures.none
    (inr (
      refl,
      (
        FromStore c.into_store.result,
        (
          (taken_comes g.S.Store g.S.Opens.gives PutsNothing
              (IsFirst g.S.Opens.gives (string_bytes c.args.self.now.path) c.args.self.now.kept)
              c.give_up.result c.into_store.result
              (subst (λ conn. OfFile g.S.Store g.S.Opens.gives PutsNothing
              (string_bytes c.args.self.now.path) c.args.self.now.kept (AsWhole conn))
              (sym c.give_up.ensures)
              (ready_whole_comes g.S.Store g.S.Opens.gives g.P.Pages (string_bytes c.args.self.now.path)
              c.args.self.now.kept
              c.in-Whole.whole
              (subst (IsReadyOf g.S.Store g.S.Opens.gives g.P.Pages (string_bytes c.args.self.now.path)
              c.args.self.now.kept)
              c.in-Whole.is c.in-Ok.ensures.ready)))
              c.into_store.ensures.undone c.into_store.ensures.quiet),
          foreign,
        ),
      ),
    ))
    (c.say-in-Err-None.ensures.fault, c.say-in-Err-None.ensures.which)

-- the look failed
pub returns-in-Err-Some-clause-does : goal.returns-in-Err-Some-clause-does
returns-in-Err-Some-clause-does g c =
    let refused : _ =
    subst (IsLost (g.S.Opens.foreign (FromStore c.into_store.result)) (g.S.Opens.refuses (FromStore c.into_store.result)))
    c.in-Err-Some.field-0-is c.in-Err-Some.ensures.lost in
    not_anew g.P.Pages g.S.Store g.S.Opens.gives g.S.Opens.refuses g.S.Opens.foreign _
    (string_bytes c.args.self.now.path) _ _ _
    (OfFile g.S.Store g.S.Opens.gives PutsNothing (string_bytes c.args.self.now.path) c.args.self.now.kept)
    c.in-Err-Some.cause c.in-Ok.ensures.none
    (inl (inr (inr (
      c.into_store.result,
      (
        (taken_comes g.S.Store g.S.Opens.gives PutsNothing
            (IsFirst g.S.Opens.gives (string_bytes c.args.self.now.path) c.args.self.now.kept)
            c.give_up.result c.into_store.result
            (subst (λ conn. OfFile g.S.Store g.S.Opens.gives PutsNothing
            (string_bytes c.args.self.now.path) c.args.self.now.kept (AsWhole conn))
            (sym c.give_up.ensures)
            (ready_whole_comes g.S.Store g.S.Opens.gives g.P.Pages (string_bytes c.args.self.now.path)
            c.args.self.now.kept
            c.in-Whole.whole
            (subst (IsReadyOf g.S.Store g.S.Opens.gives g.P.Pages (string_bytes c.args.self.now.path)
            c.args.self.now.kept)
            c.in-Whole.is c.in-Ok.ensures.ready)))
            c.into_store.ensures.undone c.into_store.ensures.quiet),
        refused,
      ),
    ))))
    (c.say-in-Err-Some.ensures.fault, c.say-in-Err-Some.ensures.which)
