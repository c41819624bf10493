use Rattle.std.proofs.Common.{◌≡◌, inl, inr, refl, string_bytes, sym}
use Rattle.keep_files.specs.declared.kept.Kept.TheVariants.{Trees, Whole}
use Rattle.keep_files.specs.Asked.{Misfits}
use Rattle.keep_files.specs.Storing.{PutsInto}
use Rattle.keep_files.specs.Openings.{AsTrees, AsStore, AsWhole, FromStore}
use Rattle.keep_files.specs.Origins.{Comes, FoundAgain, at_first, by_put, of_pages, of_store}
use Rattle.keep_files.proofs.AskedLaws.{holds_none, misfits_so, not_put, put_over, stored_so, told_done, told_failed}
use Rattle.keep_files.proofs.MissedLaws.{telling_of}
use Rattle.keep_files.proofs.OriginLaws.{put_given}
use Rattle.keep_files.proofs.database.Database.put_by_trees.Goals as goal

-- the file of the trees was opened whole
pub returns-in-Ok-Whole-clause-does : goal.returns-in-Ok-Whole-clause-does
returns-in-Ok-Whole-clause-does g c =
    put_over g.P.Pages g.S.Store g.S.Opens.gives g.S.Opens.refuses _ _ _ _ (string_bytes c.args.self.now.path) _ _ _
    (Comes g.S.Store g.S.Opens.gives (Misfits (PutsInto g.S.Store (g.C.Putting.room c.args.call)
    (g.C.Putting.asks c.args.call) (g.C.Putting.next c.args.call) (g.C.Putting.finds c.args.call)
    (g.C.Putting.makes c.args.call))) (λ part. part ≡ AsTrees c.args.trees))
    c.in-Ok-Whole.conn
    (of_pages c.args.trees (AsWhole c.in-Ok-Whole.conn) (at_first (AsTrees c.args.trees) refl)
    (put_given g.S.Opens.gives c.give_up.result c.args.trees.pages c.in-Ok-Whole.field-0
    (Whole c.in-Ok-Whole.conn) c.give_up.ensures
    c.in-Ok-Whole.field-0-is c.in-Ok-Whole.ensures.opened))
    c.put_over.ensures.does

-- no store was opened
pub returns-in-Err-clause-does : goal.returns-in-Err-clause-does
returns-in-Err-clause-does g c =
    not_put g.P.Pages g.S.Store g.S.Opens.gives g.S.Opens.refuses _ _ _ _ (string_bytes c.args.self.now.path) _ _ _
    (Comes g.S.Store g.S.Opens.gives (Misfits (PutsInto g.S.Store (g.C.Putting.room c.args.call)
    (g.C.Putting.asks c.args.call) (g.C.Putting.next c.args.call) (g.C.Putting.finds c.args.call)
    (g.C.Putting.makes c.args.call))) (λ part. part ≡ AsTrees c.args.trees))
    c.in-Err.cause c.requires.none
    (inr (inl (
      c.give_up.result,
      (
        (
          c.args.trees,
          sym c.give_up.ensures,
          (at_first
              (AsTrees c.args.trees) refl),
        ),
        c.in-Err.ensures.refused,
      ),
    )))
    (c.say.ensures.fault, c.say.ensures.which)

-- the store failed
pub returns-in-Err-store-clause-does : goal.returns-in-Err-store-clause-does
returns-in-Err-store-clause-does g c =
    stored_so g.P.Pages g.S.Store g.S.Opens.gives g.S.Opens.refuses _ _ _ _ (string_bytes c.args.self.now.path) _ _ _
    (Comes g.S.Store g.S.Opens.gives (Misfits (PutsInto g.S.Store (g.C.Putting.room c.args.call)
    (g.C.Putting.asks c.args.call) (g.C.Putting.next c.args.call) (g.C.Putting.finds c.args.call)
    (g.C.Putting.makes c.args.call))) (λ part. part ≡ AsTrees c.args.trees))
    c.in-Ok-Trees.store c.store.new.store c.store.result
    (of_pages c.args.trees (AsStore c.in-Ok-Trees.store) (at_first (AsTrees c.args.trees) refl)
    (put_given g.S.Opens.gives c.give_up.result c.args.trees.pages c.in-Ok-Trees.field-0
    (Trees c.in-Ok-Trees.store) c.give_up.ensures
    c.in-Ok-Trees.field-0-is c.in-Ok-Trees.ensures.opened))
    c.store.ensures
    (told_failed _ _ c.store.result c.in-Err-store.error c.in-Err-store.is c.say_of_store.ensures.fault
    c.say_of_store.ensures.which)
    (holds_none (FoundAgain g.P.Pages g.S.Opens.gives c.store.new.store) _ c.requires.none)

-- it was done, and the trees of the store's file are held
pub returns-then-done-clause-does : goal.returns-then-done-clause-does
returns-then-done-clause-does g c =
    stored_so g.P.Pages g.S.Store g.S.Opens.gives g.S.Opens.refuses _ _ _ _ (string_bytes c.args.self.now.path) _ _ _
    (Comes g.S.Store g.S.Opens.gives (Misfits (PutsInto g.S.Store (g.C.Putting.room c.args.call)
    (g.C.Putting.asks c.args.call) (g.C.Putting.next c.args.call) (g.C.Putting.finds c.args.call)
    (g.C.Putting.makes c.args.call))) (λ part. part ≡ AsTrees c.args.trees))
    c.in-Ok-Trees.store c.store.new.store c.store.result
    (of_pages c.args.trees (AsStore c.in-Ok-Trees.store) (at_first (AsTrees c.args.trees) refl)
    (put_given g.S.Opens.gives c.give_up.result c.args.trees.pages c.in-Ok-Trees.field-0
    (Trees c.in-Ok-Trees.store) c.give_up.ensures
    c.in-Ok-Trees.field-0-is c.in-Ok-Trees.ensures.opened))
    c.store.ensures (told_done _ _ c.store.result c.in-Ok.done c.in-Ok.is c.if-done.true) c.held_again.ensures.held

-- it did not fit, and the file of the store was opened whole
pub returns-in-Ok-to_whole-clause-does : goal.returns-in-Ok-to_whole-clause-does
returns-in-Ok-to_whole-clause-does g c =
    let puts =
    PutsInto g.S.Store (g.C.Putting.room c.args.call) (g.C.Putting.asks c.args.call) (g.C.Putting.next c.args.call)
    (g.C.Putting.finds c.args.call) (g.C.Putting.makes c.args.call) in
    put_over g.P.Pages g.S.Store g.S.Opens.gives g.S.Opens.refuses _ _ _ _ (string_bytes c.args.self.now.path) _ _ _
    (Comes g.S.Store g.S.Opens.gives (Misfits puts) (λ part. part ≡ AsTrees c.args.trees))
    c.in-Ok-to_whole.conn
    (of_store c.store.new.store (AsWhole c.in-Ok-to_whole.conn)
    (by_put c.in-Ok-Trees.store c.store.new.store
    (of_pages c.args.trees (AsStore c.in-Ok-Trees.store) (at_first (AsTrees c.args.trees) refl)
    (put_given g.S.Opens.gives c.give_up.result c.args.trees.pages c.in-Ok-Trees.field-0
    (Trees c.in-Ok-Trees.store) c.give_up.ensures
    c.in-Ok-Trees.field-0-is c.in-Ok-Trees.ensures.opened))
    (misfits_so puts c.in-Ok-Trees.store c.store.new.store c.store.result c.in-Ok.done c.in-Ok.is
    c.if-done.false
    c.store.ensures))
    c.in-Ok-to_whole.ensures.opened)
    c.put_over-in-Ok-to_whole.ensures.does

-- or was not
pub returns-in-Err-to_whole-clause-does : goal.returns-in-Err-to_whole-clause-does
returns-in-Err-to_whole-clause-does g c =
    let puts =
    PutsInto g.S.Store (g.C.Putting.room c.args.call) (g.C.Putting.asks c.args.call) (g.C.Putting.next c.args.call)
    (g.C.Putting.finds c.args.call) (g.C.Putting.makes c.args.call) in
    not_put g.P.Pages g.S.Store g.S.Opens.gives g.S.Opens.refuses _ _ _ _ (string_bytes c.args.self.now.path) _ _ _
    (Comes g.S.Store g.S.Opens.gives (Misfits puts) (λ part. part ≡ AsTrees c.args.trees))
    c.in-Err-to_whole.cause c.requires.none
    (inr (inr (
      c.store.new.store,
      (
        (by_put c.in-Ok-Trees.store c.store.new.store
            (of_pages c.args.trees (AsStore c.in-Ok-Trees.store) (at_first (AsTrees c.args.trees) refl)
            (put_given g.S.Opens.gives c.give_up.result c.args.trees.pages c.in-Ok-Trees.field-0
            (Trees c.in-Ok-Trees.store) c.give_up.ensures
            c.in-Ok-Trees.field-0-is c.in-Ok-Trees.ensures.opened))
            (misfits_so puts c.in-Ok-Trees.store c.store.new.store c.store.result c.in-Ok.done c.in-Ok.is
            c.if-done.false
            c.store.ensures)),
        c.in-Err-to_whole.ensures.refused,
      ),
    )))
    (c.say-in-Err-to_whole.ensures.fault, c.say-in-Err-to_whole.ensures.which)

-- it was done, and where no trees are held it is said why
pub returns-then-done-clause-folded : goal.returns-then-done-clause-folded
returns-then-done-clause-folded g c =
    telling_of (g.S.Opens.foreign (FromStore c.store.new.store)) (g.S.Opens.refuses (FromStore c.store.new.store))
    c.held_again.result c.held_again.new.unfolded c.held_again.ensures.told
