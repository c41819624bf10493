use Rattle.std.proofs.Common.{◌≡◌, inl, inr, refl, string_bytes, subst, sym}
use Rattle.keep_files.specs.declared.kept.Kept.TheVariants.{Trees}
use Rattle.keep_files.specs.Openings.{FromPages, FromStore, IfWhole, AsTrees, AsStore}
use Rattle.keep_files.specs.Origins.{Comes, FoundAgain, PutsNothing, at_first, of_pages}
use Rattle.keep_files.proofs.AnewLaws.{not_anew, put_anew_so, told_anew, told_failed_anew, told_foreign}
use Rattle.keep_files.proofs.AskedLaws.{holds_none}
use Rattle.keep_files.proofs.MissedLaws.{telling_of}
use Rattle.keep_files.proofs.OriginLaws.{put_given}
use Rattle.keep_files.proofs.StoringLaws.{puts_any}
use Rattle.keep_files.proofs.database.Database.put_anew_by.Goals as goal

-- the file is opened whole
pub returns-in-Ok-Whole-clause-does : goal.returns-in-Ok-Whole-clause-does
returns-in-Ok-Whole-clause-does g c =
    let whole : _ =
    subst (IfWhole (g.S.Opens.foreign (FromPages c.give_up.result))) c.in-Ok-Whole.field-0-is
    c.in-Ok-Whole.ensures.whole
    in
    not_anew g.P.Pages g.S.Store g.S.Opens.gives g.S.Opens.refuses g.S.Opens.foreign _
    (string_bytes c.args.self.now.path) _ _ _
    (Comes g.S.Store g.S.Opens.gives PutsNothing (λ part. part ≡ AsTrees c.args.trees))
    _ c.requires.none
    (inr (
      refl,
      (
        FromPages c.give_up.result,
        (
          (
            c.args.trees,
            sym c.give_up.ensures,
            (at_first
                (AsTrees c.args.trees) refl),
          ),
          whole,
        ),
      ),
    ))
    (c.say.ensures.fault, c.say.ensures.which)

-- no store was opened
pub returns-in-Err-clause-does : goal.returns-in-Err-clause-does
returns-in-Err-clause-does g c =
    not_anew g.P.Pages g.S.Store g.S.Opens.gives g.S.Opens.refuses g.S.Opens.foreign _
    (string_bytes c.args.self.now.path) _ _ _
    (Comes g.S.Store g.S.Opens.gives PutsNothing (λ part. part ≡ AsTrees c.args.trees))
    c.in-Err.cause c.requires.none
    (inl
    (inr
    (inl (
      c.give_up.result,
      (
        (
          c.args.trees,
          sym c.give_up.ensures,
          (at_first
              (AsTrees c.args.trees) refl),
        ),
        c.in-Err.ensures.refused,
      ),
    ))))
    (c.say-in-Err.ensures.fault, c.say-in-Err.ensures.which)

-- the store failed
pub returns-in-Err-put_anew-clause-does : goal.returns-in-Err-put_anew-clause-does
returns-in-Err-put_anew-clause-does g c =
    put_anew_so g.P.Pages g.S.Store g.S.Opens.gives g.S.Opens.refuses g.S.Opens.foreign _
    (string_bytes c.args.self.now.path) _ _ _
    (Comes g.S.Store g.S.Opens.gives PutsNothing (λ part. part ≡ AsTrees c.args.trees))
    c.in-Ok-Trees.store c.put_anew.new.store c.put_anew.result
    (of_pages c.args.trees (AsStore c.in-Ok-Trees.store) (at_first (AsTrees c.args.trees) refl)
    (put_given g.S.Opens.gives c.give_up.result c.args.trees.pages c.in-Ok-Trees.field-0
    (Trees c.in-Ok-Trees.store) c.give_up.ensures
    c.in-Ok-Trees.field-0-is c.in-Ok-Trees.ensures.opened))
    (puts_any g.S.Store _ _ _ _ _ _ _ c.put_anew.ensures.stores c.put_anew.ensures.writes)
    (told_failed_anew _ _ c.put_anew.result c.in-Err-put_anew.error c.in-Err-put_anew.is c.say_of_store.ensures.fault
    c.say_of_store.ensures.which)
    (holds_none (FoundAgain g.P.Pages g.S.Opens.gives c.put_anew.new.store) _ c.requires.none)

-- it does not have our trees
pub returns-then-not-done-clause-does : goal.returns-then-not-done-clause-does
returns-then-not-done-clause-does g c =
    put_anew_so g.P.Pages g.S.Store g.S.Opens.gives g.S.Opens.refuses g.S.Opens.foreign _
    (string_bytes c.args.self.now.path) _ _ _
    (Comes g.S.Store g.S.Opens.gives PutsNothing (λ part. part ≡ AsTrees c.args.trees))
    c.in-Ok-Trees.store c.put_anew.new.store c.put_anew.result
    (of_pages c.args.trees (AsStore c.in-Ok-Trees.store) (at_first (AsTrees c.args.trees) refl)
    (put_given g.S.Opens.gives c.give_up.result c.args.trees.pages c.in-Ok-Trees.field-0
    (Trees c.in-Ok-Trees.store) c.give_up.ensures
    c.in-Ok-Trees.field-0-is c.in-Ok-Trees.ensures.opened))
    (puts_any g.S.Store _ _ _ _ _ _ _ c.put_anew.ensures.stores c.put_anew.ensures.writes)
    (told_foreign _ _ c.put_anew.result c.in-Ok.done c.in-Ok.is c.if-not-done.true
    (c.say-then-not-done.ensures.fault, c.say-then-not-done.ensures.which))
    (holds_none (FoundAgain g.P.Pages g.S.Opens.gives c.put_anew.new.store) _ c.requires.none)

-- it was put, and the trees of the store's file are held
pub returns-clause-does : goal.returns-clause-does
returns-clause-does g c =
    put_anew_so g.P.Pages g.S.Store g.S.Opens.gives g.S.Opens.refuses g.S.Opens.foreign _
    (string_bytes c.args.self.now.path) _ _ _
    (Comes g.S.Store g.S.Opens.gives PutsNothing (λ part. part ≡ AsTrees c.args.trees))
    c.in-Ok-Trees.store c.put_anew.new.store c.put_anew.result
    (of_pages c.args.trees (AsStore c.in-Ok-Trees.store) (at_first (AsTrees c.args.trees) refl)
    (put_given g.S.Opens.gives c.give_up.result c.args.trees.pages c.in-Ok-Trees.field-0
    (Trees c.in-Ok-Trees.store) c.give_up.ensures
    c.in-Ok-Trees.field-0-is c.in-Ok-Trees.ensures.opened))
    (puts_any g.S.Store _ _ _ _ _ _ _ c.put_anew.ensures.stores c.put_anew.ensures.writes)
    (told_anew _ _ c.put_anew.result c.in-Ok.done c.in-Ok.is c.if-not-done.false)
    c.held_again.ensures.held

-- and where none are held it is said why
pub returns-clause-folded : goal.returns-clause-folded
returns-clause-folded g c =
    telling_of (g.S.Opens.foreign (FromStore c.put_anew.new.store)) (g.S.Opens.refuses (FromStore c.put_anew.new.store))
    c.held_again.result c.held_again.new.unfolded c.held_again.ensures.told
