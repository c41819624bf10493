use Rattle.std.proofs.Common.{◌≡◌, ℕ, suc, List, [], ◌∷◌, ◌++◌, filter, nat_le, refl, ap, ◌∙◌, subst₂, arith}
use Rattle.std.proofs.Common.{MatchResult}
use Rattle.sqlite_pages.specs.PageMap.{PageMap}
use Rattle.sqlite_pages.specs.Calls.{FailsFor}
use Rattle.sqlite_value.specs.Keys.{plain}
use Rattle.sqlite_trees.specs.declared.store.Shape.TheVariants.{Index}
use Rattle.sqlite_btree.proofs.Results.{so_ok}
use Rattle.sqlite_store.specs.Catalog.{reals_at}
use Rattle.sqlite_store.specs.Db.{IsDb, Names, trees_in}
use Rattle.road_time.specs.declared.day.SpentRow.{SpentRow}
use Rattle.keep_trees.specs.Pages.{our_trees}
use Rattle.keep_trees.specs.Walks.{HasAhead, Advances}
use Rattle.keep_trees.proofs.Premise.{key_at, key_begins}
use Rattle.keep_trees.proofs.ResultLaws.{if_so}
use Rattle.keep_trees.proofs.RowsLaws.{first, among, goes}
use Rattle.keep_trees.proofs.gathering.take_amount.Goals as goal

pub returns-clause-done : goal.returns-clause-done
returns-clause-done g c clean o has wanted w fits =
    let size = g.P.Pages.size c.args.pages.now in
    let pages = g.P.Pages.pages c.args.pages.now in
    let answer = (c.in_ok-amount.ensures.done (omega (arith, c.next_entry.ensures.kept.clean))) o has w.at in
    let its = answer (first w).first (among w) (first w).key in
    let taken : c.append.new.rows.items ≡ c.args.rows.now.items ++ filter wanted ((first w).first ∷ []) =
    c.in_ok-append.ensures
    ∙ ap (λ (l : List SpentRow). c.args.rows.now.items ++ l)
    (ap (λ (r : SpentRow). filter (λ (s : SpentRow). nat_le c.args.from s.day) (r ∷ [])) its
    ∙ fits (first w).first (among w) (first w).key) in
    let next =
    subst₂ (λ (n : ℕ) (m : PageMap). (t : ℕ) → (db : IsDb n our_trees m)
    → Names n our_trees m t (Index plain) c.args.roots.spent_key
    → reals_at our_trees t ≡ 0 → HasAhead (db.layouts (suc t)) n m
    (trees_in n our_trees m t) c.args.hands.now.batch c.args.hands.now.entry
    → MatchResult c.next_entry.result
    (Advances (db.layouts (suc t)) n m
    (trees_in n our_trees m t) c.args.hands.now.entry c.next_entry.new.batch c.next_entry.new.entry)
    (FailsFor g.P.Pages c.amount_behind.new.pages c.next_entry.new.pages ⊥))
    c.amount_behind.ensures.kept.same_size c.amount_behind.ensures.pages (c.next_entry.ensures.done (omega arith)) in
    so_ok c.next_entry.result _ _ _ _ _ ⊥ ⊥ c.amount_behind.ensures.kept.more_faults (λ h. h)
    (next 2 w.db (key_at has) refl w.ahead)
    (λ found so. goes w c.append.new.rows.items c.next_entry.new.batch c.next_entry.new.entry found taken so)

pub returns-clause-told : goal.returns-clause-told
returns-clause-told g c clean db are ahead =
    let its = c.in_ok-amount.ensures.told (omega (arith, c.next_entry.ensures.kept.clean)) db are in
    let next =
    subst₂ (λ (n : ℕ) (m : PageMap). (t : ℕ) → (db : IsDb n our_trees m)
    → Names n our_trees m t (Index plain) c.args.roots.spent_key
    → reals_at our_trees t ≡ 0 → HasAhead (db.layouts (suc t)) n m
    (trees_in n our_trees m t) c.args.hands.now.batch c.args.hands.now.entry
    → MatchResult c.next_entry.result
    (Advances (db.layouts (suc t)) n m
    (trees_in n our_trees m t) c.args.hands.now.entry c.next_entry.new.batch c.next_entry.new.entry)
    (FailsFor g.P.Pages c.amount_behind.new.pages c.next_entry.new.pages ⊥))
    c.amount_behind.ensures.kept.same_size c.amount_behind.ensures.pages (c.next_entry.ensures.done clean) in
    if_so c.next_entry.result _ _ _ (next 2 db (key_begins are) refl ahead)
    (λ found so. (c.in_ok-amount.amount, its, c.in_ok-append.ensures, so))
