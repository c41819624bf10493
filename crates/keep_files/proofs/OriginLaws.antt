-- What came of the file at a path.
use Rattle.std.proofs.Common.{◌≡◌, inl, inr, ℕ, List, Option, Some, None, refl, ap, sym, subst}
use Rattle.sqlite_trees.specs.View.{IsQuiet, IsRolledBack}
use Rattle.sqlite_trees.specs.declared.store.Store.{Ghosts}
use Rattle.sqlite_pages.specs.declared.pages.Pages.{Ghosts as PagesGhosts}
use Rattle.sqlite.specs.Held.{Held}
use Rattle.keep_trees.specs.declared.page_trees.PageTrees.{PageTrees}
use Rattle.keep_database.specs.declared.proved.ProvedKeeper.{ProvedKeeper}
use Rattle.keep_files.specs.declared.cause.Cause.{Cause}
use Rattle.keep_files.specs.declared.kept.Kept.{Kept}
use Rattle.keep_files.specs.declared.kept.Kept.TheVariants.{Trees, Whole}
use Rattle.keep_files.specs.Openings.{Opening, FromPath, FromPages, FromStore, Part, AsTrees, AsStore, AsWhole}
use Rattle.keep_files.specs.Openings.{read_part, put_part}
use Rattle.keep_files.specs.Openings.{IsAdopted, LacksTables, NotOpened, IsOpeningOf, IsUnread, IsUnput}
use Rattle.keep_files.specs.Origins.{Comes, at_first, by_query, by_adopting, by_taking_out, by_put, of_pages, of_store}
use Rattle.keep_files.specs.Origins.{IsFirst, OfFile, AdoptedOf, PutsNothing}
use Rattle.keep_files.specs.Asked.{IsReadyOf}

module _ {P S : Type 0} (gives : Opening P S → Part P S → Type 0) where
  -- what an opening at a path gave
  pub read_given : (path at : List ℕ) (kept it : Kept (PageTrees P) (Held S)) → path ≡ at → kept ≡ it
      → gives (FromPath path) (read_part kept) → gives (FromPath at) (read_part it)
  read_given path at kept it named is given =
      subst (λ (p : List ℕ). gives (FromPath p) (read_part it)) named
      (subst (λ (k : Kept (PageTrees P) (Held S)). gives (FromPath path) (read_part k)) is given)

  -- what an opening of pages gave
  pub put_given : (pages at : P) (kept it : Kept S (Held S)) → pages ≡ at → kept ≡ it
      → gives (FromPages pages) (put_part kept) → gives (FromPages at) (put_part it)
  put_given pages at kept it named is given =
      subst (λ (p : P). gives (FromPages p) (put_part it)) named
      (subst (λ (k : Kept S (Held S)). gives (FromPages pages) (put_part k)) is given)

-- a keeper was adopted on a connection of which more is known
pub adopted_so : {S : Type 0} (g : Ghosts S) (comes comes' : Held S → Type 0) (keeper : ProvedKeeper S) →
    ((conn : Held S) → comes conn → comes' conn) → IsAdopted g comes keeper → IsAdopted g comes' keeper
adopted_so g comes comes' keeper more h = record {
  conn = h.conn;
  from = more h.conn h.from;
  roomy = h.roomy;
  why = h.why;
  told = h.told;
  quiet = h.quiet;
  stands = h.stands;
  made = h.made;
  left = h.left;
  there = h.there;
  ours = h.ours;
  wrote = h.wrote;
  rest = h.rest;
  kept = h.kept;
  leaves = h.leaves;
  crash = h.crash;
}

-- one that lacks its tables
pub lacks_so : {S : Type 0} (g : Ghosts S) (comes comes' : Held S → Type 0) (cause : Cause) →
    ((conn : Held S) → comes conn → comes' conn) → LacksTables g comes cause → LacksTables g comes' cause
lacks_so g comes comes' cause more h = record {
  memory = h.memory;
  conn = h.conn;
  from = more h.conn h.from;
  keeper = h.keeper;
  unmade = h.unmade;
  why = h.why;
  kept = h.kept;
  leaves = h.leaves;
  crash = h.crash;
}

module _ {S : Type 0} (g : Ghosts S) (comes : Held S → Type 0) (conn : Held S) (from : comes conn) where
  -- a keeper was adopted on a connection of which that is known
  pub adopted_from : (keeper : ProvedKeeper S) → IsAdopted g (λ c. c ≡ conn) keeper → IsAdopted g comes keeper
  adopted_from keeper h = adopted_so g (λ c. c ≡ conn) comes keeper (λ c is. subst comes (sym is) from) h

  -- one that lacks its tables
  pub lacks_from : (cause : Cause) → LacksTables g (λ c. c ≡ conn) cause → LacksTables g comes cause
  lacks_from cause h = lacks_so g (λ c. c ≡ conn) comes cause (λ c is. subst comes (sym is) from) h

module _ {P S : Type 0} (g : Ghosts S) (gives : Opening P S → Part P S → Type 0) where
  -- what comes of what came of something, comes of that too
  pub comes_of : (puts puts' : S → S → Type 0) (first first' : Part P S → Type 0)
      → ((old new : S) → puts old new → puts' old new)
      → ((part : Part P S) → first part → Comes g gives puts' first' part)
      → {part : Part P S} → Comes g gives puts first part → Comes g gives puts' first' part
  comes_of puts puts' first first' more begin (at_first part h) = begin part h
  comes_of puts puts' first first' more begin (by_query old new h asked) =
      by_query old new (comes_of puts puts' first first' more begin h) asked
  comes_of puts puts' first first' more begin (by_adopting conn keeper h adopted) =
      by_adopting conn keeper (comes_of puts puts' first first' more begin h) adopted
  comes_of puts puts' first first' more begin (by_taking_out conn store h taken) =
      by_taking_out conn store (comes_of puts puts' first first' more begin h) taken
  comes_of puts puts' first first' more begin (by_put old new h put) =
      by_put old new (comes_of puts puts' first first' more begin h) (more old new put)
  comes_of puts puts' first first' more begin (of_pages trees part h given) =
      of_pages trees part (comes_of puts puts' first first' more begin h) given
  comes_of puts puts' first first' more begin (of_store store part h given) =
      of_store store part (comes_of puts puts' first first' more begin h) given

  -- what came of the file without a put, came of it
  pub file_so : (puts : S → S → Type 0) (path : List ℕ) (old : Option (Kept (PageTrees P) (ProvedKeeper S)))
      {part : Part P S} → OfFile g gives PutsNothing path old part → OfFile g gives puts path old part
  file_so puts path old h =
      comes_of PutsNothing puts (IsFirst gives path old) (IsFirst gives path old) (λ from to none. absurd none)
      (λ part first. at_first part first) h

  -- what came of trees, came of the file that they came of
  pub trees_so : (puts puts' : S → S → Type 0) (first : Part P S → Type 0) (trees : PageTrees P)
      → ((old new : S) → puts old new → puts' old new) → Comes g gives puts' first (AsTrees trees)
      → (part : Part P S) → Comes g gives puts (λ other. other ≡ AsTrees trees) part → Comes g gives puts' first part
  trees_so puts puts' first trees more came part h =
      comes_of puts puts' (λ other. other ≡ AsTrees trees) first more
      (λ other is. subst (λ (it : Part P S). Comes g gives puts' first it) (sym is) came) h

  -- the store of a connection that came, and what its file gave
  pub taken_comes : (puts : S → S → Type 0) (first : Part P S → Type 0) (conn : Held S) (store : S)
      → Comes g gives puts first (AsWhole conn) → IsRolledBack (g.view conn.store) (g.view store)
      → IsQuiet g.view g.faults g.recovers g.is_shielded conn.store store → Comes g gives puts first (AsStore store)
  taken_comes puts first conn store came undone quiet =
      by_taking_out conn store came (record { undone = undone; quiet = quiet })

  -- the connection of a keeper came as the one did on which it was adopted
  pub adopted_comes : (puts : S → S → Type 0) (first : Part P S → Type 0) (keeper : ProvedKeeper S) →
      AdoptedOf g (Comes g gives puts first) keeper → Comes g gives puts first (AsWhole keeper.conn)
  adopted_comes puts first keeper h =
      by_adopting h.conn keeper h.from
      (record {
        conn = h.conn;
        from = refl;
        roomy = h.roomy;
        why = h.why;
        told = h.told;
        quiet = h.quiet;
        stands = h.stands;
        made = h.made;
        left = h.left;
        there = h.there;
        ours = h.ours;
        wrote = h.wrote;
        rest = h.rest;
        kept = h.kept;
        leaves = h.leaves;
        crash = h.crash;
      })

  -- trees that are ready came of the file at the path, or of what was held of it
  pub ready_trees_come : (p : PagesGhosts P) (path : List ℕ) (old : Option (Kept (PageTrees P) (ProvedKeeper S)))
      (trees : PageTrees P)
      → IsReadyOf g gives p path old (Trees trees)
      → OfFile g gives PutsNothing path old (AsTrees trees)
  ready_trees_come p path None trees h = h.1
  ready_trees_come p path (Some (Trees held)) trees h =
      at_first (AsTrees trees) (let is : trees ≡ held = cc in ap AsTrees is)
  ready_trees_come p path (Some (Whole keeper)) trees h = absurd (cc)

  -- what is held is ready
  pub ready_held : (p : PagesGhosts P) (path : List ℕ) (old : Option (Kept (PageTrees P) (ProvedKeeper S)))
      (kept : Kept (PageTrees P) (ProvedKeeper S)) → old ≡ Some kept → IsReadyOf g gives p path old kept
  ready_held p path None kept is = absurd (cc)
  ready_held p path (Some held) kept is = cc

  -- a keeper that is ready came of it too
  pub ready_whole_comes : (p : PagesGhosts P) (path : List ℕ) (old : Option (Kept (PageTrees P) (ProvedKeeper S)))
      (keeper : ProvedKeeper S)
      → IsReadyOf g gives p path old (Whole keeper)
      → OfFile g gives PutsNothing path old (AsWhole keeper.conn)
  ready_whole_comes p path None keeper h = adopted_comes PutsNothing (IsFirst gives path None) keeper h
  ready_whole_comes p path (Some (Trees held)) keeper h = absurd (cc)
  ready_whole_comes p path (Some (Whole held)) keeper h =
      at_first (AsWhole keeper.conn)
      (let is : keeper ≡ held = cc in ap (λ (k : ProvedKeeper S). AsWhole k.conn) is)

-- what is opened came as more is known of it
pub opening_so : {P S : Type 0} (comes comes' : Part P S → Type 0) (opening : Opening P S) →
    ((part : Part P S) → comes part → comes' part) → IsOpeningOf comes opening → IsOpeningOf comes' opening
opening_so comes comes' (FromPath path) more h = absurd h
opening_so comes comes' (FromPages pages) more h = (h.0, h.1, more (AsTrees h.0) h.2)
opening_so comes comes' (FromStore store) more h = more (AsStore store) h

module _ {P S : Type 0} (g : Ghosts S) (refuses : Opening P S → Cause → Type 0) (path : List ℕ)
    (comes comes' : Part P S → Type 0) (more : (part : Part P S) → comes part → comes' part) where
  -- what was not opened to read
  pub unread_so : (cause : Cause) → IsUnread (NotOpened g comes refuses) path cause →
      IsUnread (NotOpened g comes' refuses) path cause
  unread_so cause (inl refused) = inl refused
  unread_so cause (inr lacks) =
      inr
      (lacks_so g (λ conn. comes (AsWhole conn)) (λ conn. comes' (AsWhole conn)) cause (λ conn. more (AsWhole conn))
      lacks)

  -- what was not opened to put
  pub unput_so : (cause : Cause) → IsUnput (NotOpened g comes refuses) path cause →
      IsUnput (NotOpened g comes' refuses) path cause
  unput_so cause (inl unread) = inl (unread_so cause unread)
  unput_so cause (inr (inl h)) =
      inr (inl (h.0, (opening_so comes comes' (FromPages h.0) more h.1.0, h.1.1)))
  unput_so cause (inr (inr h)) = inr (inr (h.0, (more (AsStore h.0) h.1.0, h.1.1)))
