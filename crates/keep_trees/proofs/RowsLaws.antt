-- How a walk gathers the amounts that are wanted.
use Rattle.std.proofs.Common.{◌≡◌, ℕ, Bool, true, false, List, [], ◌∷◌, ◌++◌, map, take, filter, refl, sym, ap}
use Rattle.std.proofs.Common.{subst, ◌∙◌}
use Rattle.std.proofs.Common.{inl, inr, append_assoc, append-nil, Less, is_lt}
use Rattle.std.specs.List.{AllByRecursion}
use Rattle.std.specs.List.Sorted.{IsStrictlySortedBy}
use Rattle.std.proofs.lemmas.Bool.{cases_Bool}
use Rattle.std.proofs.lemmas.List.Elements.{filter-append}
use Rattle.sqlite_pages.specs.PageMap.{PageMap}
use Rattle.sqlite_value.specs.Order.{Row}
use Rattle.sqlite_value.specs.Keys.{plain, prefix_cmp}
use Rattle.sqlite_trees.specs.declared.store.Shape.TheVariants.{Index}
use Rattle.sqlite_trees.specs.Tree.{from_key, IsIndex}
use Rattle.sqlite_trees.proofs.TreeLemmas.{prefix_cmp_follows}
use Rattle.sqlite_btree.specs.Cut.{IsIn}
use Rattle.sqlite_btree.specs.declared.batch.Batch.{Batch}
use Rattle.sqlite_btree.proofs.CutLemmas.{in_right}
use Rattle.sqlite_keyed.proofs.ListLemmas.{filter_none, all_weaker}
use Rattle.sqlite_store.specs.Cursor.{rows_after}
use Rattle.sqlite_store.specs.Db.{IsDb, trees_in}
use Rattle.road_time.specs.declared.day.SpentRow.{SpentRow}
use Rattle.keep_office.specs.Office.{Office, RowsRise, row_cmp}
use Rattle.keep_trees.specs.Pages.{our_trees}
use Rattle.keep_trees.specs.Walks.{Advances, StartsAt}
use Rattle.keep_trees.specs.Rows.{row_key, Walking, IsWalkedTo}
use Rattle.keep_trees.proofs.EntryLaws.{first_in, under}
use Rattle.keep_trees.proofs.WalkLaws.{after_ends, behind_it}

-- the first entry is of the first amount that is left, and the others of the others
pub record FirstLeft (entry : Row) (rest : List Row) (left : List SpentRow) : Type 0 where
  pub first : SpentRow
  pub others : List SpentRow
  pub parts : left ≡ first ∷ others
  pub key : take 3 entry ≡ row_key first
  pub keys : map (take 3) rest ≡ map row_key others

-- what lists one entry and more lists one amount and more
pub heads : (entry : Row) (rest : List Row) (left : List SpentRow) → map (take 3) (entry ∷ rest) ≡ map row_key left →
    FirstLeft entry rest left
heads entry rest [] h = absurd (cc)
heads entry rest (r ∷ others) h =
    let e : take 3 entry ∷ map (take 3) rest ≡ row_key r ∷ map row_key others = h in
    record { first = r; others = others; parts = refl; key = cc; keys = cc }

-- where no keys are left, no amounts are
nothing_left : (left : List SpentRow) → map row_key left ≡ [] → left ≡ []
nothing_left [] h = refl
nothing_left (r ∷ left) h = absurd (cc)

-- amounts rise behind one
above_it : (front : List SpentRow) (r : SpentRow) (others : List SpentRow) → RowsRise (front ++ r ∷ others) →
    AllByRecursion (λ s. row_cmp r s ≡ Less) others
unfolding IsStrictlySortedBy
above_it [] r others up = up.0
above_it (x ∷ front) r others up = above_it front r others up.1

-- where neither one is wanted nor any that is above it, none is
none_wanted : (wanted : SpentRow → Bool) (front : List SpentRow) (r : SpentRow) (others : List SpentRow) →
    RowsRise (front ++ r ∷ others) → wanted r ≡ false → ((s : SpentRow) → row_cmp r s ≡ Less → wanted s ≡ false) →
    filter wanted (r ∷ others) ≡ []
none_wanted wanted front r others up here more =
    rw here
    (filter_none wanted others (all_weaker _ (λ s. wanted s ≡ false) more others (above_it front r others up)))

-- what holds of all holds of one among them
at_one : (P : Row → Type 0) (front : List Row) (x : Row) (rest : List Row) → AllByRecursion P (front ++ x ∷ rest) → P x
at_one P [] x rest all = all.0
at_one P (y ∷ front) x rest all = at_one P front x rest all.1

-- entries before one that is below a key are not from the key on
pub before_key : (key : Row) (front : List Row) (entry : Row) (rest : List Row) → IsIndex plain (front ++ entry ∷ rest) →
    is_lt (prefix_cmp plain entry key) ≡ true →
    from_key plain key (front ++ entry ∷ rest) ≡ from_key plain key (entry ∷ rest)
before_key key [] entry rest up low = refl
before_key key (x ∷ front) entry rest up low =
    let here = (prefix_cmp_follows plain key x entry (under _ (at_one _ front entry rest up.0))).0 low in
    rw here (before_key key front entry rest up.1 low)

-- an entry among others has some before it and some behind it
stands_in : (es : List Row) (e : Row) → IsIn e es → (front : List Row) × (rest : List Row) × (es ≡ front ++ e ∷ rest)
stands_in [] e at = absurd at
stands_in (x ∷ es) e (inl is) = ([], es, ap (λ (y : Row). y ∷ es) (sym is))
stands_in (x ∷ es) e (inr more) =
    let s = stands_in es e more in (x ∷ s.0, s.1, ap (λ (l : List Row). x ∷ l) s.2)

-- an amount is not wanted if an entry of it is below a key
abbrev pub IsSkipped : (SpentRow → Bool) → Row → SpentRow → Type 0
IsSkipped wanted key r =
    (e : Row) → take 3 e ≡ row_key r → is_lt (prefix_cmp plain e key) ≡ true → wanted r ≡ false

-- the amounts before a key, none of which is wanted, and those that the entries from it on are of
pub record Begins (wanted : SpentRow → Bool) (key : Row) (es : List Row) (rows : List SpentRow) : Type 0 where
  pub front : List SpentRow
  pub left : List SpentRow
  pub split : rows ≡ front ++ left
  pub keys : map (take 3) (from_key plain key es) ≡ map row_key left
  pub none : filter wanted front ≡ []

-- entries and amounts part at the same place
pub begins_at : (wanted : SpentRow → Bool) (key : Row) (es : List Row) (rows : List SpentRow) →
    map (take 3) es ≡ map row_key rows → AllByRecursion (IsSkipped wanted key) rows → Begins wanted key es rows
begins_at wanted key [] [] h skipped = record { front = []; left = []; split = refl; keys = refl; none = refl }
begins_at wanted key [] (r ∷ rows) h skipped = absurd (cc)
begins_at wanted key (e ∷ es) [] h skipped = absurd (cc)
begins_at wanted key (e ∷ es) (r ∷ rows) h skipped =
    let both : take 3 e ∷ map (take 3) es ≡ row_key r ∷ map row_key rows = h in
    let its : take 3 e ≡ row_key r = cc in
    let keys : map (take 3) es ≡ map row_key rows = cc in
    elim (cases_Bool (is_lt (prefix_cmp plain e key))) [
      | inl low ↦
          let more = begins_at wanted key es rows keys skipped.1 in
          record {
            front = r ∷ more.front;
            left = more.left;
            split = ap (λ l. r ∷ l) more.split;
            keys = rw low more.keys;
            none = rw (skipped.0 e its low) more.none;
          }
      | inr high ↦ record { front = []; left = r ∷ rows; split = refl; keys = rw high both; none = refl }
    ]

module _ {size : ℕ} {pages : PageMap} (o : Office) (wanted : SpentRow → Bool) (db : IsDb size our_trees pages) where
  -- a seek in what is left goes on with a walk
  pub resumes : (key : Row) (front left : List SpentRow) (es : List Row) (rows : List SpentRow)
      → o.rows ≡ front ++ left →
      rows ≡ filter wanted front → map (take 3) es ≡ map row_key left →
      from_key plain key (trees_in size our_trees pages 2) ≡ from_key plain key es →
      AllByRecursion (IsSkipped wanted key) left → (batch : Batch) (entry : Row) (found : Bool) →
      StartsAt (db.layouts 3) size pages (trees_in size our_trees pages 2) key batch entry found →
      IsWalkedTo size pages o wanted batch entry rows found
  resumes key front left es rows split got lists same skipped batch entry found starts =
      let b = begins_at wanted key es left lists skipped in
      let parts : o.rows ≡ (front ++ b.front) ++ b.left =
      split ∙ ap (λ l. front ++ l) b.split ∙ sym (append_assoc front b.front b.left) in
      let has : rows ≡ filter wanted (front ++ b.front) =
      got ∙ sym (append-nil (filter wanted front)) ∙ ap (λ l. filter wanted front ++ l) (sym b.none)
      ∙ sym (filter-append wanted front b.front) in
      on b parts has found starts
    where
      on : (b : Begins wanted key es left) → o.rows ≡ (front ++ b.front) ++ b.left
          → rows ≡ filter wanted (front ++ b.front) →
          (f : Bool) → StartsAt (db.layouts 3) size pages (trees_in size our_trees pages 2) key batch entry f →
          IsWalkedTo size pages o wanted batch entry rows f
      on b parts has true s = record {
        db = db;
        front = front ++ b.front;
        left = b.left;
        split = parts;
        got = has;
        at = first_in key (trees_in size our_trees pages 2) entry _ s.0;
        lists = ap (map (take 3)) (sym s.0 ∙ same) ∙ b.keys;
        ahead = s.1;
      }
      on b parts has false s =
          let over : b.left ≡ [] = nothing_left b.left (sym b.keys ∙ ap (map (take 3)) (sym same ∙ s)) in
          has
          ∙ ap (filter wanted)
          (sym (append-nil (front ++ b.front)) ∙ ap (λ l. (front ++ b.front) ++ l) (sym over) ∙ sym parts)

module _ {size : ℕ} {pages : PageMap} {o : Office} {wanted : SpentRow → Bool} {batch : Batch} {entry : Row}
    {rows : List SpentRow} (w : Walking size pages o wanted batch entry rows) where
  -- the amount that it stands at
  abbrev pub first : FirstLeft entry (rows_after (Index plain) entry (trees_in size our_trees pages 2)) w.left
  first = heads entry (rows_after (Index plain) entry (trees_in size our_trees pages 2)) w.left w.lists

  -- the amounts are those before it, it and the others
  pub whole : o.rows ≡ w.front ++ first.first ∷ first.others
  whole = w.split ∙ ap (λ l. w.front ++ l) first.parts

  -- it is one of the office's
  pub among : IsIn first.first o.rows
  among = subst (IsIn first.first) (sym whole) (in_right first.first w.front (first.first ∷ first.others) (inl refl))

  -- where neither it is wanted nor any above it, all is gathered
  pub past : RowsRise o.rows → wanted first.first ≡ false →
      ((s : SpentRow) → row_cmp first.first s ≡ Less → wanted s ≡ false) → rows ≡ filter wanted o.rows
  past up here more =
      let none = none_wanted wanted w.front first.first first.others (subst RowsRise whole up) here more in
      w.got ∙ sym (append-nil (filter wanted w.front))
      ∙ ap (λ l. filter wanted w.front ++ l) (sym none)
      ∙ sym (filter-append wanted w.front (first.first ∷ first.others)) ∙ ap (filter wanted) (sym whole)

  -- the amount is taken if it is wanted, and the walk goes on
  pub goes : (rows_now : List SpentRow) (batch_now : Batch) (entry_now : Row) (found : Bool) →
      rows_now ≡ rows ++ filter wanted (first.first ∷ []) →
      Advances (w.db.layouts 3) size pages (trees_in size our_trees pages 2) entry batch_now entry_now found →
      IsWalkedTo size pages o wanted batch_now entry_now rows_now found
  goes rows_now batch_now entry_now found taken next =
      let split : o.rows ≡ (w.front ++ first.first ∷ []) ++ first.others =
      whole ∙ sym (append_assoc w.front (first.first ∷ []) first.others) in
      let got : rows_now ≡ filter wanted (w.front ++ first.first ∷ []) =
      taken ∙ ap (λ (l : List SpentRow). l ++ filter wanted (first.first ∷ [])) w.got
      ∙ sym (filter-append wanted w.front (first.first ∷ [])) in
      on found next split got
    where
      on : (f : Bool) →
          Advances (w.db.layouts 3) size pages (trees_in size our_trees pages 2) entry batch_now entry_now f →
          o.rows ≡ (w.front ++ first.first ∷ []) ++ first.others →
          rows_now ≡ filter wanted (w.front ++ first.first ∷ []) →
          IsWalkedTo size pages o wanted batch_now entry_now rows_now f
      on true n split got =
          let ends = after_ends entry (trees_in size our_trees pages 2) _ n.0 in
          record {
            db = w.db;
            front = w.front ++ first.first ∷ [];
            left = first.others;
            split = split;
            got = got;
            at = subst (IsIn entry_now) (sym ends.1) (in_right entry_now ends.0 _ (inl refl));
            lists = ap (map (take 3)) (sym n.0) ∙ first.keys;
            ahead = n.1;
          }
      on false n split got =
          let none : first.others ≡ [] = nothing_left first.others (sym first.keys ∙ ap (map (take 3)) n) in
          got
          ∙ ap (filter wanted)
          (sym (append-nil (w.front ++ first.first ∷ [])) ∙ ap (λ l. (w.front ++ first.first ∷ []) ++ l) (sym none)
          ∙ sym split)

  -- or it is below a key, and the walk goes on from there
  pub leaps : (key : Row) → IsIndex plain (trees_in size our_trees pages 2) → RowsRise o.rows →
      is_lt (prefix_cmp plain entry key) ≡ true → wanted first.first ≡ false →
      ((s : SpentRow) → row_cmp first.first s ≡ Less → IsSkipped wanted key s) →
      (batch_now : Batch) (entry_now : Row) (found : Bool) →
      StartsAt (w.db.layouts 3) size pages (trees_in size our_trees pages 2) key batch_now entry_now found →
      IsWalkedTo size pages o wanted batch_now entry_now rows found
  leaps key up rise low here more batch_now entry_now found starts =
      let at = stands_in (trees_in size our_trees pages 2) entry w.at in
      let behind = behind_it (trees_in size our_trees pages 2) at.0 entry at.1 up at.2 in
      let same : from_key plain key (trees_in size our_trees pages 2)
      ≡ from_key plain key (entry ∷ rows_after (Index plain) entry (trees_in size our_trees pages 2)) =
      ap (from_key plain key) at.2 ∙ before_key key at.0 entry at.1 (subst (IsIndex plain) at.2 up) low
      ∙ ap (λ l. from_key plain key (entry ∷ l)) (sym behind) in
      let skipped : AllByRecursion (IsSkipped wanted key) (first.first ∷ first.others) = (
        (λ e its under_it. here),
        all_weaker _ (IsSkipped wanted key) more first.others
            (above_it w.front first.first first.others (subst RowsRise whole rise)),
      ) in
      resumes o wanted w.db key w.front w.left
      (entry ∷ rows_after (Index plain) entry (trees_in size our_trees pages 2))
      rows w.split w.got w.lists same (subst (AllByRecursion (IsSkipped wanted key)) (sym first.parts) skipped)
      batch_now entry_now found starts
