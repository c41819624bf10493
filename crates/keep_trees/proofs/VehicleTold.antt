-- How a walk tells the amounts of a vehicle, whatever the entries are.
use Rattle.std.proofs.Common.{◌≡◌, ◌<◌, ℕ, pos, nat_le, Bool, true, false, List, [], ◌∷◌, ◌++◌}
use Rattle.std.proofs.Common.{filter, refl, sym, ap, subst, subst₂, ◌∙◌, append_assoc, append-nil, arith, inl, inr}
use Rattle.std.proofs.Common.{is_lt, is_gt}
use Rattle.std.specs.List.{AllByRecursion}
use Rattle.std.specs.Ordering.{nat_cmp, ordering_then}
use Rattle.std.proofs.lemmas.Bool.{cases_Bool}
use Rattle.std.proofs.lemmas.Bool.Decides.{nat_tests}
use Rattle.std.proofs.lemmas.List.Elements.{filter-append}
use Rattle.sqlite_pages.specs.PageMap.{PageMap}
use Rattle.sqlite_value.specs.declared.value.Value.TheVariants.{Int}
use Rattle.sqlite_value.specs.Order.{Row, column}
use Rattle.sqlite_value.specs.Keys.{plain, prefix_cmp, entry_cmp}
use Rattle.sqlite_trees.specs.declared.store.Shape.TheVariants.{Index}
use Rattle.sqlite_trees.specs.Tree.{from_key, IsIndex}
use Rattle.sqlite_btree.specs.declared.batch.Batch.{Batch}
use Rattle.sqlite_keyed.proofs.ListLemmas.{all_weaker, all_of, filter_none}
use Rattle.sqlite_store.specs.Cursor.{rows_after}
use Rattle.sqlite_store.specs.Db.{IsDb, trees_in}
use Rattle.sqlite_store.proofs.DbLemmas.{ordered}
use Rattle.road_time.specs.declared.day.SpentRow.{SpentRow}
use Rattle.keep_trees.specs.Pages.{our_trees}
use Rattle.keep_trees.specs.Finds.{pair_key}
use Rattle.keep_trees.specs.Walks.{Advances, StartsAt}
use Rattle.keep_trees.specs.Tolls.{IsAmountOf, AreAmountsOf, AreToldOf, TellingOf, IsTellingOf}
use Rattle.keep_trees.proofs.EntryLaws.{under}
use Rattle.keep_trees.proofs.RowsLaws.{before_key}
use Rattle.keep_trees.proofs.RowsTold.{one_more}
use Rattle.keep_trees.proofs.VehicleEntries.{wanted, before_start, parts_at, with_numbers}

-- the entries of the index
abbrev entries : ℕ → PageMap → List Row
entries size pages = trees_in size our_trees pages 2

-- the rows of the table of amounts
abbrev table : ℕ → PageMap → List Row
table size pages = trees_in size our_trees pages 1

-- an entry of a lesser vehicle is below the vehicle on its day
pub is_under_it : (entry : Row) (day other vid : ℕ) → column entry 0 ≡ Int (pos day) → column entry 1 ≡ Int (pos other)
    → other < vid → is_lt (prefix_cmp plain entry (pair_key day vid)) ≡ true
is_under_it entry day other vid d v less =
    ap is_lt (with_numbers entry day other day vid d v) ∙ test day other vid less
  where
    test : (k m n : ℕ) → m < n → is_lt (ordering_then (nat_cmp k k) (nat_cmp m n)) ≡ true
    test k m n h = grind (arith, nat_tests, h)

-- what rises rises from one on
up_at : (front : List Row) (e : Row) (rest : List Row) → IsIndex plain (front ++ e ∷ rest) → IsIndex plain (e ∷ rest)
up_at [] e rest up = up
up_at (x ∷ front) e rest up = up_at front e rest up.1

module _ {size : ℕ} {pages : PageMap} (vid from to : ℕ) (db : IsDb size our_trees pages) where
  -- a seek in what is left goes on with a walk
  resumes_at : (key : Row) (front es : List Row) (rows : List SpentRow) → entries size pages ≡ front ++ es
      → from_key plain key (entries size pages) ≡ from_key plain key es
      → AllByRecursion (λ e. is_lt (prefix_cmp plain e key) ≡ true → wanted vid from to e ≡ false) es
      → AreAmountsOf (table size pages) (filter (wanted vid from to) front) rows
      → (batch : Batch) (entry : Row) (found : Bool)
      → StartsAt (db.layouts 3) size pages (entries size pages) key batch entry found
      → IsTellingOf size pages vid from to batch entry rows found
  resumes_at key front es rows split keys all amounts batch entry found starts =
      let r = parts_at vid from to key es all in
      let whole : entries size pages ≡ (front ++ r.0) ++ from_key plain key es =
      split ∙ ap (λ (l : List Row). front ++ l) r.1 ∙ sym (append_assoc front r.0 (from_key plain key es)) in
      let same : filter (wanted vid from to) (front ++ r.0) ≡ filter (wanted vid from to) front =
      filter-append (wanted vid from to) front r.0
      ∙ ap (λ (l : List Row). filter (wanted vid from to) front ++ l) r.2
      ∙ append-nil (filter (wanted vid from to) front) in
      on (front ++ r.0) whole
      (subst (λ (l : List Row). AreAmountsOf (table size pages) l rows) (sym same) amounts) found starts
    where
      on : (before : List Row) → entries size pages ≡ before ++ from_key plain key es
          → AreAmountsOf (table size pages) (filter (wanted vid from to) before) rows → (f : Bool)
          → StartsAt (db.layouts 3) size pages (entries size pages) key batch entry f
          → IsTellingOf size pages vid from to batch entry rows f
      on before whole told true s = record {
        db = db;
        front = before;
        split = whole ∙ ap (λ (l : List Row). before ++ l) (sym keys ∙ s.0);
        amounts = told;
        ahead = s.1;
      }
      on before whole told false s =
          subst (λ (l : List Row). AreAmountsOf (table size pages) (filter (wanted vid from to) l) rows)
          (sym (whole ∙ ap (λ (l : List Row). before ++ l) (sym keys ∙ s) ∙ append-nil before)) told

  -- a walk begins at the vehicle on the first day
  pub begins_of : (batch : Batch) (entry : Row) (found : Bool)
      → StartsAt (db.layouts 3) size pages (entries size pages) (pair_key from vid) batch entry found
      → IsTellingOf size pages vid from to batch entry [] found
  begins_of batch entry found starts =
      resumes_at (pair_key from vid) [] (entries size pages) [] refl refl
      (all_of (λ e. is_lt (prefix_cmp plain e (pair_key from vid)) ≡ true → wanted vid from to e ≡ false)
      (before_start vid from to) (entries size pages)) tt batch entry found starts

module _ {size : ℕ} {pages : PageMap} {vid from to : ℕ} {batch : Batch} {entry : Row} {rows : List SpentRow}
    (w : TellingOf size pages vid from to batch entry rows) where
  -- what comes after the entry rises behind it
  behind_up : IsIndex plain (entry ∷ rows_after (Index plain) entry (entries size pages))
  behind_up = up_at w.front entry _ (subst (IsIndex plain) w.split (ordered w.db 2))

  -- the entry is below a key, and the walk goes on from there
  pub leaps_to : (key : Row) → is_lt (prefix_cmp plain entry key) ≡ true → wanted vid from to entry ≡ false
      → ((e : Row) → is_gt (entry_cmp plain entry e) ≡ false → is_lt (prefix_cmp plain e key) ≡ true
      → wanted vid from to e ≡ false)
      → (batch_now : Batch) (entry_now : Row) (found : Bool)
      → StartsAt (w.db.layouts 3) size pages (entries size pages) key batch_now entry_now found
      → IsTellingOf size pages vid from to batch_now entry_now rows found
  leaps_to key low own more batch_now entry_now found starts =
      let rest = rows_after (Index plain) entry (entries size pages) in
      resumes_at vid from to w.db key w.front (entry ∷ rest) rows w.split
      (ap (from_key plain key) w.split
      ∙ before_key key w.front entry rest (subst (IsIndex plain) w.split (ordered w.db 2)) low) (
        (λ _. own),
        all_weaker _ (λ e. is_lt (prefix_cmp plain e key) ≡ true → wanted vid from to e ≡ false)
            (λ e less. more e (under _ less)) rest behind_up.0,
      )
      w.amounts batch_now entry_now found starts

  -- neither the entry nor any behind it is told, and all is
  pub ends_here : wanted vid from to entry ≡ false
      → ((e : Row) → is_gt (entry_cmp plain entry e) ≡ false → wanted vid from to e ≡ false)
      → AreToldOf (table size pages) (entries size pages) vid from to rows
  ends_here own more =
      let rest = rows_after (Index plain) entry (entries size pages) in
      let others = filter_none (wanted vid from to) rest
      (all_weaker _ (λ e. wanted vid from to e ≡ false) (λ e less. more e (under _ less)) rest behind_up.0) in
      let none : filter (wanted vid from to) (entry ∷ rest) ≡ [] = rw own others in
      subst (λ (l : List Row). AreAmountsOf (table size pages) l rows)
      (sym (ap (filter (wanted vid from to)) w.split ∙ filter-append (wanted vid from to) w.front (entry ∷ rest)
      ∙ ap (λ (l : List Row). filter (wanted vid from to) w.front ++ l) none
      ∙ append-nil (filter (wanted vid from to) w.front))) w.amounts

  -- the amount of the entry is told if it is not before the first day, and the walk goes on
  pub tells_of : (r : SpentRow) (now : List SpentRow) (batch_now : Batch) (entry_now : Row) (found : Bool)
      → IsAmountOf (table size pages) entry r → wanted vid from to entry ≡ nat_le from r.day
      → now ≡ rows ++ filter (λ (s : SpentRow). nat_le from s.day) (r ∷ [])
      → Advances (w.db.layouts 3) size pages (entries size pages) entry batch_now entry_now found
      → IsTellingOf size pages vid from to batch_now entry_now now found
  tells_of r now batch_now entry_now found is test appended next =
      on found next
      (subst₂ (AreAmountsOf (table size pages)) (sym (filter-append (wanted vid from to) w.front (entry ∷ [])))
      (sym appended) both)
    where
      both : AreAmountsOf (table size pages) (filter (wanted vid from to) w.front ++ filter (wanted vid from to)
          (entry ∷ [])) (rows ++ filter (λ (s : SpentRow). nat_le from s.day) (r ∷ []))
      both =
          elim (cases_Bool (nat_le from r.day)) [
            | inl late ↦
                let here : wanted vid from to entry ≡ true = test ∙ late in
                let one : filter (wanted vid from to) (entry ∷ []) ≡ entry ∷ [] = rw here refl in
                let its : filter (λ (s : SpentRow). nat_le from s.day) (r ∷ []) ≡ r ∷ [] = rw late refl in
                subst₂ (λ (l : List Row) (m : List SpentRow). AreAmountsOf (table size pages)
                (filter (wanted vid from to) w.front ++ l) (rows ++ m)) (sym one) (sym its)
                (one_more (table size pages) (filter (wanted vid from to) w.front) rows entry r w.amounts is)
            | inr early ↦
                let here : wanted vid from to entry ≡ false = test ∙ early in
                let one : filter (wanted vid from to) (entry ∷ []) ≡ [] = rw here refl in
                let its : filter (λ (s : SpentRow). nat_le from s.day) (r ∷ []) ≡ [] = rw early refl in
                subst₂ (λ (l : List Row) (m : List SpentRow). AreAmountsOf (table size pages)
                (filter (wanted vid from to) w.front ++ l) (rows ++ m)) (sym one) (sym its)
                (subst₂ (AreAmountsOf (table size pages)) (sym (append-nil (filter (wanted vid from to) w.front)))
                (sym (append-nil rows)) w.amounts)
          ]

      on : (f : Bool) → Advances (w.db.layouts 3) size pages (entries size pages) entry batch_now entry_now f
          → AreAmountsOf (table size pages) (filter (wanted vid from to) (w.front ++ entry ∷ [])) now
          → IsTellingOf size pages vid from to batch_now entry_now now f
      on true n amounts = record {
        db = w.db;
        front = w.front ++ entry ∷ [];
        split = w.split ∙ ap (λ (l : List Row). w.front ++ entry ∷ l) n.0
            ∙ sym (append_assoc w.front (entry ∷ []) _);
        amounts = amounts;
        ahead = n.1;
      }
      on false n amounts =
          subst (λ (l : List Row). AreAmountsOf (table size pages) (filter (wanted vid from to) l) now)
          (sym (w.split ∙ ap (λ (l : List Row). w.front ++ entry ∷ l) n)) amounts
