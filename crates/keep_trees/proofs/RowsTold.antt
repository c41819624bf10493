-- How a walk tells the amounts of entries, whatever these are.
use Rattle.std.proofs.Common.{◌≡◌, ◌<◌, ◌≤◌, ℕ, pos, nat_le, Bool, true, false, List, [], ◌∷◌, ◌++◌, filter, refl, sym}
use Rattle.std.proofs.Common.{ap, subst, ◌∙◌, append_assoc, append-nil, arith, is_lt, inl, inr}
use Rattle.std.specs.List.{AllByRecursion}
use Rattle.std.specs.Ordering.{nat_cmp}
use Rattle.std.proofs.lemmas.Bool.{cases_Bool, le-leb}
use Rattle.std.proofs.lemmas.Bool.Decides.{nat_tests}
use Rattle.sqlite_pages.specs.PageMap.{PageMap}
use Rattle.sqlite_value.specs.declared.value.Value.TheVariants.{Int}
use Rattle.sqlite_value.specs.Order.{Row, column, value_cmp}
use Rattle.sqlite_value.specs.Keys.{plain, prefix_cmp}
use Rattle.sqlite_trees.specs.declared.store.Shape.TheVariants.{Index}
use Rattle.sqlite_trees.specs.Tree.{from_key, IsIndex}
use Rattle.sqlite_trees.proofs.TreeLemmas.{prefix_cmp_follows, prefix_cmp-one}
use Rattle.sqlite_btree.specs.declared.batch.Batch.{Batch}
use Rattle.sqlite_keyed.proofs.ListLemmas.{all_weaker}
use Rattle.sqlite_store.specs.Cursor.{rows_after}
use Rattle.sqlite_store.specs.Db.{IsDb, trees_in}
use Rattle.sqlite_store.proofs.DbLemmas.{ordered}
use Rattle.road_time.specs.declared.day.SpentRow.{SpentRow}
use Rattle.keep_tables.proofs.ReadLaws.{by_number}
use Rattle.keep_trees.specs.Pages.{our_trees}
use Rattle.keep_trees.specs.Walks.{Advances, StartsAt}
use Rattle.keep_trees.specs.Tolls.{IsAmountOf, AreAmountsOf, IsOfDays, AreToldRows, Telling, IsTelling}
use Rattle.keep_trees.proofs.EntryLaws.{under}

-- one entry more has one amount more
pub one_more : (table entries : List Row) (rows : List SpentRow) (e : Row) (r : SpentRow) → AreAmountsOf table entries rows
    → IsAmountOf table e r → AreAmountsOf table (entries ++ e ∷ []) (rows ++ r ∷ [])
one_more table [] [] e r are is = (is, tt)
one_more table [] (s ∷ rows) e r are is = absurd are
one_more table (f ∷ entries) [] e r are is = absurd are
one_more table (f ∷ entries) (s ∷ rows) e r are is = (are.0, one_more table entries rows e r are.1 is)

-- what holds of all, and of one more, holds of them together
and_one : (P : SpentRow → Type 0) (rows : List SpentRow) (r : SpentRow) → AllByRecursion P rows → P r
    → AllByRecursion P (rows ++ r ∷ [])
and_one P [] r all is = (is, tt)
and_one P (s ∷ rows) r all is = (all.0, and_one P rows r all.1 is)

module _ (key : Row) where
  -- an entry is not below a key
  abbrev IsFrom : Row → Type 0
  IsFrom e = is_lt (prefix_cmp plain e key) ≡ false

  -- what is not below a key is not so before one that is
  not_so : (a b : Bool) → a ≡ false → (b ≡ true → a ≡ true) → b ≡ false
  not_so a true is so = absurd (let f : true ≡ false = sym (so refl) ∙ is in cc)
  not_so a false is so = refl

  -- no entry from a key on is below it
  all_from : (es : List Row) → IsIndex plain es → AllByRecursion IsFrom (from_key plain key es)
  all_from [] up = tt
  all_from (x ∷ es) up =
      elim (cases_Bool (is_lt (prefix_cmp plain x key))) [
        | inl low ↦ rw low (all_from es up.1)
        | inr high ↦
            let others =
            all_weaker _ IsFrom
            (λ y less. not_so (is_lt (prefix_cmp plain x key)) (is_lt (prefix_cmp plain y key)) high
            (prefix_cmp_follows plain key x y (under _ less)).0) es up.0 in
            rw high (high, others)
      ]

  -- nor is one among them
  among_them : (front : List Row) (e : Row) (rest : List Row) → AllByRecursion IsFrom (front ++ e ∷ rest) → IsFrom e
  among_them [] e rest all = all.0
  among_them (x ∷ front) e rest all = among_them front e rest all.1

-- an entry that is not below a day is of no earlier day
no_earlier : (from day : ℕ) (e : Row) → column e 0 ≡ Int (pos day)
    → is_lt (prefix_cmp plain e (Int (pos from) ∷ [])) ≡ false → from ≤ day
no_earlier from day [] its high = absurd (cc)
no_earlier from day (x ∷ e) its high =
    let level : prefix_cmp plain (x ∷ e) (Int (pos from) ∷ []) ≡ nat_cmp day from =
    prefix_cmp-one x e (Int (pos from)) ∙ ap (λ v. value_cmp v (Int (pos from))) its ∙ by_number day from in
    let test : is_lt (nat_cmp day from) ≡ false = ap is_lt (sym level) ∙ high in
    grind (arith, nat_tests, test)

-- the entries of the index
abbrev entries : ℕ → PageMap → List Row
entries size pages = trees_in size our_trees pages 2

-- the rows of the table of amounts
abbrev table : ℕ → PageMap → List Row
table size pages = trees_in size our_trees pages 1

module _ {size : ℕ} {pages : PageMap} where
  -- a walk begins at the first entry of the first day, or there is none
  pub begins : (from to : ℕ) (db : IsDb size our_trees pages) (batch : Batch) (entry : Row) (found : Bool)
      → StartsAt (db.layouts 3) size pages (entries size pages) (Int (pos from) ∷ []) batch entry found
      → IsTelling size pages from to batch entry [] found
  begins from to db batch entry true starts =
      record { db = db; taken = []; split = starts.0; amounts = tt; within = tt; ahead = starts.1 }
  begins from to db batch entry false starts =
      record { taken = []; left = []; split = starts; amounts = tt; within = tt; later = tt }

module _ {size : ℕ} {pages : PageMap} {from to : ℕ} where
  module _ {batch : Batch} {entry : Row} {rows : List SpentRow} (w : Telling size pages from to batch entry rows) where
    -- the entry that it stands at is of no day before the first
    pub no_sooner : (day : ℕ) → column entry 0 ≡ Int (pos day) → from ≤ day
    no_sooner day its =
        no_earlier from day entry its
        (among_them (Int (pos from) ∷ []) w.taken entry _
        (subst (AllByRecursion (IsFrom (Int (pos from) ∷ []))) w.split
        (all_from (Int (pos from) ∷ []) (entries size pages) (ordered w.db 2))))

    -- behind the last day all is told
    pub is_done : (day : ℕ) → column entry 0 ≡ Int (pos day) → to < day
        → AreToldRows (table size pages) (entries size pages) from to rows
    is_done day its far =
        record {
          taken = w.taken;
          left = entry ∷ rows_after (Index plain) entry (entries size pages);
          split = w.split;
          amounts = w.amounts;
          within = w.within;
          later = (day, its, far);
        }

    -- an amount of no day before the first is taken
    in_time : (r : SpentRow) → from ≤ r.day → filter (λ (s : SpentRow). nat_le from s.day) (r ∷ []) ≡ r ∷ []
    in_time r late = rw (le-leb from r.day late) refl

    -- up to it the amount of the entry is told, and the walk goes on
    pub tells : (r : SpentRow) (now : List SpentRow) (batch_now : Batch) (entry_now : Row) (found : Bool)
        → IsAmountOf (table size pages) entry r → r.day ≤ to
        → now ≡ rows ++ filter (λ (s : SpentRow). nat_le from s.day) (r ∷ [])
        → Advances (w.db.layouts 3) size pages (entries size pages) entry batch_now entry_now found
        → IsTelling size pages from to batch_now entry_now now found
    tells r now batch_now entry_now found is up appended next =
        let late = no_sooner r.day is.day in
        let told : now ≡ rows ++ r ∷ [] = appended ∙ ap (λ (l : List SpentRow). rows ++ l) (in_time r late) in
        let amounts = one_more (table size pages) w.taken rows entry r w.amounts is in
        let within = and_one (IsOfDays from to) rows r w.within (late, up) in
        subst (λ (l : List SpentRow). IsTelling size pages from to batch_now entry_now l found) (sym told)
        (on found next amounts within)
      where
        on : (f : Bool) → Advances (w.db.layouts 3) size pages (entries size pages) entry batch_now entry_now f
            → AreAmountsOf (table size pages) (w.taken ++ entry ∷ []) (rows ++ r ∷ [])
            → AllByRecursion (IsOfDays from to) (rows ++ r ∷ [])
            → IsTelling size pages from to batch_now entry_now (rows ++ r ∷ []) f
        on true n amounts within = record {
          db = w.db;
          taken = w.taken ++ entry ∷ [];
          split = w.split ∙ ap (λ (l : List Row). w.taken ++ entry ∷ l) n.0
              ∙ sym (append_assoc w.taken (entry ∷ []) _);
          amounts = amounts;
          within = within;
          ahead = n.1;
        }
        on false n amounts within = record {
          taken = w.taken ++ entry ∷ [];
          left = [];
          split = w.split ∙ ap (λ (l : List Row). w.taken ++ entry ∷ l) n ∙ sym (append-nil (w.taken ++ entry ∷ []));
          amounts = amounts;
          within = within;
          later = tt;
        }
