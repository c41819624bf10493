-- What follows where pages stand for an office.
use Rattle.std.proofs.Common.{◌≡◌, ℕ, ℤ, Bool, true, false, cond, List, [], ◌∷◌, map, take, refl, sym, ap, subst}
use Rattle.std.proofs.Common.{subst₂, inl, inr, is_eq, IsTrue}
use Rattle.std.specs.List.{AllByRecursion}
use Rattle.std.proofs.lemmas.Cmp.{tied_itself}
use Rattle.sqlite_value.specs.declared.value.Value.TheVariants.{Int}
use Rattle.sqlite_value.specs.Order.{Row, column}
use Rattle.sqlite_value.specs.Keys.{plain}
use Rattle.sqlite_value.proofs.OrderLemmas.{value_cmp_total}
use Rattle.sqlite_pages.specs.PageMap.{PageMap}
use Rattle.sqlite_btree.specs.Cut.{IsIn}
use Rattle.sqlite_trees.specs.declared.store.Shape.TheVariants.{Table, Index}
use Rattle.sqlite_trees.specs.Tree.{rowid, has_rowid}
use Rattle.sqlite_trees.specs.View.{Finds, is_int}
use Rattle.sqlite_store.specs.Db.{Names, roots_of, trees_in}
use Rattle.sqlite_store.proofs.DbLemmas.{ordered}
use Rattle.road_time.specs.History.{KeysDiffer}
use Rattle.keep_office.specs.Office.{Office}
use Rattle.keep_office.proofs.HistoryLaws.{keys_law}
use Rattle.keep_trees.specs.declared.roots.Roots.{Roots}
use Rattle.keep_trees.specs.Pages.{our_trees, root_list, StandForOffice}
use Rattle.keep_trees.specs.Rows.{row_key}
use Rattle.keep_trees.proofs.Members.{into_filter}
use Rattle.keep_trees.proofs.IndexLaws.{index_lists}
use Rattle.std.specs.Prelude.{slice_index}
use Rattle.road_time.specs.declared.day.SpentRow.{SpentRow}
use Rattle.keep_tables.specs.Stands.{FitsSpent}
use Rattle.keep_trees.proofs.SpentLaws.{fits_in}

-- a row that is among a table's has a number
numbered : (rows : List Row) (t : Row) → AllByRecursion (λ (r : Row). IsTrue (is_int (rowid r))) rows → IsIn t rows
    → IsTrue (is_int (rowid t))
numbered [] t all at = absurd at
numbered (r ∷ rows) t all (inl e) = subst (λ (z : Row). IsTrue (is_int (rowid z))) (sym e) all.0
numbered (r ∷ rows) t all (inr more) = numbered rows t all.1 more

-- a search by its number finds a row
pub one_found : (rows : List Row) (t row : Row) (n : ℤ) (found : Bool) → IsIn t rows → column t 0 ≡ Int n
    → Finds rows n row found
    → (found ≡ true) × (t ≡ row)
one_found rows t row n found at is finds =
    let here : has_rowid n t ≡ true = rw is (ap is_eq (tied_itself value_cmp_total (Int n))) in
    alone found (subst (IsIn t) finds (into_filter (has_rowid n) rows t at here))
  where
    alone : (f : Bool) → IsIn t (cond f (row ∷ []) []) → (f ≡ true) × (t ≡ row)
    alone true (inl e) = (refl, e)
    alone true (inr none) = absurd none
    alone false none = absurd none

-- a test is not both
pub not_both : {b : Bool} → IsTrue b → b ≡ false → ⊥
not_both is off = cc

-- the same pages stand for the same office
pub moved : {size later : ℕ} {pages after : PageMap} {roots : Roots} {o : Office} → size ≡ later → pages ≡ after
    → StandForOffice size pages roots o → StandForOffice later after roots o
moved {roots = roots} {o = o} s p has = subst₂ (λ n m. StandForOffice n m roots o) s p has

-- where the table of the amounts and its index begin
pub table_begins : {size : ℕ} {pages : PageMap} {roots : Roots} → roots_of size our_trees pages ≡ root_list roots
    → Names size our_trees pages 1 Table roots.spent
table_begins are = record { shape_is = refl; root_is = ap (λ l. slice_index l 1) are }

-- its index begins at the third tree
pub key_begins : {size : ℕ} {pages : PageMap} {roots : Roots} → roots_of size our_trees pages ≡ root_list roots
    → Names size our_trees pages 2 (Index plain) roots.spent_key
key_begins are = record { shape_is = refl; root_is = ap (λ l. slice_index l 2) are }

-- the days are in the first
pub days_begins : {size : ℕ} {pages : PageMap} {roots : Roots} → roots_of size our_trees pages ≡ root_list roots
    → Names size our_trees pages 0 Table roots.days
days_begins are = record { shape_is = refl; root_is = ap (λ l. slice_index l 0) are }

-- the history begins at the fourth
pub past_begins : {size : ℕ} {pages : PageMap} {roots : Roots} → roots_of size our_trees pages ≡ root_list roots
    → Names size our_trees pages 3 Table roots.past
past_begins are = record { shape_is = refl; root_is = ap (λ l. slice_index l 3) are }

-- the seals begin at the fifth
pub seals_begin : {size : ℕ} {pages : PageMap} {roots : Roots} → roots_of size our_trees pages ≡ root_list roots
    → Names size our_trees pages 4 Table roots.seals
seals_begin are = record { shape_is = refl; root_is = ap (λ l. slice_index l 4) are }

-- the tariffs begin at the sixth
pub tariffs_begin : {size : ℕ} {pages : PageMap} {roots : Roots} → roots_of size our_trees pages ≡ root_list roots
    → Names size our_trees pages 5 Table roots.tariffs
tariffs_begin are = record { shape_is = refl; root_is = ap (λ l. slice_index l 5) are }

-- the version is in the last
pub form_begins : {size : ℕ} {pages : PageMap} {roots : Roots} → roots_of size our_trees pages ≡ root_list roots
    → Names size our_trees pages 6 Table roots.form
form_begins are = record { shape_is = refl; root_is = ap (λ l. slice_index l 6) are }

module _ {size : ℕ} {pages : PageMap} {roots : Roots} {o : Office} (has : StandForOffice size pages roots o) where
  -- where the trees begin
  pub spent_at : Names size our_trees pages 1 Table roots.spent
  spent_at = record { shape_is = refl; root_is = ap (λ l. slice_index l 1) has.roots_are }

  -- the index of the amounts is the third
  pub key_at : Names size our_trees pages 2 (Index plain) roots.spent_key
  key_at = record { shape_is = refl; root_is = ap (λ l. slice_index l 2) has.roots_are }

  -- no two amounts have the same key
  pub differ : KeysDiffer o.rows
  differ = keys_law o.rows has.holds.office.sound.rows_rise

  -- each row of the amounts has a number
  pub is_numbered : (t : Row) → IsIn t (trees_in size our_trees pages 1) → IsTrue (is_int (column t 0))
  is_numbered t at = numbered (trees_in size our_trees pages 1) t (ordered has.holds.db 1).1 at

  -- the index lists the amounts
  pub listed : map (take 3) (trees_in size our_trees pages 2) ≡ map row_key o.rows
  listed =
      index_lists o.rows (trees_in size our_trees pages 1)
      (trees_in size our_trees pages 2) has.holds.office.sound.rows_rise
      (ordered has.holds.db 2) has.holds.office.tables.rows_are has.holds.indexed

  -- the history is in the fourth
  pub past_at : Names size our_trees pages 3 Table roots.past
  past_at = record { shape_is = refl; root_is = ap (λ l. slice_index l 3) has.roots_are }

  -- and each of its amounts fits its fields
  pub fitting : (s : SpentRow) → IsIn s o.rows → FitsSpent s
  fitting s at = fits_in o.rows s has.holds.office.fits.rows at

  -- where the other trees begin
  pub days_at : Names size our_trees pages 0 Table roots.days
  days_at = record { shape_is = refl; root_is = ap (λ l. slice_index l 0) has.roots_are }

  -- the seals are in the fifth
  pub seals_at : Names size our_trees pages 4 Table roots.seals
  seals_at = record { shape_is = refl; root_is = ap (λ l. slice_index l 4) has.roots_are }

  -- the tariffs are in the sixth
  pub tariffs_at : Names size our_trees pages 5 Table roots.tariffs
  tariffs_at = record { shape_is = refl; root_is = ap (λ l. slice_index l 5) has.roots_are }
