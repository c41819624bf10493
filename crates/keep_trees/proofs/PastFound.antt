-- What a search for the row of a history finds.
use Rattle.std.proofs.Common.{◌≡◌, true, false, List, [], ◌∷◌, pos, filter, refl, sym, ap, ◌∙◌, Option, Some, None}
use Rattle.std.proofs.Common.{is_eq}
use Rattle.std.proofs.lemmas.Cmp.{tied_itself}
use Rattle.sqlite_value.specs.declared.value.Value.TheVariants.{Int}
use Rattle.sqlite_value.specs.Order.{Row}
use Rattle.sqlite_value.proofs.OrderLemmas.{value_cmp_total}
use Rattle.sqlite_trees.specs.Tree.{has_rowid}
use Rattle.sqlite_trees.specs.View.{Finds}
use Rattle.keep_office.specs.declared.kept.PastRecord.{PastRecord}
use Rattle.keep_tables.specs.Codec.{past_row}
use Rattle.keep_tables.specs.Stands.{past_rows}

-- the row of a history has the number 1
first_has : (p : PastRecord) → has_rowid (pos 1) (past_row p) ≡ true
first_has p = ap is_eq (tied_itself value_cmp_total (Int (pos 1)))

-- so where none is found, none is kept
pub none_kept : (past : Option PastRecord) (rows : List Row) (row : Row) → rows ≡ past_rows past
    → Finds rows (pos 1) row false → None ≡ past
none_kept None rows row are finds = refl
none_kept (Some p) rows row are finds =
    let f : filter (has_rowid (pos 1)) (past_row p ∷ []) ≡ [] = ap (filter (has_rowid (pos 1))) (sym are) ∙ finds in
    absurd (let g : past_row p ∷ [] ≡ [] = rw (first_has p) at f in cc)

-- and where one is found, it is the row of the one that is kept
pub record IsKept (past : Option PastRecord) (row : Row) : Type 0 where
  pub kept : PastRecord
  pub is : past ≡ Some kept
  pub row_is : row ≡ past_row kept

-- such a row is there only where a history is kept
pub one_kept : (past : Option PastRecord) (rows : List Row) (row : Row) → rows ≡ past_rows past
    → Finds rows (pos 1) row true → IsKept past row
one_kept None rows row are finds =
    absurd (let f : [] ≡ row ∷ [] = ap (filter (has_rowid (pos 1))) (sym are) ∙ finds in cc)
one_kept (Some p) rows row are finds =
    let f : filter (has_rowid (pos 1)) (past_row p ∷ []) ≡ row ∷ [] = ap (filter (has_rowid (pos 1))) (sym are)
    ∙ finds in
    let g : past_row p ∷ [] ≡ row ∷ [] = rw (first_has p) at f in
    record { kept = p; is = refl; row_is = cc }
