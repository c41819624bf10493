-- How amounts are put one after another.
use Rattle.std.proofs.Common.{◌≡◌, ◌≤◌, ◌+◌, ◌+ℤ◌, ℕ, ℤ, suc, pos, List, [], ◌∷◌, ◌++◌, length, take, refl, sym, ap, ◌∙◌}
use Rattle.std.proofs.Common.{append_assoc, append-nil, arith}
use Rattle.std.proofs.Math.IntN.{+ℤ_idr, +ℤ_assoc}
use Rattle.std.proofs.lemmas.List.{length-take-le}
use Rattle.sqlite_value.specs.Order.{Row}
use Rattle.sqlite_value.specs.Keys.{plain}
use Rattle.sqlite_trees.specs.Tree.{Trees, insert_entry}
use Rattle.sqlite_sql.specs.Catalog.{entry_of}
use Rattle.road_time.specs.declared.day.SpentRow.{SpentRow}
use Rattle.keep_tables.specs.Codec.{spent_row}
use Rattle.keep_puts.specs.Trees.{key_columns}
use Rattle.keep_puts.specs.Steps.{AreBelow, numbered, PutsBoth}
use Rattle.keep_puts.specs.Puts.{numbered_from, entries_with, PutsFrom}
use Rattle.keep_puts.proofs.AmountLaws.{put_at_end}

-- where none was put all is as it was
pub none_put : (first : ℤ) (trees : Trees) → PutsFrom first [] trees trees
none_put first trees = record { table = sym (append-nil (trees 1)); index = refl; others = λ t table index. refl }

-- one amount more has the next number
numbered_more : (n : ℤ) (xs : List SpentRow) (r : SpentRow)
    → numbered_from n (xs ++ r ∷ []) ≡ numbered_from n xs ++ numbered (n +ℤ pos (length xs)) r ∷ []
numbered_more n [] r = ap (λ m. numbered m r ∷ []) (sym (+ℤ_idr n))
numbered_more n (x ∷ xs) r =
    ap (λ l. numbered n x ∷ l)
    (numbered_more (n +ℤ pos 1) xs r
    ∙ ap (λ m. numbered_from (n +ℤ pos 1) xs ++ numbered m r ∷ [])
    (+ℤ_assoc n (pos 1) (pos (length xs)) ∙ ap (λ k. n +ℤ pos k) (one_plus (length xs))))
  where
    one_plus : (k : ℕ) → 1 + k ≡ suc k
    one_plus k = omega arith

-- its entry joins the others
entries_more : (rows : List Row) (row : Row) (entries : List Row)
    → entries_with (rows ++ row ∷ []) entries
    ≡ insert_entry plain (entry_of key_columns row) (entries_with rows entries)
entries_more [] row entries = refl
entries_more (r ∷ rows) row entries = entries_more rows row (insert_entry plain (entry_of key_columns r) entries)

-- so many were put
pub counted : (first n : ℤ) (i : ℕ) (xs : List SpentRow) → i ≤ length xs → n ≡ first +ℤ pos i
    → n ≡ first +ℤ pos (length (take i xs))
counted first n i xs low is = is ∙ ap (λ k. first +ℤ pos k) (sym (length-take-le i xs low))

-- some were put, and one more
pub put_more : (first : ℤ) (xs : List SpentRow) (r : SpentRow) (n : ℤ) (a b c : Trees)
    → n ≡ first +ℤ pos (length xs) → AreBelow n (b 1) → PutsFrom first xs a b → PutsBoth n r b c
    → PutsFrom first (xs ++ r ∷ []) a c
put_more first xs r n a b c is below so both =
    let more : numbered_from first (xs ++ r ∷ []) ≡ numbered_from first xs ++ numbered n r ∷ [] =
    numbered_more first xs r ∙ ap (λ m. numbered_from first xs ++ numbered m r ∷ []) (sym is) in
    record {
      table = both.row ∙ put_at_end n (spent_row r) (b 1) below
          ∙ ap (λ (l : List Row). l ++ numbered n r ∷ []) so.table
          ∙ append_assoc (a 1) (numbered_from first xs) (numbered n r ∷ [])
          ∙ ap (λ (l : List Row). a 1 ++ l) (sym more);
      index = both.entry ∙ ap (insert_entry plain (entry_of key_columns (numbered n r))) so.index
          ∙ sym (entries_more (numbered_from first xs) (numbered n r) (a 2))
          ∙ ap (λ (l : List Row). entries_with l (a 2)) (sym more);
      others = λ t table index. both.others t table index ∙ so.others t table index;
    }
