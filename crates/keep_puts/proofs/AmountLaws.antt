-- What an amount's row and its entry make of their trees.
use Rattle.std.proofs.Common.{◌≡◌, ◌+◌, ℕ, ℤ, pos, ◌+ℤ◌, length, List, [], ◌∷◌, ◌++◌, map, drop, refl}
use Rattle.std.proofs.Common.{sym, ap}
use Rattle.std.proofs.Common.{subst, subst₂, ◌∙◌, arith, Less, true, Option, Some, None, IfSome, IsSomeAnd}
use Rattle.std.proofs.Common.{SomeIff, FitsSigned, w64, IsPermutation}
use Rattle.std.specs.List.{AllByRecursion}
use Rattle.std.proofs.lemmas.Bool.Decides.{nat_tests}
use Rattle.std.proofs.lemmas.Int.{ints}
use Rattle.std.proofs.Math.IntN.{+ℤ_idr, +ℤ_assoc}
use Rattle.std.proofs.lemmas.List.{map-append}
use Rattle.std.proofs.lemmas.List.Sorted.{IsPermutation-trans, IsPermutation-cons, IsPermutation-sym}
use Rattle.std.proofs.lemmas.List.Sorted.{IsPermutation-to_front}
use Rattle.sqlite_value.specs.declared.value.Value.TheVariants.{Int}
use Rattle.sqlite_value.specs.Order.{Row, value_cmp}
use Rattle.sqlite_value.specs.Keys.{plain}
use Rattle.sqlite_value.proofs.OrderLemmas.{value_cmp-Int, value_cmp_total}
use Rattle.sqlite_trees.specs.declared.store.Shape.TheVariants.{Table}
use Rattle.sqlite_trees.specs.Tree.{Trees, rowid, put_row, insert_entry, with_tree, IsTable}
use Rattle.sqlite_trees.specs.View.{View, IsShaped, SetsTree}
use Rattle.sqlite_trees.proofs.ListLemmas.{all_weaker, all-append, ascending-append}
use Rattle.sqlite_sql.specs.Catalog.{entry_of, IsIndexOf}
use Rattle.sqlite_exec.specs.Write.{IsLast}
use Rattle.sqlite_exec.proofs.WriteLemmas.{one_more_entry}
use Rattle.road_time.specs.declared.day.SpentRow.{SpentRow}
use Rattle.keep_tables.specs.Codec.{spent_row}
use Rattle.keep_tables.specs.Stands.{AreAmountRows}
use Rattle.keep_tables.proofs.SpentWriteLaws.{adds_then}
use Rattle.keep_puts.specs.Trees.{database_of, key_columns}
use Rattle.keep_puts.specs.Steps.{AreBelow, numbered, PutsBoth, AddsKept}
use Rattle.keep_puts.specs.Room.{AreNumbers}
use Rattle.keep_puts.proofs.ListLaws.{take_front, take_whole, at_end, end_within, below_end}
use Rattle.keep_puts.proofs.TreeLaws.{with_same, with_other}

-- a number is below the next
next_above : (n : ℤ) → value_cmp (Int n) (Int (n +ℤ pos 1)) ≡ Less
next_above n = value_cmp-Int n (n +ℤ pos 1) ∙ grind (arith, ints, nat_tests)

-- what is below a number is below the next
pub below_next : (n : ℤ) (rows : List Row) → AreBelow n rows → AreBelow (n +ℤ pos 1) rows
below_next n rows all =
    all_weaker (λ (r : Row). value_cmp (rowid r) (Int n) ≡ Less)
    (λ (r : Row). value_cmp (rowid r) (Int (n +ℤ pos 1)) ≡ Less)
    (λ r less. value_cmp_total.trans (rowid r) (Int n) (Int (n +ℤ pos 1)) less (next_above n)) rows all

-- so are those that end with the number
pub below_after : (n : ℤ) (front : List Row) (row : Row) → rowid row ≡ Int n → AreBelow n front
    → AreBelow (n +ℤ pos 1) (front ++ row ∷ [])
below_after n front row is all =
    all-append (λ (r : Row). value_cmp (rowid r) (Int (n +ℤ pos 1)) ≡ Less) front (row ∷ []) (below_next n front all)
    (subst (λ v. value_cmp v (Int (n +ℤ pos 1)) ≡ Less) (sym is) (next_above n), tt)

-- the number after the last of a table is above all
pub above_last : (rows : List Row) (row : Row) (n : ℤ) → IsTable rows → IsLast rows row true → rowid row ≡ Int n
    → AreBelow (n +ℤ pos 1) rows
above_last rows row n up last is =
    let all = below_end (λ (a b : Row). value_cmp (rowid a) (rowid b) ≡ Less) last.0 row (subst IsTable last.1 up) in
    subst (AreBelow (n +ℤ pos 1)) (sym last.1)
    (below_after n last.0 row is
    (subst (λ v. AllByRecursion (λ (r : Row). value_cmp (rowid r) v ≡ Less) last.0) is all))

-- a row above all comes last
pub put_at_end : (n : ℤ) (cells : Row) (rows : List Row) → AreBelow n rows
    → put_row (Int n ∷ cells) rows ≡ rows ++ (Int n ∷ cells) ∷ []
put_at_end n cells [] all = refl
put_at_end n cells (r ∷ rows) all = rw all.0 (ap (λ l. r ∷ l) (put_at_end n cells rows all.1))

-- a row above all keeps a table
pub table_with : (n : ℤ) (cells : Row) (rows : List Row) → IsShaped Table rows → AreBelow n rows
    → IsShaped Table (rows ++ (Int n ∷ cells) ∷ [])
table_with n cells rows shaped all = (
  ascending-append (λ (a b : Row). value_cmp (rowid a) (rowid b) ≡ Less) rows ((Int n ∷ cells) ∷ []) shaped.0 (tt, tt)
      (all_weaker (λ (r : Row). value_cmp (rowid r) (Int n) ≡ Less)
      (λ (r : Row). AllByRecursion (λ (b : Row). value_cmp (rowid r) (rowid b) ≡ Less) ((Int n ∷ cells) ∷ []))
      (λ r less. (less, tt)) rows all),
  all-append _ rows ((Int n ∷ cells) ∷ []) shaped.1 (refl, tt),
)

-- one more at the end of two lists that are the same but for their order
both_more : {X : Type 0} (xs ys : List X) (x : X) → IsPermutation xs ys → IsPermutation (xs ++ x ∷ []) (ys ++ x ∷ [])
both_more xs ys x same =
    IsPermutation-trans _ _ _ (IsPermutation-to_front xs x)
    (IsPermutation-trans _ _ _ (IsPermutation-cons x _ _ same) (IsPermutation-sym _ _ (IsPermutation-to_front ys x)))

-- the table of the amounts gains the amount
amount_rows : (n : ℤ) (r : SpentRow) (kept : List SpentRow) (rows : List Row) → AreAmountRows kept rows
    → AreAmountRows (kept ++ r ∷ []) (rows ++ numbered n r ∷ [])
amount_rows n r kept rows are =
    rw (map-append spent_row kept (r ∷ []), map-append (drop 1) rows (numbered n r ∷ []))
    (both_more (map spent_row kept) (map (drop 1) rows) (spent_row r) are)

-- its index gains the entry
amount_entry : (n : ℤ) (r : SpentRow) (rows entries : List Row) → IsShaped Table rows → AreBelow n rows
    → IsIndexOf key_columns rows entries
    → IsIndexOf key_columns (rows ++ numbered n r ∷ [])
    (insert_entry plain (entry_of key_columns (numbered n r)) entries)
amount_entry n r rows entries shaped all was =
    let row = numbered n r in
    let more =
    one_more_entry plain key_columns (rows ++ row ∷ []) entries (length rows)
    (table_with n (spent_row r) rows shaped all)
    (end_within rows row) (subst (λ l. IsIndexOf key_columns l entries) (sym (take_front rows row)) was) in
    subst₂ (λ l x. IsIndexOf key_columns l (insert_entry plain (entry_of key_columns x) entries)) (take_whole rows row)
    (at_end rows row []) more

-- an amount and its entry are one amount more
pub amount_adds : (old new : Trees) (n : ℤ) (r : SpentRow) → IsShaped Table (old 1) → AreBelow n (old 1)
    → PutsBoth n r old new → AddsKept old new (r ∷ []) × AreBelow (n +ℤ pos 1) (new 1)
amount_adds old new n r shaped all both =
    let row : new 1 ≡ old 1 ++ numbered n r ∷ [] = both.row ∙ put_at_end n (spent_row r) (old 1) all in (
      record {
        adds = record {
          schema = refl;
          rows = λ kept are. subst (AreAmountRows (kept ++ r ∷ [])) (sym row) (amount_rows n r kept (old 1) are);
          others = λ t apart other. both.others t apart (λ e. other (sym e));
        };
        indexed = λ was. subst₂ (IsIndexOf key_columns) (sym row) (sym both.entry)
            (amount_entry n r (old 1) (old 2) shaped all was);
      },
      subst (AreBelow (n +ℤ pos 1)) (sym row) (below_after n (old 1) (numbered n r) refl all),
    )

-- none more
pub adds_none : (trees : Trees) → AddsKept trees trees []
adds_none trees = record {
  adds = record {
    schema = refl;
    rows = λ kept are. subst (λ l. AreAmountRows l (trees 1)) (sym (append_none kept)) are;
    others = λ t apart other. refl;
  };
  indexed = λ was. was;
}
  where
    append_none : (xs : List SpentRow) → xs ++ [] ≡ xs
    append_none [] = refl
    append_none (x ∷ xs) = ap (λ l. x ∷ l) (append_none xs)

-- some and then others
pub adds_more : (a b c : Trees) (xs ys : List SpentRow) → AddsKept a b xs → AddsKept b c ys → AddsKept a c (xs ++ ys)
adds_more a b c xs ys p q = record {
  adds = adds_then (database_of a) (database_of b) (database_of c) xs ys p.adds q.adds;
  indexed = λ was. q.indexed (p.indexed was);
}

-- a row that was put and an entry that was inserted
pub puts_both : (old mid new : View) (n : ℤ) (r : SpentRow) → SetsTree old mid 1 (put_row (numbered n r))
    → SetsTree mid new 2 (insert_entry plain (entry_of key_columns (numbered n r)))
    → PutsBoth n r old.trees new.trees
puts_both old mid new n r put inserted =
    let row = numbered n r in
    let entry = entry_of key_columns row in
    let rows = put_row row (old.trees 1) in
    let entries = insert_entry plain entry (mid.trees 2) in
    let one = λ (t : ℕ). let e : mid.trees t ≡ with_tree old.trees 1 rows t =
    ap (λ (v : View). v.trees t) put.is in e in
    let two = λ (t : ℕ). let e : new.trees t ≡ with_tree mid.trees 2 entries t =
    ap (λ (v : View). v.trees t) inserted.is in e in
    record {
      row = two 1 ∙ with_other mid.trees 2 entries 1 (λ e. omega (arith, e)) ∙ one 1 ∙ with_same old.trees 1 rows;
      entry = two 2 ∙ with_same mid.trees 2 entries
          ∙ ap (insert_entry plain entry) (one 2 ∙ with_other old.trees 1 rows 2 (λ e. omega (arith, e)));
      others = λ t apart other. two t ∙ with_other mid.trees 2 entries t other ∙ one t
          ∙ with_other old.trees 1 rows t apart;
    }

-- a number after one, if there is one, is the next
pub some_next : (P : Type 0) (next : Option ℤ) (n : ℤ) → SomeIff next P n → IfSome next (λ m. m ≡ n)
some_next P None n h = tt
some_next P (Some m) n h = h.1

-- there is one, where so many are numbers from there on
pub some_numbers : (next : Option ℤ) (n : ℤ) (count : ℕ) → SomeIff next (FitsSigned w64 n) n → AreNumbers n count →
    IsSomeAnd next (λ m. AreNumbers m count)
some_numbers None n count h all = absurd (h (subst (FitsSigned w64) (+ℤ_idr n) (all 0 (omega arith))))
some_numbers (Some m) n count h all = subst (λ k. AreNumbers k count) (sym h.1) all

-- a number after one, if there is one, is above all that the next is above
pub after_one : (rows : List Row) (n : ℤ) (next : Option ℤ) → IfSome next (λ m. m ≡ n +ℤ pos 1)
    → AreBelow (n +ℤ pos 1) rows → IfSome next (λ m. AreBelow m rows)
after_one rows n None is below = tt
after_one rows n (Some m) is below = subst (λ k. AreBelow k rows) (sym is) below

-- counting goes on
pub counted_on : (first : ℤ) (i : ℕ) → (first +ℤ pos i) +ℤ pos 1 ≡ first +ℤ pos (i + 1)
counted_on first i = +ℤ_assoc first (pos i) (pos 1)
