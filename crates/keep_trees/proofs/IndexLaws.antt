-- The index lists the amounts in the order of their keys.
use Rattle.std.proofs.Common.{◌≡◌, ℕ, zero, suc, false, List, [], ◌∷◌, map, take, drop, refl, sym, ap, subst, ◌∙◌}
use Rattle.std.proofs.Common.{IsPermutation}
use Rattle.std.proofs.Common.{Ordering, Less, Equal, Greater, is_gt}
use Rattle.std.specs.Ordering.{nat_cmp, ordering_then}
use Rattle.std.proofs.lemmas.List.Sorted.{IsPermutation-map, IsPermutation-trans}
use Rattle.sqlite_value.specs.Order.{Row, column}
use Rattle.sqlite_value.specs.Keys.{plain, entry_cmp, by_key, first_key, later}
use Rattle.sqlite_value.specs.declared.keys.Order.{Order}
use Rattle.sqlite_value.proofs.KeyLemmas.{first_key-plain, entry_cmp_total}
use Rattle.sqlite_trees.specs.Tree.{IsIndex}
use Rattle.sqlite_sql.specs.Catalog.{entry_of, IsIndexOf}
use Rattle.sqlite_keyed.proofs.ListLemmas.{map-map, map_same, ascending-map, ascending_weaker}
use Rattle.sqlite_keyed.proofs.SortLemmas.{sorted_unique}
use Rattle.sqlite_exec.proofs.PartitionLemmas.{sorted_from_ascending}
use Rattle.road_time.specs.declared.day.SpentRow.{SpentRow}
use Rattle.keep_office.specs.Office.{row_cmp, RowsRise}
use Rattle.keep_tables.specs.Codec.{spent_row}
use Rattle.keep_tables.specs.Stands.{AreAmountRows}
use Rattle.keep_tables.proofs.ReadLaws.{ascends, by_number}
use Rattle.keep_trees.specs.Rows.{row_key}

-- the first three columns
abbrev three : Row → Row
three c = column c 0 ∷ column c 1 ∷ column c 2 ∷ []

-- an entry begins with the first three columns of its row
three_of : (t : Row) → take 3 (entry_of (1 ∷ 2 ∷ 3 ∷ []) t) ≡ three (drop 1 t)
three_of [] = refl
three_of (x ∷ c) = refl

-- the keys of the amounts are those of the entries, in some order
keys_same : (rows : List SpentRow) (table entries : List Row) → AreAmountRows rows table
    → IsIndexOf (1 ∷ 2 ∷ 3 ∷ []) table entries
    → IsPermutation (map row_key rows) (map (take 3) entries)
keys_same rows table entries are indexed =
    let of_rows : map three (map spent_row rows) ≡ map row_key rows = map-map three spent_row rows in
    let of_table : map (take 3) (map (entry_of (1 ∷ 2 ∷ 3 ∷ [])) table) ≡ map three (map (drop 1) table) =
    map-map (take 3) (entry_of (1 ∷ 2 ∷ 3 ∷ [])) table ∙ map_same _ _ three_of table
    ∙ sym (map-map three (drop 1) table) in
    IsPermutation-trans _ _ _
    (subst (λ (l : List Row). IsPermutation l (map three (map (drop 1) table))) of_rows
    (IsPermutation-map three _ _ are))
    (subst (λ (l : List Row). IsPermutation l (map (take 3) entries)) of_table (IsPermutation-map (take 3) _ _ indexed))

-- their order is that of the keys
last_level : (o : Ordering) → ordering_then o Equal ≡ o
last_level Less = refl
last_level Equal = refl
last_level Greater = refl

-- keys compare as their amounts do
pub keyed_so : (a b : SpentRow) → entry_cmp plain (row_key a) (row_key b) ≡ row_cmp a b
keyed_so a b =
    rw (first_key-plain, by_number a.day b.day, by_number a.vid b.vid, by_number a.xway b.xway)
    (ap (λ o. ordering_then (nat_cmp a.day b.day) (ordering_then (nat_cmp a.vid b.vid) o))
    (last_level (nat_cmp a.xway b.xway)))

-- what is cut short is not above what it was below
cut_level : (a b : Ordering) (c : Ordering) → ordering_then a b ≡ Less → (b ≡ Less → is_gt c ≡ false)
    → is_gt (ordering_then a c) ≡ false
cut_level Less b c h so = refl
cut_level Equal b c h so = so h
cut_level Greater b c h so = absurd (cc)

-- entries that are cut to their first columns do not fall
pub cut_short : (n : ℕ) (o : Order) (a b : Row) → entry_cmp o a b ≡ Less
    → is_gt (entry_cmp o (take n a) (take n b)) ≡ false
cut_short zero o a b h = refl
cut_short (suc n) o [] [] h = absurd (cc)
cut_short (suc n) o [] (y ∷ b) h = refl
cut_short (suc n) o (x ∷ a) [] h = absurd (cc)
cut_short (suc n) o (x ∷ a) (y ∷ b) h =
    cut_level (by_key (first_key o) x y) (entry_cmp (later o) a b) (entry_cmp (later o) (take n a) (take n b)) h
    (λ less. cut_short n (later o) a b less)

-- so each entry is of the amount at its place
pub index_lists : (rows : List SpentRow) (table entries : List Row) → RowsRise rows → IsIndex plain entries
    → AreAmountRows rows table
    → IsIndexOf (1 ∷ 2 ∷ 3 ∷ []) table entries → map (take 3) entries ≡ map row_key rows
index_lists rows table entries rise up are indexed =
    sorted_unique (entry_cmp plain) (entry_cmp_total plain) (map row_key rows) (map (take 3) entries)
    (ascending-map (λ a b. entry_cmp plain a b ≡ Less) row_key rows
    (ascending_weaker (λ a b. row_cmp a b ≡ Less) (λ a b. entry_cmp plain (row_key a) (row_key b) ≡ Less)
    (λ a b less. keyed_so a b ∙ less) rows (ascends row_cmp rows rise)))
    (keys_same rows table entries are indexed)
    (sorted_from_ascending (entry_cmp plain) (entry_cmp_total plain) (map (take 3) entries)
    (ascending-map (λ a b. is_gt (entry_cmp plain a b) ≡ false) (take 3) entries
    (ascending_weaker (λ a b. entry_cmp plain a b ≡ Less) (λ a b. is_gt (entry_cmp plain (take 3 a) (take 3 b)) ≡ false)
    (λ a b less. cut_short 3 plain a b less) entries up)))
