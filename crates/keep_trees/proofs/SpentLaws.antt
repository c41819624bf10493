-- What the tables and the index tell of an amount.
use Rattle.std.proofs.Common.{◌≡◌, ℕ, pos, ◌==◌, ◌&&◌, Bool, true, false, List, [], ◌∷◌, map, filter, drop, refl, sym}
use Rattle.std.proofs.Common.{ap, ap₂, subst, ◌∙◌, inl, inr, arith, eq-eqb}
use Rattle.std.proofs.Common.{Ordering, Less, Equal, Greater, is_eq}
use Rattle.std.proofs.Common.{◌<◌, ◌^◌, Result, Ok, Err, MatchResult}
use Rattle.std.specs.Ordering.{nat_cmp, ordering_then}
use Rattle.std.specs.List.{AllByRecursion}
use Rattle.sqlite_pages.specs.declared.error.Error.{Error}
use Rattle.sqlite_pages.specs.declared.error.Error.TheVariants.{Corrupt}
use Rattle.std.proofs.lemmas.List.Sorted.{IsPermutation-refl, IsPermutation-sym}
use Rattle.std.proofs.lemmas.Bool.Decides.{nat_tests}
use Rattle.std.proofs.lemmas.Bool.{and_parts, eqb-true, cases_Bool}
use Rattle.sqlite_value.specs.declared.value.Value.{Value}
use Rattle.sqlite_value.specs.declared.value.Value.TheVariants.{Int}
use Rattle.sqlite_value.specs.Order.{Row, column}
use Rattle.sqlite_value.proofs.KeyLemmas.{first_key-plain}
use Rattle.sqlite_btree.specs.Cut.{IsIn}
use Rattle.sqlite_sql.specs.Catalog.{entry_of, IsIndexOf}
use Rattle.road_time.specs.declared.day.SpentRow.{SpentRow}
use Rattle.road_time.specs.History.{is_row, paid, KeysDiffer}
use Rattle.keep_office.specs.Office.{Office}
use Rattle.keep_tables.specs.Amounts.{HasAmount}
use Rattle.keep_tables.specs.Codec.{spent_row}
use Rattle.keep_tables.specs.Select.{spent_query, passes}
use Rattle.keep_tables.specs.Stands.{AreAmountRows, FitsSpent}
use Rattle.keep_tables.proofs.AmountLaws.{asked, same_numbers, last_true, amount_found}
use Rattle.keep_tables.proofs.ReadLaws.{by_number}
use Rattle.keep_tables.proofs.SelectLaws.{shown}
use Rattle.keep_trees.specs.Finds.{opens_with, amount_key, HasColumns, HasKey}
use Rattle.keep_trees.proofs.Members.{in_permuted, in_mapped, into_mapped, into_filter, of_filter}

-- level at each step
both_level : (a b : Ordering) → is_eq (ordering_then a b) ≡ true → (is_eq a ≡ true) × (is_eq b ≡ true)
both_level Less b h = absurd (cc)
both_level Equal b h = (refl, h)
both_level Greater b h = absurd (cc)

-- numbers that are level are the same
level : (m n : ℕ) → is_eq (nat_cmp m n) ≡ true → m ≡ n
level m n h = grind (arith, nat_tests)

-- a number is level with itself
level_itself : (n : ℕ) → nat_cmp n n ≡ Equal
level_itself n = grind (arith, nat_tests)

-- a row of a table of amounts is a number and an amount
pub record IsAmountRow (rows : List SpentRow) (t : Row) : Type 0 where
  pub amount : SpentRow
  pub among : IsIn amount rows
  pub number : Value
  pub is : t ≡ number ∷ spent_row amount

-- a row whose other columns are an amount is a row of it
with_number : (rows : List SpentRow) (t : Row) (r : SpentRow) → IsIn r rows → drop 1 t ≡ spent_row r
    → IsAmountRow rows t
with_number rows [] r among h = absurd (cc)
with_number rows (x ∷ c) r among h = record { amount = r; among = among; number = x; is = ap (λ (l : Row). x ∷ l) h }

-- each row of the table is one
pub amount_row : (rows : List SpentRow) (table : List Row) (t : Row) → AreAmountRows rows table → IsIn t table
    → IsAmountRow rows t
amount_row rows table t are at =
    let among =
    in_mapped spent_row rows (drop 1 t)
    (in_permuted _ _ (drop 1 t) (IsPermutation-sym _ _ are) (into_mapped (drop 1) table t at)) in
    with_number rows t among.0 among.1 among.2

-- what all fit, one among them fits
pub fits_in : (rows : List SpentRow) (r : SpentRow) → AllByRecursion FitsSpent rows → IsIn r rows → FitsSpent r
fits_in [] r all at = absurd at
fits_in (s ∷ rows) r all (inl e) = subst FitsSpent (sym e) all.0
fits_in (s ∷ rows) r all (inr more) = fits_in rows r all.1 more

-- an entry is of an amount
pub record IsEntry (rows : List SpentRow) (table : List Row) (e : Row) : Type 0 where
  pub amount : SpentRow
  pub among : IsIn amount rows
  pub number : Value
  pub row : Row
  pub at : IsIn row table
  pub numbered : column row 0 ≡ number
  pub is : e ≡ Int (pos amount.day) ∷ Int (pos amount.vid) ∷ Int (pos amount.xway) ∷ number ∷ []

-- each entry of the index is one
pub entry_is : (rows : List SpentRow) (table entries : List Row) (e : Row) → AreAmountRows rows table
    → IsIndexOf (1 ∷ 2 ∷ 3 ∷ []) table entries → IsIn e entries → IsEntry rows table e
entry_is rows table entries e are indexed at =
    let from =
    in_mapped (entry_of (1 ∷ 2 ∷ 3 ∷ [])) table e (in_permuted _ _ e (IsPermutation-sym _ _ indexed) at) in
    let row = amount_row rows table from.0 are from.1 in
    record {
      amount = row.amount;
      among = row.among;
      number = row.number;
      row = from.0;
      at = from.1;
      numbered = ap (λ (z : Row). column z 0) row.is;
      is = from.2 ∙ ap (entry_of (1 ∷ 2 ∷ 3 ∷ [])) row.is;
    }

-- the amount of a row among those that differ is what was paid
pub paid_of : (rows : List SpentRow) (r : SpentRow) → KeysDiffer rows → IsIn r rows
    → paid rows r.day r.vid r.xway ≡ r.tolls
paid_of [] r differ at = absurd at
paid_of (s ∷ rows) r differ (inl e) =
    let d : s.day ≡ r.day = ap (λ (z : SpentRow). z.day) (sym e) in
    let v : s.vid ≡ r.vid = ap (λ (z : SpentRow). z.vid) (sym e) in
    let x : s.xway ≡ r.xway = ap (λ (z : SpentRow). z.xway) (sym e) in
    let here : is_row r.day r.vid r.xway s ≡ true =
    rw (d, v, x, eq-eqb r.day r.day refl, eq-eqb r.vid r.vid refl, eq-eqb r.xway r.xway refl) refl in
    rw here (ap (λ (z : SpentRow). z.tolls) (sym e))
paid_of (s ∷ rows) r differ (inr more) =
    let off : is_row s.day s.vid s.xway r ≡ false =
    all_at rows r (λ (z : SpentRow). is_row s.day s.vid s.xway z ≡ false) differ.0 more in
    elim (cases_Bool (is_row r.day r.vid r.xway s)) [
      | inl here ↦
          let one = and_parts (s.day == r.day) (s.vid == r.vid && s.xway == r.xway) here in
          let two = and_parts (s.vid == r.vid) (s.xway == r.xway) one.1 in
          let d : s.day ≡ r.day = eqb-true s.day r.day one.0 in
          let v : s.vid ≡ r.vid = eqb-true s.vid r.vid two.0 in
          let x : s.xway ≡ r.xway = eqb-true s.xway r.xway two.1 in
          let same : is_row s.day s.vid s.xway r ≡ true =
          rw (d, v, x, eq-eqb r.day r.day refl, eq-eqb r.vid r.vid refl, eq-eqb r.xway r.xway refl) refl in
          absurd (let q : true ≡ false = sym same ∙ off in cc)
      | inr other ↦ rw other (paid_of rows r differ.1 more)
    ]
  where
    all_at : (xs : List SpentRow) (z : SpentRow) (P : SpentRow → Type 0) → AllByRecursion P xs → IsIn z xs → P z
    all_at [] z P all h = absurd h
    all_at (y ∷ xs) z P all (inl e) = subst P (sym e) all.0
    all_at (y ∷ xs) z P all (inr h) = all_at xs z P all.1 h

-- the same by the parts of its key
pub paid_at : (rows : List SpentRow) (r : SpentRow) (d v x : ℕ) → r.day ≡ d → r.vid ≡ v → r.xway ≡ x → KeysDiffer rows
    → IsIn r rows
    → paid rows d v x ≡ r.tolls
paid_at rows r d v x a b c differ at = rw (← a, ← b, ← c) (paid_of rows r differ at)

-- an amount by its parts
abbrev pub amount_with : ℕ → ℕ → ℕ → ℕ → SpentRow
amount_with d v x t = record { day = d; vid = v; xway = x; tolls = t }

-- an amount of the same parts is the same
pub same_row : (d v x t : ℕ) (s : SpentRow) → d ≡ s.day → v ≡ s.vid → x ≡ s.xway → t ≡ s.tolls
    → amount_with d v x t ≡ s
same_row d v x t s a b c e = rw (a, b, c, e) refl

module _ (day vid xway : ℕ) where
  -- an entry of an amount begins with the key where the numbers are the same
  key_test : (d v x : ℕ) (z : Value)
      → opens_with (amount_key day vid xway) (Int (pos d) ∷ Int (pos v) ∷ Int (pos x) ∷ z ∷ [])
      ≡ is_eq (ordering_then (nat_cmp d day) (ordering_then (nat_cmp v vid) (ordering_then (nat_cmp x xway) Equal)))
  key_test d v x z = rw (first_key-plain, by_number d day, by_number v vid, by_number x xway) refl

  -- an amount whose entry begins with the key has it
  key_same : (r : SpentRow) (z : Value)
      → opens_with (amount_key day vid xway) (Int (pos r.day) ∷ Int (pos r.vid) ∷ Int (pos r.xway) ∷ z ∷ []) ≡ true
      → (r.day ≡ day) × (r.vid ≡ vid) × (r.xway ≡ xway)
  key_same r z h =
      let one = both_level _ _ (sym (key_test r.day r.vid r.xway z) ∙ h) in
      let two = both_level _ _ one.1 in
      let three = both_level _ _ two.1 in
      (level _ _ one.0, level _ _ two.0, level _ _ three.0)

  -- the entry of an amount with the key begins with it
  pub key_begins : (r : SpentRow) (z : Value) → (r.day ≡ day) × (r.vid ≡ vid) × (r.xway ≡ xway)
      → opens_with (amount_key day vid xway) (Int (pos r.day) ∷ Int (pos r.vid) ∷ Int (pos r.xway) ∷ z ∷ []) ≡ true
  key_begins r z same =
      key_test r.day r.vid r.xway z
      ∙ rw (same.0, same.1, same.2, level_itself day, level_itself vid, level_itself xway) refl

  -- the tests of the query pass the rows with the key
  tested : (x : Value) (r : SpentRow)
      → passes spent_query.filter (asked day vid xway) (x ∷ spent_row r) ≡ is_row day vid xway r
  tested x r =
      ap₂ ◌&&◌ (same_numbers r.day day)
      (ap₂ ◌&&◌ (same_numbers r.vid vid)
      (ap (λ b. b && true) (same_numbers r.xway xway) ∙ last_true (r.xway == xway)))

  -- an amount that is asked for has the key
  has_key : (r : SpentRow) → is_row day vid xway r ≡ true → (r.day ≡ day) × (r.vid ≡ vid) × (r.xway ≡ xway)
  has_key r h =
      let one = and_parts (r.day == day) (r.vid == vid && r.xway == xway) h in
      let two = and_parts (r.vid == vid) (r.xway == xway) one.1 in
      (eqb-true r.day day one.0, eqb-true r.vid vid two.0, eqb-true r.xway xway two.1)

  -- an amount with the key is asked for
  of_key : (r : SpentRow) → (r.day ≡ day) × (r.vid ≡ vid) × (r.xway ≡ xway) → is_row day vid xway r ≡ true
  of_key r same = rw (same.0, same.1, same.2, eq-eqb day day refl, eq-eqb vid vid refl, eq-eqb xway xway refl) refl

  -- whether the columns of a row are those of the key
  abbrev test : Row → Bool
  test = passes spent_query.filter (asked day vid xway)

  -- the amount in the columns of a row
  abbrev shows : Row → Row
  shows = shown spent_query.project (asked day vid xway)

  -- the amount of an answer of one row is that row's
  only : (rows : List Row) (t : Row) (n m : ℕ) → HasAmount (map shows rows) m → IsIn t rows → column t 4 ≡ Int (pos n)
      → n ≡ m
  only [] t n m has at col = absurd at
  only (u ∷ []) t n m has (inl e) col =
      let same : Int (pos n) ≡ Int (pos m) = sym col ∙ ap (λ (z : Row). column z 4) e ∙ has in cc
  only (u ∷ []) t n m has (inr none) col = absurd none
  only (u ∷ v ∷ rows) t n m has at col = absurd has

  module _ (o : Office) (table entries : List Row) (differ : KeysDiffer o.rows) (are : AreAmountRows o.rows table)
      (indexed : IsIndexOf (1 ∷ 2 ∷ 3 ∷ []) table entries) where
    -- what the rows that pass show has the amount that was paid
    has_amount : HasAmount (map shows (filter test table)) (paid o.rows day vid xway)
    has_amount = amount_found day vid xway o table (map shows (filter test table)) differ are (IsPermutation-refl _)

    -- a row with the key has it
    pub paid_is : (t : Row) (n : ℕ) → IsIn t table → HasColumns t day vid xway n → n ≡ paid o.rows day vid xway
    paid_is t n at cols =
        let row = amount_row o.rows table t are at in
        let r = row.amount in
        let d : Int (pos r.day) ≡ Int (pos day) = ap (λ (z : Row). column z 1) (sym row.is) ∙ cols.0 in
        let v : Int (pos r.vid) ≡ Int (pos vid) = ap (λ (z : Row). column z 2) (sym row.is) ∙ cols.1 in
        let x : Int (pos r.xway) ≡ Int (pos xway) = ap (λ (z : Row). column z 3) (sym row.is) ∙ cols.2 in
        let pass : test t ≡ true = ap test row.is ∙ tested row.number r ∙ of_key r (cc, cc, cc) in
        only (filter test table) t n (paid o.rows day vid xway) has_amount (into_filter test table t at pass) cols.3

    -- an entry that begins with the key is of a row with the key
    pub record IsBehind (e : Row) : Type 0 where
      pub row : Row
      pub at : IsIn row table
      pub amount : SpentRow
      pub among : IsIn amount o.rows
      pub is : row ≡ column e 3 ∷ spent_row amount
      pub same : (amount.day ≡ day) × (amount.vid ≡ vid) × (amount.xway ≡ xway)

    -- an entry that begins with the key names such a row
    pub row_behind : (e : Row) → HasKey entries (amount_key day vid xway) e true → IsBehind e
    row_behind e has =
        let from =
        in_mapped (entry_of (1 ∷ 2 ∷ 3 ∷ [])) table e (in_permuted _ _ e (IsPermutation-sym _ _ indexed) has.0) in
        let row = amount_row o.rows table from.0 are from.1 in
        let r = row.amount in
        let entry : e ≡ Int (pos r.day) ∷ Int (pos r.vid) ∷ Int (pos r.xway) ∷ row.number ∷ [] =
        from.2 ∙ ap (entry_of (1 ∷ 2 ∷ 3 ∷ [])) row.is in
        record {
          row = from.0;
          at = from.1;
          amount = r;
          among = row.among;
          is = row.is ∙ ap (λ (v : Value). v ∷ spent_row r) (sym (ap (λ (z : Row). column z 3) entry));
          same = key_same r row.number (subst (λ (z : Row). opens_with (amount_key day vid xway) z ≡ true) entry has.1);
        }

    -- its row has the key
    has_columns : (e row : Row) (b : IsBehind e) → row ≡ b.row → HasColumns row day vid xway b.amount.tolls
    has_columns e row b same =
        let is = same ∙ b.is in (
          ap (λ (z : Row). column z 1) is ∙ ap (λ n. Int (pos n)) b.same.0,
          ap (λ (z : Row). column z 2) is ∙ ap (λ n. Int (pos n)) b.same.1,
          ap (λ (z : Row). column z 3) is ∙ ap (λ n. Int (pos n)) b.same.2,
          ap (λ (z : Row). column z 4) is,
        )

    -- so the amount that is read of it is the one that was paid
    pub read_of : (e row : Row) (b : IsBehind e) (r : Result ℕ Error) (Cause : Error → Type 0)
        → AllByRecursion FitsSpent o.rows → row ≡ b.row
        → MatchResult r (λ tolls. HasColumns row day vid xway tolls)
        (λ e. (e ≡ Corrupt) × ((tolls : ℕ) → tolls < 2 ^ 63 → ¬ (HasColumns row day vid xway tolls)))
        → MatchResult r (λ tolls. tolls ≡ paid o.rows day vid xway) Cause
    read_of e row b (Ok tolls) Cause fits same cols =
        paid_is row tolls (subst (λ (z : Row). IsIn z table) (sym same) b.at) cols
    read_of e row b (Err error) Cause fits same none =
        absurd (none.1 b.amount.tolls (fits_in o.rows b.amount fits b.among).3 (has_columns e row b same))

    -- where none begins with it, nothing was paid
    nothing : (rows : List Row) → HasAmount (map shows rows) (paid o.rows day vid xway) → ((t : Row) → IsIn t rows → ⊥)
        → 0 ≡ paid o.rows day vid xway
    nothing [] has none = sym has
    nothing (t ∷ rows) has none = absurd (none t (inl refl))

    -- where no entry begins with the key nothing was paid
    pub none_paid : filter (opens_with (amount_key day vid xway)) entries ≡ [] → 0 ≡ paid o.rows day vid xway
    none_paid none =
        nothing (filter test table) has_amount
        (λ t h.
        let passing = of_filter test table t h in
        let row = amount_row o.rows table t are passing.0 in
        let r = row.amount in
        let same = has_key r (sym (tested row.number r) ∙ ap test (sym row.is) ∙ passing.1) in
        let entry : entry_of (1 ∷ 2 ∷ 3 ∷ []) t ≡ Int (pos r.day) ∷ Int (pos r.vid) ∷ Int
        (pos r.xway) ∷ row.number ∷ [] =
        ap (entry_of (1 ∷ 2 ∷ 3 ∷ [])) row.is in
        let there =
        into_filter (opens_with (amount_key day vid xway)) entries (entry_of (1 ∷ 2 ∷ 3 ∷ []) t)
        (in_permuted _ _ _ indexed (into_mapped (entry_of (1 ∷ 2 ∷ 3 ∷ [])) table t passing.0))
        (ap (opens_with (amount_key day vid xway)) entry ∙ key_begins r row.number same) in
        subst (IsIn (entry_of (1 ∷ 2 ∷ 3 ∷ []) t)) none there)
