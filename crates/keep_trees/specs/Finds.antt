-- What a search in the trees finds: the first row of a key, and the amount that it has.

use Rattle.std.specs.Prelude.{◌≡◌, ◌⊎◌, ℕ, ℤ, Bool, true, false, List, [], ◌∷◌, pos}
use Rattle.std.specs.List.{filter}
use Rattle.std.specs.Ordering.{is_eq}
use Rattle.sqlite_value.specs.declared.value.Value.TheVariants.{Int}
use Rattle.sqlite_value.specs.Order.{Row, column}
use Rattle.sqlite_value.specs.Keys.{plain, prefix_cmp}
use Rattle.sqlite_trees.specs.Tree.{from_key, up_to_key}
use Rattle.sqlite_btree.specs.Cut.{IsIn}

-- the first of some rows, or there is none
abbrev pub IsFirst : List Row → Row → Bool → Type 0
IsFirst rows row true = (rest : List Row) × (rows ≡ row ∷ rest)
IsFirst rows row false = rows ≡ []

-- none of a table's rows has a number or one above it
abbrev pub EndBefore : List Row → ℤ → Type 0
EndBefore rows number = from_key plain (Int number ∷ []) rows ≡ []

-- none of a table's rows has a number or one below it
abbrev pub BeginAfter : List Row → ℤ → Type 0
BeginAfter rows number = up_to_key plain (Int number ∷ []) rows ≡ []

-- an entry begins with a key
abbrev pub opens_with : Row → Row → Bool
opens_with key entry = is_eq (prefix_cmp plain entry key)

-- the key of a vehicle on a day
abbrev pub pair_key : ℕ → ℕ → Row
pair_key day vid = Int (pos day) ∷ Int (pos vid) ∷ []

-- the key of an amount
abbrev pub amount_key : ℕ → ℕ → ℕ → Row
amount_key day vid xway = Int (pos day) ∷ Int (pos vid) ∷ Int (pos xway) ∷ []

-- a row of amounts has this key and this amount
abbrev pub HasColumns : Row → ℕ → ℕ → ℕ → ℕ → Type 0
HasColumns row day vid xway tolls =
    (column row 1 ≡ Int (pos day)) × (column row 2 ≡ Int (pos vid)) × (column row 3 ≡ Int (pos xway))
    × (column row 4 ≡ Int (pos tolls))

-- an entry that begins with a key; or none does
abbrev pub HasKey : List Row → Row → Row → Bool → Type 0
HasKey entries key row true = IsIn row entries × (opens_with key row ≡ true)
HasKey entries key row false = filter (opens_with key) entries ≡ []

-- an amount is that of a row with the key, or 0 where no entry begins with the key
abbrev pub IsHeldAmount : List Row → List Row → ℕ → ℕ → ℕ → ℕ → Type 0
IsHeldAmount rows entries day vid xway tolls =
    ((row : Row) × IsIn row rows × HasColumns row day vid xway tolls)
    ⊎ ((tolls ≡ 0) × (filter (opens_with (amount_key day vid xway)) entries ≡ []))
