-- How large the table of the cells is.
use Rattle.std.specs.Prelude.{◌≡◌, ℕ, ◌+◌, ◌≤◌, ◌<◌}
use Rattle.atomic_table.specs.Seated.{TableId}

-- so many cells, and four words more
abbrev pub HasSize : TableId → ℕ → Type 0
HasSize cells count = (cells.slots ≡ count) × (cells.words ≡ count + 4) × (0 < count) × (count ≤ 64)
