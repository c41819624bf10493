-- What calls at the cells ask and keep.
use Rattle.std.specs.Prelude.{◌≡◌, ℕ, ◌+◌, ◌∷◌, Option, None}
use Rattle.atomic_table.specs.declared.shared.Seat.{Seat}
use Rattle.atomic_table.specs.Seated.{TableId}
use Rattle.atomic_table.specs.Table.{rest}
use Rattle.ways_crews.specs.declared.cells.Parcel.{Parcel}
use Rattle.ways_crews.specs.declared.cells.View.{View}

-- a seat at a table of cells, which hold parcels
abbrev pub CellSeat : Type 0
CellSeat = Seat (Option Parcel) View

-- a seat at these cells, behind whose words stand the stop, the bell, the number of those who sleep, and
-- whether the crew waits
abbrev pub IsAt : TableId → CellSeat → Type 0
IsAt cells seat = (seat.table_id ≡ cells) × (cells.words ≡ cells.slots + 4)

-- it is the same seat
abbrev pub IsSame : CellSeat → CellSeat → Type 0
IsSame old new = (new.table_id ≡ old.table_id) × (new.id ≡ old.id)

-- the seat took the cell's turn last, and its slot is empty
abbrev pub HasTurn : CellSeat → ℕ → Type 0
HasTurn seat cell = seat.me.1 ≡ (cell, None) ∷ rest seat.me.1

-- it is the same seat, and knows and holds what it did
abbrev pub KeepsSeat : CellSeat → CellSeat → Type 0
KeepsSeat old new = IsSame old new × (new.me ≡ old.me)
