-- The cells of a crew, as a table that is shared.
use Rattle.std.specs.Arc.{arc_value}
use Rattle.atomic_table.specs.Seated.{TableId}
use Rattle.ways_crews.specs.declared.board.CellBoard.{CellBoard}

-- which cells these are
abbrev pub board_id : CellBoard → TableId
board_id board = (arc_value board.table).shared.table_id
