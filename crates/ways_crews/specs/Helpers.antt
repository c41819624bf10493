-- Which helpers were made with a crew, by the cells that they look at.

use Rattle.std.specs.Prelude.{◌≡◌, ℕ, List, length, All}
use Rattle.atomic_table.specs.Seated.{TableId}
use Rattle.ways_crews.specs.declared.board.CellBoard.{CellBoard}
use Rattle.ways_crews.specs.declared.helper.Helper.{Helper}
use Rattle.ways_crews.specs.Boards.{board_id}

-- a helper is at these cells
abbrev pub IsHelperAt : TableId → Helper → Type 0
IsHelperAt cells helper = board_id helper.board ≡ cells

-- which crew one is: its cells, and how many helpers were made with it
abbrev pub CrewName : Type 0
CrewName = CellBoard × ℕ

-- these are all the helpers that were made with a crew
abbrev pub AreHelpersOf : CrewName → List Helper → Type 0
AreHelpersOf crew helpers = (length helpers ≡ crew.1) × All (IsHelperAt (board_id crew.0)) helpers
