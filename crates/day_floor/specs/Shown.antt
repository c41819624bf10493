-- What a board shows: nothing before a day began.
use Rattle.std.specs.Prelude.{List, Option, Some, None}
use Rattle.std.specs.Option.{option_map, unwrap_or}
use Rattle.std.specs.List.{fold}
use Rattle.day_floor.specs.Operations.{Operation, Begin, Step}
use Rattle.day_floor.specs.Boards.{BoardState, blank, board_with}

-- the board with one operation more, none before a day began: a step counts for nothing then
abbrev pub shown_with : Option BoardState → Operation → Option BoardState
shown_with s (Begin number) = Some (board_with blank (Begin number))
shown_with s (Step charges mark) = option_map (λ b. board_with b (Step charges mark)) s

-- the board of the day that began last, none before one began
abbrev pub shown_by : List Operation → Option BoardState
shown_by ops = fold shown_with None ops

-- what is shown of it
abbrev pub board_on : Option BoardState → BoardState
board_on s = unwrap_or s blank

-- what is shown after some operations
abbrev pub shown_after : List Operation → BoardState
shown_after ops = board_on (shown_by ops)
