-- Laws of boards and books, which no code runs.
use Rattle.std.specs.Prelude.{◌≡◌, ℕ, ◌≤◌, List, ◌++◌, take, length}
use Rattle.road_time.specs.declared.road.Tuple.{Tuple}
use Rattle.road_time.specs.Order.{AreTimesInOrder}
use Rattle.road_time.specs.Rates.{Tariffs}
use Rattle.road_time.specs.declared.day.SpentRow.{SpentRow}
use Rattle.road_time.specs.Day.{ChargedToll, balance, total, sum_of, charges_to}
use Rattle.road_time.specs.Rows.{rows_from}
use Rattle.day_floor.specs.Sums.{account_in, total_in, spent_by, AreRowsOf}
use Rattle.day_floor.specs.Operations.{Operation}
use Rattle.day_floor.specs.Boards.{account, all_accounts, IsLive}
use Rattle.day_floor.specs.Shown.{shown_after}

-- where a day's steps were published, the board shows the day's accounts at its mark
abbrev pub LiveLaw : Type 0
LiveLaw =
    (day : List Tuple) (tariffs : Tariffs) (number : ℕ) (ops : List Operation) → IsLive day tariffs number ops →
    ((shown_after ops).number ≡ number)
    × ((shown_after ops).mark ≤ length day)
    × ((vid : ℕ) → account (shown_after ops) vid ≡ balance day tariffs vid (take (shown_after ops).mark day))
    × (all_accounts (shown_after ops) ≡ total day tariffs (take (shown_after ops).mark day))

-- steps of a day that were published are steps of the day with more tuples behind it too
abbrev pub GrowLaw : Type 0
GrowLaw =
    (day later : List Tuple) → AreTimesInOrder (day ++ later) →
    (tariffs : Tariffs) (number : ℕ) (ops : List Operation) →
    IsLive day tariffs number ops → IsLive (day ++ later) tariffs number ops

-- the sums of charges are what the definitions make of the charges: each account, the total, and the rows of a day
abbrev pub BookLaw : Type 0
BookLaw =
    (cs : List ChargedToll) → ((vid : ℕ) → account_in (spent_by cs) vid ≡ sum_of (charges_to vid cs))
    × (total_in (spent_by cs) ≡ sum_of cs)
    × ((number : ℕ) (rows : List SpentRow) → AreRowsOf (spent_by cs) number rows → rows ≡ rows_from number cs)
