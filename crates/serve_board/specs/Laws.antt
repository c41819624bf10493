-- What answers by a beginning of what was published are: accounts of the day at its mark.
use Rattle.std.specs.Prelude.{◌≡◌, ℕ, ◌≤◌, ◌<◌, List, ◌∷◌, ◌++◌, take, length}
use Rattle.road_time.specs.declared.road.Tuple.{Tuple}
use Rattle.road_time.specs.Rates.{Tariffs}
use Rattle.road_time.specs.Day.{balance, total}
use Rattle.day_floor.specs.Operations.{Operation, Begin}
use Rattle.day_floor.specs.Boards.{AreSteps}
use Rattle.day_floor.specs.Shown.{shown_after}
use Rattle.serve_board.specs.Passes.{StartsWith, balance_on, total_on}

-- where a day and its steps were published, each answer by operations that begin what was published, and in which this
-- day began, is the day's account at the mark that it names
abbrev pub AnswersLaw : Type 0
AnswersLaw =
    (day : List Tuple) (tariffs : Tariffs) (number : ℕ) (earlier steps seen : List Operation) →
    AreSteps day tariffs 0 steps → StartsWith (earlier ++ Begin number ∷ steps) seen → length earlier < length seen →
    ((shown_after seen).mark ≤ length day)
    × ((vid : ℕ) → balance_on (shown_after seen) vid ≡ record {
      day = number;
      as_of = (shown_after seen).mark;
      amount =
          balance day tariffs vid (take (shown_after seen).mark day);
    })
    × (total_on (shown_after seen) ≡ record {
      day = number;
      as_of = (shown_after seen).mark;
      amount =
          total day tariffs (take (shown_after seen).mark day);
    })
