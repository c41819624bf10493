-- A checker in the midst of a day.
use Rattle.std.specs.Prelude.{ℕ, ◌≡◌, ◌+◌, ◌-◌, ◌*◌, ◌^◌, ◌==◌, ◌++◌, ◌∷◌, not, List, [], length, take, true, Option}
use Rattle.std.specs.Prelude.{Some, None}
use Rattle.std.specs.Option.{option_map}
use Rattle.std.specs.List.{list_all}
use Rattle.road_time.specs.declared.road.Tuple.{Tuple}
use Rattle.road_time.specs.declared.day.Limits.{Limits}
use Rattle.road_time.specs.Lines.{lines_of}
use Rattle.road_time.specs.Reads.{admit_fault, line_fault, tuples_of}
use Rattle.tuples_text.specs.Causes.{cause_of}
use Rattle.tuples_text.specs.declared.cause.Cause.{Cause}
use Rattle.tuples_text.specs.Gates.{GateState, StandsFor}
use Rattle.day_reading.specs.Checked.{Checked, checked, checked_by, named_of}
use Rattle.day_reading.specs.declared.tally.Tally.{Tally}
use Rattle.day_reading.specs.declared.checker.Checker.{Checker}

-- a tally counts the lines and the refused ones, and has those that are named
pub record Tallies (t : Tally) (c : Checked) : Type 0 where
  pub lines : t.lines ≡ length c.kept + length c.refusals
  pub refused : t.refused ≡ length c.refusals
  pub named : t.named.items ≡ named_of c

-- a tuple was let in, or is refused with its cause and changes nothing
abbrev pub Admits : Limits → ℕ → List Tuple → Tuple → Option Cause → GateState → Type 0
Admits limits late before x None gate = (admit_fault limits late before x ≡ None) × StandsFor gate limits late
    (before ++ x ∷ [])
Admits limits late before x (Some cause) gate =
    (option_map cause_of (admit_fault limits late before x) ≡ Some cause) × StandsFor gate limits late before

-- a line that follows good ones was judged, and what is let in is that of the good lines
pub record Judged (limits : Limits) (late : ℕ) (c : Checked) (line : List ℕ) (cause : Option Cause)
    (gate : GateState) : Type 0 where
  pub cause_is : cause ≡ option_map cause_of (line_fault limits late c.kept line)
  pub gate_is : StandsFor gate limits late
      (tuples_of (checked_by (line_fault limits late c.kept line) c line).kept)

-- lines were checked, and a text without a line's end follows them, of which the first 201 bytes are held
pub record IsChecking (k : Checker) (limits : Limits) (late : ℕ) (done : List (List ℕ)) (text : List ℕ) : Type
    0 where
  pub line_limit : k.line_limit ≡ limits.lines
  pub gate : StandsFor k.gate limits late (tuples_of (checked limits late done).kept)
  pub tally : Tallies k.tally (checked limits late done)
  pub line : k.line.items ≡ take 201 text

-- bytes were taken: their whole lines were checked, and the text behind these waits for its end
pub record HasChecked (k : Checker) (limits : Limits) (late : ℕ) (taken : List ℕ) : Type 0 where
  pub done : List (List ℕ)
  pub text : List ℕ
  pub unbroken : list_all (λ b. not (b == 10)) text ≡ true
  pub lines_are : (more : List ℕ) → lines_of (taken ++ more) ≡ done ++ lines_of (text ++ more)
  pub checking : IsChecking k limits late done text

-- the first of the bytes that a source had were taken, and the rest is left
pub record ChecksOn (k : Checker) (limits : Limits) (late : ℕ) (left : Option (List ℕ)) (bytes : List ℕ) : Type
    0 where
  pub taken : List ℕ
  pub now : List ℕ
  pub left_is : left ≡ Some now
  pub bytes_are : bytes ≡ taken ++ now
  pub has_checked : HasChecked k limits late taken

-- the most that a check reads: one buffer after the other, as many as can be counted
abbrev pub most_checked : ℕ
most_checked = 65536 * (2 ^ 64 - 1)
