-- how long the lines of valid tuples are
use Rattle.std.proofs.Common.{ℕ, ◌*◌, ◌≤◌, List, [], ◌∷◌, ◌++◌, length, pos, arith}
use Rattle.std.specs.List.{AllByRecursion}
use Rattle.std.proofs.lemmas.List.{length-append}
use Rattle.road_time.specs.declared.road.Tuple.{Tuple}
use Rattle.road_time.specs.Fits.{IsValid}
use Rattle.road_time.specs.Text.{tuple_numbers, tuple_text, lines_text}
use Rattle.road_time.proofs.NumberLaws.{Written, text_length}
use Rattle.road_time.proofs.TextLaws.{tuple_written, fifteen}

-- a number that a tuple has is tuple_written with at most ten digits
small : (n : ℕ) → n ≤ 2147483647 → Written 10 (pos n)
small n h = (omega arith, omega arith)

-- no line takes more than 166 bytes with its end
pub lines_length : (xs : List Tuple) → AllByRecursion IsValid xs → length (lines_text xs) ≤ 166 * length xs
lines_length [] h = omega arith
lines_length (x ∷ xs) h =
    let one = text_length (tuple_numbers x) (tuple_written x h.0) in
    let rest = lines_length xs h.1 in
    omega (
      arith,
      length-append (tuple_text x ++ 10 ∷ []) (lines_text xs),
      length-append (tuple_text x) (10 ∷ []),
      one,
      rest,
      fifteen x,
    )
