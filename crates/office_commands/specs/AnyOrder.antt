-- The lines at which notices that are compared part from those of the rules, where the notices of one second may stand
-- in any order.
use Rattle.std.specs.Prelude.{ℕ, zero, suc, ◌+◌, nat_lt, Bool, true, false, List, [], ◌∷◌, ◌++◌, length}
use Rattle.std.specs.Prelude.{if◌then◌else◌}
use Rattle.road_time.specs.declared.road.Notice.{Notice}
use Rattle.ways_audit.specs.Seconds.{seconds, count_in, less}
use Rattle.office_commands.specs.declared.entry_text.EntryText.{EntryText}
use Rattle.office_commands.specs.declared.entry_text.EntryText.TheVariants.{Nothing, Read}
use Rattle.office_commands.specs.declared.difference.DifferenceKind.TheVariants.{Missing, Additional}
use Rattle.office_commands.specs.declared.difference.Difference.{Difference}
use Rattle.office_commands.specs.declared.closing.Closing.{Closing}
use Rattle.office_commands.specs.declared.closing.Closing.TheVariants.{Agree}
use Rattle.office_commands.specs.Asides.{is_short, found_as, entries_of, compared}
use Rattle.office_commands.specs.Differences.{is_after, differs_at, lines_over, differences, closed_by_first}
use Rattle.office_commands.specs.Differences.{told_before, differences_text}

-- what was found is of a later second than these notices, which are of one
abbrev pub is_later : List Notice → EntryText → Bool
is_later [] found = false
is_later (w ∷ run) found = is_after w found

-- what was found is one of the notices that are still to come, where this is how often each of them is
abbrev pub is_wanted : (Notice → ℕ) → EntryText → Bool
is_wanted coming (Read notice) = nat_lt 0 (coming notice)
is_wanted coming _ = false

-- how often each notice is still to come behind what was found
abbrev pub without_found : (Notice → ℕ) → EntryText → Notice → ℕ
without_found coming (Read notice) = less coming notice
without_found coming _ = coming

-- the notices of a second that did not come are missing, each before the line of a number
abbrev pub missing_at : ℕ → EntryText → (Notice → ℕ) → List Notice → List Difference
missing_at n found coming [] = []
missing_at n found coming (w ∷ run) =
    if nat_lt 0 (coming w) then differs_at Missing n (Read w) found ∷ missing_at n found (less coming w) run
    else missing_at n found coming run

-- The differences from the notices of a second on, by those from the second behind it on, where so many are still to
-- come. The second ends with the last of its notices, before a line of a later one, or with the lines. A line that is
-- none of those to come is additional; one of more than 200 bytes is the last that is read.
abbrev pub differences_within : List Notice → (ℕ → List (List ℕ) → List Difference) → ℕ → (Notice → ℕ) → ℕ
    → List (List ℕ) → List Difference
differences_within run behind zero coming n ls = behind n ls
differences_within run behind (suc left) coming n [] = missing_at n Nothing coming run ++ behind n []
differences_within run behind (suc left) coming n (l ∷ ls) =
    if is_later run (found_as l) then missing_at n (found_as l) coming run ++ behind n (l ∷ ls)
    else (if is_wanted coming (found_as l)
    then differences_within run behind left (without_found coming (found_as l)) (n + 1) ls
    else differs_at Additional n Nothing (found_as l)
    ∷ (if is_short l then differences_within run behind (suc left) coming (n + 1) ls else []))

-- the differences of notices that are cut into seconds and lines, from the line of a number on
abbrev pub differences_by_second : List (List Notice) → ℕ → List (List ℕ) → List Difference
differences_by_second [] n ls = lines_over n ls
differences_by_second (run ∷ runs) n ls =
    differences_within run (λ m ks. differences_by_second runs m ks) (length run) (count_in run) n ls

-- the differences of notices and lines, where those of a second may stand in any order or not
abbrev pub differences_in : Bool → List Notice → List (List ℕ) → List Difference
differences_in true wanted ls = differences_by_second (seconds wanted) 1 ls
differences_in false wanted ls = differences wanted 1 ls

-- how notices compare with lines, in any order within a second or not
abbrev pub compared_in : Bool → List Notice → List (List ℕ) → Closing
compared_in true wanted lines =
    closed_by_first (Agree (length wanted)) (differences_in true wanted (entries_of lines))
compared_in false wanted lines = compared wanted lines

-- what is written before the closing line of a comparison of notices with lines
abbrev pub told_text : Bool → ℕ → List Notice → List (List ℕ) → List ℕ
told_text any_order show wanted lines =
    differences_text (told_before show (differences_in any_order wanted (entries_of lines)))
