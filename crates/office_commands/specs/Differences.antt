-- The lines at which notices that are compared part from those of the rules.
use Rattle.std.specs.Prelude.{ℕ, ◌+◌, ◌||◌, nat_le, nat_lt, Bool, false, List, [], ◌∷◌, ◌++◌, take, codes}
use Rattle.std.specs.Prelude.{if◌then◌else◌}
use Rattle.std.specs.List.{flat_map}
use Rattle.std.specs.Fmt.{decimal}
use Rattle.road_time.specs.declared.road.Notice.{Notice}
use Rattle.ways_audit.specs.Seconds.{second_of}
use Rattle.office_commands.specs.declared.entry_text.EntryText.{EntryText}
use Rattle.office_commands.specs.declared.entry_text.EntryText.TheVariants.{Nothing, Read}
use Rattle.office_commands.specs.declared.difference.DifferenceKind.{DifferenceKind}
use Rattle.office_commands.specs.declared.difference.DifferenceKind.TheVariants.{Changed, Missing, Additional}
use Rattle.office_commands.specs.declared.difference.Difference.{Difference}
use Rattle.office_commands.specs.declared.closing.Closing.{Closing}
use Rattle.office_commands.specs.declared.closing.Closing.TheVariants.{DiffersLine}
use Rattle.office_commands.specs.Asides.{is_short, is_text_of, found_as}
use Rattle.office_commands.specs.Closings.{entry_text}

-- what was found is a notice of a later second than another
abbrev pub is_after : Notice → EntryText → Bool
is_after w (Read found) = nat_lt (second_of w) (second_of found)
is_after w _ = false

-- what was found is a notice of an earlier second
abbrev pub is_before : Notice → EntryText → Bool
is_before w (Read found) = nat_lt (second_of found) (second_of w)
is_before w _ = false

-- a line is the text of the first of some notices
abbrev pub is_text_of_first : List Notice → List ℕ → Bool
is_text_of_first [] l = false
is_text_of_first (w ∷ ws) l = is_text_of w l

-- a notice has its text in the first of some lines
abbrev pub is_in_first : Notice → List (List ℕ) → Bool
is_in_first w [] = false
is_in_first w (l ∷ ls) = is_text_of w l

-- where a line is not a notice's text, the notice is missing: the line is of a later second, or that of the next one
abbrev pub is_missing : Notice → List Notice → List ℕ → Bool
is_missing w ws l = is_after w (found_as l) || is_text_of_first ws l

-- or the line is additional: it is of an earlier second, or the notice stands right behind it
abbrev pub is_additional : Notice → List ℕ → List (List ℕ) → Bool
is_additional w l ls = is_before w (found_as l) || is_in_first w ls

-- a difference at the line of a number: what is right there, and what was found
abbrev pub differs_at : DifferenceKind → ℕ → EntryText → EntryText → Difference
differs_at kind n wanted found = record { line = n; kind = kind; wanted = wanted; found = found }

-- the lines behind all notices; one of more than 200 bytes is the last that is read
abbrev pub lines_over : ℕ → List (List ℕ) → List Difference
lines_over n [] = []
lines_over n (l ∷ ls) =
    differs_at Additional n Nothing (found_as l) ∷ (if is_short l then lines_over (n + 1) ls else [])

-- the differences from a notice on, by those from the notice behind it on; a line of more than 200 bytes is the last
-- that is read
abbrev pub differences_by : Notice → List Notice → (ℕ → List (List ℕ) → List Difference) → ℕ → List (List ℕ) →
    List Difference
differences_by w ws behind n [] = differs_at Missing n (Read w) Nothing ∷ behind n []
differences_by w ws behind n (l ∷ ls) =
    if is_text_of w l then behind (n + 1) ls
    else (if is_short l
    then (if is_missing w ws l then differs_at Missing n (Read w) (found_as l) ∷ behind n (l ∷ ls)
    else (if is_additional w l ls
    then differs_at Additional n (Read w) (found_as l) ∷ differences_by w ws behind (n + 1) ls
    else differs_at Changed n (Read w) (found_as l) ∷ behind (n + 1) ls))
    else differs_at Changed n (Read w) (found_as l) ∷ [])

-- the differences of notices and lines, from the line of a number on
abbrev pub differences : List Notice → ℕ → List (List ℕ) → List Difference
differences [] n ls = lines_over n ls
differences (w ∷ ws) n ls = differences_by w ws (λ m ks. differences ws m ks) n ls

-- the closing line of a comparison, by its first difference
abbrev pub closed_by_first : Closing → List Difference → Closing
closed_by_first agreed [] = agreed
closed_by_first agreed (d ∷ ds) = DiffersLine d.line d.wanted d.found

-- those that are told before the closing line: the first so many, and none where the closing line's is all
abbrev pub told_before : ℕ → List Difference → List Difference
told_before show all = if nat_le show 1 then [] else take show all

-- the line that tells of another line than is right
abbrev pub changed_line : ℕ → EntryText → EntryText → List ℕ
changed_line n wanted found =
    decimal n ++ (codes " wanted " ++ (entry_text wanted ++ (codes " found " ++ (entry_text found ++ codes "\n"))))

-- the line that tells of a missing one
abbrev pub missing_line : ℕ → EntryText → List ℕ
missing_line n wanted = decimal n ++ (codes " missing " ++ (entry_text wanted ++ codes "\n"))

-- the line that tells of one too many
abbrev pub additional_line : ℕ → EntryText → List ℕ
additional_line n found = decimal n ++ (codes " additional " ++ (entry_text found ++ codes "\n"))

-- the line of a difference, by its kind
abbrev pub kind_line : DifferenceKind → ℕ → EntryText → EntryText → List ℕ
kind_line Changed n wanted found = changed_line n wanted found
kind_line Missing n wanted found = missing_line n wanted
kind_line Additional n wanted found = additional_line n found

-- the line of a difference
abbrev pub difference_line : Difference → List ℕ
difference_line d = kind_line d.kind d.line d.wanted d.found

-- the lines of differences
abbrev pub differences_text : List Difference → List ℕ
differences_text ds = flat_map difference_line ds
