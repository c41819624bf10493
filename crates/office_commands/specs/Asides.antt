-- Notices that are compared with those of the rules.
use Rattle.std.specs.Prelude.{ℕ, ◌+◌, ◌-◌, ◌==◌, ◌&&◌, nat_le, Bool, false, List, [], ◌∷◌, length, Option, Some, None}
use Rattle.std.specs.Prelude.{if◌then◌else◌}
use Rattle.std.specs.Str.{bytes_eq}
use Rattle.road_time.specs.declared.road.Notice.{Notice}
use Rattle.road_time.specs.Lines.{without_cr}
use Rattle.road_time.specs.Text.{notice_text, read_notice}
use Rattle.office_commands.specs.declared.entry_text.EntryText.{EntryText}
use Rattle.office_commands.specs.declared.entry_text.EntryText.TheVariants.{Nothing, Malformed, Read}
use Rattle.office_commands.specs.declared.closing.Closing.{Closing}
use Rattle.office_commands.specs.declared.closing.Closing.TheVariants.{Agree, DiffersLine}

-- a line of at most 200 bytes
abbrev pub is_short : List ℕ → Bool
is_short line = nat_le (length line) 200

-- a text begins with #
abbrev pub begins_with_hash : List ℕ → Bool
begins_with_hash [] = false
begins_with_hash (b ∷ bs) = b == 35

-- the lines before the first that is short and begins with #
abbrev pub entries_of : List (List ℕ) → List (List ℕ)
entries_of [] = []
entries_of (l ∷ ls) = if is_short l && begins_with_hash l then [] else l ∷ entries_of ls

-- a notice, if it is one
abbrev pub entry_of : Option Notice → EntryText
entry_of None = Malformed
entry_of (Some notice) = Read notice

-- how a line is named: the notice whose text it is, if it is short
abbrev pub found_as : List ℕ → EntryText
found_as line = if is_short line then entry_of (read_notice (without_cr line)) else Malformed

-- a line is the text of a notice
abbrev pub is_text_of : Notice → List ℕ → Bool
is_text_of notice line = is_short line && bytes_eq (without_cr line) (notice_text notice)

-- the first line, from a number on, at which notices and lines part, or how many agree
abbrev pub compared_from : ℕ → List Notice → List (List ℕ) → Closing
compared_from n [] [] = Agree (n - 1)
compared_from n [] (l ∷ ls) = DiffersLine n Nothing (found_as l)
compared_from n (w ∷ ws) [] = DiffersLine n (Read w) Nothing
compared_from n (w ∷ ws) (l ∷ ls) =
    if is_text_of w l then compared_from (n + 1) ws ls else DiffersLine n (Read w) (found_as l)

-- how notices compare with lines
abbrev pub compared : List Notice → List (List ℕ) → Closing
compared wanted lines = compared_from 1 wanted (entries_of lines)
