-- The words that ask an office to begin anew.
use Rattle.std.specs.Prelude.{ℕ, List, [], ◌∷◌, Option, Some, None, codes, if◌then◌else◌}
use Rattle.std.specs.Str.{bytes_eq}
use Rattle.office_words.specs.Grammar.{Text}
use Rattle.office_words.specs.Meaning.{number}

-- the day that the office begins anew at: 70 to 1,000,000
abbrev pub base_of : Text → Option ℕ
base_of text = number 70 1000000 text

-- the day that a word is beside another, which is `--`
abbrev pub said_beside : Text → Text → Option ℕ
said_beside first second =
    if bytes_eq first (codes "--") then base_of second
    else if bytes_eq second (codes "--") then base_of first
    else None

-- the number of amounts that a word is: below 2^64
abbrev pub count_of : Text → Option ℕ
count_of text = number 0 18446744073709551615 text

-- the day that a word is, beside one that has to be a number of amounts
abbrev pub base_beside : Option ℕ → Text → Option ℕ
base_beside None base = None
base_beside (Some count) base = base_of base

-- the day of three words: two of them are `--drop` and a number of amounts, before or behind the base
abbrev pub said_naming : Text → Text → Text → Option ℕ
said_naming first second third =
    if bytes_eq first (codes "--drop") then base_beside (count_of second) third
    else if bytes_eq second (codes "--drop") then base_beside (count_of third) first
    else None

-- the number of amounts that they name
abbrev pub count_named : Text → Text → Text → Option ℕ
count_named first second third =
    if bytes_eq first (codes "--drop") then count_of second
    else if bytes_eq second (codes "--drop") then count_of third
    else None

-- the day that the words after the command's name say
abbrev pub said_after : List Text → Option ℕ
said_after (base ∷ []) = base_of base
said_after (first ∷ second ∷ []) = said_beside first second
said_after (first ∷ second ∷ third ∷ []) = said_naming first second third
said_after _ = None

-- the number of amounts that the words after the command's name name
abbrev pub drop_after : List Text → Option ℕ
drop_after (first ∷ second ∷ third ∷ []) = count_named first second third
drop_after _ = None

-- the number of amounts that words name
abbrev pub drop_said : List Text → Option ℕ
drop_said [] = None
drop_said (name ∷ words) = drop_after words

-- the day that words say: `renew BASE` or `renew BASE --drop N`, the first with `--` before or behind the base where it stands
abbrev pub renewal_said : List Text → Option ℕ
renewal_said [] = None
renewal_said (name ∷ words) = if bytes_eq name (codes "renew") then said_after words else None
