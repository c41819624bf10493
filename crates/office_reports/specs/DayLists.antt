-- The list of the kept days.
use Rattle.std.specs.Prelude.{ℕ, List, ◌++◌, codes, take}
use Rattle.std.specs.List.{flat_map}
use Rattle.std.specs.Fmt.{decimal}
use Rattle.hex.specs.Hex.{encode_lower}
use Rattle.keep_office.specs.declared.kept.DayRecord.{DayRecord}

-- the counts of a kept day: its number, its tuples and its notices
unfoldable pub listed_counts : ℕ → ℕ → ℕ → List ℕ
listed_counts day tuples notices =
    codes "day " ++ (decimal day ++ (codes " tuples " ++ (decimal tuples ++ (codes " notices " ++ decimal notices))))

-- the end of a kept day's line: its total, and the first digits of the digest of its bytes
unfoldable pub listed_end : ℕ → List ℕ → List ℕ
listed_end total digits = codes " total " ++ (decimal total ++ (codes " digest " ++ (digits ++ codes "\n")))

-- the first 16 digits of a day's digest, those of its first 8 bytes
abbrev pub first_digits : DayRecord → List ℕ
first_digits r = encode_lower (take 8 r.digest.bytes)

-- the line of a kept day
abbrev pub listed_line : DayRecord → List ℕ
listed_line r = listed_counts r.day r.tuples r.notices ++ listed_end r.total (first_digits r)

-- the lines of kept days, in their order
abbrev pub list_text : List DayRecord → List ℕ
list_text days = flat_map listed_line days
