-- What may be read of a line before it is known to be a notice: right wherever the line is a notice's text.
use Rattle.std.specs.Prelude.{ℕ, ℤ, ◌≡◌, ◌<◌, ◌^◌, ◌==◌, nat_le, List, Option, None, true, if◌then◌else◌}
use Rattle.std.specs.Fmt.{decimal, signed_decimal}
use Rattle.road_time.specs.declared.road.Notice.{Notice}
use Rattle.road_time.specs.Text.{is_lav, short_notice}

-- a field that is the text of a number of so many bits is read as that number
abbrev pub IsNatural : ℕ → List ℕ → ℕ → Type 0
IsNatural bits field value = (n : ℕ) → n < 2 ^ bits → field ≡ decimal n → value ≡ n

-- a field that is the text of an average is read as it
abbrev pub IsLav : List ℕ → ℤ → Type 0
IsLav field value = (z : ℤ) → is_lav z ≡ true → field ≡ signed_decimal z → value ≡ z

-- the notice of a kind and three numbers; a segment has at most two digits
abbrev pub short_candidate : ℕ → ℕ → ℕ → ℕ → Option Notice
short_candidate kind a b c =
    if kind == 1 then (if nat_le c 99 then short_notice 1 a b c else None) else short_notice kind a b c
