-- The text of an accident log.
use Rattle.std.specs.Prelude.{ℕ, List, [], ◌∷◌, ◌++◌, Option, Some, None, ℤ, pos, negsuc}
use Rattle.std.specs.List.{flat_map}
use Rattle.road_time.specs.declared.road.Mishap.{Mishap}
use Rattle.road_time.specs.Numbers.{numbers_text}

-- the last second of an accident, or -1 where it stands at the end of the day
abbrev pub last_number : Option ℕ → ℤ
last_number None = negsuc 0
last_number (Some second) = pos second

-- the fields of an accident's line: its first second, its last, and its place
abbrev pub mishap_numbers : Mishap → List ℤ
mishap_numbers m = pos m.from ∷ last_number m.to ∷ pos m.place.xway ∷ pos m.place.dir ∷ pos m.place.lane
    ∷ pos m.place.seg ∷ pos m.place.pos ∷ []

-- the text of an accident, without LF
abbrev pub mishap_text : Mishap → List ℕ
mishap_text m = numbers_text (mishap_numbers m)

-- the lines of accidents, each with LF at its end
abbrev pub log_text : List Mishap → List ℕ
log_text ms = flat_map (λ m. mishap_text m ++ 10 ∷ []) ms
