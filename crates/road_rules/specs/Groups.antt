-- Halts by place: who stands there together, and the accidents that begin there.
use Rattle.std.specs.Prelude.{ℕ, ◌==◌, ◌&&◌, not, Bool, true, false, List, [], ◌∷◌, map, Option}
use Rattle.std.specs.List.{filter, list_any}
use Rattle.road_time.specs.declared.road.Place.{Place}
use Rattle.road_time.specs.declared.road.Mishap.{Mishap}
use Rattle.road_time.specs.Log.{stands_first, mishap_if}
use Rattle.road_rules.specs.declared.halts.Halt.{Halt}
use Rattle.road_rules.specs.declared.mishaps.Group.{Group}
use Rattle.road_rules.specs.Halts.{covers, is_at}

-- another vehicle stands there at the end of a second
abbrev pub has_other : List Halt → ℕ → ℕ → Bool
has_other halts second vid = list_any (λ b. covers second b && not (vid == b.vid)) halts

-- two vehicles stand there at the end of a second
abbrev pub stands_with : List Halt → ℕ → Bool
stands_with halts second = list_any (λ a. covers second a && has_other halts second a.vid) halts

-- a group of the code: a place, and the halts there
abbrev pub shown_group : Group → Place × List Halt
shown_group g = (g.place, g.halts.items)

-- whether a place has halts
abbrev pub has_halts : Place × List Halt → Bool
has_halts (place, []) = false
has_halts (place, h ∷ hs) = true

-- places with what each has, those with nothing left out
abbrev pub groups_by : (Place → List Halt) → List Place → List (Place × List Halt)
groups_by own places = filter has_halts (map (λ p. (p, own p)) places)

-- places with the halts there, those without any left out
abbrev pub groups_of : List Halt → List Place → List (Place × List Halt)
groups_of halts places = groups_by (λ p. filter (is_at p) halts) places

-- the accident that begins in a group at a second, if one does
abbrev pub mishap_in : ℕ → ℕ → Place × List Halt → Option Mishap
mishap_in last from g = mishap_if (stands_first (stands_with g.1) from) (stands_with g.1) last g.0 from
