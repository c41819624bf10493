-- What is kept of those that stand: who stands where, how many at each place, and the accidents of each stretch.
use Rattle.std.specs.Prelude.{ℕ, ◌==◌, ◌&&◌, List, Bool, unwrap_or}
use Rattle.std.specs.List.{list_any}
use Rattle.std.specs.Map.{lookup}
use Rattle.road_time.specs.declared.road.Stretch.{Stretch}
use Rattle.road_time.specs.declared.road.Place.{Place}
use Rattle.road_time.specs.Tuples.{same_stretch, same_place}
use Rattle.ways_expressway.specs.declared.spell.Spell.{Spell}
use Rattle.ways_expressway.specs.declared.places.Stopped.{Stopped}

-- what is kept: the current second, who stands where, how many stand at each place where one does, and the accidents
-- of each stretch that had one
pub record KeptStops : Type 0 where
  pub second : ℕ
  pub standing : List Stopped
  pub counts : List (Place × ℕ)
  pub spells : List (Stretch × Spell)

-- the same vehicle at the same place
abbrev pub same_stopped : Stopped → Stopped → Bool
same_stopped a b = a.vid == b.vid && same_place a.place b.place

-- whether the vehicle is kept as one that stands at the place
abbrev pub has_stopped : List Stopped → Place → ℕ → Bool
has_stopped standing p v = list_any (same_stopped (record { vid = v; place = p })) standing

-- how many vehicles are kept for the place
abbrev pub how_many_at : List (Place × ℕ) → Place → ℕ
how_many_at counts p = unwrap_or (lookup (same_place p) counts) 0

-- what is kept of the stretch
abbrev pub spell_of : List (Stretch × Spell) → Stretch → Spell
spell_of spells k = unwrap_or (lookup (same_stretch k) spells) (record { places = 0; since = 0; last = 0; before = 0 })
