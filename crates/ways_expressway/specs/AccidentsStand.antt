-- Which stops and leaves were taken, by what is kept of them.
use Rattle.std.specs.Prelude.{◌≡◌, ℕ, ◌≤◌, ◌&&◌, nat_eq, nat_le, List, Bool, All}
use Rattle.road_time.specs.declared.road.Stretch.{Stretch}
use Rattle.road_time.specs.declared.road.Place.{Place}
use Rattle.road_time.specs.Tuples.{stretch_around, same_stretch, same_place}
use Rattle.road_time.specs.Stops.{has_accident}
use Rattle.road_time.specs.Entries.{StopEntry, is_standing, standing_at}
use Rattle.ways_expressway.specs.declared.spell.Spell.{Spell}
use Rattle.ways_expressway.specs.Counted.{AreSoMany}
use Rattle.ways_expressway.specs.History.{IsHistory}
use Rattle.ways_expressway.specs.KeptAccidents.{KeptStops, has_stopped, how_many_at, spell_of}

-- two vehicles or more at a place of the stretch, by a count of each place
abbrev pub is_crowded : (Place → ℕ) → Stretch → Place → Bool
is_crowded count k p = same_stretch (stretch_around p) k && nat_le 2 (count p)

-- what is kept is that of the entries: none is later than the current second; who stands is who stands after them;
-- each place has as many vehicles as are kept for it, and each stretch as many places with two or more; and of each
-- stretch the seconds before the current one at which an accident stood are kept
pub record Stand (second : ℕ) (has : Place → ℕ → Bool) (count : Place → ℕ) (spell : Stretch → Spell)
    (entries : List StopEntry) : Type 0 where
  pub none_after : All (λ e. e.second ≤ second) entries
  pub standing : (p : Place) (v : ℕ) → has p v ≡ is_standing entries v p
  pub counts : (p : Place) → AreSoMany nat_eq (has p) (count p)
  pub places : (k : Stretch) → AreSoMany same_place (is_crowded count k) (spell k).places
  pub history : (k : Stretch) → IsHistory second (spell k) (λ t. has_accident (standing_at entries t) k)

-- the object stands for the entries
abbrev pub StandsFor : KeptStops → List StopEntry → Type 0
StandsFor s entries = Stand s.second (has_stopped s.standing) (how_many_at s.counts) (spell_of s.spells) entries
