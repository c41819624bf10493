-- The nearest accident ahead of a stretch, by what is kept.
use Rattle.std.specs.Prelude.{ℕ, Bool, Option}
use Rattle.std.specs.List.{find}
use Rattle.road_time.specs.declared.road.Stretch.{Stretch}
use Rattle.road_time.specs.Stops.{segments_ahead}
use Rattle.ways_expressway.specs.History.{stood_last}
use Rattle.ways_expressway.specs.KeptAccidents.{KeptStops, spell_of}

-- whether an accident stood in the stretch in the minute before the current one, by what is kept
abbrev pub stood_in : KeptStops → Stretch → Bool
stood_in s k = stood_last s.second (spell_of s.spells k)

-- the segment of the nearest one ahead, by what is kept
abbrev pub near_in : KeptStops → Stretch → Option ℕ
near_in s k = find (λ seg. stood_in s (record k { seg = seg })) (segments_ahead k)
