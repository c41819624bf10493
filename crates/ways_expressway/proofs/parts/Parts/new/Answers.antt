use Rattle.std.proofs.Common.{All, sym, ap, subst, ◌∙◌}
use Rattle.road_time.specs.Clock.{minute_of}
use Rattle.ways_expressway.specs.KeptAccidents.{KeptStops as Standing}
use Rattle.ways_expressway.specs.Known.{IsTrueIn}
use Rattle.ways_expressway.proofs.KnownLaws.{nothing_known}
use Rattle.ways_expressway.proofs.parts.Parts.new.Goals as goal

pub invariant_of-result : goal.invariant_of-result
invariant_of-result c = record {
  minute = c.new.ensures.minute ∙ ap (λ (s : Standing). minute_of s.second) (sym c.new-2.ensures.start);
  known_ones =
      subst (All
      (IsTrueIn (record { speeds = c.new.result; stops = c.new-2.result; tariffs = c.in_ok-tariffs.tariffs })))
      (sym c.in_ok-known.ensures)
      (nothing_known (record { speeds = c.new.result; stops = c.new-2.result; tariffs = c.in_ok-tariffs.tariffs }) 256);
}
