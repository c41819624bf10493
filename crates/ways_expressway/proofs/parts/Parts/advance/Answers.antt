use Rattle.std.proofs.Common.{◌≡◌, ◌≤◌, arith, ap, sym, subst, ◌∙◌}
use Rattle.road_time.specs.Tolls.{notes_of}
use Rattle.ways_expressway.specs.KeptAccidents.{KeptStops as Standing}
use Rattle.ways_expressway.specs.Events.{seen, entries}
use Rattle.ways_expressway.specs.Kept.{KeptWays}
use Rattle.ways_expressway.specs.Stands.{IsUpTo}
use Rattle.ways_expressway.proofs.KnownLaws.{moved_step}
use Rattle.ways_expressway.proofs.parts.Parts.advance.Goals as goal

pub returns-clause-at : goal.returns-clause-at
returns-clause-at c = λ before last at.
    let was = subst (λ (k : KeptWays). IsUpTo k last before) (sym c.self.view_is) at in
    record {
      averages = c.roll.ensures.kept (notes_of (seen before)) was.averages;
      standing = c.advance.ensures.kept (entries before) was.standing;
      minute = c.roll.ensures.minute ∙ c.minute.ensures;
      second = ap (λ (s : Standing). s.second) c.advance.ensures.second;
    }

pub invariant_of-self : goal.invariant_of-self
invariant_of-self c =
    let was : c.self.inside.speeds.minute ≡ c.args.self.now.speeds.minute =
    ap (λ (k : KeptWays). k.speeds.minute) c.self.view_is in
    let up : c.self.inside.speeds.minute ≤ c.minute.result =
    omega (arith, was, c.requires.minute, c.minute.ensures) in
    moved_step (record { speeds = c.self.inside.speeds; stops = c.self.inside.stops; tariffs = c.self.inside.tariffs })
    c.self.inside.known.items c.self.invariant
    c.roll.new.self c.minute.result c.roll.ensures.minute up c.roll.ensures.same c.advance.new.self c.args.second
    c.minute.ensures c.advance.ensures.second
