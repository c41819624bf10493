use Rattle.std.proofs.Common.{refl, ◌++◌, ◌∷◌, [], false, sym, subst, ◌∙◌}
use Rattle.ways_expressway.specs.AccidentsStand.{StandsFor as StopsStandFor}
use Rattle.ways_expressway.specs.declared.lane_event.LaneEvent.TheVariants.{Leave}
use Rattle.ways_expressway.specs.Events.{entries}
use Rattle.ways_expressway.specs.Kept.{KeptWays}
use Rattle.ways_expressway.specs.Stands.{IsUpTo, last_second}
use Rattle.ways_expressway.proofs.StepLaws.{minutes_le, second_le, at_left}
use Rattle.ways_expressway.proofs.KnownLaws.{noted_step}
use Rattle.ways_expressway.proofs.parts.Parts.leave.Goals as goal

pub advance-requires-clause-minute : goal.advance-requires-clause-minute
advance-requires-clause-minute c =
    minutes_le c.args.self.now c.requires.1 (Leave c.requires.0 c.args.time c.args.vid c.args.place) c.requires.2

pub advance-requires-clause-second : goal.advance-requires-clause-second
advance-requires-clause-second c =
    second_le c.args.self.now c.requires.1 (Leave c.requires.0 c.args.time c.args.vid c.args.place) c.requires.2

pub returns-clause-carried : goal.returns-clause-carried
returns-clause-carried c = λ position before ready.
    let now =
    subst (λ (k : KeptWays). IsUpTo k c.args.time before) (sym c.self.view_is)
    (c.advance.ensures.at before (last_second before) ready.stands) in
    let left =
    subst (λ s. StopsStandFor c.leave.new.self
    (entries before ++ record { second = s; vid = c.args.vid; place = c.args.place; stops = false } ∷ []))
    now.second (c.leave.ensures.left (entries before) now.standing) in
    at_left (record { speeds = c.self.inside.speeds; stops = c.leave.new.self; tariffs = c.self.inside.tariffs }) before
    position c.args.time c.args.vid c.args.place
    now.averages left now.minute (c.leave.ensures.second ∙ now.second)

pub invariant_of-self : goal.invariant_of-self
invariant_of-self c =
    noted_step (record { speeds = c.self.inside.speeds; stops = c.self.inside.stops; tariffs = c.self.inside.tariffs })
    c.self.inside.known.items c.self.invariant
    c.self.inside.speeds refl (λ k m early late. refl) c.leave.new.self c.leave.ensures.second c.leave.ensures.last
