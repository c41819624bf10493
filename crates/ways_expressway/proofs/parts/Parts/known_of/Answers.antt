use Rattle.std.proofs.Common.{rules, ◌≡◌, ◌<◌, true, Some, length, get_or, sym, ap, subst, ◌∙◌}
use Rattle.road_time.specs.Clock.{minute_of}
use Rattle.road_time.specs.Tuples.{same_stretch}
use Rattle.road_time.proofs.SameLaws.{stretch_is}
use Rattle.ways_expressway.specs.Kept.{KeptWays}
use Rattle.ways_expressway.specs.Known.{told_now_of}
use Rattle.ways_expressway.proofs.KnownLaws.{true_at}
use Rattle.ways_expressway.proofs.parts.Parts.known_of.Goals as goal

pub returns-then-known-minute : goal.returns-then-known-minute
returns-then-known-minute c =
    let now : KeptWays =
    record { speeds = c.self.inside.speeds; stops = c.self.inside.stops; tariffs = c.self.inside.tariffs } in
    let q = c.in_ok-known.known in
    let found = c.in_ok-get.ensures.lookup in
    let within : c.place.result < length c.self.inside.known.items =
    subst (λ xs. c.place.result < length xs) c.deref.ensures.value found.3.0 in
    let here : get_or c.self.inside.known.items c.place.result c.in_ok-get.field-0.now ≡ Some q =
    ap (λ xs. get_or xs c.place.result c.in_ok-get.field-0.now) (sym c.deref.ensures.value) ∙ sym found.1
    ∙ c.in_ok-known.was in
    let same : same_stretch q.stretch c.args.stretch ≡ true = search rules in
    let minute = c.if-known-minute.true ∙ c.minute.ensures ∙ ap minute_of c.second.ensures
    ∙ sym c.self.invariant.minute in
    (true_at now c.self.inside.known.items c.place.result c.in_ok-get.field-0.now q c.self.invariant.known_ones within
    here).1 minute
    ∙ ap (told_now_of now) (stretch_is q.stretch c.args.stretch same)
    ∙ ap (λ (k : KeptWays). told_now_of k c.args.stretch) c.self.view_is
