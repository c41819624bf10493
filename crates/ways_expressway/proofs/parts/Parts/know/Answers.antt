use Rattle.std.proofs.Common.{rules, w16, to_z, of_z, ◌≡◌, All, Some, sym, ap, subst, ◌∙◌, arith}
use Rattle.std.proofs.lemmas.List.Elements.{All-set}
use Rattle.road_time.specs.Clock.{minute_of}
use Rattle.ways_expressway.specs.Kept.{KeptWays}
use Rattle.ways_expressway.specs.Known.{told_now_of, IsTrueIn}
use Rattle.ways_expressway.proofs.StepLaws.{found_as}
use Rattle.ways_expressway.proofs.parts.Parts.know.Goals as goal

pub invariant_of-self : goal.invariant_of-self
invariant_of-self c =
    let now : KeptWays =
    record { speeds = c.self.inside.speeds; stops = c.self.inside.stops; tariffs = c.self.inside.tariffs } in
    let minute : c.minute.result ≡ c.self.inside.speeds.minute = c.minute.ensures ∙ ap minute_of c.second.ensures
    ∙ sym c.self.invariant.minute in
    let same : to_z w16 (of_z w16 c.args.finding.lav) ≡ c.args.finding.lav = search rules in
    record {
      minute = c.self.invariant.minute;
      known_ones =
          subst (All (IsTrueIn now)) (sym c.keep.ensures)
          (All-set (IsTrueIn now) c.self.inside.known.items c.place.result (Some _) (
            omega (arith, minute),
            λ e. ap (λ z. (found_as 0 z c.args.finding.toll c.args.finding.alert).1) same
                ∙ c.requires ∙ ap (told_now_of c.args.self.now) (sym c.stretch-stretch.ensures)
                ∙ sym (ap (λ (k : KeptWays). told_now_of k c.stretch-stretch.result) c.self.view_is),
          )
          c.self.invariant.known_ones);
    }
