use Rattle.std.proofs.Common.{◌≡◌, ap, sym, subst, ◌∙◌, w16, to_z, of_z, rules}
use Rattle.road_time.specs.Tolls.{notes_of, finding_by}
use Rattle.road_time.specs.Rates.{toll_of, whole_of}
use Rattle.road_time.specs.Entries.{standing_at}
use Rattle.ways_expressway.specs.Events.{seen, entries}
use Rattle.ways_expressway.specs.Kept.{KeptWays}
use Rattle.ways_expressway.specs.Stands.{IsUpTo}
use Rattle.ways_expressway.proofs.StepLaws.{found_as, found_is}
use Rattle.ways_expressway.proofs.parts.Parts.find_anew.Goals as goal

pub returns-clause-exact : goal.returns-clause-exact
returns-clause-exact c = λ before at.
    let r = c.args.report.now in
    let now = subst (λ (k : KeptWays). IsUpTo k r.time before) (sym c.self.view_is) at in
    let ns = notes_of (seen before) in
    let toll_is = c.toll.ensures.exact
    ∙ ap (λ v. toll_of c.of-tariff.result c.cars-cars.result v c.is_some.result) c.as_ref-2.ensures.value
    ∙ ap (toll_of c.of-tariff.result c.cars-cars.result c.lav-lav.result) c.is_some.ensures in
    let found =
    found_is ns (standing_at (entries before)) c.self.inside.tariffs r c.args.position c.self.inside.speeds.minute
    c.self.inside.stops.second c.stretch-stretch.result c.of-tariff.result c.cars-cars.result c.toll.result
    c.lav-lav.result c.whole_lav.result c.nearest-alert.result now.minute now.second c.stretch-stretch.ensures
    c.of-tariff.ensures.tariff (c.cars-cars.ensures.exact ns now.averages) (c.lav-lav.ensures.exact ns now.averages)
    (c.nearest-alert.ensures.exact (entries before) now.standing)
    (c.whole_lav.ensures ∙ ap whole_of c.as_ref.ensures.value) toll_is in
    let same : to_z w16 (of_z w16 c.whole_lav.result) ≡ c.whole_lav.result = search rules in
    ap (λ z. found_as c.args.position z c.toll.result c.nearest-alert.result) same ∙ found
    ∙ ap (λ (k : KeptWays). (c.args.position, finding_by ns (standing_at (entries before)) k.tariffs r)) c.self.view_is
