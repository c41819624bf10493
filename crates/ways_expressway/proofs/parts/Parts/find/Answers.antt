use Rattle.std.proofs.Common.{rules, ◌≡◌, ap, ◌∙◌, w16, to_z, of_z}
use Rattle.road_time.specs.Tuples.{stretch_of}
use Rattle.ways_expressway.specs.Known.{told_now_of, known_as}
use Rattle.ways_expressway.proofs.StepLaws.{found_as}
use Rattle.ways_expressway.proofs.KnownLaws.{found_in_is}
use Rattle.ways_expressway.proofs.parts.Parts.find.Goals as goal

pub returns-in-Some-clause-exact : goal.returns-in-Some-clause-exact
returns-in-Some-clause-exact c = λ before at.
    let q = c.in-Some.known in
    let kept : known_as q ≡ told_now_of c.args.self.now (stretch_of c.args.report.now) = search rules in
    let same : to_z w16 (of_z w16 q.lav) ≡ q.lav = search rules in
    ap (λ z. found_as c.args.position z q.toll q.alert) same
    ∙ ap (λ f. (c.args.position, f)) (kept ∙ found_in_is c.args.self.now c.args.report.now before at)
