use Rattle.std.proofs.Common.{◌≡◌, ◌+◌, ◌∷◌, List, take, drop, suc, arith, sym, subst, ap, ◌∙◌}
use Rattle.road_time.specs.declared.road.Notice.{Notice}
use Rattle.ways_audit.specs.Seconds.{second_of, seconds}
use Rattle.ways_audit.proofs.SecondLaws.{of_second, first_cut}
use Rattle.ways_audit.proofs.seconds.first_second.Goals as goal

pub returns-in-Some-clause-cut : goal.returns-in-Some-clause-cut
returns-in-Some-clause-cut c =
    let w = c.in-Some.first.now in
    let ws = c.in-Some.behind.now in
    let same : c.same_second.result ≡ of_second (second_of w) ws =
    c.same_second.ensures.exact ∙ ap (λ s. of_second s ws) c.second_of.ensures in
    let many : 1 + c.same_second.result ≡ suc (of_second (second_of w) ws) = omega (arith, same) in
    subst (λ (ns : List Notice). seconds ns ≡ take (1 + c.same_second.result) ns ∷ seconds (drop (1 + c.same_second.result)
    ns)) (sym c.in-Some.ensures.cases.0)
    (subst (λ k. seconds (w ∷ ws) ≡ take k (w ∷ ws) ∷ seconds (drop k (w ∷ ws))) (sym many) (first_cut w ws))
