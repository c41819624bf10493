use Rattle.std.proofs.Common.{rules, ◌≡◌, [], ◌∷◌, ◌++◌, sym, ap, ◌∙◌}
use Rattle.std.proofs.lemmas.List.{append_assoc}
use Rattle.road_rules.proofs.PaymentLaws.{pays_more}
use Rattle.road_rules.proofs.payments.Payments.of.Goals as goal

pub loop-row-preserved : goal.loop-row-preserved
loop-row-preserved c =
    let (done, whole, pays) = c.loop-row.invariant in
    let row = c.in-Some.row.now in
    let cut : c.loop-row.left.now ≡ c.in-Some.earlier.now ++ row ∷ [] = search rules in (
      row ∷ done,
      sym (append_assoc c.in-Some.earlier.now (row ∷ []) done) ∙ (ap (λ rows. rows ++ done) (sym cut) ∙ whole),
      pays_more c.loop-row.amounts.entries c.insert.new.self.entries row done (λ q. c.in_ok-insert.ensures.updates.0 q)
          pays,
    )
