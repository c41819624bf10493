use Rattle.std.proofs.Common.{◌≡◌, ◌++◌, ◌∷◌, [], true, refl, sym, subst, ◌∙◌}
use Rattle.std.specs.List.{AllByRecursion}
use Rattle.std.specs.Ordering.{is_lt}
use Rattle.std.specs.declared.cmp.Ordering.{Ordering}
use Rattle.std.specs.declared.cmp.Ordering.TheVariants.{Less, Equal, Greater}
use Rattle.keep_office.specs.Office.{row_cmp, RowsRise}
use Rattle.day_past.proofs.RisingLaws.{behind_last}
use Rattle.day_past.proofs.amounts.keyed.is_behind.Goals as goal

lower : (o : Ordering) → is_lt o ≡ true → o ≡ Less
lower Less e = refl
lower Equal e = let bad : ⊥ = cc in absurd bad
lower Greater e = let bad : ⊥ = cc in absurd bad

pub returns-in-Some : goal.returns-in-Some
returns-in-Some c = λ is rise.
    let last = c.in-Some.last.now in
    let earlier = c.in-Some._earlier.now in
    let row = c.args.row.now in
    let cut : c.args.rows.now ≡ earlier ++ last ∷ [] = c.in-Some.ensures.cases.0 in
    let less = lower (row_cmp last row) (sym c.is_before.ensures ∙ is) in
    subst (AllByRecursion (λ s. row_cmp s row ≡ Less)) (sym cut)
    (behind_last earlier last row (subst RowsRise cut rise) less)
