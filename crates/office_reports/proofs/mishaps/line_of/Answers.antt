use Rattle.std.proofs.Common.{rules, ◌≡◌, ◌∙◌, ap, [], ◌∷◌, ◌++◌, to_z, of_z, w64}
use Rattle.std.specs.Fmt.{decimal, signed_decimal}
use Rattle.office_reports.proofs.LineLaws.{seven_joined}
use Rattle.office_reports.proofs.mishaps.line_of.Goals as goal

pub returns : goal.returns
returns c =
    let m = c.args.mishap.now in
    let whole : to_z w64 (of_z w64 c.last_second-to.result) ≡ c.last_second-to.result = search rules in
    c.in_ok-line.ensures.ok
    ∙ seven_joined (decimal m.from) (signed_decimal (to_z w64 (of_z w64 c.last_second-to.result)))
    (decimal m.place.xway) (decimal m.place.dir) (decimal m.place.lane) (decimal m.place.seg) (decimal m.place.pos)
    ∙ ap (λ z.
    (decimal m.from ++ 44
    ∷ (signed_decimal z ++ 44
    ∷ (decimal m.place.xway ++ 44
    ∷ (decimal m.place.dir ++ 44
    ∷ (decimal m.place.lane ++ 44 ∷ (decimal m.place.seg ++ 44 ∷ decimal m.place.pos)))))) ++ 10
    ∷ []) (whole ∙ c.last_second-to.ensures)
