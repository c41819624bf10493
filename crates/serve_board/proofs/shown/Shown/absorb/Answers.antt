use Rattle.std.proofs.Common.{rules, ◌≡◌, Bool, true, refl, sym, ap, ◌∙◌, if◌then◌else◌}
use Rattle.serve_board.specs.Totals.{Totals, with_charges, whole_with}
use Rattle.serve_board.specs.Changes.{totals_with, totals_at}
use Rattle.serve_board.proofs.TotalLaws.{totals_made, sums_same}
use Rattle.serve_board.proofs.shown.Shown.absorb.Goals as goal

pub returns-in_ok-reserve-in-Charges : goal.returns-in_ok-reserve-in-Charges
returns-in_ok-reserve-in-Charges c =
    let t = c.args.self.now in
    let begun : t.begun ≡ true = ap (λ (t : Totals). t.begun) (sym c.self.view_is) ∙ c.if-not-self.false in
    let charges : c.as_slice.result.now ≡ c.in-Charges.charges.items = search rules in
    totals_made (ap (λ (t : Totals). t.begun) c.self.view_is) (ap (λ (t : Totals). t.number) c.self.view_is) refl
    (c.add_charges.ensures.sums
    ∙ ((λ i. with_charges
    (sums_same c.self.inside.sums.entries c.reserve.new.self.entries c.reserve.ensures.entries.2 i) (charges i))
    ∙ ap (λ (t : Totals). with_charges t.sums c.in-Charges.charges.items) c.self.view_is))
    (c.add_charges.ensures.whole
    ∙ (ap (whole_with c.self.inside.whole) charges
    ∙ ap (λ (t : Totals). whole_with t.whole c.in-Charges.charges.items) c.self.view_is))
    ∙ sym (ap (λ (b : Bool). if b then totals_at t c.in-Charges.charges.items c.in-Charges.mark else t) begun)
    ∙ ap (totals_with t) (sym c.in-Charges.is)
