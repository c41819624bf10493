use Rattle.std.proofs.Common.{rules, arith, ℕ, ◌<◌, length, slice_index_or, sym, ap, ◌∙◌}
use Rattle.std.specs.FinMap.{from_entries}
use Rattle.std.proofs.lemmas.List.Sums.{fold_more}
use Rattle.day_floor.specs.declared.publisher.Charged.{Charged}
use Rattle.serve_board.specs.Totals.{added, with_charged}
use Rattle.serve_board.proofs.TotalLaws.{charged_is}
use Rattle.serve_board.proofs.shown.add_charges.Goals as goal

pub loop-charged-preserved : goal.loop-charged-preserved
loop-charged-preserved c =
    let i : ℕ = c.loop-charged.charged-index in
    let none : Charged = record { vid = 0; xway = 0; toll = 0 } in
    let next : Charged = slice_index_or c.args.charges.now i none in
    let held = c.loop-charged.invariant in
    let inside : i < length c.args.charges.now = search rules in
    let room = c.charge.ensures.room in
    let long = held.2 in (
      charged_is c.loop-charged.sums.entries c.charge.new.sums.entries next c.charge.ensures.added
          ∙ (ap (λ s. with_charged s next) held.0
          ∙ sym (fold_more with_charged (from_entries c.args.sums.now.entries) c.args.charges.now i none inside)),
      ap (λ n. added n next.toll) held.1
          ∙ sym (fold_more (λ m c. added m c.toll) c.args.whole.now c.args.charges.now i none inside),
      omega (arith, room, long),
    )
