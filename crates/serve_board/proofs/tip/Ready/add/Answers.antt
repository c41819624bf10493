use Rattle.std.proofs.Common.{◌≡◌, length, sym, ap, ◌∙◌, List}
use Rattle.day_floor.specs.Operations.{Operation}
use Rattle.serve_board.specs.OperationLog.{head_of, pen_for}
use Rattle.serve_board.proofs.OperationLaws.{adds_moves}
use Rattle.serve_board.proofs.tip.Ready.add.Goals as goal

pub compare_exchange-requires : goal.compare_exchange-requires
compare_exchange-requires c =
    let h : c.args.head.now ≡ head_of c.args.self.book = c.requires in
    let again = c.again-seen.ensures in
    let offer = c.plain-offer.ensures in
    let here : c.self.inside.front.book ≡ c.args.head.now.book = ap (λ r. r.book) c.self.view_is
    ∙ sym (ap (λ w. w.book) h) in
    let log : c.again-seen.result.log ≡ c.self.inside.front.log = ap (λ s. s.log) again
    ∙ ap (λ r. r.log) c.front.view_is in
    let nib : c.self.inside.pen.nib ≡ pen_for (length c.again-seen.result.log) = c.self.invariant.1
    ∙ ap (λ (l : List Operation). pen_for (length l)) (sym log) in (
      ap (λ w. w.tracked) h,
      ap (λ s. s.book) again
          ∙ (ap (λ r. r.book) c.front.view_is ∙ here),
      c.self.invariant.0
          ∙ here,
      offer.0,
      rw (ap (λ w. w.key) h, nib, offer.3) (adds_moves c.again-seen.result.log c.plain-offer.result.ask),
    )
