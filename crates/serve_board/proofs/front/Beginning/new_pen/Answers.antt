use Rattle.std.proofs.Common.{◌≡◌, sym, ap, ◌∙◌}
use Rattle.serve_board.specs.OperationLog.{head_of}
use Rattle.serve_board.proofs.OperationLaws.{pen_moves}
use Rattle.serve_board.proofs.front.Beginning.new_pen.Goals as goal

pub compare_exchange-found-requires : goal.compare_exchange-found-requires
compare_exchange-found-requires c =
    let h : c.args.head.now ≡ head_of c.args.self.now.book = c.requires.head in
    let again = c.again-seen.ensures in
    let offer = c.plain-offer.ensures in
    let pen = c.no_pen-pen.ensures in
    let book : c.again-seen.result.book ≡ c.args.head.now.book = ap (λ s. s.book) again
    ∙ (ap (λ r. r.book) c.self.view_is ∙ sym (ap (λ w. w.book) h)) in (
      ap (λ w. w.tracked) h,
      book,
      pen.0
          ∙ book,
      offer.0,
      rw (ap (λ w. w.key) h, pen.1, offer.3)
          (pen_moves c.again-seen.result.log c.plain-offer.result.ask c.args.before),
    )
