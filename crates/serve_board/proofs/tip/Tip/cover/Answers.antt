use Rattle.std.proofs.Common.{◌≡◌, length, sym, ap, ◌∙◌}
use Rattle.serve_board.specs.OperationLog.{head_of}
use Rattle.serve_board.proofs.OperationLaws.{sees_moves}
use Rattle.serve_board.proofs.tip.Tip.cover.Goals as goal

pub compare_exchange-requires : goal.compare_exchange-requires
compare_exchange-requires c =
    let h : c.args.head.now ≡ head_of c.args.self.book = c.requires.head in
    let again = c.again-seen.ensures in
    let offer = c.plain-offer.ensures in
    let here : c.self.inside.front.book ≡ c.args.head.now.book = ap (λ r. r.book) c.self.view_is
    ∙ sym (ap (λ w. w.book) h) in (
      ap (λ w. w.tracked) h,
      c.learn.ensures.0
          ∙ (ap (λ s. s.book) again ∙ (ap (λ r. r.book) c.front.view_is ∙ here)),
      c.self.invariant.0
          ∙ here,
      offer.0,
      rw (ap (λ w. w.key) h, c.self.invariant.1, offer.3)
          (sees_moves c.learn.new.self.log c.plain-offer.result.ask (length c.self.inside.front.log)),
    )
