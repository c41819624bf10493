use Rattle.std.proofs.Common.{◌≡◌, ◌+◌, length, sym, ap, ◌∙◌}
use Rattle.serve_desk.specs.History.{head_of}
use Rattle.serve_desk.proofs.HistoryLaws.{adds_moves}
use Rattle.serve_desk.proofs.place.Place.add.Goals as goal

pub compare_exchange-found-requires : goal.compare_exchange-found-requires
compare_exchange-found-requires g c =
    let h : c.args.head.now ≡ head_of g.J.Naming.book = c.requires.head in
    let again = c.again-seen.ensures in
    let offer = c.plain-offer.ensures in
    let pen = c.no_pen-pen.ensures in
    let book : c.again-seen.result.book ≡ c.args.head.now.book = ap (λ s. s.book) again
    ∙ (c.args.self.now.book ∙ sym (ap (λ w. w.book) h)) in
    let long : length c.again-seen.result.log ≡ c.args.self.now.count + 1 = ap (λ s. length s.log) again
    ∙ c.args.self.now.counted in (
      ap (λ w. w.tracked) h,
      book,
      pen.0
          ∙ book,
      offer.0,
      rw (ap (λ w. w.key) h, pen.1, offer.3)
          (adds_moves c.again-seen.result.log c.plain-offer.result.ask c.args.self.now.count long),
    )
