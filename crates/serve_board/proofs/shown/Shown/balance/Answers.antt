use Rattle.std.proofs.Common.{rules, ◌≡◌, ap, ◌∙◌}
use Rattle.serve_board.specs.Totals.{Totals, owed_in, entry_sum}
use Rattle.serve_board.proofs.TotalLaws.{sum_is}
use Rattle.serve_board.proofs.shown.Shown.balance.Goals as goal

pub returns : goal.returns
returns c =
    let amount : c.match-get.amount ≡ entry_sum c.self.inside.sums.entries c.args.vid = search rules in
    (λ i. record {
      day = (ap (λ (t : Totals). t.number) c.self.view_is) i;
      as_of =
          (ap (λ (t : Totals). t.mark) c.self.view_is) i;
      amount =
          (amount ∙
          (sum_is c.self.inside.sums.entries c.args.vid ∙ ap (λ (t : Totals). owed_in t.sums c.args.vid)
          c.self.view_is))
          i;
    })
