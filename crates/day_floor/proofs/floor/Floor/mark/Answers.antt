use Rattle.std.proofs.Common.{◌≡◌, rules, ap, ◌∙◌}
use Rattle.day_floor.specs.Shares.{least_of}
use Rattle.day_floor.proofs.floor.Floor.mark.Goals as goal

pub returns : goal.returns
returns c = λ g s st.
    let same : c.from.result ≡ c.least.result = search rules in
    same ∙ c.least.ensures s.fed s.share st.inboxes
    ∙ ap (least_of s.share c.args.self.now.inboxes.width) (c.fed.ensures g s st)
