use Rattle.std.proofs.Common.{sym, ap, ◌++◌, ◌∙◌}
use Rattle.std.proofs.lemmas.List.{append-nil}
use Rattle.serve_desk.specs.Days.{as_list}
use Rattle.serve_desk.proofs.kept_days.add.Goals as goal

pub returns-in-None-clause-added : goal.returns-in-None-clause-added
returns-in-None-clause-added c =
    let items = c.args.days.now.items in
    sym (ap (λ k. items ++ as_list k) c.in-None.is ∙ append-nil items)
