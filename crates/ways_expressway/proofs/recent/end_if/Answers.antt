use Rattle.std.proofs.Common.{rules, ap, ◌∙◌, unwrap_or}
use Rattle.ways_expressway.specs.History.{stood_last}
use Rattle.ways_expressway.proofs.StoodLaws.{none, last_put}
use Rattle.ways_expressway.proofs.recent.end_if.Goals as goal

pub returns-in-Some-clause-last : goal.returns-in-Some-clause-last
returns-in-Some-clause-last c =
    last_put c.args.second c.args.spells.now.entries _ c.args.stretch c.without_place-less.result
    (λ k. ((c.get_mut.follows.holds c.without_place-less.result).3 (search rules)).0 k)
    (c.without_place-less.ensures.last ∙ ap (λ o. stood_last c.args.second (unwrap_or o none)) c.in-Some.ensures.value)
