use Rattle.std.proofs.Common.{◌++◌, ap, subst, ◌∙◌}
use Rattle.std.proofs.lemmas.List.{append_assoc}
use Rattle.ways_audit.specs.Routing.{HasEvents}
use Rattle.ways_audit.proofs.RoutingLaws.{seen_told, both_told}
use Rattle.ways_audit.proofs.routing.put_events.Goals as goal

pub returns-in_ok-put-in-None-clause-put : goal.returns-in_ok-put-in-None-clause-put
returns-in_ok-put-in-None-clause-put c = λ w es h.
    subst (HasEvents c.put.new.lists w)
    (ap (λ more. es ++ more)
    (seen_told w c.worker_of_way-own.result c.args.width c.args.position c.args.report.now c.args.tracked.now
    c.worker_of_way-own.ensures.is c.in-None.is))
    (c.in_ok-put-in-None.ensures.put w es h)

pub returns-in_ok-put-in-Some-2-clause-put : goal.returns-in_ok-put-in-Some-2-clause-put
returns-in_ok-put-in-Some-2-clause-put c = λ w es h.
    subst (HasEvents c.put-in-Some-2.new.lists w)
    (append_assoc es _ _
    ∙ ap (λ more. es ++ more)
    (both_told w c.worker_of_way-own.result c.worker_of_way-other.result c.args.width c.args.position c.args.report.now
    c.args.tracked.now c.in-Some.place c.worker_of_way-own.ensures.is c.worker_of_way-other.ensures.is c.in-Some.is))
    (c.in_ok-put-in-Some-2.ensures.put w _ (c.in_ok-put-in-Some.ensures.put w es h))
