use Rattle.std.proofs.Common.{◌++◌, ap, subst}
use Rattle.ways_audit.specs.Routing.{HasEvents}
use Rattle.ways_audit.proofs.RoutingLaws.{add_is}
use Rattle.ways_audit.proofs.routing.put_events_at.Goals as goal

pub returns-clause-put : goal.returns-clause-put
returns-clause-put c = λ before at told w es h.
    subst (HasEvents c.put_events.new.lists w)
    (ap (λ more. es ++ more)
    (add_is w c.args.width c.args.position before c.args.tuple.now c.in-Report.report c.in-Some.told
    c.args.tracked c.in-Report.is c.in-Some.is at told))
    (c.in_ok-put_events.ensures.put w es h)
