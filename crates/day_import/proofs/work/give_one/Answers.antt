use Rattle.std.proofs.Common.{◌≡◌, ◌∷◌, [], ◌++◌, rules}
use Rattle.day_import.proofs.RunLaws.{none_runs, given_ready, given_room, given_runs}
use Rattle.day_import.proofs.work.give_one.Goals as goal

pub returns-in_default-clause-given : goal.returns-in_default-clause-given
returns-in_default-clause-given g c e told answered s h =
    let k = g.C.Crew in
    let none = c.in_default.ensures.none e s h.stands in
    none_runs k.out k.number k.holds k.gave k.exact k.jobs k.answers e told answered c.args.run.now c.args.crew.now s h
    (record { floor = c.give.new.self; tickets = c.reserve.new.self }) c.args.worker c.reserve.ensures.items
    c.in_default.ensures.width c.in_default.ensures.limits none.0 none.1

pub start_beside-ticket-requires-clause-ready : goal.start_beside-ticket-requires-clause-ready
start_beside-ticket-requires-clause-ready g c =
    let k = g.C.Crew in
    let (e, told, answered, s, h) = c.requires.runs in
    let next = c.in-Some.ensures.some e s h.stands in
    given_ready k.out k.number k.holds k.gave k.exact k.jobs k.answers e told answered c.args.run.now c.args.crew.now s
    h c.args.worker c.requires.within c.in-Some.job next.0

pub start_beside-ticket-requires-clause-room : goal.start_beside-ticket-requires-clause-room
start_beside-ticket-requires-clause-room g c =
    let k = g.C.Crew in
    let (e, told, answered, s, h) = c.requires.runs in
    let next = c.in-Some.ensures.some e s h.stands in
    given_room k.out k.number k.holds k.gave k.exact k.jobs k.answers e told answered c.args.run.now c.args.crew.now s h
    c.args.worker c.requires.within c.in-Some.job next.0

pub returns-else-is_err-clause-given : goal.returns-else-is_err-clause-given
returns-else-is_err-clause-given g c e told answered s h =
    let k = g.C.Crew in
    let next = c.in-Some.ensures.some e s h.stands in
    let v = c.start_beside-ticket.ensures in
    let items : c.push_back.new.self.items ≡ c.args.run.now.tickets.items ++ c.start_beside-ticket.result ∷ [] =
    search rules in
    given_runs k.out k.number k.holds k.gave k.exact k.jobs k.answers e told answered c.args.run.now c.args.crew.now s h
    c.args.worker c.requires.within c.in-Some.job next.0
    (record { floor = c.give.new.self; tickets = c.push_back.new.self }) c.start_beside-ticket.new.crew
    c.start_beside-ticket.result items c.in-Some.ensures.width c.in-Some.ensures.limits next.1 v.out v.numbers
    v.jobs v.answers
