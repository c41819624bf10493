use Rattle.std.proofs.Common.{[], refl, ◌∙◌, ◌≡◌, rules}
use Rattle.ways_audit.proofs.FinishLaws.{first_is, finishing_none, finishing_more, finishing_done, finished_told}
use Rattle.ways_audit.proofs.FinishLaws.{finished_found}
use Rattle.ways_audit.proofs.finishes.finish_rest.Goals as goal

pub loop-ticket-init : goal.loop-ticket-init
loop-ticket-init g c =
    let k = g.C.Crew in
    record {
      runs = λ told tariffs todo h. finishing_none k.out k.number k.holds k.gave k.jobs k.exact k.answers
          (k.answers c.args.crew.now) told tariffs todo c.args.crew.now c.args.tickets.items c.args.found.now.items refl
          c.requires.none h;
      which = refl;
    }

pub finish_among-done-requires : goal.finish_among-done-requires
finish_among-done-requires g c =
    let k = g.C.Crew in
    let (told, tariffs, todo, h) = c.requires.out in
    let s = c.loop-ticket.invariant.runs told tariffs todo h in
    let f = first_is k.out k.number k.holds k.gave k.jobs told tariffs c.loop-ticket.crew c.in-Some.ticket
    c.loop-ticket.tickets.items c.pop_front.new.self.items s.done s.todo s.refused c.in-Some.ensures.items s.runs in
    ([], f.job, f.after, f.has)

pub loop-ticket-preserved : goal.loop-ticket-preserved
loop-ticket-preserved g c =
    let k = g.C.Crew in
    let v = c.finish_among-done.ensures in
    record {
      runs = λ told tariffs todo h.
          finishing_more k.out k.number k.holds k.gave k.jobs k.exact k.answers (k.answers c.args.crew.now) told tariffs
          todo c.loop-ticket.crew c.finish_among-done.new.crew c.in-Some.ticket c.loop-ticket.tickets.items
          c.pop_front.new.self.items
          c.loop-ticket.whole c.keep_found-kept.result c.both-whole.result c.loop-ticket.found.items
          c.keep_found-kept.new.found.items c.finish_among-done.result
          (c.loop-ticket.invariant.runs told tariffs todo h) c.in-Some.ensures.items
          v.out v.shape v.run v.numbers v.jobs v.answers c.keep_found-kept.ensures c.both-whole.ensures;
      which = v.which ∙ c.loop-ticket.invariant.which;
    }

pub returns-clause-idle : goal.returns-clause-idle
returns-clause-idle g c =
    let k = g.C.Crew in
    let (told, tariffs, todo, h) = c.requires.out in
    let empty : c.loop-ticket.tickets.items ≡ [] = search rules in
    (finishing_done k.out k.number k.holds k.gave k.jobs k.exact k.answers (k.answers c.args.crew.now) told tariffs todo
    c.loop-ticket.crew c.loop-ticket.tickets.items c.loop-ticket.whole c.loop-ticket.found.items empty
    (c.loop-ticket.invariant.runs told tariffs todo h)).1

pub returns-clause-told : goal.returns-clause-told
returns-clause-told g c = λ told tariffs todo h.
    let k = g.C.Crew in
    let empty : c.loop-ticket.tickets.items ≡ [] = search rules in
    finished_told k.out k.number k.holds k.gave k.jobs k.exact k.answers (k.answers c.args.crew.now) told tariffs todo
    c.loop-ticket.crew c.loop-ticket.tickets.items c.loop-ticket.whole c.loop-ticket.found.items empty
    (c.loop-ticket.invariant.runs told tariffs todo h)

pub returns-clause-found : goal.returns-clause-found
returns-clause-found g c = λ w told tariffs todo h.
    let k = g.C.Crew in
    let empty : c.loop-ticket.tickets.items ≡ [] = search rules in
    finished_found k.out k.number k.holds k.gave k.jobs k.exact k.answers (k.answers c.args.crew.now) told tariffs todo
    c.loop-ticket.crew c.loop-ticket.tickets.items c.loop-ticket.whole c.loop-ticket.found.items empty
    (c.loop-ticket.invariant.runs told tariffs todo h) w
