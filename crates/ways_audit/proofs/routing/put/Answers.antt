use Rattle.std.proofs.Common.{◌≡◌, ◌++◌, ◌∷◌, [], Some, slice_get, get_or, ap, ◌∙◌, rules}
use Rattle.std.proofs.lemmas.Option.{slice_get_read}
use Rattle.ways_audit.specs.declared.routing.WorkerEvents.{WorkerEvents}
use Rattle.ways_audit.proofs.ListLaws.{pushed}
use Rattle.ways_audit.proofs.routing.put.Goals as goal

pub returns-clause-put : goal.returns-clause-put
returns-clause-put c =
    let was : slice_get c.args.lists.now c.args.worker ≡ Some c.index-lists-worker.result =
    search (rules, slice_get_read) in
    let here : get_or c.args.lists.now c.args.worker c.index-lists-worker.result ≡ c.index-lists-worker.result = search rules in
    let now : WorkerEvents = record { events = c.push.new.self } in
    pushed (λ (d : WorkerEvents). d.events.items) c.args.lists.now c.args.worker c.index-lists-worker.result now
    c.args.event c.requires was
    (c.in_ok-push.ensures.items ∙ ap (λ (d : WorkerEvents). d.events.items ++ c.args.event ∷ []) here)
