use Rattle.std.proofs.Common.{◌≡◌, ◌++◌, ◌∷◌, [], Some, slice_get, get_or, ap, ◌∙◌, rules}
use Rattle.std.proofs.lemmas.Option.{slice_get_read}
use Rattle.ways_audit.specs.declared.splitting.OwnPlaces.{OwnPlaces}
use Rattle.ways_audit.proofs.ListLaws.{pushed}
use Rattle.ways_audit.proofs.splitting.put.Goals as goal

pub returns-clause-put : goal.returns-clause-put
returns-clause-put c =
    let was : slice_get c.args.lists.now c.args.shard ≡ Some c.index-lists-shard.result =
    search (rules, slice_get_read) in
    let here : get_or c.args.lists.now c.args.shard c.index-lists-shard.result ≡ c.index-lists-shard.result = search rules in
    let now : OwnPlaces = record { places = c.push.new.self } in
    pushed (λ (d : OwnPlaces). d.places.items) c.args.lists.now c.args.shard c.index-lists-shard.result now
    c.args.position c.requires was
    (c.in_ok-push.ensures.items ∙ ap (λ (d : OwnPlaces). d.places.items ++ c.args.position ∷ []) here)
