use Rattle.std.proofs.Common.{◌≡◌, ◌+◌, rules, ap, ◌∙◌}
use Rattle.std.specs.Map.{values_of}
use Rattle.std.specs.BTreeMap.{insert_entry}
use Rattle.tuples_text.proofs.TurnLaws.{turn_cmp, insert_values, insert_keyed}
use Rattle.tuples_text.proofs.waiting.place.Goals as goal

pub returns-clause-keyed : goal.returns-clause-keyed
returns-clause-keyed c =
    let next : c.in-Some.next ≡ c.args.count.now + 1 = search rules in
    rw (c.in_ok-insert.ensures.entries, c.time.ensures, next)
    (insert_keyed c.args.tuple c.args.count.now c.args.turns.now.entries c.requires)

pub returns-clause-put : goal.returns-clause-put
returns-clause-put c =
    let x = c.args.tuple in
    let es = c.args.turns.now.entries in
    ap values_of c.in_ok-insert.ensures.entries
    ∙ ap (λ t. values_of (insert_entry turn_cmp es (record { time = t; number = c.args.count.now }) x))
    c.time.ensures
    ∙ insert_values x c.args.count.now es c.requires
