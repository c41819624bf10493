use Rattle.std.proofs.Common.{◌≡◌, List, None, IfOk, ap, sym, ◌∙◌, subst, rules}
use Rattle.std.specs.HashMap.{get}
use Rattle.std.specs.List.{filter}
use Rattle.road_time.specs.Tuples.{reports, same_stretch}
use Rattle.road_rules.specs.declared.halts.Halt.{Halt}
use Rattle.road_rules.specs.Halts.{halts_of, is_about}
use Rattle.road_rules.specs.Gathered.{kept_items}
use Rattle.road_rules.proofs.GatherLaws.{about_in}
use Rattle.road_rules.proofs.blocked.halts_there.Goals as goal

pub returns-in-None : goal.returns-in-None
returns-in-None c =
    let k = c.args.stretch in
    let none : get same_stretch c.args.gathered.now.halts k ≡ None = search rules in
    c.new.ensures.items ∙ ap (filter (is_about c.args.start k))
    (sym (sym (c.requires.right.halts k) ∙ ap kept_items none))
    ∙ about_in c.args.start k (halts_of (reports c.args.gathered.now.tuples.now))

pub returns-in-Some : goal.returns-in-Some
returns-in-Some c =
    let k = c.args.stretch in
    let kept : c.as_slice.result.now ≡ kept_items (get same_stretch c.args.gathered.now.halts k) = search rules in
    let same = ap (filter (is_about c.args.start k)) (kept ∙ c.requires.right.halts k)
    ∙ about_in c.args.start k (halts_of (reports c.args.gathered.now.tuples.now)) in
    subst (λ (hs : List Halt). IfOk c.halts_about.result (λ some. some.items ≡ hs)) same c.halts_about.ensures
