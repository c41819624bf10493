use Rattle.std.proofs.Common.{◌≡◌, ◌+◌, ◌++◌, ◌∷◌, [], ap, sym, ◌∙◌, rules, map, take}
use Rattle.std.specs.List.{filter_map, cons_option}
use Rattle.std.proofs.lemmas.List.{append-nil, append_assoc}
use Rattle.road_rules.specs.Groups.{shown_group, mishap_in}
use Rattle.road_rules.proofs.GroupLaws.{mishaps_more}
use Rattle.road_rules.proofs.mishaps.add_mishaps.Goals as goal
use Rattle.road_rules.proofs.mishaps.add_mishaps.Goals.{in-Some+in_ok-push, in_default}

pub loop-group-preserved : goal.loop-group-preserved
loop-group-preserved c =
    let i = c.loop-group.group-index in
    let gs = c.args.groups.now in
    let f = mishap_in c.args.last c.args.from in
    let done = filter_map f (map shown_group (take i gs)) in
    let more : filter_map f (map shown_group (take (i + 1) gs)) ≡ done ++ cons_option c.mishap_at.result [] =
    mishaps_more f gs i c.group-item.result c.mishap_at.result c.loop-group-test.true
    (c.mishap_at.ensures ∙ ap (λ g. f (shown_group g)) c.group-item.is) in
    elim c.match-mishap_at.branch [
      | in-Some+in_ok-push w ↦
          let items : w.push.new.self.items ≡ c.loop-group.log.items ++ w.in-Some.mishap ∷ [] = search rules in
          ap (λ v. v.items) w.log-is ∙ items ∙ ap (λ xs. xs ++ w.in-Some.mishap ∷ []) c.loop-group.invariant
          ∙ append_assoc c.args.log.now.items done (w.in-Some.mishap ∷ [])
          ∙ ap (λ xs. c.args.log.now.items ++ xs) (sym (more ∙ ap (λ o. done ++ cons_option o []) w.in-Some.is))
      | in_default w ↦
          ap (λ v. v.items) w.log-is ∙ c.loop-group.invariant
          ∙ ap (λ xs. c.args.log.now.items ++ xs)
          (sym (more ∙ ap (λ o. done ++ cons_option o []) w.in_default.is ∙ append-nil done))
    ]
