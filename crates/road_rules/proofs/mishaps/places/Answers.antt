use Rattle.std.proofs.Common.{◌≡◌, ◌+◌, ◌++◌, ◌∷◌, [], ap, sym, ◌∙◌, rules, take}
use Rattle.std.specs.List.{cons_option}
use Rattle.std.specs.BTreeSet.{insert_key}
use Rattle.std.proofs.lemmas.List.{append-nil}
use Rattle.road_time.specs.Tuples.{reports, report_of, place_of}
use Rattle.road_time.specs.Log.{places_of, place_cmp}
use Rattle.road_rules.proofs.SeenLaws.{filter_map_more}
use Rattle.road_rules.proofs.GroupLaws.{places_push}
use Rattle.road_rules.proofs.mishaps.places.Goals as goal
use Rattle.road_rules.proofs.mishaps.places.Goals.{in-Some+in_ok-insert, in_default}

pub loop-tuple-preserved : goal.loop-tuple-preserved
loop-tuple-preserved c =
    let i = c.loop-tuple.tuple-index in
    let day = c.args.tuples.now in
    let rs = reports (take i day) in
    let more : reports (take (i + 1) day) ≡ rs ++ cons_option c.report_of.result [] =
    filter_map_more report_of day i _ c.loop-tuple-test.true c.report_of.ensures in
    elim c.match-report_of.branch [
      | in-Some+in_ok-insert w ↦
          let r = w.in-Some.r in
          let grown : reports (take (i + 1) day) ≡ rs ++ r ∷ [] =
          more ∙ ap (λ o. rs ++ cons_option o []) w.in-Some.is in
          let keys : w.insert.new.self.keys ≡ insert_key place_cmp c.loop-tuple.places.keys w.place.result =
          search rules in
          ap (λ s. s.keys) w.places-is ∙ keys ∙ ap (insert_key place_cmp c.loop-tuple.places.keys) w.place.ensures
          ∙ ap (λ ps. insert_key place_cmp ps (place_of r)) c.loop-tuple.invariant
          ∙ sym (places_push rs r) ∙ sym (ap places_of grown)
      | in_default w ↦
          ap (λ s. s.keys) w.places-is ∙ c.loop-tuple.invariant
          ∙ sym (ap places_of (more ∙ ap (λ o. rs ++ cons_option o []) w.in_default.is ∙ append-nil rs))
    ]
