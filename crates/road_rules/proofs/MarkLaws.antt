-- one more report with its mark
use Rattle.std.proofs.Common.{◌≡◌, ℕ, ◌==◌, Bool, true, false, cond, List, [], ◌∷◌, ◌++◌, reverse, refl, sym, ap, ◌∙◌}
use Rattle.std.proofs.Common.{Option}
use Rattle.std.proofs.lemmas.List.{append_assoc}
use Rattle.std.proofs.lemmas.Bool.{eqb-true}
use Rattle.road_time.specs.declared.road.Report.{Report}
use Rattle.road_time.specs.Tuples.{place_of}
use Rattle.road_time.specs.Stops.{stands, last_seen}
use Rattle.road_rules.specs.declared.halts.Mark.{Mark}
use Rattle.road_rules.specs.declared.halts.Halt.{Halt}
use Rattle.road_time.specs.declared.road.LastSeen.{LastSeen}
use Rattle.road_rules.specs.Halts.{of_vehicle, marks_of, next_time, halt_if, halts_after}
use Rattle.road_time.proofs.SightLaws.{newest_first}

-- the marks of one report more
pub marks_push : (ms : List Mark) (rs : List Report) (r : Report) (b : Bool) → reverse ms ≡ marks_of (reverse rs) →
    b ≡ stands (r ∷ of_vehicle r.vid (reverse rs)) (place_of r) →
    reverse (ms ++ record { report = r; stands = b } ∷ []) ≡ marks_of (reverse (rs ++ r ∷ []))
marks_push ms rs r b e f =
    newest_first ms (record { report = r; stands = b }) ∙ ap (λ xs. record { report = r; stands = b } ∷ xs) e
    ∙ ap (λ c. record { report = r; stands = c } ∷ marks_of (reverse rs)) f ∙ sym (ap marks_of (newest_first rs r))

-- the runs after one report more
pub seen_push : (before after : ℕ → Option LastSeen) (rs : List Report) (r : Report) →
    ((v : ℕ) → before v ≡ last_seen (of_vehicle v (reverse rs))) →
    last_seen (r ∷ of_vehicle r.vid (reverse rs)) ≡ after r.vid → ((v : ℕ) → (r.vid == v) ≡ false → after v ≡ before v)
    → (v : ℕ) → after v ≡ last_seen (of_vehicle v (reverse (rs ++ r ∷ [])))
seen_push before after rs r are run others v = step (r.vid == v) refl
    ∙ sym (ap (λ xs. last_seen (of_vehicle v xs)) (newest_first rs r))
  where
    step : (b : Bool) → (r.vid == v) ≡ b →
        after v ≡ last_seen (cond b (r ∷ of_vehicle v (reverse rs)) (of_vehicle v (reverse rs)))
    step true e =
        let is : r.vid ≡ v = eqb-true r.vid v e in
        ap after (sym is) ∙ sym run ∙ ap (λ w. last_seen (r ∷ of_vehicle w (reverse rs))) is
    step false e = others v e ∙ are v

-- one mark less to go
pub halts_step : (hs : List Halt) (later : List Mark) (m : Mark) (older : List Mark) (to : Option ℕ) →
    to ≡ next_time later m.report.vid →
    (hs ++ halt_if m.stands m.report to) ++ halts_after (m ∷ later) (reverse older) ≡ hs ++ halts_after later
    (reverse (older ++ m ∷ []))
halts_step hs later m older to e =
    append_assoc hs (halt_if m.stands m.report to) (halts_after (m ∷ later) (reverse older))
    ∙ ap (λ t. hs ++ (halt_if m.stands m.report t ++ halts_after (m ∷ later) (reverse older))) e
    ∙ sym (ap (λ xs. hs ++ halts_after later xs) (newest_first older m))
