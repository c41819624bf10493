-- what a tracker keeps, after one more report
use Rattle.std.proofs.Common.{◌≡◌, ℕ, ◌==◌, nat_eq, Bool, true, false, cond, List, [], ◌∷◌, ◌++◌, Some, refl, sym, ap}
use Rattle.std.proofs.Common.{◌∙◌, if◌then◌else◌}
use Rattle.std.proofs.lemmas.Bool.{cond-true, cond-false, eqb-true}
use Rattle.std.specs.Map.{lookup}
use Rattle.road_time.specs.declared.road.Report.{Report}
use Rattle.road_time.specs.Stops.{trail, last_seen}
use Rattle.road_time.proofs.TrailLaws.{trail_push}
use Rattle.road_time.specs.declared.road.LastSeen.{LastSeen}
use Rattle.day_floor.specs.Runs.{KeptSeen}
use Rattle.day_floor.specs.Stands.{StandsFor}

-- where what is kept of the report's vehicle is that of its reports with this one, and of others what was, it is that
-- of all reports with this one
pub seen_more : (before after : KeptSeen) (reports : List Report) (r : Report) (now : LastSeen) →
    StandsFor before reports → last_seen (r ∷ trail reports r.vid) ≡ Some now →
    ((v : ℕ) → lookup (nat_eq v) after ≡ (if nat_eq r.vid v then Some now else lookup (nat_eq v) before)) →
    StandsFor after (reports ++ r ∷ [])
seen_more before after reports r now st is written = record { seen = λ v. written v ∙ by v (r.vid == v) refl }
  where
    by : (v : ℕ) (b : Bool) → (r.vid == v) ≡ b →
        cond b (Some now) (lookup (nat_eq v) before) ≡ last_seen (trail (reports ++ r ∷ []) v)
    by v true e =
        sym is ∙ ap (λ w. last_seen (r ∷ trail reports w)) (eqb-true r.vid v e)
        ∙ sym (ap last_seen (trail_push reports r v ∙ cond-true (r.vid == v) (r ∷ trail reports v) (trail reports v) e))
    by v false e =
        st.seen v
        ∙ sym (ap last_seen (trail_push reports r v ∙ cond-false (r.vid == v) (r ∷ trail reports v) (trail reports v)
        e))
