-- what a shard sees of a day
use Rattle.std.proofs.Common.{◌≡◌, ℕ, ◌%◌, ◌==◌, ⊎_elim, Bool, true, false, cond, List, [], ◌∷◌, ◌++◌, Option, Some}
use Rattle.std.proofs.Common.{None, refl, sym, ap, subst, ◌∙◌, arith}
use Rattle.std.specs.List.{cons_option, filter_map}
use Rattle.std.proofs.lemmas.List.{append-nil, append_assoc}
use Rattle.std.proofs.lemmas.List.Elements.{filter_map-append, filter-append}
use Rattle.std.proofs.lemmas.Bool.{cases_Bool, cond-true, cond-false, false≢true}
use Rattle.std.proofs.lemmas.Bool.Decides.{nat_tests}
use Rattle.road_time.specs.declared.road.Tuple.{Tuple}
use Rattle.road_time.specs.declared.road.Tuple.TheVariants.{Report as ReportTuple, Balance, Spent, Travel}
use Rattle.road_time.specs.declared.road.Report.{Report}
use Rattle.road_time.specs.declared.road.Place.{Place}
use Rattle.road_time.specs.Tuples.{reports, report_of}
use Rattle.road_time.specs.Sights.{moments_after}
use Rattle.road_time.specs.Stops.{trail}
use Rattle.road_time.proofs.SightLaws.{moments-append}
use Rattle.road_time.proofs.TrailLaws.{by_push, trail_push}
use Rattle.day_floor.specs.declared.tracked.Tracked.{Tracked}
use Rattle.day_floor.specs.declared.tracked.Charge.{Charge}
use Rattle.day_floor.specs.Told.{IsTracked}
use Rattle.day_floor.specs.Stands.{StandsFor}
use Rattle.day_floor.proofs.DayLaws.{told_is_of_the_day}
use Rattle.ways_audit.specs.declared.shard.Shard.{Shard}
use Rattle.ways_audit.specs.Seen.{tracked_of}
use Rattle.ways_audit.specs.Own.{belongs, own_of, own_tracked, told_after}

-- one report more of a shard's vehicles
pub own_push_yes : (place count : ℕ) (day : List Tuple) (r : Report) → belongs place count r ≡ true →
    own_of place count (reports (day ++ ReportTuple r ∷ [])) ≡ own_of place count (reports day) ++ r ∷ []
own_push_yes place count day r h =
    ap (own_of place count) (filter_map-append report_of day (ReportTuple r ∷ []))
    ∙ filter-append (belongs place count) (reports day) (r ∷ [])
    ∙ ap (λ zs. own_of place count (reports day) ++ zs) (cond-true (belongs place count r) (r ∷ []) [] h)

-- a report of another shard's
pub own_push_no : (place count : ℕ) (day : List Tuple) (r : Report) → belongs place count r ≡ false →
    own_of place count (reports (day ++ ReportTuple r ∷ [])) ≡ own_of place count (reports day)
own_push_no place count day r h =
    ap (own_of place count) (filter_map-append report_of day (ReportTuple r ∷ []))
    ∙ filter-append (belongs place count) (reports day) (r ∷ [])
    ∙ ap (λ zs. own_of place count (reports day) ++ zs) (cond-false (belongs place count r) (r ∷ []) [] h)
    ∙ append-nil (own_of place count (reports day))

-- another tuple changes nothing
pub own_other : (place count : ℕ) (day : List Tuple) (x : Tuple) → report_of x ≡ None →
    own_of place count (reports (day ++ x ∷ [])) ≡ own_of place count (reports day)
own_other place count day x e =
    ap (own_of place count) (filter_map-append report_of day (x ∷ []) ∙ ap (λ o. reports day ++ cons_option o []) e
    ∙ append-nil (reports day))

-- what is no report has none
pub no_report : (x : Tuple) → ((r : Report) → x ≡ ReportTuple r → ⊥) → report_of x ≡ None
no_report (ReportTuple r) h = absurd (h r refl)
no_report (Balance time vid qid) h = refl
no_report (Spent time vid xway qid past) h = refl
no_report (Travel time) h = refl

-- a tuple that is no report tells nothing to a shard
pub other_tells_nothing : (place count : ℕ) (day : List Tuple) (x : Tuple) → report_of x ≡ None →
    own_tracked place count (day, x) ≡ None
other_tells_nothing place count day (ReportTuple r) e = absurd (some_report r e)
  where
    some_report : (r : Report) → ◌≡◌ {A = Option Report} (Some r) None → ⊥
    some_report r e = cc
other_tells_nothing place count day (Balance time vid qid) e = refl
other_tells_nothing place count day (Spent time vid xway qid of_day) e = refl
other_tells_nothing place count day (Travel time) e = refl

-- another vehicle's reports do not belong to a trail
trail_other : (rs : List Report) (r : Report) (vid : ℕ) → (r.vid == vid) ≡ false →
    trail (rs ++ r ∷ []) vid ≡ trail rs vid
trail_other rs r vid h = trail_push rs r vid ∙ cond-false (r.vid == vid) (r ∷ trail rs vid) (trail rs vid) h

-- a vehicle of the shard is told from another that is not
not_own : (place count vid : ℕ) (r : Report) → vid % count ≡ place → belongs place count r ≡ false →
    (r.vid == vid) ≡ false
not_own place count vid r e h = ⊎_elim (λ (yes : (r.vid == vid) ≡ true). absurd (false≢true (sym h ∙ own yes))) (λ n. n)
    (cases_Bool (r.vid == vid))
  where
    same : (a b : ℕ) → (a == b) ≡ true → a ≡ b
    same a b q = grind (arith, nat_tests)

    tested : (a b : ℕ) → a ≡ b → (a == b) ≡ true
    tested a b q = grind (arith, nat_tests)

    own : (r.vid == vid) ≡ true → belongs place count r ≡ true
    own q = tested (r.vid % count) place (ap (λ v. v % count) (same r.vid vid q) ∙ e)

-- a vehicle's reports are all in its shard
pub own_trail : (place count vid : ℕ) → vid % count ≡ place → (rs : List Report) →
    trail (own_of place count rs) vid ≡ trail rs vid
own_trail place count vid e rs = by_push (λ rs. trail (own_of place count rs) vid ≡ trail rs vid) refl more rs
  where
    yes : (rs : List Report) (r : Report) → trail (own_of place count rs) vid ≡ trail rs vid →
        belongs place count r ≡ true → trail (own_of place count (rs ++ r ∷ [])) vid ≡ trail (rs ++ r ∷ []) vid
    yes rs r h b =
        ap (λ zs. trail zs vid)
        (filter-append (belongs place count) rs (r ∷ [])
        ∙ ap (λ zs. own_of place count rs ++ zs) (cond-true (belongs place count r) (r ∷ []) [] b))
        ∙ trail_push (own_of place count rs) r vid ∙ ap (λ own. cond (r.vid == vid) (r ∷ own) own) h
        ∙ sym (trail_push rs r vid)

    no : (rs : List Report) (r : Report) → trail (own_of place count rs) vid ≡ trail rs vid →
        belongs place count r ≡ false → trail (own_of place count (rs ++ r ∷ [])) vid ≡ trail (rs ++ r ∷ []) vid
    no rs r h b =
        ap (λ zs. trail zs vid)
        (filter-append (belongs place count) rs (r ∷ [])
        ∙ ap (λ zs. own_of place count rs ++ zs) (cond-false (belongs place count r) (r ∷ []) [] b)
        ∙ append-nil (own_of place count rs))
        ∙ h ∙ sym (trail_other rs r vid (not_own place count vid r e b))

    more : (rs : List Report) (r : Report) → trail (own_of place count rs) vid ≡ trail rs vid →
        trail (own_of place count (rs ++ r ∷ [])) vid ≡ trail (rs ++ r ∷ []) vid
    more rs r h = ⊎_elim (yes rs r h) (no rs r h) (cases_Bool (belongs place count r))

-- two answers with the same parts
tracked_made : {a b c d : Bool} {p q : Option Place} {x y : Charge} → a ≡ b → c ≡ d → p ≡ q → x ≡ y →
    ◌≡◌ {A = Tracked} (record { begins = a; stopped = c; left = p; charge = x })
    (record { begins = b; stopped = d; left = q; charge = y })
tracked_made e f g h = rw (e, f, g, h) refl

shard_of : (a b : ℕ) → (a == b) ≡ true → a ≡ b
shard_of a b q = grind (arith, nat_tests)

-- what is told after a shard's reports is told after the day's tuples
pub told_by_shard : (place count : ℕ) (day : List Tuple) (r : Report) (t : Tracked) → belongs place count r ≡ true →
    IsTracked t (trail (own_of place count (reports day)) r.vid) r → t ≡ tracked_of day r
told_by_shard place count day r t b h =
    let whole : IsTracked t (trail (reports day) r.vid) r =
    subst (λ own. IsTracked t own r) (own_trail place count r.vid (shard_of (r.vid % count) place b) (reports day))
    h in
    let told = told_is_of_the_day day r t whole in
    tracked_made told.begins told.stopped whole.left told.charge

-- what one more tuple tells to a shard
pub told_push : (place count : ℕ) (before xs : List Tuple) (x : Tuple) →
    told_after place count before (xs ++ x ∷ []) ≡ told_after place count before xs ++ cons_option
    (own_tracked place count (before ++ xs, x)) []
told_push place count before xs x =
    ap (filter_map (own_tracked place count)) (moments-append before xs (x ∷ []))
    ∙ filter_map-append (own_tracked place count) (moments_after before xs) ((before ++ xs, x) ∷ [])

-- a shard took tuples: it tracks its vehicles by their reports among those too, and what they tell to it stands behind
-- what was told before
pub record Took (place count : ℕ) (was now : Shard) (done : List Tuple) : Type 0 where
  pub tracked : (day : List Tuple) → StandsFor was.tracker (own_of place count (reports day)) →
      StandsFor now.tracker (own_of place count (reports (day ++ done)))
  pub told : (day : List Tuple) → StandsFor was.tracker (own_of place count (reports day)) →
      now.told.items ≡ was.told.items ++ told_after place count day done

pub took_none : (place count : ℕ) (s : Shard) → Took place count s s []
took_none place count s = record {
  tracked = λ day t. subst (λ d. StandsFor s.tracker (own_of place count (reports d))) (sym (append-nil day)) t;
  told = λ day t. sym (append-nil s.told.items);
}

-- one tuple more
pub took_more : (place count : ℕ) (was now next : Shard) (done : List Tuple) (x : Tuple) → Took place count was now done
    → ((day : List Tuple) → StandsFor now.tracker (own_of place count (reports day)) →
    StandsFor next.tracker (own_of place count (reports (day ++ x ∷ [])))) →
    ((day : List Tuple) → StandsFor now.tracker (own_of place count (reports day)) →
    next.told.items ≡ now.told.items ++ cons_option (own_tracked place count (day, x)) []) →
    Took place count was next (done ++ x ∷ [])
took_more place count was now next done x took tracks told = record {
  tracked = λ day t. subst (λ d. StandsFor next.tracker (own_of place count (reports d)))
      (append_assoc day done (x ∷ [])) (tracks (day ++ done) (took.tracked day t));
  told = λ day t. told (day ++ done) (took.tracked day t)
      ∙ ap (λ ts. ts ++ cons_option (own_tracked place count (day ++ done, x)) []) (took.told day t)
      ∙ append_assoc was.told.items (told_after place count day done)
      (cons_option (own_tracked place count (day ++ done, x)) [])
      ∙ ap (λ ts. was.told.items ++ ts) (sym (told_push place count day done x));
}
