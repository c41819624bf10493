-- the positions for which events find something
use Rattle.std.proofs.Common.{◌≡◌, ℕ, ◌==◌, ◌&&◌, not, Bool, true, false, cond, List, [], ◌∷◌, ◌++◌, map, refl, sym, ap}
use Rattle.std.proofs.Common.{◌∙◌, Some, None}
use Rattle.std.specs.List.{filter, filter_map, cons_option, AllByRecursion}
use Rattle.road_time.specs.Notes.{Note}
use Rattle.road_time.specs.Stops.{Stop}
use Rattle.road_time.specs.Entries.{standing_at}
use Rattle.road_time.specs.Rates.{Tariffs}
use Rattle.road_time.specs.declared.road.Report.{Report}
use Rattle.road_time.specs.Tolls.{StretchTold, notes_of}
use Rattle.ways_expressway.specs.declared.lane_event.LaneEvent.{LaneEvent}
use Rattle.ways_expressway.specs.declared.lane_event.LaneEvent.TheVariants.{Seen, Leave}
use Rattle.ways_expressway.specs.Events.{seen, entries, position_told}
use Rattle.ways_expressway.specs.Findings.{found_if, finding_of, findings, found_at}
use Rattle.day_floor.specs.Sound.{told_positions}

-- the position of what is found for a report, if it is told
position_if : (b : Bool) (ns : List Note) (us : ℕ → List Stop) (tariffs : Tariffs) (position : ℕ) (r : Report)
    (fs : List (ℕ × StretchTold)) (ps : List ℕ) → map (λ f. f.0) fs ≡ ps →
    map (λ f. f.0) (cons_option (found_if b ns us tariffs position r) fs) ≡ cons_option (cond b (Some position) None) ps
position_if true ns us tariffs position r fs ps h = ap (λ xs. position ∷ xs) h
position_if false ns us tariffs position r fs ps h = h

-- what events find has the positions of those that are told
each_position : (ns : List Note) (us : ℕ → List Stop) (tariffs : Tariffs) (es : List LaneEvent) →
    map (λ f. f.0) (filter_map (finding_of ns us tariffs) es) ≡ told_positions es
each_position ns us tariffs [] = refl
each_position ns us tariffs (Seen position r b s ∷ es) =
    position_if (b && not (r.lane == 4)) ns us tariffs position r _ _ (each_position ns us tariffs es)
each_position ns us tariffs (Leave position time vid place ∷ es) = each_position ns us tariffs es

-- whatever came before, and under whatever tariffs
pub positions_are : (before es : List LaneEvent) (tariffs : Tariffs) →
    map (λ f. f.0) (findings before es tariffs) ≡ told_positions es
positions_are before es tariffs =
    each_position (notes_of (seen (before ++ es))) (standing_at (entries (before ++ es))) tariffs es

-- the position of one finding, if it is this one
one_at : (b : Bool) (f : ℕ × StretchTold) (fs : List (ℕ × StretchTold)) (ps : List ℕ) → map (λ g. g.0) fs ≡ ps →
    map (λ g. g.0) (cond b (f ∷ fs) fs) ≡ cond b (f.0 ∷ ps) ps
one_at true f fs ps h = ap (λ xs. f.0 ∷ xs) h
one_at false f fs ps h = h

-- the positions of the findings at a position
pub positions_at : (p : ℕ) (fs : List (ℕ × StretchTold)) →
    map (λ f. f.0) (found_at p fs) ≡ filter (λ n. n == p) (map (λ f. f.0) fs)
positions_at p [] = refl
positions_at p (f ∷ fs) = one_at (f.0 == p) f (found_at p fs) _ (positions_at p fs)

-- findings of the same positions have the same at each
pub same_at : (p : ℕ) (fs gs : List (ℕ × StretchTold)) → map (λ f. f.0) fs ≡ map (λ f. f.0) gs →
    map (λ f. f.0) (found_at p fs) ≡ map (λ f. f.0) (found_at p gs)
same_at p fs gs h = positions_at p fs ∙ ap (filter (λ n. n == p)) h ∙ sym (positions_at p gs)

-- what holds of all positions holds of the told ones
told_one : (P : ℕ → Type 0) (b : Bool) (position : ℕ) (ps : List ℕ) → P position → AllByRecursion P ps →
    AllByRecursion P (cons_option (cond b (Some position) None) ps)
told_one P true position ps h g = (h, g)
told_one P false position ps h g = g

pub told_all : (P : ℕ → Type 0) (es : List LaneEvent) → AllByRecursion (λ e. P (position_told e)) es →
    AllByRecursion P (told_positions es)
told_all P [] h = tt
told_all P (Seen position r b s ∷ es) h =
    told_one P (b && not (r.lane == 4)) position (told_positions es) h.0 (told_all P es h.1)
told_all P (Leave position time vid place ∷ es) h = told_all P es h.1

-- and of findings that have those positions
pub found_all : (P : ℕ → Type 0) (fs : List (ℕ × StretchTold)) → AllByRecursion P (map (λ f. f.0) fs) →
    AllByRecursion (λ f. P f.0) fs
found_all P [] h = tt
found_all P (f ∷ fs) h = (h.0, found_all P fs h.1)
