-- findings of events in one job or in several
use Rattle.std.proofs.Common.{◌≡◌, ℕ, ◌-◌, ◌≤◌, ◌<◌, ◌==◌, ◌&&◌, not, Bool, true, false, List, [], ◌∷◌, ◌++◌, refl, sym}
use Rattle.std.proofs.Common.{ap, ◌∙◌, arith, Some, nat_le, subst}
use Rattle.std.specs.List.{filter_map, cons_option, AllByRecursion}
use Rattle.std.proofs.lemmas.List.{append-nil, append_assoc, map-append}
use Rattle.std.proofs.lemmas.List.Elements.{filter-append, filter_map-append}
use Rattle.std.proofs.lemmas.Bool.{cond-false, lt-leb}
use Rattle.road_time.specs.declared.road.Report.{Report}
use Rattle.road_time.specs.declared.road.Stretch.{Stretch}
use Rattle.road_time.specs.Clock.{minute_of}
use Rattle.road_time.specs.Tuples.{stretch_of}
use Rattle.road_time.specs.Notes.{note_of, notes_at, is_noted_at}
use Rattle.road_time.specs.Rates.{Tariffs}
use Rattle.road_time.specs.Stops.{near, stood, has_accident, seconds_of, segments_ahead}
use Rattle.road_time.specs.Entries.{standing, standing_at, entries_up_to}
use Rattle.road_time.specs.Tolls.{notes_of, finding_by}
use Rattle.road_time.proofs.PrefixLaws.{other_minute, each_before, any_same, find_same}
use Rattle.road_time.proofs.StretchLaws.{finding_until}
use Rattle.ways_expressway.specs.declared.lane_event.LaneEvent.{LaneEvent}
use Rattle.ways_expressway.specs.declared.lane_event.LaneEvent.TheVariants.{Seen, Leave}
use Rattle.ways_expressway.specs.Events.{seen, entries, stop_entry_of, report_seen, time_told}
use Rattle.ways_expressway.specs.Findings.{found_if, finding_of, findings}
use Rattle.road_time.proofs.EachLaws.{left_part, right_part}
use Rattle.ways_expressway.specs.Runs.{NoneAfter, MayFollow, MayRun}

-- no event is of an earlier second
abbrev pub NotBefore : ℕ → List LaneEvent → Type 0
NotBefore second es = AllByRecursion (λ e. second ≤ time_told e) es

-- later events have no note of an earlier minute
none_noted : (j s : ℕ) (k : Stretch) (later : List LaneEvent) → j < minute_of s → NotBefore s later →
    notes_at (notes_of (seen later)) j k ≡ []
none_noted j s k [] h l = refl
none_noted j s k (Seen position r b stopped ∷ es) h l =
    cond-false (is_noted_at j k (note_of r)) _ _ (other_minute j s k r h l.0) ∙ none_noted j s k es h l.1
none_noted j s k (Leave position time vid place ∷ es) h l = none_noted j s k es h l.1

-- the notes of a minute are the same after events of later minutes
notes_until : (j s : ℕ) (k : Stretch) (es later : List LaneEvent) → j < minute_of s → NotBefore s later →
    notes_at (notes_of (seen (es ++ later))) j k ≡ notes_at (notes_of (seen es)) j k
notes_until j s k es later h l =
    ap (λ rs. notes_at (notes_of rs) j k) (filter_map-append report_seen es later)
    ∙ ap (λ ns. notes_at ns j k) (map-append note_of (seen es) (seen later))
    ∙ filter-append (is_noted_at j k) (notes_of (seen es)) (notes_of (seen later))
    ∙ ap (λ ns. notes_at (notes_of (seen es)) j k ++ ns) (none_noted j s k later h l)
    ∙ append-nil (notes_at (notes_of (seen es)) j k)

-- later events have no stop or leave up to an earlier second
none_entered : (t s : ℕ) (later : List LaneEvent) → t < s → NotBefore s later → entries_up_to t (entries later) ≡ []
none_entered t s [] h l = refl
none_entered t s (Seen position r b true ∷ es) h l =
    cond-false (nat_le r.time t) _ _ (lt-leb r.time t (omega (arith, h, l.0))) ∙ none_entered t s es h l.1
none_entered t s (Seen position r b false ∷ es) h l = none_entered t s es h l.1
none_entered t s (Leave position time vid place ∷ es) h l =
    cond-false (nat_le time t) _ _ (lt-leb time t (omega (arith, h, l.0))) ∙ none_entered t s es h l.1

-- the stops and leaves up to a second are the same after events of later seconds
entries_until : (t s : ℕ) (es later : List LaneEvent) → t < s → NotBefore s later →
    entries_up_to t (entries (es ++ later)) ≡ entries_up_to t (entries es)
entries_until t s es later h l =
    ap (entries_up_to t) (filter_map-append stop_entry_of es later)
    ∙ filter-append (λ e. nat_le e.second t) (entries es) (entries later)
    ∙ ap (λ xs. entries_up_to t (entries es) ++ xs) (none_entered t s later h l)
    ∙ append-nil (entries_up_to t (entries es))

-- the nearest accident is the same after later events
near_until : (s : ℕ) (es later : List LaneEvent) → NotBefore s later → (k : Stretch) →
    near (standing_at (entries (es ++ later))) (minute_of s) k ≡ near (standing_at (entries es)) (minute_of s) k
near_until s es later l k =
    let m = minute_of s in
    find_same (λ g. stood (standing_at (entries (es ++ later))) (m - 1) (record k { seg = g }))
    (λ g. stood (standing_at (entries es)) (m - 1) (record k { seg = g }))
    (λ g. any_same (λ t. has_accident (standing_at (entries (es ++ later)) t) (record k { seg = g }))
    (λ t. has_accident (standing_at (entries es) t) (record k { seg = g })) (seconds_of (m - 1))
    (each_before {s = s} (m - 1) (omega arith)
    (λ t h. ap (λ xs. has_accident (standing xs) (record k { seg = g })) (entries_until t s es later h l))))
    (segments_ahead k)

-- a finding is the same after later events
finding_same : (es later : List LaneEvent) (tariffs : Tariffs) (r : Report) → NotBefore r.time later →
    finding_by (notes_of (seen (es ++ later))) (standing_at (entries (es ++ later))) tariffs r ≡ finding_by
    (notes_of (seen es)) (standing_at (entries es)) tariffs r
finding_same es later tariffs r l =
    finding_until (notes_of (seen (es ++ later))) (notes_of (seen es)) (standing_at (entries (es ++ later)))
    (standing_at (entries es)) tariffs r
    (λ j h. notes_until j r.time (stretch_of r) es later (omega (arith, h)) l)
    (near_until r.time es later l (stretch_of r))

-- and what is found, where it is told
when_until : (b : Bool) (es later : List LaneEvent) (tariffs : Tariffs) (position : ℕ) (r : Report) →
    NotBefore r.time later →
    found_if b (notes_of (seen (es ++ later))) (standing_at (entries (es ++ later))) tariffs position r ≡ found_if b
    (notes_of (seen es)) (standing_at (entries es)) tariffs position r
when_until true es later tariffs position r l = ap (λ f. Some (position, f)) (finding_same es later tariffs r l)
when_until false es later tariffs position r l = refl

-- and what several find
found_until : (all later : List LaneEvent) (tariffs : Tariffs) (es : List LaneEvent) →
    AllByRecursion (λ e. NotBefore (time_told e) later) es →
    filter_map (finding_of (notes_of (seen (all ++ later))) (standing_at (entries (all ++ later))) tariffs) es
    ≡ filter_map (finding_of (notes_of (seen all)) (standing_at (entries all)) tariffs) es
found_until all later tariffs [] h = refl
found_until all later tariffs (Seen position r b stopped ∷ es) h =
    rw (when_until (b && not (r.lane == 4)) all later tariffs position r h.0, found_until all later tariffs es h.1) refl
found_until all later tariffs (Leave position time vid place ∷ es) h = found_until all later tariffs es h.1

-- the findings of some events and then of more are those of all
pub findings-append : (before es later : List LaneEvent) (tariffs : Tariffs) →
    AllByRecursion (λ e. NotBefore (time_told e) later) es →
    findings before (es ++ later) tariffs ≡ findings before es tariffs ++ findings (before ++ es) later tariffs
findings-append before es later tariffs h =
    ap (λ all. filter_map (finding_of (notes_of (seen all)) (standing_at (entries all)) tariffs) (es ++ later))
    (sym (append_assoc before es later))
    ∙ filter_map-append
    (finding_of (notes_of (seen ((before ++ es) ++ later))) (standing_at (entries ((before ++ es) ++ later)))
    tariffs) es later
    ∙ ap (λ fs. fs ++ findings (before ++ es) later tariffs) (found_until (before ++ es) later tariffs es h)

-- what one event finds is what the events before it say, without itself
pub found_now : (before : List LaneEvent) (tariffs : Tariffs) (position : ℕ) (r : Report) (b stopped : Bool) →
    findings before (Seen position r b stopped ∷ []) tariffs ≡ cons_option
    (found_if (b && not (r.lane == 4)) (notes_of (seen before)) (standing_at (entries before)) tariffs position r)
    []
found_now before tariffs position r b stopped =
    ap (λ o. cons_option o [])
    (when_until (b && not (r.lane == 4)) before (Seen position r b stopped ∷ []) tariffs position r
    (omega arith, tt))

-- the later ones of events that may run may run after the first
pub split_run : (before es later : List LaneEvent) → MayRun before (es ++ later) → MayRun (before ++ es) later
split_run before [] later h = rw (append-nil before) h
split_run before (e ∷ es) later h =
    subst (λ xs. MayRun xs later) (append_assoc before (e ∷ []) es) (split_run (before ++ e ∷ []) es later h.1)

-- what may follow is of no earlier second
pub follows : (before : List LaneEvent) (e : LaneEvent) → MayFollow before e → NoneAfter (time_told e) before
follows before (Seen position r b stopped) h = h
follows before (Leave position time vid place) h = h.0

-- nothing is later than no events
none_left : (es : List LaneEvent) → AllByRecursion (λ e. NotBefore (time_told e) []) es
none_left [] = tt
none_left (e ∷ es) = (tt, none_left es)

-- one more later event
one_more : (x : LaneEvent) (es xs : List LaneEvent) → NoneAfter (time_told x) es →
    AllByRecursion (λ e. NotBefore (time_told e) xs) es → AllByRecursion (λ e. NotBefore (time_told e) (x ∷ xs)) es
one_more x [] xs h g = tt
one_more x (e ∷ es) xs h g = ((h.0, g.0), one_more x es xs h.1 g.1)

-- what may run later is of no earlier second
run_order : (before later : List LaneEvent) → MayRun before later →
    AllByRecursion (λ e. NotBefore (time_told e) later) before
run_order before [] h = none_left before
run_order before (x ∷ xs) h =
    one_more x before xs (follows before x h.0)
    (left_part (λ e. NotBefore (time_told e) xs) before (x ∷ []) (run_order (before ++ x ∷ []) xs h.1))

-- the findings of events in two parts that may run
pub findings_split : (before es later : List LaneEvent) (tariffs : Tariffs) → MayRun before (es ++ later) →
    findings before (es ++ later) tariffs ≡ findings before es tariffs ++ findings (before ++ es) later tariffs
findings_split before es later tariffs h =
    findings-append before es later tariffs
    (right_part (λ e. NotBefore (time_told e) later) before es
    (run_order (before ++ es) later (split_run before es later h)))
