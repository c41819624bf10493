-- one event more on a carriage
use Rattle.std.proofs.Common.{◌≡◌, ℕ, ◌≤◌, ◌-◌, ℤ, List, [], ◌∷◌, ◌++◌, refl, arith, Option, is_some, false}
use Rattle.std.specs.List.{fold}
use Rattle.std.proofs.lemmas.List.{append-nil, map-append}
use Rattle.std.proofs.lemmas.List.Elements.{filter_map-append}
use Rattle.std.proofs.lemmas.List.Sums.{fold_push}
use Rattle.road_time.specs.declared.road.Place.{Place}
use Rattle.road_time.specs.Clock.{minute_of}
use Rattle.road_time.specs.declared.road.Report.{Report}
use Rattle.road_time.specs.declared.road.Stretch.{Stretch}
use Rattle.road_time.specs.declared.road.Frac.{Frac}
use Rattle.road_time.specs.declared.tariff.Tariff.{Tariff}
use Rattle.road_time.specs.Notes.{Note, note_of, cars}
use Rattle.road_time.specs.Lav.{lav}
use Rattle.road_time.specs.Stops.{Stop, near}
use Rattle.road_time.specs.Rates.{Tariffs, tariff_of, toll_of, whole_of}
use Rattle.road_time.specs.Tuples.{stretch_of}
use Rattle.road_time.specs.Tolls.{notes_of, StretchTold, finding_by}
use Rattle.ways_expressway.specs.SpeedsStand.{StandsFor as AveragesStandFor}
use Rattle.ways_expressway.specs.AccidentsStand.{StandsFor as StopsStandFor}
use Rattle.ways_expressway.specs.declared.lane_event.LaneEvent.{LaneEvent}
use Rattle.ways_expressway.specs.declared.lane_event.LaneEvent.TheVariants.{Leave}
use Rattle.ways_expressway.specs.Events.{seen, entries, report_seen, stop_entry_of, time_told}
use Rattle.ways_expressway.specs.Runs.{NoneAfter}
use Rattle.ways_expressway.specs.Kept.{KeptWays}
use Rattle.ways_expressway.specs.Stands.{last_second, StandsFor}
use Rattle.ways_expressway.specs.Ready.{IsReady}
use Rattle.ways_expressway.proofs.JobLaws.{follows}

-- the reports seen with one event more
pub seen_push : (es : List LaneEvent) (e : LaneEvent) → seen (es ++ e ∷ []) ≡ seen es ++ seen (e ∷ [])
seen_push es e = filter_map-append report_seen es (e ∷ [])

-- the stops and leaves with one event more
pub entries_push : (es : List LaneEvent) (e : LaneEvent) → entries (es ++ e ∷ []) ≡ entries es ++ entries (e ∷ [])
entries_push es e = filter_map-append stop_entry_of es (e ∷ [])

-- the last event is the newest
pub last_push : (es : List LaneEvent) (e : LaneEvent) → last_second (es ++ e ∷ []) ≡ time_told e
last_push es e = fold_push (λ before x. time_told x) 0 es e

-- the last event is no later than a second that none is after, whatever came before
last_from : (a s : ℕ) (es : List LaneEvent) → a ≤ s → NoneAfter s es → fold (λ before e. time_told e) a es ≤ s
last_from a s [] h g = h
last_from a s (e ∷ es) h g = last_from (time_told e) s es g.0 g.1

-- the last event is no later than a second after which there is none
last_le : (s : ℕ) (es : List LaneEvent) → NoneAfter s es → last_second es ≤ s
last_le s es g = last_from 0 s es (omega arith) g

-- minutes rise with seconds
minute_le : (a b : ℕ) → a ≤ b → minute_of a ≤ minute_of b
minute_le a b h = omega arith

-- the next event is not before the second of a carriage
pub second_le : (c : KeptWays) (before : List LaneEvent) (e : LaneEvent) → IsReady c before (e ∷ []) →
    c.stops.second ≤ time_told e
second_le c before e r =
    let last = last_le (time_told e) before (follows before e r.runs.order.0) in
    let now = r.stands.second in
    omega (arith, last, now)

-- nor before its minute
pub minutes_le : (c : KeptWays) (before : List LaneEvent) (e : LaneEvent) → IsReady c before (e ∷ []) →
    c.speeds.minute ≤ minute_of (time_told e)
minutes_le c before e r =
    let last =
    minute_le (last_second before) (time_told e) (last_le (time_told e) before (follows before e r.runs.order.0)) in
    let now = r.stands.minute in
    omega (arith, last, now)

-- a carriage with the notes and the entries of one event more, at its second, stands for the events with it
pub at_next : (c : KeptWays) (before : List LaneEvent) (e : LaneEvent) →
    AveragesStandFor c.speeds (notes_of (seen before) ++ notes_of (seen (e ∷ []))) →
    StopsStandFor c.stops (entries before ++ entries (e ∷ [])) →
    c.speeds.minute ≡ minute_of (time_told e) → c.stops.second ≡ time_told e → StandsFor c (before ++ e ∷ [])
at_next c before e a s m t = record {
  averages = rw (seen_push before e, map-append note_of (seen before) (seen (e ∷ []))) a;
  standing = rw (entries_push before e) s;
  minute = rw (last_push before e) m;
  second = rw (last_push before e) t;
}

-- the same for a leave, of which there is no note
pub at_left : (c : KeptWays) (before : List LaneEvent) (position time vid : ℕ) (place : Place) →
    AveragesStandFor c.speeds (notes_of (seen before)) →
    StopsStandFor c.stops (entries before ++ record { second = time; vid = vid; place = place; stops = false } ∷ []) →
    c.speeds.minute ≡ minute_of time → c.stops.second ≡ time →
    StandsFor c (before ++ Leave position time vid place ∷ [])
at_left c before position time vid place a s m t =
    at_next c before (Leave position time vid place) (rw (append-nil (notes_of (seen before))) a) s m t

-- a finding by its parts
abbrev pub found_as : ℕ → ℤ → ℕ → Option ℕ → ℕ × StretchTold
found_as position whole toll alert = (position, record { lav = whole; toll = toll; alert = alert })

-- what the parts of a carriage say of a report's stretch in its minute is what is found for the report
pub found_is : (ns : List Note) (stops_at : ℕ → List Stop) (tariffs : Tariffs) (r : Report) (position minute second : ℕ)
    (k : Stretch) (tariff : Tariff) (n toll : ℕ) (average : Option Frac) (whole : ℤ) (alert : Option ℕ) →
    minute ≡ minute_of r.time → second ≡ r.time → k ≡ stretch_of r → tariff ≡ tariff_of tariffs r.xway →
    n ≡ cars ns (minute - 1) k → average ≡ lav ns minute k → alert ≡ near stops_at (minute_of second) k →
    whole ≡ whole_of average → toll ≡ toll_of tariff n average (is_some alert) →
    found_as position whole toll alert ≡ (position, finding_by ns stops_at tariffs r)
found_is ns stops_at tariffs r position minute second k tariff n toll average whole alert m s e t c l a w h =
    rw (h, w, t, c, l, a, m, s, e) refl
