-- what is told of a stretch by what is kept is what is found for its reports, and stays the same within a minute
use Rattle.std.proofs.Common.{◌≡◌, ◌+◌, ◌-◌, ◌/◌, ◌≤◌, ◌<◌, ◌*◌, ◌&&◌, ◌||◌, nat_lt, nat_le, ℕ, Bool, List, All, Option}
use Rattle.std.proofs.Common.{Some, None, is_some, replicate, get_or, length, ⊎_elim, refl, sym, ap, subst, ◌∙◌, arith}
use Rattle.std.proofs.lemmas.Bool.{cases_eq}
use Rattle.std.proofs.lemmas.List.{get_or-replicate, length-replicate}
use Rattle.std.proofs.lemmas.List.Elements.{All-get_or, All-from_get_or}
use Rattle.road_time.specs.declared.road.Report.{Report}
use Rattle.road_time.specs.declared.road.Stretch.{Stretch}
use Rattle.road_time.specs.declared.road.Frac.{Frac}
use Rattle.road_time.specs.Clock.{minute_of}
use Rattle.road_time.specs.Tuples.{stretch_of}
use Rattle.road_time.specs.Notes.{cars}
use Rattle.road_time.specs.Lav.{lav}
use Rattle.road_time.specs.Stops.{near}
use Rattle.road_time.specs.Entries.{standing_at}
use Rattle.road_time.specs.Rates.{Tariffs, tariff_of, toll_of, whole_of}
use Rattle.road_time.specs.Tolls.{StretchTold, notes_of, finding_by}
use Rattle.ways_expressway.specs.KeptSpeeds.{KeptSpeeds as Averages}
use Rattle.ways_expressway.specs.Parts.{flow_in}
use Rattle.ways_expressway.proofs.PastLaws.{cars_in_is, lav_in_is, cars_in_same, lav_in_same}
use Rattle.ways_expressway.specs.KeptAccidents.{KeptStops as Standing, spell_of}
use Rattle.ways_expressway.specs.declared.spell.Spell.{Spell}
use Rattle.ways_expressway.specs.History.{stood_last, is_marked}
use Rattle.ways_expressway.specs.Near.{stood_in}
use Rattle.ways_expressway.proofs.StoodLaws.{near_in_is, near_in_same}
use Rattle.ways_expressway.specs.declared.lane_event.LaneEvent.{LaneEvent}
use Rattle.ways_expressway.specs.declared.known.Known.{Known}
use Rattle.ways_expressway.specs.Events.{seen, entries}
use Rattle.ways_expressway.specs.Kept.{KeptWays}
use Rattle.ways_expressway.specs.Known.{told_now_of, IsTrueIn, IsInStep}
use Rattle.ways_expressway.specs.Stands.{IsUpTo}

-- a finding by its parts
made : (tariffs : Tariffs) (xway : ℕ) {v w : Option Frac} {n m : ℕ} {a b : Option ℕ} → v ≡ w → n ≡ m → a ≡ b →
    ◌≡◌ {A = StretchTold}
    (record { lav = whole_of v; toll = toll_of (tariff_of tariffs xway) n v (is_some a); alert = a })
    (record { lav = whole_of w; toll = toll_of (tariff_of tariffs xway) m w (is_some b); alert = b })
made tariffs xway p q r = rw (p, q, r) refl

-- what is told by what is kept is what is found by the events
pub found_in_is : (c : KeptWays) (r : Report) (before : List LaneEvent) → IsUpTo c r.time before →
    told_now_of c (stretch_of r) ≡ finding_by (notes_of (seen before)) (standing_at (entries before)) c.tariffs r
found_in_is c r before at =
    let k = stretch_of r in
    let ns = notes_of (seen before) in
    let stops = standing_at (entries before) in
    made c.tariffs k.xway
    (lav_in_is c.speeds ns at.averages k ∙ ap (λ m. lav ns m k) at.minute)
    (cars_in_is c.speeds ns at.averages k ∙ ap (λ m. cars ns (m - 1) k) at.minute)
    (near_in_is c.stops (entries before) at.standing k ∙ ap (λ s. near stops (minute_of s) k) at.second)

-- where one stood in the minute before goes by the minute of the second alone
abbrev stood_at : ℕ → Spell → Bool
stood_at m s = nat_lt 0 m && (nat_le 1 s.places && nat_lt s.since (60 * m) || is_marked s m)

pub stood_later : (second later : ℕ) (s : Spell) → minute_of later ≡ minute_of second →
    stood_last later s ≡ stood_last second s
stood_later second later s h =
    let same : later / 60 ≡ second / 60 = omega (arith, h) in
    ap (λ m. stood_at m s) same

module _ (c d : KeptWays) where
  -- in the same minute, with the averages of the minutes before and the stops of the minute before, the same is told
  pub found_same : d.tariffs ≡ c.tariffs → 1 ≤ c.speeds.minute → d.speeds.minute ≡ c.speeds.minute →
      ((k : Stretch) (m : ℕ) → m < c.speeds.minute → c.speeds.minute < m + 6 →
      flow_in d.speeds.rings k m ≡ flow_in c.speeds.rings k m) →
      ((k : Stretch) → stood_in d.stops k ≡ stood_in c.stops k) → (k : Stretch) → told_now_of d k ≡ told_now_of c k
  found_same tariffs first minute past last k =
      ap (λ t. told_now_of (record { speeds = d.speeds; stops = d.stops; tariffs = t }) k) tariffs
      ∙ made c.tariffs k.xway (lav_in_same c.speeds d.speeds first minute past k)
      (cars_in_same c.speeds d.speeds first minute past k) (near_in_same d.stops c.stops last k)

  -- so what is known stays true
  true_same : d.speeds.minute ≡ c.speeds.minute → ((k : Stretch) → told_now_of d k ≡ told_now_of c k) →
      (q : Option Known) → IsTrueIn c q → IsTrueIn d q
  true_same minute same None h = tt
  true_same minute same (Some q) h = (omega (arith, h.0, minute), λ e. h.1 (e ∙ minute) ∙ sym (same q.stretch))

  pub step_same : (known : List (Option Known)) → d.speeds.minute ≡ c.speeds.minute →
      minute_of d.stops.second ≡ minute_of c.stops.second →
      ((k : Stretch) → told_now_of d k ≡ told_now_of c k) → IsInStep c known → IsInStep d known
  step_same known minute second same h = record {
    minute = minute ∙ h.minute ∙ sym second;
    known_ones =
        All-from_get_or (IsTrueIn d) known None
        (λ i within. true_same minute same (get_or known i None)
        (All-get_or (IsTrueIn c) known i None within h.known_ones));
  }

  -- in a later minute it says nothing
  true_later : c.speeds.minute < d.speeds.minute → (q : Option Known) → IsTrueIn c q → IsTrueIn d q
  true_later later None h = tt
  true_later later (Some q) h = (omega (arith, h.0, later), λ e. absurd (omega (arith, h.0, later, e)))

  pub step_later : (known : List (Option Known)) → c.speeds.minute < d.speeds.minute →
      d.speeds.minute ≡ minute_of d.stops.second → IsInStep c known → IsInStep d known
  step_later known later minute h = record {
    minute = minute;
    known_ones =
        All-from_get_or (IsTrueIn d) known None
        (λ i within. true_later later (get_or known i None) (All-get_or (IsTrueIn c) known i None within h.known_ones));
  }

-- what is known stays true where a report of the current minute is noted, and vehicles stop or leave
pub noted_step : (c : KeptWays) (known : List (Option Known)) → IsInStep c known → (speeds : Averages) →
    speeds.minute ≡ c.speeds.minute → ((k : Stretch) (m : ℕ) → m < c.speeds.minute → c.speeds.minute < m + 6 →
    flow_in speeds.rings k m ≡ flow_in c.speeds.rings k m) →
    (stops : Standing) → stops.second ≡ c.stops.second → ((k : Stretch) → stood_in stops k ≡ stood_in c.stops k) →
    IsInStep (record { speeds = speeds; stops = stops; tariffs = c.tariffs }) known
noted_step c known h speeds minute past stops second last =
    let d : KeptWays = record { speeds = speeds; stops = stops; tariffs = c.tariffs } in
    step_same c d known minute (ap minute_of second) (found_same c d refl (omega (arith, h.minute)) minute past last) h

-- and where the second moves on
pub moved_step : (c : KeptWays) (known : List (Option Known)) → IsInStep c known → (speeds : Averages) (minute : ℕ) →
    speeds.minute ≡ minute →
    c.speeds.minute ≤ minute → (c.speeds.minute ≡ minute → speeds ≡ c.speeds) → (stops : Standing) (second : ℕ) →
    minute ≡ minute_of second → stops ≡ record c.stops { second = second } →
    IsInStep (record { speeds = speeds; stops = stops; tariffs = c.tariffs }) known
moved_step c known h speeds minute new up same stops second of moved =
    ⊎_elim here later (cases_eq c.speeds.minute minute)
  where
    d : KeptWays
    d = record { speeds = speeds; stops = stops; tariffs = c.tariffs }

    now : stops.second ≡ second
    now = ap (λ (s : Standing). s.second) moved

    here : c.speeds.minute ≡ minute → IsInStep d known
    here e =
        let seconds : minute_of second ≡ minute_of c.stops.second = sym of ∙ sym e ∙ h.minute in
        step_same c d known (new ∙ sym e) (ap minute_of now ∙ seconds)
        (found_same c d refl (omega (arith, h.minute)) (new ∙ sym e)
        (λ k m early late. ap (λ (a : Averages). flow_in a.rings k m) (same e))
        (λ k. ap (λ s. stood_in s k) moved ∙ stood_later c.stops.second second (spell_of c.stops.spells k) seconds)) h

    later : (c.speeds.minute ≡ minute → ⊥) → IsInStep d known
    later ne = step_later c d known (omega (arith, new, up, ne)) (new ∙ of ∙ ap minute_of (sym now)) h

-- what is known at a place is true
pub true_at : (c : KeptWays) (known : List (Option Known)) (at : ℕ) (d : Option Known) (q : Known) →
    All (IsTrueIn c) known
    → at < length known → get_or known at d ≡ Some q → IsTrueIn c (Some q)
true_at c known at d q all within h = subst (IsTrueIn c) h (All-get_or (IsTrueIn c) known at d within all)

-- nothing known is true
pub nothing_known : (c : KeptWays) (n : ℕ) → All (IsTrueIn c) (replicate n None)
nothing_known c n =
    let nothing : List (Option Known) = replicate n None in
    let long : length nothing ≡ n = length-replicate n None in
    All-from_get_or (IsTrueIn c) nothing None
    (λ i within. subst (IsTrueIn c) (sym (get_or-replicate n i None None (subst (λ m. i < m) long within))) tt)
