-- Laws of what a gatekeeper keeps: its answer is the definition's, and it goes on from tuple to tuple.
use Rattle.std.proofs.Common.{◌≡◌, ℕ, ◌+◌, ◌≤◌, ◌==◌, ◌&&◌, ◌||◌, Bool, true, false, not, cond, max, List, [], ◌∷◌}
use Rattle.std.proofs.Common.{◌++◌, length, is_some, Option, Some, None, Result, nat_le, nat_lt, nat_eq, if◌then◌else◌}
use Rattle.std.proofs.Common.{arith, refl, sym, ap, ◌∙◌}
use Rattle.std.proofs.lemmas.Bool.{cond-false, eqb-true}
use Rattle.std.proofs.lemmas.Bool.Decides.{nat_tests}
use Rattle.std.proofs.lemmas.List.{length_push}
use Rattle.std.proofs.lemmas.List.Folds.{list_any-append}
use Rattle.road_time.specs.declared.road.Tuple.{Tuple}
use Rattle.road_time.specs.declared.road.Tuple.TheVariants.{Report as ReportTuple, Balance, Spent, Travel}
use Rattle.road_time.specs.declared.road.Report.{Report}
use Rattle.road_time.specs.declared.day.Limits.{Limits}
use Rattle.road_time.specs.Clock.{minute_of}
use Rattle.road_time.specs.Tuples.{time_of, report_of}
use Rattle.road_time.specs.Notes.{has}
use Rattle.road_time.specs.Order.{greatest_time}
use Rattle.road_time.specs.Fits.{vehicles_seen, reports_in_minute}
use Rattle.road_time.specs.Form.{TooOften, Vehicles}
use Rattle.road_time.specs.Reads.{admit_fault, vehicle_fault, report_fault}
use Rattle.road_time.proofs.EachLaws.{some_is}
use Rattle.road_time.proofs.LateLaws.{greatest_push, count_push, seen_push, count_other, seen_other}
use Rattle.tuples_text.specs.declared.recent.Recent.{Recent}
use Rattle.tuples_text.specs.Recents.{count_in, first_in, noted}
use Rattle.tuples_text.specs.Gates.{GateState, StandsFor, kept_of, count_of, noted_of, kept_fault, Judges}
use Rattle.tuples_text.specs.declared.gatekeeper.AdmitFault.{AdmitFault}

-- one report more is counted in its minute alone
noted_count : (r : Recent) (m minute last : ℕ) → r.minute ≤ last → m ≤ last → last ≤ m + 2 → last ≤ minute + 2 →
    count_in (noted r m) minute ≡ count_in r minute + cond (m == minute) 1 0
noted_count r m minute last a b c d = grind (arith, nat_tests)

-- a first report is counted in its minute
first_count : (m minute : ℕ) → count_in (first_in m) minute ≡ 0 + cond (m == minute) 1 0
first_count m minute = grind (arith, nat_tests)

-- so it is of a vehicle that was seen, or was not
count_more : (o : Option Recent) (m minute last : ℕ) → ((r : Recent) → o ≡ Some r → r.minute ≤ last) → m ≤ last →
    last ≤ m + 2 → last ≤ minute + 2 → count_in (noted_of o m) minute ≡ count_of o minute + cond (m == minute) 1 0
count_more None m minute last h a b c = first_count m minute
count_more (Some r) m minute last h a b c = noted_count r m minute last (h r refl) a b c

-- the newest report is of the minute that it had, or of this one
noted_newest : (r : Recent) (m last : ℕ) → r.minute ≤ last → m ≤ last → (noted r m).minute ≤ last
noted_newest r m last a b = grind (arith, nat_tests)

-- of a vehicle that was not seen too
newest_more : (o : Option Recent) (m last : ℕ) → ((r : Recent) → o ≡ Some r → r.minute ≤ last) → m ≤ last →
    (noted_of o m).minute ≤ last
newest_more None m last h a = a
newest_more (Some r) m last h a = noted_newest r m last (h r refl) a

-- minutes rise with Times
minute_up : (s t : ℕ) → s ≤ t → minute_of s ≤ minute_of t
minute_up s t h = omega arith

-- a tuple that is at most two minutes late is of one of the last three minutes
within : (s t late : ℕ) → late ≤ 120 → s ≤ t + late → minute_of s ≤ minute_of t + 2
within s t late few h = omega arith

-- a report is refused by what is kept of its vehicle as the definition refuses it
same_fault : (o : Option Recent) (n count limit vid m : ℕ) (b : Bool) → count_of o m ≡ n → is_some o ≡ b →
    (if nat_le 4 n then Some (TooOften vid m) else if not b && nat_le limit count then Some (Vehicles limit) else None)
    ≡ kept_fault o count limit vid m
same_fault None n count limit vid m b c v = rw (← c, ← v) refl
same_fault (Some r) n count limit vid m b c v = rw (← c, ← v) refl

-- so the whole fault of a report is that of what is kept
pub report_same : (g : GateState) (limits : Limits) (late : ℕ) (before : List Tuple) (r : Report) →
    StandsFor g limits late before → greatest_time before ≤ r.time + late →
    report_fault limits before r ≡ kept_fault (kept_of g.seen r.vid) (length g.seen) g.vehicle_limit r.vid
    (minute_of r.time)
report_same g limits late before r st soon =
    let m = minute_of r.time in
    same_fault (kept_of g.seen r.vid) (reports_in_minute before r.vid m) (length (vehicles_seen before)) limits.vehicles
    r.vid m (has (vehicles_seen before) r.vid)
    (st.counts r.vid m (within (greatest_time before) r.time late st.few soon)) (st.vehicles r.vid)
    ∙ ap (λ n. kept_fault (kept_of g.seen r.vid) n limits.vehicles r.vid m) (sym st.number)
    ∙ ap (λ n. kept_fault (kept_of g.seen r.vid) (length g.seen) n r.vid m) (sym st.vehicle_limit)

-- a tuple that does not come too late is refused as its report is
pub in_time : (limits : Limits) (late : ℕ) (before : List Tuple) (x : Tuple) → greatest_time before ≤ time_of x + late →
    admit_fault limits late before x ≡ vehicle_fault limits before x
in_time limits late before x soon =
    cond-false (nat_lt (time_of x + late) (greatest_time before)) _ _
    (not_under (time_of x + late) (greatest_time before) soon)
  where
    not_under : (a b : ℕ) → b ≤ a → nat_lt a b ≡ false
    not_under a b h = grind arith

-- one number more is there
has_more : (vs : List ℕ) (v w : ℕ) (b : Bool) → has vs v ≡ b → has (cond b vs (vs ++ v ∷ [])) w ≡ (v == w || has vs w)
has_more vs v w true e = or_there (v == w) (has vs w) (λ same. ap (has vs) (sym (eqb-true v w same)) ∙ e)
  where
    or_there : (a b : Bool) → (a ≡ true → b ≡ true) → b ≡ (a || b)
    or_there true b h = h refl
    or_there false b h = refl
has_more vs v w false e = list_any-append (λ x. x == w) vs (v ∷ []) ∙ turned (has vs w) (v == w)
  where
    turned : (a b : Bool) → (a || (b || false)) ≡ (b || a)
    turned a b = grind arith

-- a new vehicle is one more
length_more : (vs : List ℕ) (v : ℕ) (b : Bool) (n : ℕ) (o : Option Recent) → is_some o ≡ b → n ≡ length vs →
    n + cond (is_some o) 0 1 ≡ length (cond b vs (vs ++ v ∷ []))
length_more vs v true n o e h = rw e (omega (arith, h))
length_more vs v false n o e h = rw e (omega (arith, h, length_push vs v))

-- what is kept goes on with one report more
module _ (g : GateState) (limits : Limits) (late : ℕ) (before : List Tuple) (r : Report)
    (seen : List (ℕ × Recent)) where
  -- one vehicle has a report more
  abbrev pub Noted : Type 0
  Noted = (v : ℕ) → kept_of seen v
      ≡ (if nat_eq r.vid v then Some (noted_of (kept_of g.seen r.vid) (minute_of r.time)) else kept_of g.seen v)

  -- what is kept after the report
  abbrev pub after : GateState
  after = record {
    vehicle_limit = g.vehicle_limit;
    lateness = g.lateness;
    greatest = max g.greatest r.time;
    seen =
        seen;
  }

  -- the gatekeeper stands for the tuples with the report
  pub report_step : StandsFor g limits late before → greatest_time before ≤ r.time + late → Noted →
      length seen ≡ length g.seen + (if is_some (kept_of g.seen r.vid) then 0 else 1) →
      StandsFor after limits late (before ++ ReportTuple r ∷ [])
  report_step st soon is count =
      let m = minute_of r.time in
      let old = kept_of g.seen r.vid in
      let great : greatest_time (before ++ ReportTuple r ∷ []) ≡ max (greatest_time before) r.time =
      greatest_push before (ReportTuple r) in
      let last = minute_of (greatest_time (before ++ ReportTuple r ∷ [])) in
      let risen : minute_of (greatest_time before) ≤ last = minute_up _ _ (omega (arith, great)) in
      let up : m ≤ last = minute_up _ _ (omega (arith, great)) in
      let near : last ≤ m + 2 = within _ _ late st.few (omega (arith, great, soon)) in
      record {
        vehicle_limit = st.vehicle_limit;
        lateness = st.lateness;
        few = st.few;
        greatest = ap (λ n. max n r.time) st.greatest ∙ sym great;
        vehicles = λ v. ap is_some (is v) ∙ some_more (r.vid == v) v refl
            ∙ sym (ap (λ vs. has vs v) (seen_push before r)
            ∙ has_more (vehicles_seen before) r.vid v (has (vehicles_seen before) r.vid) refl);
        number = count ∙ length_more (vehicles_seen before) r.vid (has (vehicles_seen before) r.vid) (length g.seen) old
            (st.vehicles r.vid) st.number ∙ sym (ap length (seen_push before r));
        newest = λ v e h. newest_at v e (r.vid == v) (sym (is v) ∙ h) last up risen;
        counts = λ v minute h. ap (λ o. count_of o minute) (is v)
            ∙ counts_at v minute (r.vid == v) last refl up near h risen ∙ sym (count_push before r v minute);
      }
    where
      some_more : (b : Bool) (v : ℕ) → (r.vid == v) ≡ b →
          is_some (cond b (Some (noted_of (kept_of g.seen r.vid) (minute_of r.time))) (kept_of g.seen v))
          ≡ (b || has (vehicles_seen before) v)
      some_more true v e = refl
      some_more false v e = st.vehicles v

      newest_at : (v : ℕ) (e : Recent) (b : Bool) →
          cond b (Some (noted_of (kept_of g.seen r.vid) (minute_of r.time))) (kept_of g.seen v) ≡ Some e → (last : ℕ) →
          minute_of r.time ≤ last → minute_of (greatest_time before) ≤ last → e.minute ≤ last
      newest_at v e true h last up risen =
          rw (← some_is (noted_of (kept_of g.seen r.vid) (minute_of r.time)) e h)
          (newest_more (kept_of g.seen r.vid) (minute_of r.time) last
          (λ q f. omega (arith, st.newest r.vid q f, risen)) up)
      newest_at v e false h last up risen = omega (arith, st.newest v e h, risen)

      counts_at : (v minute : ℕ) (b : Bool) (last : ℕ) → (r.vid == v) ≡ b → minute_of r.time ≤ last →
          last ≤ minute_of r.time + 2 → last ≤ minute + 2 → minute_of (greatest_time before) ≤ last →
          count_of (cond b (Some (noted_of (kept_of g.seen r.vid) (minute_of r.time))) (kept_of g.seen v)) minute
          ≡ reports_in_minute before v minute + cond (b && minute_of r.time == minute) 1 0
      counts_at v minute true last e up near h risen =
          let same : r.vid ≡ v = eqb-true r.vid v e in
          count_more (kept_of g.seen r.vid) (minute_of r.time) minute last
          (λ q f. omega (arith, st.newest r.vid q f, risen)) up near h
          ∙ ap (λ n. n + cond (minute_of r.time == minute) 1 0)
          (st.counts r.vid minute (omega (arith, h, risen)) ∙ ap (λ w. reports_in_minute before w minute) same)
      counts_at v minute false last e up near h risen = omega (arith, st.counts v minute (omega (arith, h, risen)))

-- and with another tuple
pub other_step : (g : GateState) (limits : Limits) (late : ℕ) (before : List Tuple) (x : Tuple) → report_of x ≡ None →
    StandsFor g limits late before → StandsFor
    (record {
      vehicle_limit = g.vehicle_limit;
      lateness = g.lateness;
      greatest = max g.greatest (time_of x);
      seen =
          g.seen;
    }) limits late (before ++ x ∷ [])
other_step g limits late before x none st =
    let great : greatest_time (before ++ x ∷ []) ≡ max (greatest_time before) (time_of x) = greatest_push before x in
    let risen : minute_of (greatest_time before) ≤ minute_of (greatest_time (before ++ x ∷ [])) =
    minute_up _ _ (omega (arith, great)) in
    record {
      vehicle_limit = st.vehicle_limit;
      lateness = st.lateness;
      few = st.few;
      greatest = ap (λ n. max n (time_of x)) st.greatest ∙ sym great;
      vehicles = λ v. st.vehicles v ∙ ap (λ vs. has vs v) (sym (seen_other before x none));
      number = st.number ∙ ap length (sym (seen_other before x none));
      newest = λ v e h. omega (arith, st.newest v e h, risen);
      counts = λ v minute h. st.counts v minute (omega (arith, h, risen)) ∙ sym (count_other before x none v minute);
    }

-- a tuple that is no report
pub no_report_is : (x : Tuple) → ((r : Report) → x ≡ ReportTuple r → ⊥) → report_of x ≡ None
no_report_is (ReportTuple r) out = absurd (out r refl)
no_report_is (Balance time vid qid) out = refl
no_report_is (Spent time vid xway qid day) out = refl
no_report_is (Travel time) out = refl

-- no other tuple is a report too many
free : (limits : Limits) (before : List Tuple) (x : Tuple) → report_of x ≡ None → vehicle_fault limits before x ≡ None
free limits before (ReportTuple r) e = cc
free limits before (Balance time vid qid) e = refl
free limits before (Spent time vid xway qid day) e = refl
free limits before (Travel time) e = refl

module _ (g : GateState) (limits : Limits) (late : ℕ) (before : List Tuple) (x : Tuple) (time : ℕ) where
  -- what the code compares is what the definition compares
  in_time_of : StandsFor g limits late before → time ≡ time_of x → g.greatest ≤ time + g.lateness →
      greatest_time before ≤ time_of x + late
  in_time_of st t soon = omega (arith, st.greatest, st.lateness, t, soon)

  -- the answer to a report is the definition's
  pub report_judged : (r : Report) (minute : ℕ) (result : Result (Unit {0}) AdmitFault) → StandsFor g limits late before
      → time ≡ time_of x → g.greatest ≤ time + g.lateness → x ≡ ReportTuple r → minute ≡ minute_of time →
      Judges result (kept_fault (kept_of g.seen r.vid) (length g.seen) g.vehicle_limit r.vid minute) →
      Judges result (admit_fault limits late before x)
  report_judged r minute result st t soon is m judged =
      let late_enough = in_time_of st t soon in
      let of_report : minute ≡ minute_of r.time = m ∙ ap minute_of (t ∙ ap time_of is) in
      let same : admit_fault limits late before x ≡ kept_fault (kept_of g.seen r.vid) (length g.seen) g.vehicle_limit
      r.vid minute =
      in_time limits late before x late_enough ∙ ap (vehicle_fault limits before) is
      ∙ report_same g limits late before r st (omega (arith, late_enough, ap time_of is))
      ∙ ap (kept_fault (kept_of g.seen r.vid) (length g.seen) g.vehicle_limit r.vid) (sym of_report) in
      rw same judged

  -- another tuple is let in
  pub other_judged : StandsFor g limits late before → time ≡ time_of x → g.greatest ≤ time + g.lateness →
      ((r : Report) → x ≡ ReportTuple r → ⊥) → admit_fault limits late before x ≡ None
  other_judged st t soon out = in_time limits late before x (in_time_of st t soon)
      ∙ free limits before x (no_report_is x out)

  -- what is kept goes on
  pub report_admitted : (r : Report) (minute : ℕ) (seen : List (ℕ × Recent)) → StandsFor g limits late before →
      time ≡ time_of x → g.greatest ≤ time + g.lateness → x ≡ ReportTuple r → minute ≡ minute_of time → ((v : ℕ) →
      kept_of seen v ≡ (if nat_eq r.vid v then Some (noted_of (kept_of g.seen r.vid) minute) else kept_of g.seen v))
      → length seen ≡ length g.seen + (if is_some (kept_of g.seen r.vid) then 0 else 1) → StandsFor
      (record {
        vehicle_limit = g.vehicle_limit;
        lateness = g.lateness;
        greatest = max g.greatest time;
        seen =
            seen;
      }) limits late (before ++ x ∷ [])
  report_admitted r minute seen st t soon is m noted count =
      let late_enough = in_time_of st t soon in
      let of_report : time ≡ r.time = t ∙ ap time_of is in
      let same : minute ≡ minute_of r.time = m ∙ ap minute_of of_report in
      rw (is, of_report) (report_step g limits late before r seen st (omega (arith, late_enough, ap time_of is))
      (λ v. noted v ∙ ap (λ n. if nat_eq r.vid v then Some (noted_of (kept_of g.seen r.vid) n) else kept_of g.seen v)
      same) count)

  -- with another tuple too
  pub other_admitted : StandsFor g limits late before → time ≡ time_of x → ((r : Report) → x ≡ ReportTuple r → ⊥) →
      StandsFor
      (record {
        vehicle_limit = g.vehicle_limit;
        lateness = g.lateness;
        greatest = max g.greatest time;
        seen =
            g.seen;
      }) limits late (before ++ x ∷ [])
  other_admitted st t out = rw t (other_step g limits late before x (no_report_is x out) st)
