-- one report, one crash and one trip more
use Rattle.std.proofs.Common.{◌≡◌, ℕ, suc, ◌+◌, cond, List, [], ◌∷◌, ◌++◌, nat_lt, refl, arith, append_assoc, ap, sym}
use Rattle.std.proofs.Common.{subst, ◌∙◌}
use Rattle.std.specs.List.{flat_map, range_with_len}
use Rattle.std.proofs.lemmas.List.FromFn.{filter_of_map_range_with_len_more, map-range_with_len_more}
use Rattle.std.proofs.lemmas.List.{flat_map_more, map-id, append-nil}
use Rattle.road_time.specs.declared.road.Tuple.TheVariants.{Report as ReportTuple}
use Rattle.road_time.specs.declared.road.Report.{Report}
use Rattle.road_time.specs.Tuples.{time_of}
use Rattle.tuples_traffic.specs.declared.plan.GenPlan.{GenPlan}
use Rattle.tuples_traffic.specs.Plans.{end_of}
use Rattle.day_plan.specs.Draws.{seeded}
use Rattle.tuples_traffic.specs.Reports.{reports_before}
use Rattle.tuples_traffic.specs.Crashes.{drawn_crash, crash_tuples}
use Rattle.tuples_traffic.specs.Trips.{drawn_trip, trip_tuples}
use Rattle.tuples_traffic.specs.Traffic.{before_crash, before_trip, vid_of_trip, crash_of, trip_of, crash_traffic}
use Rattle.tuples_traffic.specs.Traffic.{trip_traffic}

-- one report more
pub reports_more : (end : ℕ) (report : ℕ → Report) (n : ℕ) →
    reports_before end report (n + 1) ≡ reports_before end report n ++ cond (nat_lt (report n).time end)
    (ReportTuple (report n) ∷ []) []
reports_more end report n =
    filter_of_map_range_with_len_more (λ x. nat_lt (time_of x) end) (λ k. ReportTuple (report k)) 0 n n (omega arith)

-- one number more
pub numbers_more : {X : Type 0} (f : ℕ → List X) (n : ℕ) →
    flat_map f (range_with_len 0 (n + 1)) ≡ flat_map f (range_with_len 0 n) ++ f n
numbers_more f n =
    ap (flat_map f) (sym (map-id (range_with_len 0 (n + 1))) ∙ map-range_with_len_more (λ k. k) 0 n n (omega arith)
    ∙ ap (λ ks. ks ++ n ∷ []) (map-id (range_with_len 0 n))) ∙ sym (flat_map_more f [] (range_with_len 0 n) n)

-- one crash more
pub crashes_more : (plan : GenPlan) (n : ℕ) →
    crash_traffic plan (n + 1) ≡ crash_traffic plan n ++ crash_tuples (end_of plan) n (crash_of plan n)
unfolding crash_traffic
crashes_more plan n = numbers_more (λ c. crash_tuples (end_of plan) c (crash_of plan c)) n

-- one trip more
pub trips_more : (plan : GenPlan) (n : ℕ) → trip_traffic plan (n + 1) ≡ trip_traffic plan n ++ trip_tuples (end_of plan)
    (trip_of plan n)
unfolding trip_traffic
trips_more plan n = numbers_more (λ i. trip_tuples (end_of plan) (trip_of plan i)) n

-- what was added, and one more
pub added : {X : Type 0} (now start done whole one : List X) → now ≡ start ++ done → whole ≡ done ++ one →
    (after : List X) → after ≡ now ++ one → after ≡ start ++ whole
added now start done whole one e w after a = a ∙ ap (λ xs. xs ++ one) e ∙ append_assoc start done one
    ∙ ap (λ xs. start ++ xs) (sym w)

-- at first nothing was added
pub none_added : {X : Type 0} (start : List X) → start ≡ start ++ []
none_added start = sym (append-nil start)

-- no crash makes no tuple
pub no_crash : (plan : GenPlan) → crash_traffic plan 0 ≡ []
unfolding crash_traffic
no_crash plan = refl

-- no trip makes no tuple
pub no_trip : (plan : GenPlan) → trip_traffic plan 0 ≡ []
unfolding trip_traffic
no_trip plan = refl

-- the generator before the first crash is that of the seed
pub crash_first : (plan : GenPlan) → before_crash plan 0 ≡ seeded plan.seed
unfolding before_crash
crash_first plan = refl

-- that before the first trip is the one after all crashes
pub trip_first : (plan : GenPlan) → before_trip plan 0 ≡ before_crash plan plan.crashes
unfolding before_trip
trip_first plan = refl

-- a crash is drawn where the generator stands
crash_steps : (plan : GenPlan) (n : ℕ) →
    drawn_crash plan (before_crash plan n) ≡ (crash_of plan n, before_crash plan (suc n))
unfolding before_crash crash_of
crash_steps plan n = refl

-- the next crash, and the generator after it
pub crash_next : (plan : GenPlan) (n : ℕ) →
    drawn_crash plan (before_crash plan n) ≡ (crash_of plan n, before_crash plan (n + 1))
crash_next plan n = let next : suc n ≡ n + 1 = omega arith in
    subst (λ m. drawn_crash plan (before_crash plan n) ≡ (crash_of plan n, before_crash plan m)) next
    (crash_steps plan n)

-- a trip is drawn where the generator stands
trip_steps : (plan : GenPlan) (n : ℕ) →
    drawn_trip plan (vid_of_trip plan n) (before_trip plan n) ≡ (trip_of plan n, before_trip plan (suc n))
unfolding before_trip trip_of
trip_steps plan n = refl

-- the next trip, and the generator after it
pub trip_next : (plan : GenPlan) (n : ℕ) →
    drawn_trip plan (vid_of_trip plan n) (before_trip plan n) ≡ (trip_of plan n, before_trip plan (n + 1))
trip_next plan n = let next : suc n ≡ n + 1 = omega arith in
    subst (λ m. drawn_trip plan (vid_of_trip plan n) (before_trip plan n) ≡ (trip_of plan n, before_trip plan m)) next
    (trip_steps plan n)
