-- what holds of a vehicle's reports: their number, how many come in a minute, and that none are of one second
use Rattle.std.proofs.Common.{◌≡◌, ℕ, zero, suc, ◌+◌, ◌-◌, ◌*◌, ◌/◌, ◌≤◌, ◌<◌, ◌==◌, ◌&&◌, ◌⊎◌, ⊎_elim, inl, inr, Bool}
use Rattle.std.proofs.Common.{true, false, cond, List, [], ◌∷◌, ◌++◌, length, nat_lt, refl, arith, ap, subst, ◌∙◌}
use Rattle.std.specs.List.{AllByRecursion, sum_by}
use Rattle.std.proofs.lemmas.Bool.{cond_both, and_parts, eqb-true, ltb-true}
use Rattle.std.proofs.lemmas.List.{length-append}
use Rattle.std.proofs.lemmas.List.Elements.{filter_map-append}
use Rattle.std.proofs.lemmas.List.Sums.{sum_by-append}
use Rattle.road_time.specs.declared.road.Tuple.{Tuple}
use Rattle.road_time.specs.declared.road.Tuple.TheVariants.{Report as ReportTuple}
use Rattle.road_time.specs.declared.road.Report.{Report}
use Rattle.road_time.specs.Clock.{minute_of}
use Rattle.road_time.specs.Tuples.{report_of, reports}
use Rattle.road_time.specs.Fits.{reports_in_minute}
use Rattle.road_time.proofs.EachLaws.{joined}
use Rattle.tuples_traffic.specs.Reports.{reports_before}
use Rattle.tuples_traffic.proofs.StepLaws.{reports_more}
use Rattle.tuples_traffic.proofs.TurnLaws.{Turns, InTurn, turns_joined}

-- the reports of two lists in a minute
pub counts_joined : (xs ys : List Tuple) (v m : ℕ) →
    reports_in_minute (xs ++ ys) v m ≡ reports_in_minute xs v m + reports_in_minute ys v m
counts_joined xs ys v m =
    ap (λ rs. sum_by (λ (r : Report). cond (r.vid == v && minute_of r.time == m) 1 0) rs)
    (filter_map-append report_of xs ys)
    ∙ sum_by-append (λ (r : Report). cond (r.vid == v && minute_of r.time == m) 1 0) (reports xs) (reports ys)

-- a report, or none
abbrev one : Bool → Report → List Tuple
one b r = cond b (ReportTuple r ∷ []) []

-- a test counts once or not
counted : (v m : ℕ) (r : Report) (b : Bool) → (r.vid == v && minute_of r.time == m) ≡ b → ◌≡◌ {A = ℕ} (0 + cond b 1 0) 0
    ⊎ (◌≡◌ {A = ℕ} (0 + cond b 1 0) 1 × (minute_of r.time ≡ m))
counted v m r true e = inr (refl, eqb-true (minute_of r.time) m (and_parts (r.vid == v) (minute_of r.time == m) e).1)
counted v m r false e = inl refl

-- it counts once, in its minute
one_counts : (v m : ℕ) (r : Report) (b : Bool) → (reports_in_minute (one b r) v m ≡ 0)
    ⊎ ((reports_in_minute (one b r) v m ≡ 1) × (minute_of r.time ≡ m))
one_counts v m r true = counted v m r (r.vid == v && minute_of r.time == m) refl
one_counts v m r false = inl refl

-- where reports come 30 seconds apart a third of a minute does not
grow : (c d t m : ℕ) → c ≤ 2 → 30 * c ≤ t - 60 * (m - 1) → (d ≡ 0) ⊎ ((d ≡ 1) × (t / 60 + 1 ≡ m)) → (c + d ≤ 2)
    × (30 * (c + d) ≤ (t + 30) - 60 * (m - 1))
grow c d t m few soon new =
    ⊎_elim (λ (e : d ≡ 0). (omega (arith, few, e), omega (arith, soon, e)))
    (λ (e : (d ≡ 1) × (t / 60 + 1 ≡ m)). (omega (arith, few, soon, e.0, e.1), omega (arith, few, soon, e.0, e.1))) new

module _ (end start : ℕ) (report : ℕ → Report) (times : (k : ℕ) → (report k).time ≡ start + 30 * k) where
  -- one report more
  pub next_report : (n : ℕ) →
      reports_before end report (suc n) ≡ reports_before end report n ++ one (nat_lt (report n).time end) (report n)
  next_report n = let next : n + 1 ≡ suc n = omega arith in
      subst (λ m. reports_before end report m ≡ reports_before end report n ++ one (nat_lt (report n).time end)
      (report n)) next (reports_more end report n)

  -- what holds of each report before the end
  pub each_report : (P : Tuple → Type 0) (n : ℕ) →
      ((k : ℕ) → k < n → (report k).time < end → P (ReportTuple (report k))) →
      AllByRecursion P (reports_before end report n)
  each_report P zero h = tt
  each_report P (suc n) h =
      rw (next_report n)
      (joined P (reports_before end report n) (one (nat_lt (report n).time end) (report n))
      (each_report P n (λ k l. h k (omega (arith, l))))
      (cond_both (nat_lt (report n).time end) (ReportTuple (report n) ∷ []) [] (AllByRecursion P)
      (λ e. (h n (omega arith) (ltb-true (report n).time end e), tt)) (λ _. tt)))

  -- there are at most so many
  pub few_reports : (n : ℕ) → length (reports_before end report n) ≤ n
  few_reports zero = omega arith
  few_reports (suc n) =
      let last : length (one (nat_lt (report n).time end) (report n)) ≤ 1 =
      cond_both (nat_lt (report n).time end) (ReportTuple (report n) ∷ []) [] (λ xs. length xs ≤ 1)
      (λ _. omega arith) (λ _. omega arith) in
      rw (next_report n)
      (omega (
        arith,
        few_reports n,
        last,
        length-append (reports_before end report n)
            (one (nat_lt (report n).time end) (report n)),
      ))

  rare_so_far : (v m n : ℕ) → (reports_in_minute (reports_before end report n) v m ≤ 2)
      × (30 * reports_in_minute (reports_before end report n) v m ≤ (start + 30 * n) - 60 * (m - 1))
  rare_so_far v m zero = (omega arith, omega arith)
  rare_so_far v m (suc n) =
      let before = rare_so_far v m n in
      let last = one (nat_lt (report n).time end) (report n) in
      let more = subst (λ t. (reports_in_minute last v m ≡ 0) ⊎ ((reports_in_minute last v m ≡ 1) × (minute_of t ≡ m)))
      (times n) (one_counts v m (report n) (nat_lt (report n).time end)) in
      let both = grow (reports_in_minute (reports_before end report n) v m) (reports_in_minute last v m)
      (start + 30 * n) m before.0 before.1 more in
      rw (next_report n, counts_joined (reports_before end report n) last v m) (both.0, omega (arith, both.1))

  -- at most two come in a minute
  pub rare_reports : (v m n : ℕ) → reports_in_minute (reports_before end report n) v m ≤ 2
  rare_reports v m n = (rare_so_far v m n).0

  -- no two are of one second
  pub reports_in_turn : (n : ℕ) → InTurn (reports_before end report n)
  reports_in_turn zero = tt
  reports_in_turn (suc n) =
      let last = one (nat_lt (report n).time end) (report n) in
      rw (next_report n)
      (turns_joined (reports_before end report n) last (reports_in_turn n)
      (cond_both (nat_lt (report n).time end) (ReportTuple (report n) ∷ []) [] InTurn (λ _. (tt, tt)) (λ _. tt))
      (each_report (λ x. AllByRecursion (Turns x) last) n (λ k l _. apart k l)))
    where
      apart : (k : ℕ) → k < n →
          AllByRecursion (Turns (ReportTuple (report k))) (one (nat_lt (report n).time end) (report n))
      apart k l =
          cond_both (nat_lt (report n).time end) (ReportTuple (report n) ∷ []) []
          (AllByRecursion (Turns (ReportTuple (report k))))
          (λ _. ((λ e. absurd (omega (arith, l, e, times k, times n))), tt)) (λ _. tt)
