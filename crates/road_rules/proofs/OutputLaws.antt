-- what is kept and made after one more tuple
use Rattle.std.proofs.Common.{◌≡◌, ℕ, ◌+◌, ◌≤◌, ◌<◌, ◌^◌, ◌==◌, Bool, true, false, cond, List, [], ◌∷◌, ◌++◌, length}
use Rattle.std.proofs.Common.{refl, sym, ap, ◌∙◌, arith, Option, Some, None, if◌then◌else◌}
use Rattle.std.proofs.lemmas.List.{append-nil}
use Rattle.std.proofs.lemmas.List.Concat.{flat_map-append}
use Rattle.std.proofs.lemmas.Bool.{eqb-true}
use Rattle.road_time.specs.declared.tariff.TheConstants.{GREATEST_TOLL}
use Rattle.road_time.specs.declared.road.Tuple.{Tuple}
use Rattle.road_time.specs.declared.road.Tuple.TheVariants.{Report as ReportTuple}
use Rattle.road_time.specs.declared.road.Report.{Report}
use Rattle.road_time.specs.Tuples.{report_of}
use Rattle.road_time.specs.Rates.{Tariffs}
use Rattle.road_time.specs.Sights.{Moment, moments, Sight, sights_of, previous}
use Rattle.road_time.specs.Stays.{is_told, is_charged, stay_start}
use Rattle.road_time.specs.Tolls.{StretchTold}
use Rattle.road_time.specs.Day.{ChargedToll, rules, sum_of, charges_to, owed_if, owed_by, told_if, told_by, notices_of}
use Rattle.road_time.specs.Day.{toll_told, balance_by, answer_by, notices_by, xway_of, HasFewTolls}
use Rattle.road_time.proofs.SightLaws.{moments_push, sights_of_push, sights_of_other}
use Rattle.road_time.proofs.AccountLaws.{balance_push, told_last, charged_told, toll_if as told_if_is}
use Rattle.road_time.proofs.EachLaws.{some_is, no_some}
use Rattle.road_time.proofs.BoundLaws.{rules_few, balance_few}
use Rattle.road_rules.specs.declared.account.Account.{Account}
use Rattle.road_rules.specs.declared.found.SpotFound.{SpotFound}
use Rattle.road_rules.specs.Findings.{shown_told, shown_found, finding_if}
use Rattle.road_rules.specs.Accounts.{newest_of, toll_kept, owed_kept, toll_after, account_after, charge_after, toll_if}
use Rattle.road_rules.specs.Accounts.{toll_last, notices_told, AreAccounts}

-- the notices of one tuple more
pub notices_push : (finding : Sight → StretchTold) (number : ℕ) (kept : ℕ → ℕ → ℕ → ℕ) (day : List Tuple) (x : Tuple) →
    notices_by finding number kept (moments (day ++ x ∷ [])) ≡ notices_by finding number kept (moments day)
    ++ (told_by finding (day, x) ++ answer_by finding number kept (day, x))
notices_push finding number kept day x =
    let each = λ (m : Moment). told_by finding m ++ answer_by finding number kept m in
    ap (notices_by finding number kept) (moments_push day x) ∙ flat_map-append each (moments day) ((day, x) ∷ [])
    ∙ ap (λ ns. notices_by finding number kept (moments day) ++ ns) (append-nil (each (day, x)))

-- what a report is told, by its finding
pub told_is : (finding : Sight → StretchTold) (b : Bool) (s : Sight) →
    notices_of finding (told_if b s) ≡ notices_told s.1 (finding_if b (finding s))
told_is finding true s = refl
told_is finding false s = refl

charge_made : {v x x' t t' : ℕ} → x ≡ x' → t ≡ t' →
    ◌≡◌ {A = List ChargedToll} (record { vid = v; xway = x; toll = t } ∷ [])
    (record { vid = v; xway = x'; toll = t' } ∷ [])
charge_made e f = rw (e, f) refl

module _ (finding : Sight → StretchTold) where
  -- the toll told last, in the words of the laws
  last_is : (own : List Sight) → toll_last finding own ≡ told_last finding own
  last_is [] = refl
  last_is (s ∷ older) = step (is_told (previous older) s.1) (last_is older)
    where
      step : (b : Bool) → toll_last finding older ≡ told_last finding older →
          toll_if b (finding s) (toll_last finding older) ≡ told_if_is finding b s (told_last finding older)
      step true h = refl
      step false h = h

  -- what a report charges to a vehicle
  charged_is : (v : ℕ) (own : List Sight) (r : Report) (b : Bool) → is_charged (previous own) r ≡ b →
      sum_of (charges_to v (owed_if b finding own r)) ≡ cond (r.vid == v) (cond b (toll_last finding own) 0) 0
  charged_is v own r false e = none (r.vid == v)
    where
      none : (b : Bool) → ◌≡◌ {A = ℕ} 0 (cond b 0 0)
      none true = refl
      none false = refl
  charged_is v own r true e = one (r.vid == v) (toll_told finding (stay_start own)) (toll_last finding own)
      (charged_told finding own r e ∙ sym (last_is own))
    where
      zero_more : (t : ℕ) → 0 + t ≡ t
      zero_more t = omega arith

      one : (b : Bool) (t u : ℕ) → t ≡ u →
          sum_of (cond b (record { vid = r.vid; xway = xway_of (previous own); toll = t } ∷ []) []) ≡ cond b u 0
      one true t u h = zero_more t ∙ h
      one false t u h = refl

  module _ (kept after : ℕ → Option Account) (before : List Tuple) (r : Report) (told : Option SpotFound)
      (are : AreAccounts finding kept before)
      (now : (v : ℕ) → after v ≡ cond (r.vid == v) (Some (account_after (kept r.vid) r told)) (kept v))
      (exact : shown_told told ≡ finding_if (is_told (previous (sights_of before r.vid)) r)
      (finding (length before, r))) where
    toll_told_now : (b : Bool) (t : Option SpotFound) (last : ℕ) →
        shown_told t ≡ finding_if b (finding (length before, r))
        → toll_after t last ≡ toll_if b (finding (length before, r)) last
    toll_told_now true (Some f) last e = ap (λ x. x.toll) (some_is (shown_found f) (finding (length before, r)) e)
    toll_told_now true None last e = absurd (no_some _ e)
    toll_told_now false (Some f) last e = absurd (no_some _ (sym e))
    toll_told_now false None last e = refl

    newest_now : (v : ℕ) (b : Bool) → (r.vid == v) ≡ b →
        newest_of (cond b (Some (account_after (kept r.vid) r told)) (kept v)) ≡ previous
        (cond b ((length before, r) ∷ sights_of before v) (sights_of before v))
    newest_now v true e = refl
    newest_now v false e = are.newest v

    toll_now : (v : ℕ) (b : Bool) → (r.vid == v) ≡ b →
        toll_kept (cond b (Some (account_after (kept r.vid) r told)) (kept v)) ≡ toll_last finding
        (cond b ((length before, r) ∷ sights_of before v) (sights_of before v))
    toll_now v true e =
        toll_told_now (is_told (previous (sights_of before r.vid)) r) told (toll_kept (kept r.vid)) exact
        ∙ ap (toll_if (is_told (previous (sights_of before r.vid)) r) (finding (length before, r))) (are.toll r.vid)
        ∙ ap (λ w. toll_if (is_told (previous (sights_of before w)) r) (finding (length before, r))
        (toll_last finding (sights_of before w))) (eqb-true r.vid v e)
    toll_now v false e = are.toll v

    owed_now : (v : ℕ) (b : Bool) → (r.vid == v) ≡ b →
        owed_kept (cond b (Some (account_after (kept r.vid) r told)) (kept v)) ≡ balance_by finding v before + cond b
        (cond (is_charged (previous (sights_of before r.vid)) r) (toll_last finding (sights_of before r.vid)) 0) 0
    owed_now v true e =
        ap (λ p. owed_kept (kept r.vid) + cond (is_charged p r) (toll_kept (kept r.vid)) 0) (are.newest r.vid)
        ∙ ap (λ n. owed_kept (kept r.vid) + cond (is_charged (previous (sights_of before r.vid)) r) n 0)
        (are.toll r.vid)
        ∙ ap (λ n. n + cond (is_charged (previous (sights_of before r.vid)) r)
        (toll_last finding (sights_of before r.vid)) 0)
        (are.owed r.vid ∙ ap (λ w. balance_by finding w before) (eqb-true r.vid v e))
    owed_now v false e = are.owed v ∙ no_more (balance_by finding v before)
      where
        no_more : (n : ℕ) → n ≡ n + 0
        no_more n = omega arith

    -- accounts after one more report
    pub accounts_push : AreAccounts finding after (before ++ ReportTuple r ∷ [])
    accounts_push = record {
      newest = λ v. ap newest_of (now v) ∙ newest_now v (r.vid == v) refl
          ∙ sym (ap previous (sights_of_push before r v));
      toll = λ v. ap toll_kept (now v) ∙ toll_now v (r.vid == v) refl
          ∙ sym (ap (toll_last finding) (sights_of_push before r v));
      owed = λ v. ap owed_kept (now v) ∙ owed_now v (r.vid == v) refl
          ∙ ap (λ n. balance_by finding v before + n)
          (sym (charged_is v (sights_of before r.vid) r (is_charged (previous (sights_of before r.vid)) r) refl))
          ∙ sym (balance_push finding before (ReportTuple r) v);
    }

  -- accounts after another tuple
  pub accounts_other : (kept : ℕ → Option Account) (before : List Tuple) (x : Tuple) → report_of x ≡ None →
      owed_by finding (before, x) ≡ [] → AreAccounts finding kept before → AreAccounts finding kept (before ++ x ∷ [])
  accounts_other kept before x none free are = record {
    newest = λ v. are.newest v ∙ sym (ap previous (sights_of_other before x v none));
    toll = λ v. are.toll v ∙ sym (ap (toll_last finding) (sights_of_other before x v none));
    owed = λ v. are.owed v ∙ no_more (balance_by finding v before)
        ∙ ap (λ cs. balance_by finding v before + sum_of (charges_to v cs)) (sym free)
        ∙ sym (balance_push finding before x v);
  }
    where
      no_more : (n : ℕ) → n ≡ n + 0
      no_more n = omega arith

  -- what a report charges, by its vehicle's account
  pub charge_is : (kept : ℕ → Option Account) (before : List Tuple) (r : Report) → AreAccounts finding kept before →
      owed_by finding (before, ReportTuple r) ≡ charge_after (kept r.vid) r
  charge_is kept before r are = step (kept r.vid) (are.newest r.vid) (are.toll r.vid)
    where
      step : (a : Option Account) → newest_of a ≡ previous (sights_of before r.vid) →
          toll_kept a ≡ toll_last finding (sights_of before r.vid) →
          owed_if (is_charged (previous (sights_of before r.vid)) r) finding (sights_of before r.vid) r
          ≡ charge_after a r
      step None e f = ap (λ p. owed_if (is_charged p r) finding (sights_of before r.vid) r) (sym e)
      step (Some a) e f = ap (λ b. owed_if b finding (sights_of before r.vid) r) (ap (λ p. is_charged p r) (sym e))
          ∙ inner (is_charged (Some a.newest) r) refl
        where
          inner : (b : Bool) → is_charged (Some a.newest) r ≡ b → owed_if b finding (sights_of before r.vid) r
              ≡ (if b then record { vid = r.vid; xway = a.newest.xway; toll = a.toll } ∷ [] else [])
          inner false g = refl
          inner true g =
              charge_made (ap xway_of (sym e))
              (charged_told finding (sights_of before r.vid) r (ap (λ p. is_charged p r) (sym e) ∙ g)
              ∙ sym (last_is (sights_of before r.vid)) ∙ sym f)

  last_few : HasFewTolls finding → (own : List Sight) → toll_last finding own ≤ GREATEST_TOLL
  last_few few [] = omega arith
  last_few few (s ∷ older) = step (is_told (previous older) s.1) (last_few few older)
    where
      step : (b : Bool) → toll_last finding older ≤ GREATEST_TOLL →
          toll_if b (finding s) (toll_last finding older) ≤ GREATEST_TOLL
      step true h = few s
      step false h = h

-- before anything
pub accounts_none : (finding : Sight → StretchTold) (kept : ℕ → Option Account) → ((v : ℕ) → kept v ≡ None) →
    AreAccounts finding kept []
accounts_none finding kept none = record {
  newest = λ v. ap newest_of (none v);
  toll = λ v. ap toll_kept (none v);
  owed = λ v. ap owed_kept (none v);
}

-- accounts are small
pub accounts_small : (day : List Tuple) (tariffs : Tariffs) (kept : ℕ → Option Account) (before : List Tuple) →
    length before ≤ 16000000 → AreAccounts (rules day tariffs) kept before → (v : ℕ) →
    owed_kept (kept v) + toll_kept (kept v) < 2 ^ 64
accounts_small day tariffs kept before few are v =
    let a = balance_few (rules day tariffs) (rules_few day tariffs) v before in
    let b = last_few (rules day tariffs) (rules_few day tariffs) (sights_of before v) in
    omega (arith, a, b, are.owed v, are.toll v, few)
