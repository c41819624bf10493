-- findings given that are the rules' where something is told agree with them there
use Rattle.std.proofs.Common.{◌≡◌, ℕ, ◌==◌, Bool, true, false, List, [], ◌∷◌, ◌++◌, length, refl, sym, ap, ◌∙◌, Some}
use Rattle.std.specs.List.{AllByRecursion}
use Rattle.std.specs.Option.{unwrap_or}
use Rattle.std.specs.Map.{lookup}
use Rattle.std.proofs.lemmas.List.{append_assoc}
use Rattle.road_time.specs.declared.road.Tuple.{Tuple}
use Rattle.road_time.specs.declared.road.Tuple.TheVariants.{Report as ReportTuple, Balance, Spent, Travel}
use Rattle.road_time.specs.declared.road.Report.{Report}
use Rattle.road_time.specs.Rates.{Tariffs}
use Rattle.road_time.specs.Sights.{moments, moments_after, Sight, sights_of, previous}
use Rattle.road_time.specs.Stays.{is_told}
use Rattle.road_time.specs.Tolls.{StretchTold}
use Rattle.road_time.specs.Day.{rules, told_if, given, no_finding}
use Rattle.road_time.proofs.EachLaws.{some_is, no_some}
use Rattle.road_time.proofs.FindingLaws.{AgreeAt}

-- at each position of the first tuples that is told, the findings have that of the rules over the whole day
abbrev pub AreRules : List Tuple → Tariffs → List Tuple → List (ℕ × StretchTold) → Type 0
AreRules day tariffs first found =
    (before later : List Tuple) (r : Report) → first ≡ before ++ ReportTuple r ∷ later →
    is_told (previous (sights_of before r.vid)) r ≡ true →
    lookup (λ at. at == length before) found ≡ Some (rules day tariffs (length before, r))

module _ (day : List Tuple) (tariffs : Tariffs) (first : List Tuple) (found : List (ℕ × StretchTold))
    (are : AreRules day tariffs first found) where
  -- what is given for a report that is told, or not
  told_step : (before later : List Tuple) (r : Report) → first ≡ before ++ ReportTuple r ∷ later → (b : Bool) →
      is_told (previous (sights_of before r.vid)) r ≡ b →
      (s : Sight) → told_if b (length before, r) ≡ Some s → given found s ≡ rules day tariffs s
  told_step before later r parts true is s e =
      rw (← some_is (length before, r) s e) (ap (λ o. unwrap_or o no_finding) (are before later r parts is))
  told_step before later r parts false is s e = absurd (no_some s e)

  -- at each moment what is given agrees with the rules
  agree_at : (before later : List Tuple) (x : Tuple) → first ≡ before ++ x ∷ later →
      AgreeAt (given found) (rules day tariffs) (before, x)
  agree_at before later (ReportTuple r) parts s e =
      told_step before later r parts (is_told (previous (sights_of before r.vid)) r) refl s e
  agree_at before later (Balance time vid qid) parts s e = absurd (no_some s e)
  agree_at before later (Spent time vid xway qid of_day) parts s e = absurd (no_some s e)
  agree_at before later (Travel time) parts s e = absurd (no_some s e)

  -- and so at several
  agree_after : (before rest : List Tuple) → first ≡ before ++ rest →
      AllByRecursion (AgreeAt (given found) (rules day tariffs)) (moments_after before rest)
  agree_after before [] parts = tt
  agree_after before (x ∷ xs) parts =
      (agree_at before xs x parts, agree_after (before ++ x ∷ []) xs (parts ∙ sym (append_assoc before (x ∷ []) xs)))

  -- and at all moments of the first tuples
  pub agree : AllByRecursion (AgreeAt (given found) (rules day tariffs)) (moments first)
  agree = agree_after [] first refl
