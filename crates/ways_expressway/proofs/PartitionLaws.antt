-- the findings of all workers make the rules' notices
use Rattle.std.proofs.Common.{◌≡◌, ℕ, zero, suc, ◌+◌, ◌*◌, ◌≤◌, ◌<◌, ◌==◌, ⊎_elim, Bool, true, false, cond, List, []}
use Rattle.std.proofs.Common.{◌∷◌, ◌++◌, length, refl, ap, ◌∙◌, arith, Option, Some}
use Rattle.std.specs.List.{flat_map, range_with_len}
use Rattle.std.specs.Map.{lookup}
use Rattle.std.proofs.lemmas.List.Elements.{filter-append}
use Rattle.std.proofs.lemmas.Nat.{mod_below}
use Rattle.std.proofs.lemmas.Bool.{cases_eq, ne_eqb}
use Rattle.road_time.specs.declared.road.Tuple.{Tuple}
use Rattle.road_time.specs.declared.road.Tuple.TheVariants.{Report as ReportTuple}
use Rattle.road_time.specs.declared.road.Report.{Report}
use Rattle.road_time.specs.Order.{AreTimesInOrder}
use Rattle.road_time.specs.Ways.{way_of, worker_for}
use Rattle.road_time.specs.Tuples.{stretch_of}
use Rattle.road_time.specs.Rates.{Tariffs}
use Rattle.road_time.specs.Sights.{sights_of, previous}
use Rattle.road_time.specs.Stays.{is_told}
use Rattle.road_time.specs.Tolls.{StretchTold}
use Rattle.road_time.specs.Day.{rules, given, notices, merged}
use Rattle.road_time.proofs.FindingLaws.{notices_same}
use Rattle.ways_expressway.specs.Events.{events_for}
use Rattle.ways_expressway.specs.Findings.{findings, found_at}
use Rattle.ways_expressway.specs.Laws.{all_findings}
use Rattle.ways_expressway.proofs.FindingLaws.{one_at, none_at}
use Rattle.ways_expressway.proofs.MergeLaws.{AreRules, agree}

-- equal lists begin alike
same_head : {X : Type 0} (x y : X) (xs ys : List X) → x ∷ xs ≡ y ∷ ys → x ≡ y
same_head x y xs ys h = cc

-- the first finding at a position, by whether it is the next
first_step : (b : Bool) (f g : ℕ × StretchTold) (fs : List (ℕ × StretchTold)) (rest : Option StretchTold) →
    (fs ≡ f ∷ [] → rest ≡ Some f.1) → cond b (g ∷ fs) fs ≡ f ∷ [] → cond b (Some g.1) rest ≡ Some f.1
first_step true f g fs rest h e = ap (λ x. Some x.1) (same_head g f fs [] e)
first_step false f g fs rest h e = h e

-- the one finding at a position is the one given for it
pub first_is : (n : ℕ) (v : StretchTold) (fs : List (ℕ × StretchTold)) → found_at n fs ≡ (n, v) ∷ [] →
    lookup (λ at. at == n) fs ≡ Some v
first_is n v [] h = cc
first_is n v (g ∷ fs) h = first_step (g.0 == n) (n, v) g (found_at n fs) (lookup (λ at. at == n) fs) (first_is n v fs) h

module _ (day : List Tuple) (order : AreTimesInOrder day) (tariffs : Tariffs) (width : ℕ) (some : 1 ≤ width) where
  -- what a worker finds
  abbrev of_worker : ℕ → List (ℕ × StretchTold)
  of_worker worker = findings [] (events_for day worker width) tariffs

  module _ (before later : List Tuple) (r : Report) (parts : day ≡ before ++ ReportTuple r ∷ later)
      (told : is_told (previous (sights_of before r.vid)) r ≡ true) where
    -- the worker of a report that is told
    abbrev its : ℕ
    its = worker_for (way_of (stretch_of r)) width

    -- another worker finds nothing at its position
    other_worker : (worker : ℕ) → (its ≡ worker → ⊥) → found_at (length before) (of_worker worker) ≡ []
    other_worker worker h = none_at day order tariffs worker width before later r parts (ne_eqb its worker h)

    -- the findings of one worker more
    more_workers : (worker n : ℕ) → found_at (length before) (flat_map of_worker (range_with_len worker (suc n)))
        ≡ found_at (length before) (of_worker worker) ++ found_at (length before)
        (flat_map of_worker (range_with_len (worker + 1) n))
    more_workers worker n =
        filter-append (λ f. f.0 == length before) (of_worker worker)
        (flat_map of_worker (range_with_len (worker + 1) n))

    -- workers after its own find nothing there
    none_from : (worker n : ℕ) → its < worker → found_at (length before) (flat_map of_worker (range_with_len worker n))
        ≡ []
    none_from worker zero h = refl
    none_from worker (suc n) h =
        more_workers worker n
        ∙ ap (λ fs. fs ++ found_at (length before) (flat_map of_worker (range_with_len (worker + 1) n)))
        (other_worker worker (λ e. absurd (omega (arith, h, e)))) ∙ none_from (worker + 1) n (omega (arith, h))

    -- those from one before its own on find one
    one_from : (worker n : ℕ) → worker ≤ its → its < worker + n →
        found_at (length before) (flat_map of_worker (range_with_len worker n))
        ≡ (length before, rules day tariffs (length before, r)) ∷ []
    one_from worker zero h g = absurd (omega (arith, h, g))
    one_from worker (suc n) h g =
        more_workers worker n
        ∙ ⊎_elim
        (λ e. ap (λ fs. fs ++ found_at (length before) (flat_map of_worker (range_with_len (worker + 1) n)))
        (one_at day order tariffs worker width before later r parts e told)
        ∙ ap (λ fs. (length before, rules day tariffs (length before, r)) ∷ fs)
        (none_from (worker + 1) n (omega (arith, e))))
        (λ e. ap (λ fs. fs ++ found_at (length before) (flat_map of_worker (range_with_len (worker + 1) n)))
        (other_worker worker e)
        ∙ one_from (worker + 1) n (below worker its h e) (omega (arith, g)))
        (cases_eq its worker)
      where
        below : (a b : ℕ) → a ≤ b → (b ≡ a → ⊥) → a + 1 ≤ b
        below a b l ne = omega (arith, l, ne)

    -- among the findings of all workers
    pub found_one : found_at (length before) (all_findings day tariffs width)
        ≡ (length before, rules day tariffs (length before, r)) ∷ []
    found_one = one_from 0 width (omega arith) (omega (arith, mod_below (2 * r.xway + r.dir) width some))

  -- what all workers find is what the rules find
  all_rules : AreRules day tariffs day (all_findings day tariffs width)
  all_rules before later r parts told =
      first_is (length before) (rules day tariffs (length before, r)) (all_findings day tariffs width)
      (found_one before later r parts told)

  -- and makes the notices of the rules
  pub merge_all : (number : ℕ) (kept : ℕ → ℕ → ℕ → ℕ) →
      merged day (all_findings day tariffs width) number kept ≡ notices day tariffs number kept
  merge_all number kept =
      notices_same (given (all_findings day tariffs width)) (rules day tariffs) number kept day
      (agree day tariffs day (all_findings day tariffs width) all_rules)
