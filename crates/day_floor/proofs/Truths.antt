-- the findings up to the mark
use Rattle.std.proofs.Common.{◌≡◌, ℕ, ◌≤◌, ◌<◌, ◌==◌, [], ◌++◌, length, take, drop, refl, sym, ap, ◌∙◌, arith, subst}
use Rattle.std.specs.List.{AllByRecursion}
use Rattle.std.proofs.lemmas.List.{take-append-drop, length-take-le}
use Rattle.road_time.specs.declared.day.Limits.{Limits}
use Rattle.road_time.specs.Rates.{Tariffs}
use Rattle.road_time.specs.Sights.{moments}
use Rattle.road_time.specs.Day.{rules, charges_between, given, merged, notices, charges, charges_by}
use Rattle.road_time.proofs.EachLaws.{kept}
use Rattle.road_time.proofs.SightLaws.{moments_first}
use Rattle.road_time.proofs.DayLaws.{prefix_at}
use Rattle.ways_expressway.specs.Findings.{findings}
use Rattle.ways_expressway.specs.Laws.{AreBack}
use Rattle.ways_expressway.proofs.SettleLaws.{one_given, settled, settled_charges, settled_between}
use Rattle.day_floor.specs.Shares.{State, start, events_ahead, back_of, ahead_of, mark}
use Rattle.day_floor.specs.Steps.{given_out, after_give, after_back}
use Rattle.day_floor.specs.Sound.{HasOne, CouldBe, SoundState, IsTrue}
use Rattle.day_floor.proofs.Workers.{for_worker}
use Rattle.day_floor.proofs.Givens.{given_same, true_then}
use Rattle.day_floor.proofs.Marks.{is_mark, from_less}
use Rattle.day_floor.proofs.Sound.{nothing_found}

module _ (width : ℕ) (limits : Limits) (s : State) (some : 1 ≤ width) (sound : SoundState width limits s) (n : ℕ)
    (low : n ≤ mark width s) where
  -- no event that is not back is of a position below the mark
  pub back_to : AreBack s.fed width n (back_of s) (ahead_of s)
  back_to =
      record {
        whole = sound.parts.whole;
        next =
            λ w k. from_less n (mark width s) (events_ahead (s.share w)) low ((is_mark width s).next w k);
      }

  parts : take n s.fed ++ drop n s.fed ≡ s.fed
  parts = take-append-drop n s.fed

  long : length (take n s.fed) ≡ n
  long = length-take-le n s.fed (let is = (is_mark width s).within in omega (arith, low, is))

  -- each report before it that is told has one finding, which could be
  pub one_finding : HasOne (take n s.fed) s.found
  one_finding before later r split told =
      let one = one_given (take n s.fed) (drop n s.fed) (rw parts sound.fit.in_order) [] width some n long (back_of s)
      (ahead_of s) (rw parts back_to) s.found (sound.positions []) before later r split told in (
        one.0,
        one.1,
        (subst (AllByRecursion CouldBe) one.1 (kept CouldBe (λ f. f.0 == length before) s.found sound.could)).0,
      )

  module _ (tariffs : Tariffs) (are : IsTrue tariffs width s) where
    -- true findings make the notices of the rules
    pub exact_notices : (number : ℕ) (paid : ℕ → ℕ → ℕ → ℕ) →
        merged (take n s.fed) s.found number paid ≡ notices (take n s.fed) tariffs number paid
    exact_notices number paid =
        settled (take n s.fed) (drop n s.fed) (rw parts sound.fit.in_order) tariffs width some n long (back_of s)
        (ahead_of s) (rw parts back_to) s.found are number paid

    -- and their charges
    pub exact_charges : charges_by (given s.found) (moments (take n s.fed)) ≡ charges (take n s.fed) tariffs
        (moments (take n s.fed))
    exact_charges =
        settled_charges (take n s.fed) (drop n s.fed) (rw parts sound.fit.in_order) tariffs width some n long
        (back_of s) (ahead_of s) (rw parts back_to) s.found are
        ∙ ap (charges (take n s.fed ++ drop n s.fed) tariffs) (sym (moments_first (take n s.fed) (drop n s.fed)))
        ∙ (prefix_at (take n s.fed) (drop n s.fed) (rw parts sound.fit.in_order) tariffs 0 (λ a b c. 0)).1

    -- and those between positions up to it
    pub exact_between : (a b : ℕ) → b ≤ n →
        charges_between (given s.found) s.fed a b ≡ charges_between (rules s.fed tariffs) s.fed a b
    exact_between a b h =
        rw parts at
        (settled_between (take n s.fed) (drop n s.fed) (rw parts sound.fit.in_order) tariffs width some n long
        (back_of s) (ahead_of s) (rw parts back_to) s.found are a b h)

pub true_start : (tariffs : Tariffs) (width : ℕ) → IsTrue tariffs width start
true_start tariffs width p = sym (nothing_found tariffs p 0 width)

pub true_give : (tariffs : Tariffs) (width : ℕ) (s : State) (worker : ℕ) → IsTrue tariffs width s →
    IsTrue tariffs width (after_give s worker)
true_give tariffs width s worker are =
    given_same tariffs width (back_of s) (back_of (after_give s worker)) s.found
    (λ w. for_worker (λ sh. sh.back ≡ (s.share w).back) worker w (given_out s.given) s.share (λ e. refl) refl) are

pub true_back : (tariffs : Tariffs) (width : ℕ) (limits : Limits) (s : State) (worker : ℕ) → SoundState width limits s →
    worker < width → IsTrue tariffs width s →
    IsTrue tariffs width (after_back s worker (findings (s.share worker).back (s.share worker).out tariffs))
true_back tariffs width limits s worker sound within are = true_then tariffs width limits s sound worker within are
