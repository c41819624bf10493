-- some tuples are fed, one after another
use Rattle.std.proofs.Common.{◌≡◌, ℕ, ◌+◌, ◌<◌, ◌≤◌, List, [], ◌∷◌, ◌++◌, length, take, drop, refl, sym, ap, ◌∙◌, arith}
use Rattle.std.proofs.Common.{subst, append_assoc, append-nil, length-append}
use Rattle.std.specs.Prelude.{slice_index_or}
use Rattle.std.proofs.lemmas.List.{take_more, take-append-drop, length-take-le}
use Rattle.road_time.specs.declared.day.Limits.{Limits}
use Rattle.road_time.specs.declared.road.Tuple.{Tuple}
use Rattle.road_time.specs.declared.road.Tuple.TheVariants.{Report as ReportTuple}
use Rattle.road_time.specs.Fits.{Fit}
use Rattle.road_time.specs.Rates.{Tariffs}
use Rattle.road_time.proofs.AllowedLaws.{fit_left}
use Rattle.day_floor.specs.Shares.{State}
use Rattle.day_floor.specs.Steps.{after_feed}
use Rattle.day_floor.specs.Sound.{CanFeed, IsTrue}
use Rattle.example_day.specs.Turns.{after_fed}

-- the tuple that stands where there is none
abbrev pub no_tuple : Tuple
no_tuple = ReportTuple (record { time = 0; vid = 0; spd = 0; xway = 0; lane = 0; dir = 0; seg = 0; pos = 0 })

-- where nothing was fed
pub start_room : (n backlog : ℕ) → n ≤ backlog → 0 + n ≤ 0 + backlog
start_room n backlog h = omega (arith, h)

module _ (width : ℕ) where
  -- one tuple more, after some
  pub fed_push : (s : State) (xs : List Tuple) (x : Tuple) →
      after_fed width s (xs ++ x ∷ []) ≡ after_feed width (after_fed width s xs) x
  fed_push s [] x = refl
  fed_push s (y ∷ xs) x = fed_push (after_feed width s y) xs x

  -- what was fed and settled
  pub fed_are : (s : State) (xs : List Tuple) → (after_fed width s xs).fed ≡ s.fed ++ xs
  fed_are s [] = sym (append-nil s.fed)
  fed_are s (x ∷ xs) = fed_are (after_feed width s x) xs ∙ append_assoc s.fed (x ∷ []) xs

  pub fed_settled : (s : State) (xs : List Tuple) → (after_fed width s xs).settled ≡ s.settled
  fed_settled s [] = refl
  fed_settled s (x ∷ xs) = fed_settled (after_feed width s x) xs

  -- no job is out that was not before
  pub fed_out : (s : State) (xs : List Tuple) (w : ℕ) → ((after_fed width s xs).share w).out ≡ (s.share w).out
  fed_out s [] w = refl
  fed_out s (x ∷ xs) w = fed_out (after_feed width s x) xs w

  -- findings stay true
  pub fed_true : (tariffs : Tariffs) (of : ℕ) (s : State) (xs : List Tuple) → IsTrue tariffs of s →
      IsTrue tariffs of (after_fed width s xs)
  fed_true tariffs of s [] h = h
  fed_true tariffs of s (x ∷ xs) h = fed_true tariffs of (after_feed width s x) xs h

  -- the next one may be fed after the first ones
  pub can_next : (limits : Limits) (s : State) (xs : List Tuple) (i : ℕ) (d : Tuple) → Fit (s.fed ++ xs) limits →
      length s.fed + length xs ≤ s.settled + limits.backlog → i < length xs →
      CanFeed limits (after_fed width s (take i xs)) (slice_index_or xs i d)
  can_next limits s xs i d fit room h =
      let x = slice_index_or xs i d in
      let first = take i xs in
      let whole : s.fed ++ xs ≡ ((after_fed width s first).fed ++ x ∷ []) ++ drop (i + 1) xs =
      ap (λ ys. s.fed ++ ys) (sym (take-append-drop (i + 1) xs) ∙ ap (λ ys. ys ++ drop (i + 1) xs) (take_more xs i d h))
      ∙
      (sym (append_assoc s.fed (first ++ x ∷ []) (drop (i + 1) xs))
      ∙ ap (λ ys. ys ++ drop (i + 1) xs)
      (sym (append_assoc s.fed first (x ∷ [])) ∙ ap (λ ys. ys ++ x ∷ []) (sym (fed_are s first)))) in
      let long : length (after_fed width s first).fed ≡ length s.fed + length first = ap length (fed_are s first)
      ∙ length-append s.fed first in
      let few : length first ≡ i = length-take-le i xs (omega (arith, h)) in
      let same = fed_settled s first in
      record {
        fit = fit_left ((after_fed width s first).fed ++ x ∷ []) (drop (i + 1) xs) limits
            (subst (λ d. Fit d limits) whole fit);
        room = omega (arith, h, room, long, few, same);
      }
