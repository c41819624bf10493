-- the mark
use Rattle.std.proofs.Common.{◌≡◌, ℕ, zero, suc, ◌≤◌, ◌<◌, ⊎_elim, List, [], ◌∷◌, length, sym, arith, subst}
use Rattle.std.proofs.lemmas.Bool.{cases_eq}
use Rattle.road_time.specs.declared.day.Limits.{Limits}
use Rattle.ways_expressway.specs.declared.lane_event.LaneEvent.{LaneEvent}
use Rattle.ways_expressway.specs.Laws.{IsFrom}
use Rattle.day_floor.specs.Shares.{Share, State, events_ahead, ahead_of, least_with, least_of, mark}
use Rattle.day_floor.specs.Sound.{SoundState}
use Rattle.day_floor.specs.Laws.{IsMark}

-- a lower bound of positions may be less
pub from_less : (m n : ℕ) (es : List LaneEvent) → m ≤ n → IsFrom n es → IsFrom m es
from_less m n [] h f = tt
from_less m n (e ∷ es) h f = omega (arith, h, f)

with_le : (es : List LaneEvent) (n : ℕ) → (least_with es n ≤ n) × IsFrom (least_with es n) es
with_le [] n = (omega arith, tt)
with_le (e ∷ es) n = (omega arith, omega arith)

with_ge : (es : List LaneEvent) (n m : ℕ) → m ≤ n → IsFrom m es → m ≤ least_with es n
with_ge [] n m h f = h
with_ge (e ∷ es) n m h f = omega (arith, h, f)

-- the least is at most the number fed and each first position
least_le : (share : ℕ → Share) (fed k : ℕ) → (least_of share k fed ≤ fed)
    × ((w : ℕ) → w < k → IsFrom (least_of share k fed) (events_ahead (share w)))
least_le share fed zero = (omega arith, λ w h. absurd (omega (arith, h)))
least_le share fed (suc k) =
    let one = with_le (events_ahead (share k)) (least_of share k fed) in
    let more = least_le share fed k in (
      omega (arith, one.0, more.0),
      λ w h. ⊎_elim (λ e. subst (λ v. IsFrom (least_of share (suc k) fed) (events_ahead (share v))) (sym e) one.1)
          (λ e. from_less (least_of share (suc k) fed) (least_of share k fed) (events_ahead (share w)) one.0
          (more.1 w (below w h e))) (cases_eq w k),
    )
  where
    below : (w : ℕ) → w < suc k → (w ≡ k → ⊥) → w < k
    below w h ne = omega (arith, h, ne)

-- and the greatest such
least_ge : (share : ℕ → Share) (fed m k : ℕ) → m ≤ fed → ((w : ℕ) → w < k → IsFrom m (events_ahead (share w))) →
    m ≤ least_of share k fed
least_ge share fed m zero h f = h
least_ge share fed m (suc k) h f =
    with_ge (events_ahead (share k)) (least_of share k fed) m (least_ge share fed m k h (λ w l. f w (omega (arith, l))))
    (f k (omega arith))

pub is_mark : (width : ℕ) (s : State) → IsMark width s (mark width s)
is_mark width s = record {
  within = (least_le s.share (length s.fed) width).0;
  next = (least_le s.share (length s.fed) width).1;
  greatest = λ m h f. least_ge s.share (length s.fed) m width h f;
}

-- what is settled is at most the mark
pub settled_le : (width : ℕ) (limits : Limits) (s : State) → SoundState width limits s → s.settled ≤ mark width s
settled_le width limits s sound = (is_mark width s).greatest s.settled sound.settled sound.parts.next

-- where all is back, the mark is the number fed
pub all_back : (width : ℕ) (s : State) → ((w : ℕ) → w < width → ahead_of s w ≡ []) → mark width s ≡ length s.fed
all_back width s none =
    let low = (is_mark width s).within in
    let high =
    (is_mark width s).greatest (length s.fed) (omega arith)
    (λ w h. subst (IsFrom (length s.fed)) (sym (none w h)) tt) in
    omega (arith, low, high)
