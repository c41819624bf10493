-- What holds of a reader that has read one tuple ahead.
use Rattle.std.proofs.Common.{◌≡◌, ◌≤◌, ◌<◌, ℕ, true, false, List, [], ◌∷◌, ◌++◌, length, take, drop, Option, Some, sym}
use Rattle.std.proofs.Common.{ap, ◌∙◌, append_assoc, arith}
use Rattle.std.proofs.lemmas.List.{length_push, take-append-drop}
use Rattle.std.proofs.Math.Seq.{take-append_seam}
use Rattle.road_time.specs.declared.road.Tuple.{Tuple}
use Rattle.road_time.specs.declared.day.Limits.{Limits}
use Rattle.road_time.specs.Fits.{Fit, IsDay, IsLimits}
use Rattle.road_time.specs.Reads.{reads}
use Rattle.road_time.proofs.AllowedLaws.{fit_left}
use Rattle.day_reading.specs.declared.day_ahead.DayAhead.{DayAhead}
use Rattle.day_reading.specs.declared.day_ahead.Following.{Following}
use Rattle.day_reading.specs.declared.day_ahead.Following.TheVariants.{Waits, Ends, Stops}
use Rattle.day_reading.specs.declared.day_reader.DayReader.{DayReader}
use Rattle.day_reading.specs.Days.{most_of_day}
use Rattle.day_reading.specs.Readings.{GivesTuple, GathersOn, IsFrontOf}
use Rattle.day_reading.specs.Ahead.{answer_of, is_waiting, has_more, IsAhead, IsGatheringAhead, HasReadAhead}
use Rattle.day_reading.proofs.BoundLaws.{day_within}
use Rattle.road_time.proofs.FitLaws.{day_of_fit}

gathers_fit : (f : Following) (r : DayReader) (limits : Limits) (late : ℕ) (given : List Tuple) →
    GathersOn (answer_of f) r limits late given → Fit given limits
gathers_fit (Waits x) r limits late given s = fit_left given (x ∷ []) limits s.fit
gathers_fit Ends r limits late given s = s.fit
gathers_fit (Stops line cause) r limits late given s = s.fit

-- what was given is allowed
pub ahead_fit : (d : DayAhead) (limits : Limits) (late : ℕ) (given : List Tuple) → IsGatheringAhead d limits late given
    → Fit given limits
ahead_fit d limits late given s = gathers_fit d.following d.reader limits late given s

-- and is a day
pub ahead_day : (d : DayAhead) (limits : Limits) (late : ℕ) (given : List Tuple) → IsLimits limits →
    IsGatheringAhead d limits late given → IsDay given
ahead_day d limits late given l s = day_of_fit given limits l (ahead_fit d limits late given s)

-- where a tuple waits, what was given is less than the limit
gathers_less : (f : Following) (r : DayReader) (limits : Limits) (late : ℕ) (given : List Tuple) → is_waiting f ≡ true →
    GathersOn (answer_of f) r limits late given → length given < limits.lines
gathers_less (Waits x) r limits late given w s = omega (arith, s.fit.lines, length_push given x)
gathers_less Ends r limits late given w s = let bad : ⊥ = cc in absurd bad
gathers_less (Stops line cause) r limits late given w s = let bad : ⊥ = cc in absurd bad

pub ahead_less : (d : DayAhead) (limits : Limits) (late : ℕ) (given : List Tuple) → has_more d ≡ true →
    IsGatheringAhead d limits late given → length given < limits.lines
ahead_less d limits late given more s = gathers_less d.following d.reader limits late given more s

-- the front of a front
front_less : (given day : List Tuple) (x : Tuple) → IsFrontOf (given ++ x ∷ []) day → IsFrontOf given day
front_less given day x f =
    let n = length given in
    let k = length (given ++ x ∷ []) in
    let rest = drop k day in
    let e : given ++ x ∷ [] ≡ take k day = f in
    sym (take-append_seam given (x ∷ [] ++ rest))
    ∙ ap (take n) (sym (append_assoc given (x ∷ []) rest) ∙ ap (λ ys. ys ++ rest) e ∙ take-append-drop k day)

gives_front : (f : Following) (r : DayReader) (limits : Limits) (late : ℕ) (left : Option (List ℕ)) (bytes : List ℕ)
    (given : List Tuple) → GivesTuple (answer_of f) r limits late left bytes given →
    IsFrontOf given (reads bytes limits late).tuples
gives_front (Waits x) r limits late left bytes given s = front_less given (reads bytes limits late).tuples x s.front
gives_front Ends r limits late left bytes given s = s.0.front
gives_front (Stops line cause) r limits late left bytes given s = s.2.front

-- what was given is a front of the day
pub ahead_front : (d : DayAhead) (limits : Limits) (late : ℕ) (left : Option (List ℕ)) (bytes : List ℕ)
    (given : List Tuple) → IsAhead d limits late left bytes given → IsFrontOf given (reads bytes limits late).tuples
ahead_front d limits late left bytes given s = gives_front d.following d.reader limits late left bytes given s

gives_all : (f : Following) (r : DayReader) (limits : Limits) (late : ℕ) (left : Option (List ℕ)) (bytes : List ℕ)
    (given : List Tuple) → is_waiting f ≡ false → GivesTuple (answer_of f) r limits late left bytes given →
    given ≡ (reads bytes limits late).tuples
gives_all (Waits x) r limits late left bytes given w s = let bad : ⊥ = cc in absurd bad
gives_all Ends r limits late left bytes given w s = s.1
gives_all (Stops line cause) r limits late left bytes given w s = s.0

-- where no tuple is left, the whole day was given
pub ahead_all : (d : DayAhead) (limits : Limits) (late : ℕ) (left : Option (List ℕ)) (bytes : List ℕ)
    (given : List Tuple) → has_more d ≡ false → IsAhead d limits late left bytes given →
    given ≡ (reads bytes limits late).tuples
ahead_all d limits late left bytes given none s = gives_all d.following d.reader limits late left bytes given none s

-- a reader reads a day no further than its line limit and one buffer
pub ahead_within : (d : DayAhead) (limits : Limits) (left : Option (List ℕ)) (bytes : List ℕ) →
    HasReadAhead d limits.lines left bytes → (count : ℕ) × (count ≤ most_of_day limits)
    × (left ≡ Some (drop count bytes))
ahead_within d limits left bytes s = day_within d.reader limits left bytes s
