-- What holds of every state of a floor, and what may be fed to it or come back.
use Rattle.std.specs.Prelude.{◌≡◌, ℕ, ◌+◌, ◌*◌, ◌≤◌, ◌<◌, ◌==◌, ◌&&◌, not, true, false, List, [], ◌∷◌, ◌++◌, length}
use Rattle.std.specs.Prelude.{map, Option, Some, None, IfSome, slice_get, if◌then◌else◌}
use Rattle.std.specs.List.{filter_map, AllByRecursion}
use Rattle.road_time.specs.declared.tariff.TheConstants.{GREATEST_TOLL}
use Rattle.road_time.specs.declared.road.Tuple.{Tuple}
use Rattle.road_time.specs.declared.road.Tuple.TheVariants.{Report as ReportTuple}
use Rattle.road_time.specs.declared.road.Report.{Report}
use Rattle.road_time.specs.declared.day.Limits.{Limits}
use Rattle.road_time.specs.Fits.{Fit}
use Rattle.road_time.specs.Sights.{sights_of, previous}
use Rattle.road_time.specs.Stays.{is_told}
use Rattle.road_time.specs.Rates.{Tariffs}
use Rattle.road_time.specs.Text.{is_lav}
use Rattle.road_time.specs.Tolls.{StretchTold}
use Rattle.ways_expressway.specs.declared.lane_event.LaneEvent.{LaneEvent}
use Rattle.ways_expressway.specs.declared.lane_event.LaneEvent.TheVariants.{Seen, Leave}
use Rattle.ways_expressway.specs.Findings.{found_at}
use Rattle.ways_expressway.specs.Laws.{AreBack, AreGiven, HaveTheirPositions}
use Rattle.day_floor.specs.Shares.{State, back_of, ahead_of, is_empty, waiting_at}

-- the position of an event, if it is a report that begins a stay outside lane 4
abbrev pub told_position : LaneEvent → Option ℕ
told_position (Seen position r begins stopped) = if begins && not (r.lane == 4) then Some position else None
told_position (Leave position time vid place) = None

-- the positions for which events find something
abbrev pub told_positions : List LaneEvent → List ℕ
told_positions es = filter_map told_position es

-- a finding that could be: its average is one that a notice may have, its toll at most the greatest, and its alert
-- none or a segment's
pub record CouldBe (f : ℕ × StretchTold) : Type 0 where
  pub lav : is_lav f.1.lav ≡ true
  pub toll : f.1.toll ≤ GREATEST_TOLL
  pub alert : IfSome f.1.alert (λ s. s ≤ 99)

-- each report of a day that is told has exactly one finding, which could be
abbrev pub HasOne : List Tuple → List (ℕ × StretchTold) → Type 0
HasOne day found =
    (before later : List Tuple) (r : Report) → day ≡ before ++ ReportTuple r ∷ later →
    is_told (previous (sights_of before r.vid)) r ≡ true →
    (f : StretchTold) × (found_at (length before) found ≡ (length before, f) ∷ []) × CouldBe (length before, f)

-- each finding is for a position that has none before it
abbrev pub AreFresh : List (ℕ × StretchTold) → List (ℕ × StretchTold) → Type 0
AreFresh found [] = Unit {0}
AreFresh found (f ∷ fs) = (found_at f.0 found ≡ []) × AreFresh (found ++ f ∷ []) fs

-- a report stands at a position of a day
abbrev pub ReportAt : List Tuple → ℕ → Type 0
ReportAt day position = (r : Report) × (slice_get day position ≡ Some (ReportTuple r))

-- a finding is for a report that was fed and is not settled
pub record IsAwaited (s : State) (f : ℕ × StretchTold) : Type 0 where
  pub low : s.settled ≤ f.0
  pub high : f.0 < length s.fed
  pub report : ReportAt s.fed f.0

-- a tuple may be fed: the day with it is one that the limits allow, and there is room
pub record CanFeed (limits : Limits) (s : State) (x : Tuple) : Type 0 where
  pub fit : Fit (s.fed ++ x ∷ []) limits
  pub room : length s.fed < s.settled + limits.backlog

-- findings may come back: a job of the worker is out, the number is its, and each report of it that is told has one
-- finding, in order, that could be
pub record CanBack (width : ℕ) (s : State) (worker number : ℕ) (findings : List (ℕ × StretchTold)) : Type 0 where
  pub within : worker < width
  pub out : is_empty (s.share worker).out ≡ false
  pub same : number ≡ (s.share worker).number
  pub shape : map (λ f. f.0) findings ≡ told_positions (s.share worker).out
  pub could : AllByRecursion CouldBe findings

-- what holds of every state that a floor comes to
pub record SoundState (width : ℕ) (limits : Limits) (s : State) : Type 0 where
  pub fit : Fit s.fed limits
  pub settled : s.settled ≤ length s.fed
  pub pending : length s.fed ≤ s.settled + limits.backlog
  pub parts : AreBack s.fed width s.settled (back_of s) (ahead_of s)
  pub positions : (tariffs : Tariffs) → HaveTheirPositions tariffs width (back_of s) s.found
  pub could : AllByRecursion CouldBe s.found
  pub jobs : s.given + waiting_at s.share width ≤ 2 * length s.fed
  pub numbers : (worker : ℕ) → worker < width → is_empty (s.share worker).out ≡ false →
      (s.share worker).number < s.given

-- the findings are those of the events that are back, under the tariffs
abbrev pub IsTrue : Tariffs → ℕ → State → Type 0
IsTrue tariffs width s = AreGiven tariffs width (back_of s) s.found
