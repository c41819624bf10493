-- a reader goes on
use Rattle.std.proofs.Common.{◌≡◌, ℕ, zero, suc, ◌+◌, ◌≤◌, Bool, true, false, List, [], ◌∷◌, ◌++◌, length, drop}
use Rattle.std.proofs.Common.{Option, Some, None, Result, Ok, refl, sym, ap, ◌∙◌, arith, subst, append_assoc}
use Rattle.std.proofs.Common.{append-nil, length-append}
use Rattle.std.proofs.lemmas.List.{take-append-drop}
use Rattle.road_time.specs.declared.road.Tuple.{Tuple}
use Rattle.road_time.specs.declared.day.Limits.{Limits}
use Rattle.road_time.specs.Reads.{reads}
use Rattle.day_reading.specs.declared.day_ahead.DayAhead.{DayAhead}
use Rattle.day_reading.specs.declared.whole_day.ReadStop.{ReadStop}
use Rattle.road_io.specs.Cutter.{held, ahead as cutter_ahead}
use Rattle.road_io.specs.declared.cutter.LineCutter.{LineCutter}
use Rattle.day_reading.specs.declared.day_ahead.Following.{Following}
use Rattle.day_reading.specs.declared.day_ahead.Following.TheVariants.{Waits, Ends, Stops}
use Rattle.day_reading.specs.declared.day_reader.DayReader.{DayReader}
use Rattle.day_reading.specs.Readings.{GivesTuple, HasReadOf}
use Rattle.day_reading.specs.Ahead.{answer_of, is_waiting, has_more, is_digested}
use Rattle.day_reading.specs.Ahead.{IsAhead, IsGatheringAhead, HasReadAhead}
use Rattle.day_reading.specs.Ahead.{GivesAhead, GathersAhead}
use Rattle.day_reading.proofs.AheadLaws.{ahead_front, ahead_fit}
use Rattle.ways_expressway.specs.Results.{AreFirst}
use Rattle.day_floor.specs.Shares.{State}
use Rattle.day_import.specs.RoundRuns.{CanFeedAll}
use Rattle.day_import.specs.Readers.{HasGatheredOn, HasReadOn, HasGiven}
use Rattle.day_import.specs.Watching.{both}

-- nothing was given
pub given_none : (limits : Limits) (late : ℕ) (d : DayAhead) (left : Option (List ℕ)) →
    HasGiven limits late [] d d left left
given_none limits late d left = record {
  gathers = λ given h. subst (IsGatheringAhead d limits late) (sym (append-nil given)) h;
  reads = λ bytes given h. subst (IsAhead d limits late left bytes) (sym (append-nil given)) h;
  digested = refl;
}

-- some, and then some more
pub given_more : (limits : Limits) (late : ℕ) (xs ys : List Tuple) (old mid new : DayAhead)
    (was between left : Option (List ℕ)) → HasGiven limits late xs old mid was between →
    HasGiven limits late ys mid new between left → HasGiven limits late (xs ++ ys) old new was left
given_more limits late xs ys old mid new was between left a b = record {
  gathers = λ given h. subst (IsGatheringAhead new limits late) (append_assoc given xs ys)
      (b.gathers (given ++ xs) (a.gathers given h));
  reads = λ bytes given h. subst (IsAhead new limits late left bytes) (append_assoc given xs ys)
      (b.reads bytes (given ++ xs) (a.reads bytes given h));
  digested = b.digested ∙ a.digested;
}

-- the answer of `next` gives one more, or none
abbrev pub one_of : Option Tuple → List Tuple
one_of None = []
one_of (Some x) = x ∷ []

pub given_one : (limits : Limits) (late : ℕ) (r : Result (Option Tuple) ReadStop) (o : Option Tuple)
    (old new : DayAhead) (was left : Option (List ℕ)) → r ≡ Ok o →
    ((given : List Tuple) → IsGatheringAhead old limits late given → GathersAhead r new limits late given) →
    ((bytes : List ℕ) (given : List Tuple) → IsAhead old limits late was bytes given →
    GivesAhead r new limits late left bytes given) → is_digested new ≡ is_digested old →
    HasGiven limits late (one_of o) old new was left
given_one limits late r (Some x) old new was left e gathers gives same = record {
  gathers = λ given h. subst (λ a. GathersAhead a new limits late given) e (gathers given h);
  reads = λ bytes given h. subst (λ a. GivesAhead a new limits late left bytes given) e (gives bytes given h);
  digested = same;
}
given_one limits late r None old new was left e gathers gives same = record {
  gathers = λ given h. subst (IsGatheringAhead new limits late) (sym (append-nil given))
      (subst (λ a. GathersAhead a new limits late given) e (gathers given h));
  reads = λ bytes given h. subst (IsAhead new limits late left bytes) (sym (append-nil given))
      (subst (λ a. GivesAhead a new limits late left bytes given) e (gives bytes given h));
  digested = same;
}

-- what was given is the first of the day that the bytes are
pub given_first : (limits : Limits) (late : ℕ) (d : DayAhead) (left : Option (List ℕ)) (bytes : List ℕ)
    (given : List Tuple) → IsAhead d limits late left bytes given → AreFirst given (reads bytes limits late).tuples
given_first limits late d left bytes given h =
    let day = (reads bytes limits late).tuples in (
      drop (length given) day,
      sym (take-append-drop (length given) day)
          ∙ ap (λ xs. xs ++ drop (length given) day) (sym (ahead_front d limits late left bytes given h)),
    )

-- what was given may be fed, where there is room
pub given_can : (limits : Limits) (late : ℕ) (s : State) (xs : List Tuple) (old new : DayAhead)
    (was left : Option (List ℕ)) (room : ℕ) → HasGiven limits late xs old new was left →
    IsGatheringAhead old limits late s.fed →
    length s.fed + room ≡ s.settled + limits.backlog → length xs ≤ room → CanFeedAll limits s xs
given_can limits late s xs old new was left room given gathers has few =
    record {
      fit = ahead_fit new limits late (s.fed ++ xs) (given.gathers s.fed gathers);
      room =
          omega (arith, has, few);
    }

-- where the reading of a day ended and no line is refused, nothing is left of the source
none_ahead : (c : LineCutter) (left : Option (List ℕ)) → cutter_ahead c left ≡ Some [] → left ≡ Some []
none_ahead c None h = cc
none_ahead c (Some xs) h = ap Some (no_more (held c) xs (some_is h))
  where
    some_is : Some (held c ++ xs) ≡ Some [] → held c ++ xs ≡ []
    some_is e = cc

    no_more : (a b : List ℕ) → a ++ b ≡ [] → b ≡ []
    no_more [] b e = e
    no_more (x ∷ a) b e = cc

left_by : (f : Following) (r : DayReader) (limits : Limits) (late : ℕ) (left : Option (List ℕ)) (bytes : List ℕ)
    (given : List Tuple) (lines : ℕ) → is_waiting f ≡ false → (reads bytes limits late).refused ≡ None →
    GivesTuple (answer_of f) r limits late left bytes given → HasReadOf r lines left bytes → left ≡ Some []
left_by (Waits x) r limits late left bytes given lines ended none h read = cc
left_by Ends r limits late left bytes given lines ended none h read =
    let rest = read.1.0 in
    let taken = h.3.1 in
    let count = rest.count in
    let parts = ap length rest.bytes_are ∙ length-append rest.taken rest.now in
    none_ahead r.cutter left (rest.ahead_is ∙ ap Some (no_bytes rest.now (omega (arith, taken, count, parts))))
  where
    no_bytes : (xs : List ℕ) → length xs ≡ 0 → xs ≡ []
    no_bytes [] e = refl
    no_bytes (x ∷ xs) e = absurd (omega (arith, e))
left_by (Stops line cause) r limits late left bytes given lines ended none h read =
    absurd (let some = h.1.1 in (let no : ⊥ = cc in no))

pub nothing_left : (d : DayAhead) (limits : Limits) (late : ℕ) (left : Option (List ℕ)) (bytes : List ℕ)
    (given : List Tuple) (lines : ℕ) → has_more d ≡ false → (reads bytes limits late).refused ≡ None →
    IsAhead d limits late left bytes given → HasReadAhead d lines left bytes → left ≡ Some []
nothing_left d limits late left bytes given lines ended none h read =
    left_by d.following d.reader limits late left bytes given lines ended none h read

-- two numbers are found in one
pub both_are : (a b c d : ℕ) → both a b ≡ both c d → (a ≡ c) × (b ≡ d)
both_are zero b zero d e = (refl, omega (arith, e))
both_are zero b (suc c) d e = absurd (omega (arith, e))
both_are (suc a) b zero d e = absurd (omega (arith, e))
both_are (suc a) b (suc c) d e =
    let (is, same) = both_are a b c d (omega (arith, e)) in (ap (λ n. suc n) is, same)

-- of a reader that was stopped nothing is said
pub read_stopped : (whole : Bool) (stop : ReadStop) (count : ℕ) (xs : List Tuple) (old new : DayAhead)
    (was left : Option (List ℕ)) → HasReadOn whole (Some stop) count xs old new was left
read_stopped whole stop count xs old new was left = record {
  given = λ e. absurd (let no : ⊥ = cc in no);
  few = λ e. absurd (let no : ⊥ = cc in no);
  full = λ w e. absurd (let no : ⊥ = cc in no);
  ended = λ e. absurd (let no : ⊥ = cc in no);
  unfailed = λ e. absurd (let no : ⊥ = cc in no);
}

-- some were read in place of none
pub read_first : (whole : Bool) (count : ℕ) (xs ys : List Tuple) (old new : DayAhead) (was left : Option (List ℕ)) →
    xs ≡ [] → HasGatheredOn whole count xs ys old new was left → HasReadOn whole None count ys old new was left
read_first whole count xs ys old new was left none h = record {
  given = λ e limits late. h.given limits late old was
      (subst (λ zs. HasGiven limits late zs old old was was) (sym none) (given_none limits late old was));
  few = λ e. h.few (let l = ap length none in omega (arith, l));
  full = λ w e less. h.full w less;
  ended = λ e gone. ((h.ended gone).0 ∙ none, (h.ended gone).1);
  unfailed = λ e. h.unfailed;
}

-- and the rest behind them
pub read_more : (count : ℕ) (xs ys : List Tuple) (first old new : DayAhead) (all was left : Option (List ℕ)) →
    HasReadOn false None count xs first old all was → HasGatheredOn true count xs ys old new was left →
    HasReadOn true None count ys first new all left
read_more count xs ys first old new all was left a b = record {
  given = λ e limits late. b.given limits late first all (a.given refl limits late);
  few = λ e. b.few (a.few refl);
  full = λ w e less. b.full refl less;
  ended = λ e gone. let rest = b.ended (a.ended refl gone).1 in (rest.0 ∙ (a.ended refl gone).0, rest.1);
  unfailed = λ e. b.unfailed;
}
