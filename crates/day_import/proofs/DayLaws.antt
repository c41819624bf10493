-- a day in the midst of its import goes on
use Rattle.std.proofs.Common.{◌≡◌, ℕ, ◌+◌, ◌-◌, ◌<◌, ◌≤◌, Bool, List, [], ◌++◌, length, sym, arith, subst}
use Rattle.std.specs.Prelude.{Option}
use Rattle.std.proofs.KnownBytes.{Appends-nil}
use Rattle.road_time.specs.declared.road.Tuple.{Tuple}
use Rattle.road_time.specs.declared.day.Limits.{Limits}
use Rattle.day_floor.specs.Operations.{Posted}
use Rattle.day_reading.specs.declared.day_ahead.DayAhead.{DayAhead}
use Rattle.day_reading.specs.Ahead.{IsGatheringAhead}
use Rattle.ways_expressway.specs.declared.job.Job.{Job}
use Rattle.ways_crews.specs.Told.{CrewTold}
use Rattle.day_floor.specs.Shares.{State, start}
use Rattle.day_floor.specs.Floors.{Setting}
use Rattle.day_import.specs.declared.begun.Import.{Import}
use Rattle.day_import.specs.declared.fault.DayFault.{DayFault}
use Rattle.day_import.specs.Fronts.{HasText}
use Rattle.day_import.specs.Published.{HasStepped}
use Rattle.day_import.specs.Readers.{HasGiven}
use Rattle.day_import.specs.Halts.{IsHalted, IsCutDay}
use Rattle.day_import.specs.Days.{IsOn}
use Rattle.day_reading.proofs.AheadLaws.{ahead_fit}
use Rattle.day_import.specs.RoundRuns.{CanFeedAll}
use Rattle.day_import.proofs.PublishLaws.{stepped_start, steps_under}
use Rattle.day_import.proofs.ReaderLaws.{given_none, given_more}

-- nothing was given, written and published
pub on_start : (limits : Limits) (late : ℕ) (e : Setting) (d : DayAhead) (left old : Option (List ℕ))
    (posted : Option Posted) → IsOn limits late e d d left left old old posted posted start
on_start limits late e d left old posted =
    record {
      given = given_none limits late d left;
      text = λ kept known. Appends-nil old;
      steps =
          stepped_start limits.backlog posted;
    }

-- some tuples more were fed, and what could be is settled
pub on_next : (limits l : Limits) (same : l ≡ limits) (late : ℕ) (e : Setting) (a b d : DayAhead)
    (was mid left o p q : Option (List ℕ)) (x y z : Option Posted) (s now : State) (xs : List Tuple) →
    IsOn limits late e a b was mid o p x y s → HasGiven l late xs b d mid left → now.fed ≡ s.fed ++ xs →
    ((first : Option (List ℕ)) → HasText e s first p → HasText e now first q) →
    ((before : Option Posted) → HasStepped l.backlog s before y → HasStepped l.backlog now before z) →
    IsOn limits late e a d was left o q x z now
on_next limits l same late e a b d was mid left o p q x y z s now xs on given fed text steps = record {
  given = subst (λ ts. HasGiven limits late ts a d was left) (sym fed)
      (given_more limits late s.fed xs a b d was mid left on.given
      (subst (λ m. HasGiven m late xs b d mid left) same given));
  text = text o on.text;
  steps = steps_under l limits same s now y z steps x on.steps;
}

-- so the reader gathers what was fed
pub on_gathers : (limits l : Limits) (same : l ≡ limits) (late : ℕ) (e : Setting) (a b : DayAhead)
    (was mid o p : Option (List ℕ)) (x y : Option Posted) (s : State) → IsOn limits late e a b was mid o p x y s →
    IsGatheringAhead a limits late [] → IsGatheringAhead b l late s.fed
on_gathers limits l same late e a b was mid o p x y s on h =
    subst (λ m. IsGatheringAhead b m late s.fed) (sym same) (on.given.gathers [] h)

module _ {S T : Type 0} (out : S → List ℕ) (number : T → ℕ) (holds : S → ℕ → Job → Type 0) (gave : S → T → Type 0)
    (exact : Bool) (jobs : S → Option CrewTold) where
  -- a day that is stopped in its midst
  pub cut_at : (fault : DayFault) (e : Setting) (told : Option CrewTold) (w width : ℕ) (l limits : Limits) → w ≡ width →
      l ≡ limits → (late : ℕ) (s : State) (given : List Tuple) (a b : DayAhead) (was mid o p q : Option (List ℕ))
      (x y z : Option Posted) (run : Import T) (crew : S) →
      HasGiven limits late given a b was mid → HasText e s o p → HasStepped limits.backlog s x y →
      IsHalted out number holds gave exact jobs fault e told w l late s given b mid p q y z run crew →
      IsCutDay out number holds gave exact jobs fault e told width limits late a was o q x z run crew
  cut_at fault e told w width l limits wide same late s given a b was mid o p q x y z run crew gave_all text steps
      halted =
      let h = subst
      (λ n. IsHalted out number holds gave exact jobs fault e told n limits late s given b mid p q y z run crew)
      wide
      (subst (λ m. IsHalted out number holds gave exact jobs fault e told w m late s given b mid p q y z run crew) same
      halted) in
      record {
        fed = h.fed;
        fit = h.fit;
        read = λ bytes ahead. h.read bytes (gave_all.reads bytes [] ahead);
        stopped = h.stopped;
        front = λ is. h.front is o text;
        steps = λ is. h.steps is x steps;
      }

-- tuples that were given and are not fed yet may be fed, where all that was fed is settled
pub next_can : (limits l : Limits) → l ≡ limits →
    (late : ℕ) (s : State) (xs : List Tuple) (a b : DayAhead) (was left : Option (List ℕ)) →
    HasGiven limits late (s.fed ++ xs) a b was left → IsGatheringAhead a limits late [] →
    s.settled ≡ length s.fed → length xs ≤ limits.backlog → CanFeedAll l s xs
next_can limits l same late s xs a b was left given gathers all few =
    subst (λ m. CanFeedAll m s xs) (sym same)
    (record {
      fit = ahead_fit b limits late (s.fed ++ xs) (given.gathers [] gathers);
      room =
          omega (arith, all, few);
    })

-- a day has fewer tuples left to read
pub fewer_left : (lines before now some : ℕ) → now ≡ before + some → 1 ≤ some → now ≤ lines →
    lines - now < lines - before
fewer_left lines before now some is more few = omega (arith, is, more, few)
