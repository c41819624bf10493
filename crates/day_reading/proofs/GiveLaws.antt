-- A tuple more that is given, and the end of them.
use Rattle.std.proofs.Common.{◌≡◌, ℕ, ◌+◌, ◌≤◌, true, false, List, [], ◌∷◌, ◌++◌, length, take, slice_get, Option, Some}
use Rattle.std.proofs.Common.{refl, sym, ap, subst, ◌∙◌, arith, Bool}
use Rattle.std.proofs.lemmas.List.{length_push, take_all, take_more, length-take}
use Rattle.std.proofs.lemmas.Option.{slice_get_within, get_or_from_slice_get}
use Rattle.road_time.specs.declared.road.Tuple.{Tuple}
use Rattle.road_time.specs.declared.day.Limits.{Limits}
use Rattle.road_time.specs.Lines.{lines_of}
use Rattle.road_time.specs.Order.{by_time}
use Rattle.road_time.specs.Reads.{accepts, accepts_after, reads, tuples_of}
use Rattle.road_time.proofs.ReadLaws.{reads_fit}
use Rattle.road_time.proofs.OrderLaws.{by_time_length}
use Rattle.tuples_text.specs.Gates.{GateState}
use Rattle.tuples_text.specs.Sorting.{Sorting, IsSorting}
use Rattle.day_reading.specs.declared.consumed.Consumed.{Consumed}
use Rattle.day_reading.specs.declared.ending.Ending.{Ending}
use Rattle.day_reading.specs.declared.ending.Ending.TheVariants.{Whole, Stopped}
use Rattle.day_reading.specs.declared.ending.ReadEnd.TheVariants.{Refused, ReadFault, NoMemory}
use Rattle.day_reading.specs.Readings.{ReadsOn, IsFrontOf, StandsAt, IsGivingOut}
use Rattle.day_reading.proofs.FrontLaws.{kept_in_front}

-- one more of a list's first
pub take_next : {X : Type 0} (n : ℕ) (xs : List X) (x : X) → slice_get xs n ≡ Some x →
    take (n + 1) xs ≡ take n xs ++ x ∷ []
take_next n xs x e = take_more xs n x (slice_get_within xs n x e)
    ∙ ap (λ y. take n xs ++ y ∷ []) (get_or_from_slice_get xs n x x e)

-- a front of a list is no longer than it
front_short : {X : Type 0} (given day : List X) → given ≡ take (length given) day → length given ≤ length day
front_short given day e = omega (arith, ap length e, length-take (length given) day)

module _ (limits : Limits) (late : ℕ) (bytes : List ℕ) (given : List Tuple) (x : Tuple) where
  -- while lines are read on
  pub give_on : (front : Option (List ℕ)) (number : ℕ) (consumed : Consumed) (gate : GateState)
      (sorter sorter' : Sorting) → IsFrontOf given (reads bytes limits late).tuples
      → (s : ReadsOn front number consumed gate sorter limits late bytes given) →
      slice_get (by_time (tuples_of s.before)) (length given) ≡ Some x →
      IsSorting sorter' late (tuples_of s.before) (length given + 1) false
      → IsFrontOf (given ++ x ∷ []) (reads bytes limits late).tuples
      × ReadsOn front number consumed gate sorter' limits late bytes (given ++ x ∷ [])
  give_on front number consumed gate sorter sorter' old s at next =
      let n = length given in
      let put = tuples_of s.before in
      let size = length_push given x in
      let all : (reads bytes limits late).tuples ≡ by_time
      (accepts_after limits late s.before (lines_of s.now)).tuples = ap (λ r. by_time r.tuples) s.accepted in
      let first : given ≡ take n (by_time put) = old ∙ ap (take n) all
      ∙ kept_in_front limits late n s.before (lines_of s.now) (s.sorter_is.given refl) s.sorter_is.few in
      let more : take (n + 1) (reads bytes limits late).tuples ≡ given ++ x ∷ [] =
      ap (take (n + 1)) all ∙ kept_in_front limits late (n + 1) s.before (lines_of s.now) (next.given refl) next.few
      ∙ take_next n (by_time put) x at ∙ ap (λ ys. ys ++ x ∷ []) (sym first) in (
        sym more ∙ ap (λ k. take k (reads bytes limits late).tuples) (sym size),
        record {
          before = s.before;
          taken = s.taken;
          now = s.now;
          ahead_is = s.ahead_is;
          bytes_are = s.bytes_are;
          has_taken = s.has_taken;
          accepted = s.accepted;
          lines_are = s.lines_are;
          number_is = s.number_is;
          gate_is = s.gate_is;
          sorter_is = subst (λ k. IsSorting sorter' late put k false) (sym size) next;
        },
      )

  front_out : IsFrontOf given (reads bytes limits late).tuples →
      slice_get (reads bytes limits late).tuples (length given) ≡ Some x →
      IsFrontOf (given ++ x ∷ []) (reads bytes limits late).tuples
  front_out old at =
      let n = length given in
      ap (λ ys. ys ++ x ∷ []) old ∙ sym (take_next n (reads bytes limits late).tuples x at)
      ∙ ap (λ k. take k (reads bytes limits late).tuples) (sym (length_push given x))

  -- where lines are read no more
  pub give_out : (end : Ending) (front : Option (List ℕ)) (number : ℕ) (consumed : Consumed) (gate : GateState)
      (sorter sorter' : Sorting) → IsGivingOut end → IsFrontOf given (reads bytes limits late).tuples
      → ((put : List Tuple) (taken : ℕ) (ended : Bool) → IsSorting sorter late put taken ended →
      (slice_get (by_time put) taken ≡ Some x) × IsSorting sorter' late put (taken + 1) true)
      → StandsAt (Some end) front number consumed gate sorter limits late bytes given
      → IsFrontOf (given ++ x ∷ []) (reads bytes limits late).tuples
      × StandsAt (Some end) front number consumed gate sorter' limits late bytes (given ++ x ∷ [])
  give_out Whole front number consumed gate sorter sorter' out old next s =
      let t = next (accepts bytes limits late).tuples (length given) s.0.0 s.0.1 in (
        front_out old t.0,
        (
          (
            true,
            subst (λ k. IsSorting sorter' late (accepts bytes limits late).tuples k true)
                (sym (length_push given x)) t.1,
          ),
          s.1,
        ),
      )
  give_out (Stopped (Refused line cause)) front number consumed gate sorter sorter' out old next s =
      let t = next (accepts bytes limits late).tuples (length given) s.0.0 s.0.1 in (
        front_out old t.0,
        (
          (
            true,
            subst (λ k. IsSorting sorter' late (accepts bytes limits late).tuples k true)
                (sym (length_push given x)) t.1,
          ),
          s.1,
        ),
      )
  give_out (Stopped ReadFault) front number consumed gate sorter sorter' out old next s = absurd out
  give_out (Stopped NoMemory) front number consumed gate sorter sorter' out old next s = absurd out

-- what is given is never more than the lines that are allowed
pub few_given : (limits : Limits) (late : ℕ) (bytes : List ℕ) (given : List Tuple) →
    IsFrontOf given (reads bytes limits late).tuples → length given ≤ limits.lines
few_given limits late bytes given front =
    omega (arith, front_short given (reads bytes limits late).tuples front, (reads_fit bytes limits late).lines)

-- where none waits any more, the whole day was given
pub none_out : (end : Ending) (limits : Limits) (late : ℕ) (bytes : List ℕ) (given : List Tuple)
    (front : Option (List ℕ)) (number : ℕ) (consumed : Consumed) (gate : GateState) (sorter sorter' : Sorting) →
    IsGivingOut end → IsFrontOf given (reads bytes limits late).tuples
    → ((put : List Tuple) (taken : ℕ) (ended : Bool) → IsSorting sorter late put taken ended → (taken ≡ length put)
    × IsSorting sorter' late put taken true)
    → StandsAt (Some end) front number consumed gate sorter limits late bytes given
    → StandsAt (Some end) front number consumed gate sorter' limits late bytes given
    × (given ≡ (reads bytes limits late).tuples)
none_out Whole limits late bytes given front number consumed gate sorter sorter' out old none s =
    let day = (reads bytes limits late).tuples in
    let t = none (accepts bytes limits late).tuples (length given) s.0.0 s.0.1 in (
      ((true, t.1), s.1),
      old
          ∙ take_all (length given) day (omega (arith, t.0, by_time_length (accepts bytes limits late).tuples)),
    )
none_out (Stopped (Refused line cause)) limits late bytes given front number consumed gate sorter sorter' out old none
    s =
    let day = (reads bytes limits late).tuples in
    let t = none (accepts bytes limits late).tuples (length given) s.0.0 s.0.1 in (
      ((true, t.1), s.1),
      old
          ∙ take_all (length given) day (omega (arith, t.0, by_time_length (accepts bytes limits late).tuples)),
    )
none_out (Stopped ReadFault) limits late bytes given front number consumed gate sorter sorter' out old none s =
    absurd out
none_out (Stopped NoMemory) limits late bytes given front number consumed gate sorter sorter' out old none s =
    absurd out
