-- What was given is a day that the limits allow, whatever the source tells.
use Rattle.std.proofs.Common.{◌≡◌, ℕ, ◌+◌, true, false, Bool, List, [], ◌∷◌, ◌++◌, length, take, slice_get, Option}
use Rattle.std.proofs.Common.{Some, None, refl, sym, ap, subst, ◌∙◌, arith}
use Rattle.std.proofs.lemmas.List.{length_push}
use Rattle.road_time.specs.declared.road.Tuple.{Tuple}
use Rattle.road_time.specs.declared.day.Limits.{Limits}
use Rattle.road_time.specs.Fits.{Allowed, Fit}
use Rattle.road_time.specs.Order.{by_time}
use Rattle.road_time.specs.Reads.{line_fault, tuples_of, reading_at, accepts_after}
use Rattle.road_time.proofs.ReadLaws.{accepted, allowed_none}
use Rattle.road_time.proofs.AllowedLaws.{allowed_push, admitted, fit_by_time, fit_take}
use Rattle.tuples_text.specs.Gates.{GateState}
use Rattle.tuples_text.specs.Sorting.{Sorting, IsSorting}
use Rattle.day_reading.specs.declared.ending.Ending.{Ending}
use Rattle.day_reading.specs.declared.ending.Ending.TheVariants.{Whole, Stopped}
use Rattle.day_reading.specs.declared.ending.ReadEnd.TheVariants.{Refused, ReadFault, NoMemory}
use Rattle.day_reading.specs.Lines.{TakesLine}
use Rattle.day_reading.specs.Readings.{Gathers, Gathered, GathersAt, IsFrontOf, IsGivingOut}
use Rattle.day_reading.proofs.FrontLaws.{stays_line}
use Rattle.day_reading.proofs.GiveLaws.{take_next}

-- a day of nothing
pub fit_none : (limits : Limits) → Fit [] limits
fit_none limits = fit_by_time [] limits (allowed_none limits)

-- a line that is let in keeps what is allowed
allowed_line : (limits : Limits) (late : ℕ) (before : List (List ℕ)) (l : List ℕ) → Allowed (tuples_of before) limits →
    line_fault limits late before l ≡ None → Allowed (tuples_of (before ++ l ∷ [])) limits
allowed_line limits late before l h e =
    subst (λ o. Allowed (reading_at before o (accepts_after limits late (before ++ l ∷ []) [])).tuples limits) e
    (accepted limits late (λ day. Allowed day limits)
    (λ day x a v n f. allowed_push limits day x a v n (admitted limits late day x f).1) before (l ∷ []) h)

-- the front of a day that was put, with one tuple more
pub gave_next : (limits : Limits) (put given : List Tuple) (x : Tuple) → Allowed put limits →
    IsFrontOf given (by_time put) → slice_get (by_time put) (length given) ≡ Some x
    → IsFrontOf (given ++ x ∷ []) (by_time put) × Fit (given ++ x ∷ []) limits
gave_next limits put given x allowed front at =
    let n = length given in
    let more : take (n + 1) (by_time put) ≡ given ++ x ∷ [] = take_next n (by_time put) x at
    ∙ ap (λ ys. ys ++ x ∷ []) (sym front) in (
      sym more ∙ ap (λ k. take k (by_time put)) (sym (length_push given x)),
      subst (λ day. Fit day limits) more (fit_take (n + 1) (by_time put) limits (fit_by_time put limits allowed)),
    )

module _ (limits : Limits) (late : ℕ) (given : List Tuple) where
  -- after a line, by what it did
  pub gather_line : (result : Option Ending) (line : List ℕ) (number number' : ℕ) (gate gate' : GateState)
      (sorter sorter' : Sorting) → Gathers number gate sorter limits late given → number' ≡ number + 1
      → TakesLine limits late result number' line gate gate' sorter sorter' →
      GathersAt result number' gate' sorter' limits late given
  gather_line None line number number' gate gate' sorter sorter' s next judged =
      let t = judged s.before (omega (arith, next, s.number_is)) s.gate_is in
      let stays = stays_line limits late (length given) s.before line (s.gave.0.given refl) s.gave.0.few t.0 in
      record {
        before = s.before ++ line ∷ [];
        allowed = allowed_line limits late s.before line s.allowed t.0;
        number_is = omega (arith, next, s.number_is, length_push s.before line);
        gate_is = t.1;
        gave = (t.2 (length given) s.gave.0, s.gave.1 ∙ sym stays.0);
      }
  gather_line (Some Whole) line number number' gate gate' sorter sorter' s next judged = absurd judged
  gather_line (Some (Stopped (Refused n cause))) line number number' gate gate' sorter sorter' s next judged = record {
    put = tuples_of s.before;
    ended = false;
    allowed = s.allowed;
    gave = (
      subst (λ (k : Sorting). IsSorting k late (tuples_of s.before) (length given) false) (sym judged.1) s.gave.0,
      s.gave.1,
    );
  }
  gather_line (Some (Stopped ReadFault)) line number number' gate gate' sorter sorter' s next judged = absurd judged
  gather_line (Some (Stopped NoMemory)) line number number' gate gate' sorter sorter' s next judged = tt

  -- where no line follows
  pub gather_end : (number : ℕ) (gate : GateState) (sorter : Sorting) → Gathers number gate sorter limits late given →
      Gathered sorter limits late given
  gather_end number gate sorter s =
      record { put = tuples_of s.before; ended = false; allowed = s.allowed; gave = s.gave }

-- a tuple more that is given, while lines are read on
pub gather_on : (limits : Limits) (late : ℕ) (given : List Tuple) (x : Tuple) (number : ℕ) (gate : GateState)
    (sorter sorter' : Sorting) → (s : Gathers number gate sorter limits late given)
    → slice_get (by_time (tuples_of s.before)) (length given) ≡ Some x →
    IsSorting sorter' late (tuples_of s.before) (length given + 1) false
    → Fit (given ++ x ∷ []) limits × Gathers number gate sorter' limits late (given ++ x ∷ [])
gather_on limits late given x number gate sorter sorter' s at next =
    let g = gave_next limits (tuples_of s.before) given x s.allowed s.gave.1 at in (
      g.1,
      record {
        before = s.before;
        allowed = s.allowed;
        number_is = s.number_is;
        gate_is = s.gate_is;
        gave = (subst (λ k. IsSorting sorter' late (tuples_of s.before) k false) (sym (length_push given x)) next, g.0);
      },
    )

-- and where they are read no more
gather_out : (limits : Limits) (late : ℕ) (given : List Tuple) (x : Tuple) (sorter sorter' : Sorting) →
    (s : Gathered sorter limits late given)
    → ((put : List Tuple) (taken : ℕ) (ended : Bool) → IsSorting sorter late put taken ended →
    (slice_get (by_time put) taken ≡ Some x) × IsSorting sorter' late put (taken + 1) true)
    → Fit (given ++ x ∷ []) limits × Gathered sorter' limits late (given ++ x ∷ [])
gather_out limits late given x sorter sorter' s next =
    let t = next s.put (length given) s.ended s.gave.0 in
    let g = gave_next limits s.put given x s.allowed s.gave.1 t.0 in (
      g.1,
      record {
        put = s.put;
        ended = true;
        allowed = s.allowed;
        gave =
            (subst (λ k. IsSorting sorter' late s.put k true) (sym (length_push given x)) t.1, g.0);
      },
    )

pub gathers_some : (end : Ending) (limits : Limits) (late : ℕ) (given : List Tuple) (x : Tuple) (number : ℕ)
    (gate : GateState) (sorter sorter' : Sorting) → IsGivingOut end
    → ((put : List Tuple) (taken : ℕ) (ended : Bool) → IsSorting sorter late put taken ended →
    (slice_get (by_time put) taken ≡ Some x) × IsSorting sorter' late put (taken + 1) true)
    → GathersAt (Some end) number gate sorter limits late given → Fit (given ++ x ∷ []) limits
    × GathersAt (Some end) number gate sorter' limits late (given ++ x ∷ [])
gathers_some Whole limits late given x number gate sorter sorter' out next s =
    gather_out limits late given x sorter sorter' s next
gathers_some (Stopped (Refused line cause)) limits late given x number gate sorter sorter' out next s =
    gather_out limits late given x sorter sorter' s next
gathers_some (Stopped ReadFault) limits late given x number gate sorter sorter' out next s = absurd out
gathers_some (Stopped NoMemory) limits late given x number gate sorter sorter' out next s = absurd out

gathered_none : (limits : Limits) (late : ℕ) (given : List Tuple) (sorter sorter' : Sorting) →
    (s : Gathered sorter limits late given)
    → ((put : List Tuple) (taken : ℕ) (ended : Bool) → IsSorting sorter late put taken ended → (taken ≡ length put)
    × IsSorting sorter' late put taken true) → Gathered sorter' limits late given
gathered_none limits late given sorter sorter' s none =
    record {
      put = s.put;
      ended = true;
      allowed = s.allowed;
      gave =
          ((none s.put (length given) s.ended s.gave.0).1, s.gave.1);
    }

pub gathers_none : (end : Ending) (limits : Limits) (late : ℕ) (given : List Tuple) (number : ℕ) (gate : GateState)
    (sorter sorter' : Sorting) → IsGivingOut end
    → ((put : List Tuple) (taken : ℕ) (ended : Bool) → IsSorting sorter late put taken ended → (taken ≡ length put)
    × IsSorting sorter' late put taken true)
    → GathersAt (Some end) number gate sorter limits late given →
    GathersAt (Some end) number gate sorter' limits late given
gathers_none Whole limits late given number gate sorter sorter' out none s =
    gathered_none limits late given sorter sorter' s none
gathers_none (Stopped (Refused line cause)) limits late given number gate sorter sorter' out none s =
    gathered_none limits late given sorter sorter' s none
gathers_none (Stopped ReadFault) limits late given number gate sorter sorter' out none s = absurd out
gathers_none (Stopped NoMemory) limits late given number gate sorter sorter' out none s = absurd out
