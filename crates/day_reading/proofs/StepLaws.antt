-- How an answer of the cutter carries a reading on.
use Rattle.std.proofs.Common.{◌≡◌, ℕ, ◌+◌, ◌≤◌, true, false, List, [], ◌∷◌, ◌++◌, length, Option, Some, None, Ok, Err}
use Rattle.std.proofs.Common.{refl, sym, ap, subst, ◌∙◌, append_assoc, arith}
use Rattle.std.specs.Option.{option_map}
use Rattle.std.specs.Io.KnownBytes.{Consumes}
use Rattle.std.proofs.lemmas.Bool.{cond-true, lt-ltb}
use Rattle.std.proofs.lemmas.List.{append-nil, length_push}
use Rattle.road_time.specs.declared.road.Tuple.{Tuple}
use Rattle.road_time.specs.declared.day.Limits.{Limits}
use Rattle.road_time.specs.Lines.{lines_of}
use Rattle.road_time.specs.Form.{Fault, Long}
use Rattle.road_time.specs.Reads.{accepts, accepts_after, reading_at, line_fault, tuples_of}
use Rattle.road_io.specs.Cutter.{Cuts, FirstHas}
use Rattle.road_io.specs.declared.cutter.LineFault.TheVariants.{LongLine}
use Rattle.tuples_text.specs.declared.cause.Cause.{Cause}
use Rattle.tuples_text.specs.declared.cause.Cause.TheVariants as causes
use Rattle.tuples_text.specs.Causes.{cause_of}
use Rattle.tuples_text.specs.Gates.{GateState}
use Rattle.tuples_text.specs.Sorting.{Sorting, IsSorting}
use Rattle.day_reading.specs.declared.consumed.Consumed.{Consumed}
use Rattle.day_reading.specs.declared.ending.Ending.{Ending}
use Rattle.day_reading.specs.declared.ending.Ending.TheVariants.{Whole, Stopped}
use Rattle.day_reading.specs.declared.ending.ReadEnd.TheVariants.{Refused, ReadFault, NoMemory}
use Rattle.day_reading.specs.Lines.{TakesLine}
use Rattle.day_reading.specs.Readings.{HasTaken, ReadsOn, GivesOut, EndsWhole, EndsRefused, StandsAt}

-- where a line was cut, the bytes are that line and those that are left
pub cuts_ok : (before after : Option (List ℕ)) (line bs : List ℕ) → Cuts (Ok true) before after line → before ≡ Some bs
    → (now : List ℕ) × (after ≡ Some now) × (lines_of bs ≡ line ∷ lines_of now)
cuts_ok None after line bs c e = let bad : ⊥ = cc in absurd bad
cuts_ok (Some xs) None line bs c e = absurd c
cuts_ok (Some xs) (Some ys) line bs c e = let same : bs ≡ xs = cc in (ys, refl, ap lines_of same ∙ c)

-- the bytes that a line took come before those that are left
pub taken_ok : (before after : Option (List ℕ)) (rest bs now : List ℕ) → Consumes before after rest → before ≡ Some bs →
    after ≡ Some now → bs ≡ rest ++ now
taken_ok None after rest bs now c e f = cc
taken_ok (Some xs) None rest bs now c e f = cc
taken_ok (Some xs) (Some ys) rest bs now c e f = let a : bs ≡ xs = cc in let b : ys ≡ now = cc in
    a ∙ c ∙ ap (λ zs. rest ++ zs) b

module _ (limits : Limits) (late : ℕ) (bytes : List ℕ) (given : List Tuple) where
  -- a line more
  pub next_line : (before after : Option (List ℕ)) (line rest : List ℕ) (number number' : ℕ)
      (consumed consumed' : Consumed) (gate gate' : GateState) (sorter sorter' : Sorting)
      → ReadsOn before number consumed gate sorter limits late bytes given → Cuts (Ok true) before after line →
      Consumes before after rest → number' ≡ number + 1
      → ((taken : List ℕ) → HasTaken consumed taken → HasTaken consumed' (taken ++ rest)) →
      TakesLine limits late None number' line gate gate' sorter sorter'
      → ReadsOn after number' consumed' gate' sorter' limits late bytes given
  next_line before after line rest number number' consumed consumed' gate gate' sorter sorter' s cuts takes next counts
      judged =
      let cut = cuts_ok before after line s.now cuts s.ahead_is in
      let front = taken_ok before after rest s.now cut.0 takes s.ahead_is cut.1 in
      let line_is = judged s.before (omega (arith, next, s.number_is)) s.gate_is in
      record {
        before = s.before ++ line ∷ [];
        taken = s.taken ++ rest;
        now = cut.0;
        ahead_is = cut.1;
        bytes_are = s.bytes_are ∙ ap (λ xs. s.taken ++ xs) front ∙ sym (append_assoc s.taken rest cut.0);
        has_taken = counts s.taken s.has_taken;
        accepted = s.accepted ∙ ap (accepts_after limits late s.before) cut.2
            ∙ ap (λ f. reading_at s.before f (accepts_after limits late (s.before ++ line ∷ []) (lines_of cut.0)))
            line_is.0;
        lines_are = s.lines_are ∙ ap (λ ls. s.before ++ ls) cut.2
            ∙ sym (append_assoc s.before (line ∷ []) (lines_of cut.0));
        number_is = omega (arith, next, s.number_is, length_push s.before line);
        gate_is = line_is.1;
        sorter_is = line_is.2 (length given) s.sorter_is;
      }

  -- what is accepted where a line is refused
  refused_at : (before : List (List ℕ)) (now line : List ℕ) (lines : List (List ℕ)) (fault : Fault) →
      accepts bytes limits late ≡ accepts_after limits late before (lines_of now)
      → lines_of now ≡ line ∷ lines → line_fault limits late before line ≡ Some fault →
      accepts bytes limits late ≡ record { tuples = tuples_of before; refused = Some (length before + 1, fault) }
  refused_at before now line lines fault e cut f =
      e ∙ ap (accepts_after limits late before) cut
      ∙ ap (λ k. reading_at before k (accepts_after limits late (before ++ line ∷ []) lines)) f

  refused_as : (before : List (List ℕ)) (sorter sorter' : Sorting) (n : ℕ) (cause : Cause) (fault : Fault) →
      accepts bytes limits late ≡ record { tuples = tuples_of before; refused = Some (length before + 1, fault) }
      → IsSorting sorter late (tuples_of before) (length given) false → sorter' ≡ sorter → n ≡ length before + 1 →
      cause_of fault ≡ cause
      → GivesOut sorter' limits late bytes given × EndsRefused n cause limits late bytes
  refused_as before sorter sorter' n cause fault e is same number by =
      let one : IsSorting sorter' late (tuples_of before) (length given) false =
      subst (λ (s : Sorting). IsSorting s late (tuples_of before) (length given) false) (sym same) is in (
        (false, subst (λ ys. IsSorting sorter' late ys (length given) false) (sym (ap (λ r. r.tuples) e)) one),
        (fault, ap (λ r. r.refused) e ∙ ap (λ k. Some (k, fault)) (sym number), by),
      )

  some_cause : (o : Option Fault) (cause : Cause) → option_map cause_of o ≡ Some cause → (fault : Fault)
      × (o ≡ Some fault) × (cause_of fault ≡ cause)
  some_cause None cause e = let bad : ⊥ = cc in absurd bad
  some_cause (Some f) cause e = (f, refl, cc)

  -- a line that is refused
  pub refused_line : (before after : Option (List ℕ)) (line : List ℕ) (number number' n : ℕ) (cause : Cause)
      (consumed : Consumed) (gate gate' : GateState) (sorter sorter' : Sorting)
      → ReadsOn before number consumed gate sorter limits late bytes given → Cuts (Ok true) before after line →
      number' ≡ number + 1
      → TakesLine limits late (Some (Stopped (Refused n cause))) number' line gate gate' sorter sorter'
      → GivesOut sorter' limits late bytes given × EndsRefused n cause limits late bytes
  refused_line before after line number number' n cause consumed gate gate' sorter sorter' s cuts next judged =
      let cut = cuts_ok before after line s.now cuts s.ahead_is in
      let size : length s.before + 1 ≡ number' = omega (arith, next, s.number_is) in
      let f = some_cause (line_fault limits late s.before line) cause (judged.2 s.before size s.gate_is) in
      refused_as s.before sorter sorter' n cause f.0
      (refused_at s.before s.now line (lines_of cut.0) f.0 s.accepted cut.2 f.1) s.sorter_is judged.1
      (judged.0 ∙ sym size) f.2

  long_first : (lines : List (List ℕ)) → FirstHas 201 lines → (line : List ℕ) × (rest : List (List ℕ))
      × (lines ≡ line ∷ rest) × (201 ≤ length line)
  long_first [] h = absurd h
  long_first (l ∷ ls) h = (l, ls, refl, h)

  long_there : (before after : Option (List ℕ)) (line bs : List ℕ) (n : ℕ) → Cuts (Err (LongLine n)) before after line →
      before ≡ Some bs → FirstHas 201 (lines_of bs)
  long_there None after line bs n c e = let bad : ⊥ = cc in absurd bad
  long_there (Some xs) after line bs n c e = let same : xs ≡ bs = cc in
      subst (λ ys. FirstHas 201 (lines_of ys)) same c.0

  -- a line that is long
  pub long_line : (before after : Option (List ℕ)) (line : List ℕ) (number n : ℕ) (consumed : Consumed)
      (gate : GateState)
      (sorter : Sorting)
      → ReadsOn before number consumed gate sorter limits late bytes given → Cuts (Err (LongLine n)) before after line →
      n ≡ number + 1
      → GivesOut sorter limits late bytes given × EndsRefused n causes.Long limits late bytes
  long_line before after line number n consumed gate sorter s cuts next =
      let l = long_first (lines_of s.now) (long_there before after line s.now n cuts s.ahead_is) in
      let fault : line_fault limits late s.before l.0 ≡ Some Long =
      cond-true _ _ _ (lt-ltb 200 (length l.0) (omega (arith, l.3))) in
      refused_as s.before sorter sorter n causes.Long Long (refused_at s.before s.now l.0 l.1 Long s.accepted l.2 fault)
      s.sorter_is refl (omega (arith, next, s.number_is)) refl

  end_there : (before after : Option (List ℕ)) (line bs : List ℕ) → Cuts (Ok false) before after line → before ≡ Some bs
      → bs ≡ []
  end_there None after line bs c e = let bad : ⊥ = cc in absurd bad
  end_there (Some xs) after line bs c e = let same : bs ≡ xs = cc in same ∙ c.0

  -- the end of the lines
  pub whole_end : (before after : Option (List ℕ)) (line : List ℕ) (number : ℕ) (consumed : Consumed) (gate : GateState)
      (sorter : Sorting)
      → ReadsOn before number consumed gate sorter limits late bytes given → Cuts (Ok false) before after line
      → GivesOut sorter limits late bytes given × EndsWhole number consumed limits late bytes
  whole_end before after line number consumed gate sorter s cuts =
      let none = end_there before after line s.now cuts s.ahead_is in
      let read : accepts bytes limits late ≡ record { tuples = tuples_of s.before; refused = None } =
      s.accepted ∙ ap (λ bs. accepts_after limits late s.before (lines_of bs)) none in
      let all : bytes ≡ s.taken = s.bytes_are ∙ ap (λ xs. s.taken ++ xs) none ∙ append-nil s.taken in
      let lines : lines_of bytes ≡ s.before = s.lines_are ∙ ap (λ bs. s.before ++ lines_of bs) none
      ∙ append-nil s.before in (
        (
          false,
          subst (λ ys. IsSorting sorter late ys (length given) false) (sym (ap (λ r. r.tuples) read))
              s.sorter_is,
        ),
        (
          ap (λ r. r.refused) read,
          subst (HasTaken consumed) (sym all) s.has_taken,
          s.number_is
              ∙ ap length (sym lines),
        ),
      )

  -- what is read on after a line, by what the line did
  pub after_line : (before after : Option (List ℕ)) (line rest : List ℕ) (number number' : ℕ)
      (consumed consumed' : Consumed) (gate gate' : GateState) (sorter sorter' : Sorting) (result : Option Ending)
      → ReadsOn before number consumed gate sorter limits late bytes given → Cuts (Ok true) before after line →
      Consumes before after rest → number' ≡ number + 1
      → ((taken : List ℕ) → HasTaken consumed taken → HasTaken consumed' (taken ++ rest)) →
      TakesLine limits late result number' line gate gate' sorter sorter'
      → StandsAt result after number' consumed' gate' sorter' limits late bytes given
  after_line before after line rest number number' consumed consumed' gate gate' sorter sorter' None s cuts takes next
      counts judged =
      next_line before after line rest number number' consumed consumed' gate gate' sorter sorter' s cuts takes next
      counts judged
  after_line before after line rest number number' consumed consumed' gate gate' sorter sorter'
      (Some Whole) s cuts takes next counts judged = absurd judged
  after_line before after line rest number number' consumed consumed' gate gate' sorter sorter'
      (Some (Stopped (Refused n cause))) s cuts takes next counts judged =
      refused_line before after line number number' n cause consumed gate gate' sorter sorter' s cuts next judged
  after_line before after line rest number number' consumed consumed' gate gate' sorter sorter'
      (Some (Stopped ReadFault)) s cuts takes next counts judged = absurd judged
  after_line before after line rest number number' consumed consumed' gate gate' sorter sorter'
      (Some (Stopped NoMemory)) s cuts takes next counts judged = tt
