-- what is left of a day that is stopped
use Rattle.std.proofs.Common.{◌≡◌, ℕ, ◌≤◌, List, ◌++◌, length, take, refl, sym, ap, ◌∙◌, arith, subst, length-append}
use Rattle.std.specs.Prelude.{Option, Some, None}
use Rattle.std.specs.Option.{option_map}
use Rattle.road_time.specs.declared.road.Tuple.{Tuple}
use Rattle.road_time.specs.declared.day.Limits.{Limits}
use Rattle.road_time.specs.Fits.{Fit}
use Rattle.road_time.specs.Day.{given, rules, charges_between, notices}
use Rattle.road_time.specs.Text.{out as text_out}
use Rattle.road_time.proofs.StepLaws.{between_before}
use Rattle.day_floor.specs.Operations.{Operation, Posted}
use Rattle.day_reading.specs.declared.whole_day.ReadStop.{ReadStop}
use Rattle.day_reading.specs.declared.whole_day.ReadStop.TheVariants as reading
use Rattle.day_floor.specs.declared.fault.SettleFault.{SettleFault}
use Rattle.day_floor.specs.declared.fault.SettleFault.TheVariants as settle
use Rattle.day_floor.specs.Printing.{WritesSome}
use Rattle.ways_expressway.specs.Results.{AreFirst}
use Rattle.day_floor.specs.Shares.{State}
use Rattle.day_floor.specs.Sound.{SoundState, IsTrue}
use Rattle.day_floor.specs.Floors.{Setting}
use Rattle.day_floor.proofs.Marks.{settled_le}
use Rattle.day_floor.proofs.Truths.{exact_between}
use Rattle.day_import.specs.Fronts.{HasFront}
use Rattle.day_import.specs.DayFaults.{of_settling, of_reading, WritesUpTo, HasDayFront}
use Rattle.day_import.specs.Published.{AreStepsBy, posted_more, HasStepped, HasSteps, published_of}
use Rattle.day_import.proofs.PublishLaws.{between_first, steps_same}

-- a front that settling left, or that a reader left
some_up_to : (fault : SettleFault) (text : List ℕ) (old new : Option (List ℕ)) → WritesSome fault text old new →
    WritesUpTo (of_settling fault) text old new
some_up_to settle.KeeperFault text old new h = h
some_up_to settle.WriteFault text old new h = h
some_up_to settle.NoMemory text old new h = h

pub front_of_settling : (fault : SettleFault) (e : Setting) (day : List Tuple) (first new : Option (List ℕ)) →
    HasFront fault e day first new → HasDayFront (of_settling fault) e day first new
front_of_settling fault e day first new h kept known =
    some_up_to fault (text_out (notices day e.tariffs e.number kept)) first new (h kept known)

none_up_to : (stop : ReadStop) (text : List ℕ) (old new : Option (List ℕ)) → WritesSome settle.NoMemory text old new →
    WritesUpTo (of_reading stop) text old new
none_up_to reading.ReadFault text old new h = h
none_up_to reading.NoMemory text old new h = h

pub front_of_reading : (stop : ReadStop) (e : Setting) (day : List Tuple) (first new : Option (List ℕ)) →
    HasFront settle.NoMemory e day first new → HasDayFront (of_reading stop) e day first new
front_of_reading stop e day first new h kept known =
    none_up_to stop (text_out (notices day e.tariffs e.number kept)) first new (h kept known)

module _ (width : ℕ) (limits : Limits) (e : Setting) (s : State) (some : 1 ≤ width) (sound : SoundState width limits s)
    (are : IsTrue e.tariffs width s) (later : List Tuple) (first : AreFirst s.fed later) (fit : Fit later limits) where
  -- where the findings are true the charges up to what is settled are those of the rules, in any day that goes on from
  -- the tuples fed
  between_rules : (a b : ℕ) → b ≤ s.settled →
      charges_between (given s.found) (take s.settled s.fed) a b ≡ charges_between (rules later e.tariffs) later a b
  between_rules a b low =
      let fed_too : b ≤ length s.fed = (let l = sound.settled in omega (arith, low, l)) in
      between_first (given s.found) s.fed a b s.settled low sound.settled
      ∙ (exact_between width limits s some sound s.settled (settled_le width limits s sound) e.tariffs are a b low
      ∙ (sym (between_before s.fed first.0 (subst (λ d. Fit d limits) first.1 fit).in_order e.tariffs a b fed_too)
      ∙ ap (λ d. charges_between (rules d e.tariffs) d a b) (sym first.1)))

  -- so the steps are
  pub steps_rules : (ops : List Operation) →
      AreStepsBy (given s.found) (take s.settled s.fed) limits.backlog 0 s.settled ops →
      AreStepsBy (rules later e.tariffs) later limits.backlog 0 s.settled ops
  steps_rules ops h =
      steps_same (given s.found) (rules later e.tariffs) (take s.settled s.fed) later limits.backlog 0 s.settled ops
      between_rules h

  list_more : (ops : List Operation) (p : Option Posted) →
      published_of (option_map (posted_more ops) p) ≡ option_map (λ q. q.published ++ ops) p
  list_more ops None = refl
  list_more ops (Some p) = refl

  pub stepped_rules : (before was posted : Option Posted) → HasStepped limits.backlog s before was →
      published_of posted ≡ published_of was → HasSteps e.tariffs later limits.backlog before posted
  stepped_rules before was posted h same = record {
    steps = h.steps;
    mark = s.settled;
    within = (let l = ap length first.1 in let k = length-append s.fed first.0 in let m = sound.settled in
        omega (arith, l, k, m));
    are = steps_rules h.steps h.are;
    published = same ∙ (ap published_of h.published ∙ list_more h.steps before);
  }
