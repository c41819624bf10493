-- a round is stopped by its settling, or by a read that failed before memory ran out
use Rattle.std.proofs.Common.{◌≡◌, ◌≢◌, ℕ, ◌≤◌, true, false, List, Result, Err, OnOk, refl, sym, ap, ◌∙◌, subst}
use Rattle.std.specs.Prelude.{Option, Some, None, Bool}
use Rattle.road_time.specs.declared.road.Tuple.{Tuple}
use Rattle.road_time.specs.Day.{notices}
use Rattle.road_time.specs.Text.{out as text_out}
use Rattle.road_io.specs.Faults.{Rose}
use Rattle.road_io.specs.Plans.{NeverFails}
use Rattle.road_io.specs.Rooms.{Room, Endless}
use Rattle.day_reading.specs.declared.whole_day.ReadStop.{ReadStop}
use Rattle.day_reading.specs.declared.whole_day.ReadStop.TheVariants as reading
use Rattle.day_floor.specs.declared.fault.SettleFault.{SettleFault}
use Rattle.day_floor.specs.declared.fault.SettleFault.TheVariants as settle
use Rattle.day_floor.specs.Faults.{is_write, is_keeping, write_failed, keeper_failed, SinkFaults, KeeperFaults}
use Rattle.day_floor.specs.Printing.{WritesSome}
use Rattle.day_floor.specs.Floors.{Setting}
use Rattle.day_import.specs.declared.fault.DayFault.{DayFault}
use Rattle.day_import.specs.declared.fault.DayFault.TheVariants.{ReadFault, WriteFault, KeeperFault}
use Rattle.day_import.specs.DayFaults.{of_round, IsCounted, IsCountedAhead, WritesUpTo, HasDayFront}
use Rattle.day_import.specs.Fronts.{HasFront}

-- what was written is a front of the day's text by the one fault as by the other
some_up_to : (fault : SettleFault) (stop : Option ReadStop) (text : List ℕ) (old new : Option (List ℕ)) →
    WritesSome fault text old new → WritesUpTo (of_round fault stop) text old new
some_up_to settle.KeeperFault stop text old new h = h
some_up_to settle.WriteFault stop text old new h = h
some_up_to settle.NoMemory None text old new h = h
some_up_to settle.NoMemory (Some reading.ReadFault) text old new h = h
some_up_to settle.NoMemory (Some reading.NoMemory) text old new h = h

pub front_of_round : (fault : SettleFault) (stop : Option ReadStop) (e : Setting) (day : List Tuple)
    (first new : Option (List ℕ)) → HasFront fault e day first new → HasDayFront (of_round fault stop) e day first new
front_of_round fault stop e day first new h kept known =
    some_up_to fault stop (text_out (notices day e.tariffs e.number kept)) first new (h kept known)

-- it is the source's only where a read failed
read_failed : (fault : SettleFault) (stop : Option ReadStop) → of_round fault stop ≡ ReadFault →
    stop ≡ Some reading.ReadFault
read_failed settle.KeeperFault stop e = let bad : ⊥ = cc in absurd bad
read_failed settle.WriteFault stop e = let bad : ⊥ = cc in absurd bad
read_failed settle.NoMemory None e = let bad : ⊥ = cc in absurd bad
read_failed settle.NoMemory (Some reading.ReadFault) e = refl
read_failed settle.NoMemory (Some reading.NoMemory) e = let bad : ⊥ = cc in absurd bad

-- and where one did, it is that of an object that failed
none_hidden : (fault : SettleFault) (stop : Option ReadStop) → of_round fault stop ≢ ReadFault →
    of_round fault stop ≢ WriteFault → of_round fault stop ≢ KeeperFault → stop ≢ Some reading.ReadFault
none_hidden settle.KeeperFault stop r w k e = k refl
none_hidden settle.WriteFault stop r w k e = w refl
none_hidden settle.NoMemory None r w k e = let bad : ⊥ = cc in bad
none_hidden settle.NoMemory (Some reading.ReadFault) r w k e = r refl
none_hidden settle.NoMemory (Some reading.NoMemory) r w k e = let bad : ⊥ = cc in bad

-- it is the sink's, and the keeper's, where that of settling is
written : (fault : SettleFault) (stop : Option ReadStop) → of_round fault stop ≡ WriteFault → is_write fault ≡ true
written settle.KeeperFault stop e = let bad : ⊥ = cc in absurd bad
written settle.WriteFault stop e = refl
written settle.NoMemory None e = let bad : ⊥ = cc in absurd bad
written settle.NoMemory (Some reading.ReadFault) e = let bad : ⊥ = cc in absurd bad
written settle.NoMemory (Some reading.NoMemory) e = let bad : ⊥ = cc in absurd bad

unwritten : (fault : SettleFault) (stop : Option ReadStop) → of_round fault stop ≢ WriteFault → is_write fault ≡ false
unwritten settle.KeeperFault stop n = refl
unwritten settle.WriteFault stop n = absurd (n refl)
unwritten settle.NoMemory stop n = refl

kept : (fault : SettleFault) (stop : Option ReadStop) → of_round fault stop ≡ KeeperFault → is_keeping fault ≡ true
kept settle.KeeperFault stop e = refl
kept settle.WriteFault stop e = let bad : ⊥ = cc in absurd bad
kept settle.NoMemory None e = let bad : ⊥ = cc in absurd bad
kept settle.NoMemory (Some reading.ReadFault) e = let bad : ⊥ = cc in absurd bad
kept settle.NoMemory (Some reading.NoMemory) e = let bad : ⊥ = cc in absurd bad

unkept : (fault : SettleFault) (stop : Option ReadStop) → of_round fault stop ≢ KeeperFault → is_keeping fault ≡ false
unkept settle.KeeperFault stop n = absurd (n refl)
unkept settle.WriteFault stop n = refl
unkept settle.NoMemory stop n = refl

not_both : (b : Bool) → b ≡ true → b ≡ false → ⊥
not_both b t f = cc

err_is : {T : Type 0} (r : Result T DayFault) (a b : DayFault) → r ≡ Err a → r ≡ Err b → a ≡ b
err_is r a b here there = cc

module _ {T : Type 0} (fault : SettleFault) (stop : Option ReadStop) (r : Result T DayFault)
    (is : r ≡ Err (of_round fault stop)) where
  -- so the source is counted
  pub round_source : (before now : ℕ) (fine left : Type 0) → before ≤ now →
      (stop ≡ Some reading.ReadFault → Rose before now) → (stop ≢ Some reading.ReadFault → now ≡ before) →
      (fine → (stop ≢ Some reading.ReadFault) × left) → IsCountedAhead ReadFault before now fine left r
  round_source before now fine left later rose stands sure = record {
    later = later;
    cause = λ e. rose (read_failed fault stop (err_is r _ _ is e));
    passed = subst (λ x. OnOk x (now ≡ before)) (sym is) tt;
    still = λ a b c. stands (none_hidden fault stop (λ e. a (is ∙ ap Err e)) (λ e. b (is ∙ ap Err e))
        (λ e. c (is ∙ ap Err e)));
    sure = λ f. ((λ e. (sure f).0 (read_failed fault stop (err_is r _ _ is e))), (sure f).1);
  }

  -- the sink
  pub round_sink : {U : Type 0} (before now : ℕ) (room left : Room) (x : Result U SettleFault) → x ≡ Err fault →
      SinkFaults before now room left x → IsCounted WriteFault before now (room ≡ Endless) (left ≡ Endless) r
  round_sink before now room left x here s = record {
    later = s.later;
    cause = λ e. s.cause (ap write_failed here ∙ written fault stop (err_is r _ _ is e));
    still = λ n. s.still (ap write_failed here ∙ unwritten fault stop (λ e. n (is ∙ ap Err e)));
    sure = λ endless. (
      (λ e. not_both (write_failed x) (ap write_failed here ∙ written fault stop (err_is r _ _ is e))
          (s.sure endless).0),
      (s.sure endless).1,
    );
  }

  -- and the keeper
  pub round_keeper : {U : Type 0} (before now : ℕ) (plan left : Option (ℕ → Bool)) (x : Result U SettleFault) →
      x ≡ Err fault → KeeperFaults before now plan left x →
      IsCounted KeeperFault before now (NeverFails plan) (NeverFails left) r
  round_keeper before now plan left x here s = record {
    later = s.later;
    cause = λ e. s.cause (ap keeper_failed here ∙ kept fault stop (err_is r _ _ is e));
    still = λ n. s.still (ap keeper_failed here ∙ unkept fault stop (λ e. n (is ∙ ap Err e)));
    sure = λ never. (
      (λ e. not_both (keeper_failed x) (ap keeper_failed here ∙ kept fault stop (err_is r _ _ is e))
          (s.sure never).0),
      (s.sure never).1,
    );
  }
