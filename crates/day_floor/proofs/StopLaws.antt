-- Where a run is stopped.
use Rattle.std.proofs.Common.{◌≡◌, ℕ, ◌+◌, ◌≤◌, List, [], ◌∷◌, ◌++◌, take, drop, Result, Ok, Err, OnOk, false, refl}
use Rattle.std.proofs.Common.{sym, ap, subst, ◌∙◌, arith, append_assoc}
use Rattle.std.specs.Prelude.{IfErr}
use Rattle.std.proofs.lemmas.List.{take-append-drop}
use Rattle.road_time.proofs.AccountLaws.{take_shorter}
use Rattle.road_time.specs.declared.road.Tuple.{Tuple}
use Rattle.road_time.specs.declared.road.Notice.{Notice}
use Rattle.road_time.specs.Sights.{moments_after, Sight}
use Rattle.road_time.specs.Tolls.{StretchTold}
use Rattle.road_time.specs.Text.{out}
use Rattle.road_time.proofs.SightLaws.{moments-append}
use Rattle.day_floor.specs.declared.fault.SettleFault.{SettleFault}
use Rattle.day_floor.specs.declared.fault.SettleFault.TheVariants.{KeeperFault, WriteFault, NoMemory}
use Rattle.day_floor.specs.declared.printer.Printer.{Printer}
use Rattle.day_floor.specs.declared.settler.Settler.{Settler}
use Rattle.day_floor.specs.Faults.{write_failed, keeper_failed}
use Rattle.road_io.specs.Levels.{Level, AddsFront, AddsPieces, FillsUp}
use Rattle.day_floor.specs.Asking.{AskingPlan, PassesUpTo, FailsAfter, requests_of}
use Rattle.day_floor.specs.Slots.{slot_of}
use Rattle.day_floor.specs.Answers.{PaidHistory, AreNotices, IsSaid}
use Rattle.day_floor.specs.Printing.{WritesSome, HandsOn}
use Rattle.day_floor.specs.SettlingRuns.{InRun, WritesSomeOfRun, SettlesSlot, TakesRun, StopsRun}
use Rattle.day_floor.proofs.LevelLaws.{front_longer, fills_longer, front_pieces, front_whole, text_front, text_less}
use Rattle.day_floor.proofs.AskLaws.{fails_on, up_to_on, up_to_all, up_to_more, asked_both, asked_more, asked_slot}
use Rattle.day_floor.proofs.PrintLaws.{out_both, some_more, handed_pieces}
use Rattle.day_floor.proofs.AnswerLaws.{notices_both, some_notices}
use Rattle.day_floor.proofs.SettlingRunLaws.{told_more}

module _ (finding : Sight → StretchTold) (number : ℕ) (history : PaidHistory) where
  -- a run is stopped at a slot
  pub run_stops : (fault : SettleFault) (s : Settler) (q : Printer) (before run : List Tuple) (x : Tuple)
      (old now now' : Level) (plan left left' : AskingPlan) (ns : List Notice) →
      InRun s finding number history before run old now plan left →
      IsSaid history number (slot_of finding (before ++ run, x)).due (slot_of finding (before ++ run, x)).found s.book
      ns →
      SettlesSlot {T = Unit {0}} (Err fault) (slot_of finding (before ++ run, x)).due s.printer q now now' left left' ns
      → StopsRun fault finding number history before (run ++ x ∷ []) old now' plan left'
  run_stops KeeperFault s q before run x old now now' plan left left' ns h said settles = record {
    done = run;
    request = x;
    later = [];
    run_is = refl;
    asks = sym (asked_slot finding (before ++ run) x) ∙ settles.0;
    told = h.told;
    told_are = h.told_are;
    wrote = subst (AddsPieces (out h.told) old) (sym settles.1)
        (handed_pieces s.printer (out h.earlier) (out h.told) old now h.holds);
    failed = subst (λ n. FailsAfter n plan left') (omega arith)
        (fails_on plan left left' (requests_of run) 0 h.passed settles.2);
  }
  run_stops WriteFault s q before run x old now now' plan left left' ns h said settles = (
    h.told ++ ns,
    told_more finding number history before run x s h.told ns h.book h.told_are said,
    subst (λ t. FillsUp t old now') (sym (out_both h.told ns)) (settles.0 (out h.earlier) (out h.told) old h.holds),
    subst (λ n. PassesUpTo n plan left') (ap (λ n. requests_of run + n) (asked_slot finding (before ++ run) x)
        ∙ sym (asked_more run x)) (up_to_on plan left left' (requests_of run) _ h.passed settles.1),
  )
  run_stops NoMemory s q before run x old now now' plan left left' ns h said settles = (
    h.told ++ ns,
    told_more finding number history before run x s h.told ns h.book h.told_are said,
    subst (λ t. AddsFront t old now') (sym (out_both h.told ns)) (settles.0 (out h.earlier) (out h.told) old h.holds),
    subst (λ n. PassesUpTo n plan left') (ap (λ n. requests_of run + n) (asked_slot finding (before ++ run) x)
        ∙ sym (asked_more run x)) (up_to_on plan left left' (requests_of run) _ h.passed settles.1),
  )

  -- the notices of a run's first tuples stand before those of all of it
  more_told : (before run later : List Tuple) (told : List Notice) →
      AreNotices finding number history (moments_after before run) told →
      (more : List Notice) × AreNotices finding number history (moments_after before (run ++ later)) (told ++ more)
  more_told before run later told are =
      let more = some_notices finding number history (moments_after (before ++ run) later) in (
        more.0,
        subst (λ ms. AreNotices finding number history ms (told ++ more.0)) (sym (moments-append before run later))
            (notices_both finding number history (moments_after before run) (moments_after (before ++ run) later) told
            more.0 are more.1),
      )

  -- where the first tuples of a run were stopped, the whole run was
  pub stops_longer : (fault : SettleFault) (before run later : List Tuple) (old now : Level) (plan left : AskingPlan) →
      StopsRun fault finding number history before run old now plan left →
      StopsRun fault finding number history before (run ++ later) old now plan left
  stops_longer KeeperFault before run later old now plan left h = record {
    done = h.done;
    request = h.request;
    later = h.later ++ later;
    run_is = ap (λ ts. ts ++ later) h.run_is ∙ append_assoc h.done (h.request ∷ h.later) later;
    asks = h.asks;
    told = h.told;
    told_are = h.told_are;
    wrote = h.wrote;
    failed = h.failed;
  }
  stops_longer WriteFault before run later old now plan left h =
      let more = more_told before run later h.0 h.1 in
      let calls = asked_both run later in (
        h.0 ++ more.0,
        more.1,
        subst (λ t. FillsUp t old now) (sym (out_both h.0 more.0)) (fills_longer old now (out h.0) (out more.0) h.2),
        up_to_more plan left (requests_of run) (requests_of (run ++ later)) (omega arith) h.3,
      )
  stops_longer NoMemory before run later old now plan left h =
      let more = more_told before run later h.0 h.1 in
      let calls = asked_both run later in (
        h.0 ++ more.0,
        more.1,
        subst (λ t. AddsFront t old now) (sym (out_both h.0 more.0)) (front_longer old now (out h.0) (out more.0) h.2),
        up_to_more plan left (requests_of run) (requests_of (run ++ later)) (omega arith) h.3,
      )

  -- what was taken where a run was stopped is some of its text
  pub some_of_run : (fault : SettleFault) (before run : List Tuple) (old now : Level) (plan left : AskingPlan) →
      StopsRun fault finding number history before run old now plan left →
      WritesSomeOfRun fault finding number history before run old.0 now.0
  some_of_run KeeperFault before run old now plan left h =
      let more = more_told before h.done (h.request ∷ h.later) h.told h.told_are in (
        h.told ++ more.0,
        subst (λ ts. AreNotices finding number history (moments_after before ts) (h.told ++ more.0))
            (sym h.run_is) more.1,
        subst (λ t. WritesSome KeeperFault t old.0 now.0) (sym (out_both h.told more.0))
            (some_more KeeperFault (out h.told) (out more.0) old.0 now.0
            (text_front old now (out h.told) (front_pieces old now (out h.told) h.wrote))),
      )
  some_of_run WriteFault before run old now plan left h = (h.0, h.1, text_less old now (out h.0) h.2)
  some_of_run NoMemory before run old now plan left h = (h.0, h.1, text_front old now (out h.0) h.2)

  -- and then no memory was left
  pub run_unpublished : (fault : SettleFault) (before run : List Tuple) (old now : Level) (plan left : AskingPlan) →
      write_failed {T = Unit {0}} (Err fault) ≡ false → keeper_failed {T = Unit {0}} (Err fault) ≡ false →
      TakesRun finding number history before run old now plan left →
      StopsRun fault finding number history before run old now plan left
  run_unpublished KeeperFault before run old now plan left w k h = let no : ⊥ = cc in absurd no
  run_unpublished WriteFault before run old now plan left w k h = let no : ⊥ = cc in absurd no
  run_unpublished NoMemory before run old now plan left w k h =
      (h.0, h.1, front_whole old now (out h.0) h.2, up_to_all plan left (requests_of run) h.3)

  -- the sink failed while text that is held was handed on
  pub run_unflushed : (fault : SettleFault) (s : Settler) (q : Printer) (before run : List Tuple) (old now now' : Level)
      (plan left : AskingPlan) → InRun s finding number history before run old now plan left →
      HandsOn {T = Unit {0}} (Err fault) s.printer q now now' →
      StopsRun fault finding number history before run old now' plan left
  run_unflushed KeeperFault s q before run old now now' plan left h hands = absurd hands
  run_unflushed WriteFault s q before run old now now' plan left h hands = (
    h.told,
    h.told_are,
    hands (out h.earlier) (out h.told) old h.holds.prints,
    up_to_all plan left
        (requests_of run) h.passed,
  )
  run_unflushed NoMemory s q before run old now now' plan left h hands = absurd hands

-- where a run was stopped in its first tuples, it was stopped
pub stops_within : (finding : Sight → StretchTold) (number : ℕ) (history : PaidHistory) (fault : SettleFault)
    (before rest : List Tuple) (i count : ℕ) (old now : Level) (plan left : AskingPlan) → i ≤ count →
    StopsRun fault finding number history before (take i rest) old now plan left →
    StopsRun fault finding number history before (take count rest) old now plan left
stops_within finding number history fault before rest i count old now plan left le h =
    let parts : take i rest ++ drop i (take count rest) ≡ take count rest =
    ap (λ ts. ts ++ drop i (take count rest)) (sym (take_shorter i count rest le))
    ∙ take-append-drop i (take count rest) in
    subst (λ ts. StopsRun fault finding number history before ts old now plan left) parts
    (stops_longer finding number history fault before (take i rest) (drop i (take count rest)) old now plan left h)

-- by whether text that is held was handed on
pub on_flush : (r : Result (Unit {0}) SettleFault) (p q : Printer) (w v : Level) (P : Type 0) → HandsOn r p q w v →
    (HandsOn {T = Unit {0}} (Ok tt) p q w v → P) → OnOk r P
on_flush (Ok u) p q w v P hands f = f hands
on_flush (Err fault) p q w v P hands f = tt

pub if_unflushed : (r : Result (Unit {0}) SettleFault) (p q : Printer) (w v : Level) (P : SettleFault → Type 0) →
    HandsOn r p q w v → ((fault : SettleFault) → HandsOn {T = Unit {0}} (Err fault) p q w v → P fault) → IfErr r P
if_unflushed (Ok u) p q w v P hands f = tt
if_unflushed (Err fault) p q w v P hands f = f fault hands
