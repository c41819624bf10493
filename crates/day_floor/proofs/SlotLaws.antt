-- Where a slot is settled, or settling is stopped at it.
use Rattle.std.proofs.Common.{◌≡◌, ℕ, false, List, Result, Ok, Err, refl, sym, subst}
use Rattle.road_time.specs.declared.road.Notice.{Notice}
use Rattle.day_floor.specs.declared.fault.SettleFault.{SettleFault}
use Rattle.day_floor.specs.declared.fault.SettleFault.TheVariants.{KeeperFault, WriteFault, NoMemory}
use Rattle.day_floor.specs.declared.printer.Printer.{Printer}
use Rattle.day_floor.specs.declared.due_slot.Due.{Due}
use Rattle.road_io.specs.Levels.{Level}
use Rattle.day_floor.specs.Asking.{AskingPlan, PassesCalls, AsksOnce, slot_asked}
use Rattle.day_floor.specs.Faults.{keeper_failed}
use Rattle.day_floor.specs.Printing.{Says}
use Rattle.day_floor.specs.SettlingRuns.{SettlesSlot}
use Rattle.day_floor.proofs.AskLaws.{up_to_all}
use Rattle.day_floor.proofs.PrintLaws.{says_no_memory}

-- the keeper was asked as often as the slot asks, and then the notices were said
pub slot_said : (r : Result (Unit {0}) SettleFault) (due : Due) (p q : Printer) (w v : Level) (plan left : AskingPlan)
    (ns : List Notice) → keeper_failed r ≡ false → PassesCalls (slot_asked due) plan left → Says r p q w v ns →
    SettlesSlot r due p q w v plan left ns
slot_said (Ok u) due p q w v plan left ns e calls says = (says, calls)
slot_said (Err KeeperFault) due p q w v plan left ns e calls says = let no : ⊥ = cc in absurd no
slot_said (Err WriteFault) due p q w v plan left ns e calls says = (says, up_to_all plan left (slot_asked due) calls)
slot_said (Err NoMemory) due p q w v plan left ns e calls says = (says, up_to_all plan left (slot_asked due) calls)

-- the keeper refused the one call that a slot makes
pub slot_refused : (fault : SettleFault) (due : Due) (p q : Printer) (w : Level) (plan left : AskingPlan)
    (ns : List Notice) → slot_asked due ≡ 1 → AsksOnce {T = ℕ} (Err fault) plan left →
    SettlesSlot {T = Unit {0}} (Err fault) due p q w w plan left ns
slot_refused KeeperFault due p q w plan left ns one once = (one, refl, once)
slot_refused WriteFault due p q w plan left ns one once = absurd once
slot_refused NoMemory due p q w plan left ns one once = (
  says_no_memory p q w ns,
  up_to_all plan left (slot_asked due)
      (subst (λ n. PassesCalls n plan left) (sym one) once),
)
