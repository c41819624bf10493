-- What a command wrote, from what its report wrote.
use Rattle.std.proofs.Common.{◌≡◌, ◌≢◌, ℕ, List, [], Option, Some, None, Result, Ok, Err, refl, sym, subst, ap, arith}
use Rattle.std.specs.Prelude.{OnOk}
use Rattle.road_io.specs.declared.source.Failed.{Failed}
use Rattle.keep_office.specs.Office.{Office}
use Rattle.office_reports.specs.declared.report_fault.ReportFault.{ReportFault}
use Rattle.office_reports.specs.declared.report_fault.ReportFault.TheVariants as reports
use Rattle.office_reports.specs.Endings.{Reported}
use Rattle.office_reports.specs.Endings as report
use Rattle.office_commands.specs.declared.closing.Closing.{Closing}
use Rattle.office_commands.specs.Commands.{report_command, text_alone}
use Rattle.office_commands.specs.Endings.{Wrote, EndsReport, code_of}
use Rattle.office_commands.proofs.ClosingLaws.{fault_empty}

-- a report that ends well has no closing line, and did what it does then
pub well : (day : ℕ) (done : Result (Unit {0}) ReportFault) (r : Result (Option Closing) Failed) (A : Type 0) →
    EndsReport day done r → OnOk done A → code_of r ≡ 0 → (r ≡ Ok None) × A
well day (Ok u) (Ok c) A e h zero = (ap Ok e, h)
well day (Err reports.NoDay) (Ok c) A e h zero = absurd (omega (arith, zero, ap (λ x. code_of (Ok x)) e))
well day (Err reports.KeeperFault) (Ok c) A e h zero = absurd (omega (arith, zero, ap (λ x. code_of (Ok x)) e))
well day (Err (reports.Unsound unsound)) (Ok c) A e h zero = absurd (omega (arith, zero, ap (λ x. code_of (Ok x)) e))
well day (Err reports.WriteFault) (Ok c) A e h zero = absurd e
well day (Err reports.NoMemory) (Ok c) A e h zero = absurd (omega (arith, zero, ap (λ x. code_of (Ok x)) e))
well day _ (Err x) A e h zero = absurd (omega (arith, zero))

-- a report changes nothing
pub report_office : (number : ℕ) (text : Option (List ℕ)) (o : Office) → (report_command number text o).office ≡ o
report_office number None o = refl
report_office number (Some text) o = refl

module _ (number : ℕ) (o : Office) (old new : Option (List ℕ)) where
  -- a report of a day, which may have none
  pub reported : (text : Option (List ℕ)) (done : Result (Unit {0}) ReportFault) (r : Result (Option Closing) Failed) →
      EndsReport number done r → Reported done old new text → Wrote (report_command number text o) r old new
  reported None (Ok u) r e h = absurd h
  reported (Some t) (Ok u) (Ok c) e h = subst (λ x. Wrote (text_alone t o) (Ok x) old new) (sym e) (refl, h)
  reported None (Err reports.NoDay) (Ok c) e h =
      subst (λ x. Wrote (report_command number None o) (Ok x) old new) (sym e) ([], (refl, refl), h)
  reported (Some t) (Err reports.NoDay) r e h = absurd h
  reported None (Err reports.KeeperFault) (Ok c) e h =
      subst (λ x. Wrote (report_command number None o) (Ok x) old new) (sym e)
      ([], fault_empty (report_command number None o), h)
  reported (Some t) (Err reports.KeeperFault) (Ok c) e h =
      subst (λ x. Wrote (text_alone t o) (Ok x) old new) (sym e) ([], fault_empty (text_alone t o), h)
  reported None (Err (reports.Unsound day)) r e h = absurd h
  reported (Some t) (Err (reports.Unsound day)) r e h = absurd h
  reported None (Err reports.WriteFault) r e h = absurd h
  reported (Some t) (Err reports.WriteFault) (Ok c) e h = absurd e
  reported (Some t) (Err reports.WriteFault) (Err x) e h = h
  reported None (Err reports.NoMemory) (Ok c) e h =
      subst (λ x. Wrote (report_command number None o) (Ok x) old new) (sym e)
      ([], fault_empty (report_command number None o), h)
  reported (Some t) (Err reports.NoMemory) (Ok c) e h =
      subst (λ x. Wrote (text_alone t o) (Ok x) old new) (sym e) ([], fault_empty (text_alone t o), h)
  reported (Some t) _ (Err x) e h = absurd e
  reported None _ (Err x) e h = absurd e

  -- a report that there always is
  pub stated : (text : List ℕ) (done : Result (Unit {0}) ReportFault) (r : Result (Option Closing) Failed) →
      EndsReport number done r → done ≢ Err reports.NoDay → report.WroteText done old new text →
      Wrote (text_alone text o) r old new
  stated t (Ok u) (Ok c) e own h = subst (λ x. Wrote (text_alone t o) (Ok x) old new) (sym e) (refl, h)
  stated t (Err reports.NoDay) r e own h = absurd (own refl)
  stated t (Err reports.KeeperFault) (Ok c) e own h =
      subst (λ x. Wrote (text_alone t o) (Ok x) old new) (sym e) ([], fault_empty (text_alone t o), h)
  stated t (Err (reports.Unsound day)) r e own h = absurd h
  stated t (Err reports.WriteFault) (Ok c) e own h = absurd e
  stated t (Err reports.WriteFault) (Err x) e own h = h
  stated t (Err reports.NoMemory) (Ok c) e own h =
      subst (λ x. Wrote (text_alone t o) (Ok x) old new) (sym e) ([], fault_empty (text_alone t o), h)
  stated t _ (Err x) e own h = absurd e
