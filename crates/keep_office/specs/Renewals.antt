-- How a renewal ends, and what it leaves.
use Rattle.std.specs.Prelude.{◌≡◌, ◌⊎◌, ℕ, nat_le, Bool, true, false, Option, Some, Result, Ok, Err, if◌then◌else◌}
use Rattle.keep_office.specs.declared.kept.KeepFault.{KeepFault}
use Rattle.keep_office.specs.Office.{Office, last_day}
use Rattle.keep_office.specs.Calls.{WhenRefused, Leaves}
use Rattle.keep_office.specs.declared.renewing.Renewal.{Renewal}
use Rattle.keep_office.specs.declared.renewing.Renewal.TheVariants.{Renewed, Early, Unfit}
use Rattle.keep_office.specs.Renewed.{renewed, renewed_record, history_rows, are_fit}

-- how a renewal ends, and the office then
pub record RenewAnswer : Type 0 where
  pub outcome : Renewal
  pub office : Office

-- by whether a history may have the amounts
abbrev pub renewed_if : Bool → ℕ → Office → RenewAnswer
renewed_if true base o = record { outcome = Renewed (renewed_record base (history_rows base o)); office = renewed base o }
renewed_if false base o = record { outcome = Unfit; office = o }

-- beginning anew at a base: it is refused where that is not above the last day, or a history may not have the amounts
abbrev pub renew_answer : ℕ → Office → RenewAnswer
renew_answer base o =
    if nat_le base (last_day o) then record { outcome = Early (last_day o); office = o } else renewed_if
    (are_fit base (history_rows base o)) base o

-- a fault or want of memory: the office is as it was, or the put was refused, which leaves what its keeper leaves
abbrev pub HaltsRenewal : WhenRefused → KeepFault → RenewAnswer → Office → Option Office → Type 0
HaltsRenewal w fault a was now = (now ≡ Some was) ⊎ ((o : Office) × (now ≡ Some o) × Leaves w fault o was a.office)

-- all was done, or the call was refused
abbrev pub DoesRenewal : WhenRefused → RenewAnswer → Office → Option Office → Result Renewal KeepFault → Type 0
DoesRenewal w a was now (Ok outcome) = (outcome ≡ a.outcome) × (now ≡ Some a.office)
DoesRenewal w a was now (Err fault) = HaltsRenewal w fault a was now

-- the office is as it was, or began anew
abbrev pub IsRenewedOr : ℕ → Office → Option Office → Type 0
IsRenewedOr base was now = (now ≡ Some was) ⊎ (now ≡ Some (renewed base was))
