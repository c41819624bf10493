-- How the command ends.
use Rattle.std.proofs.Common.{◌≡◌, ◌≤◌, inl, inr, ℕ, List, Option, Result, Ok, Err, refl, sym, ap, subst}
use Rattle.std.proofs.Common.{◌∙◌, arith}
use Rattle.std.specs.Io.KnownBytes.{Appends}
use Rattle.road_time.specs.declared.day.SpentRow.{SpentRow}
use Rattle.keep_office.specs.declared.kept.KeepFault.{KeepFault}
use Rattle.keep_office.specs.declared.kept.KeepFault.TheVariants as keeping
use Rattle.keep_office.specs.Office.{Office}
use Rattle.keep_office.specs.Calls.{WhenRefused}
use Rattle.keep_office.specs.declared.renewing.Renewal.{Renewal}
use Rattle.keep_office.specs.declared.renewing.Renewal.TheVariants as ends
use Rattle.keep_office.specs.Renewals.{renew_answer, DoesRenewal, HaltsRenewal}
use Rattle.keep_office.specs.Renewed.{history_rows}
use Rattle.office_ends.specs.declared.ending.Ending.{Ending}
use Rattle.office_ends.specs.declared.ending.Ending.TheVariants.{Begun, Early, Drops, Unfit, KeeperFault, NoMemory}
use Rattle.office_ends.specs.Endings.{ending_of, ending_by, ending_line, failing, status_of, Closes}
use Rattle.office_ends.specs.Drops.{CommandAnswer, DoesEnding, DoesCommand, anew, first_unfit}

-- a renewal that nothing failed in ended as it should
pub ended_so : (w : WhenRefused) (count base : ℕ) (o : Office) (unfit : Option SpentRow) (now : Option Office)
    (r : Result Renewal KeepFault) (e : Ending) → unfit ≡ first_unfit base (history_rows base o) →
    DoesRenewal w (renew_answer base o) o now r → e ≡ ending_by count unfit r → DoesEnding (anew count base o) now e
ended_so w count base o unfit now (Ok outcome) e same done is = λ fault room.
    (is ∙ ap (λ u. ending_of count u outcome) same ∙ ap (ending_of count (first_unfit base (history_rows base o))) done.0, done.1)
ended_so w count base o unfit now (Err keeping.Failed) e same done is = λ fault room. absurd (fault is)
ended_so w count base o unfit now (Err keeping.NoMemory) e same done is = λ fault room. absurd (room is)

-- the command did what it is to do
pub does : (a : CommandAnswer) (now : Option Office) (e : Ending) (status : ℕ) (old new : Option (List ℕ)) →
    DoesEnding a now e → Closes e status old new → DoesCommand a now status old new
does a now e status old new done (inr some) = λ five six eight. absurd (five some.0)
does a now e status old new done (inl all) = λ five six eight.
    let did = done (λ k. six (all.0 ∙ ap status_of k)) (λ k. eight (all.0 ∙ ap status_of k)) in (
      all.0 ∙ ap status_of did.0,
      subst (λ (x : Ending). Appends old new (ending_line x)) did.0 all.1,
      did.1,
    )

-- a renewal that nothing failed in has a status of at most 3
low : (count : ℕ) (unfit : Option SpentRow) (outcome : Renewal) → status_of (ending_of count unfit outcome) ≤ 3
low count unfit (ends.Renewed kept) = omega arith
low count unfit (ends.Early last) = omega arith
low count unfit ends.Unfit = omega arith

-- and one whose call failed a higher one
pub high : (fault : KeepFault) → 6 ≤ status_of (failing fault)
high keeping.Failed = omega arith
high keeping.NoMemory = omega arith

-- which says how it failed
same_fault : (a b : KeepFault) → status_of (failing a) ≡ status_of (failing b) → a ≡ b
same_fault keeping.Failed keeping.Failed e = refl
same_fault keeping.Failed keeping.NoMemory e = absurd (omega (arith, e))
same_fault keeping.NoMemory keeping.Failed e = absurd (omega (arith, e))
same_fault keeping.NoMemory keeping.NoMemory e = refl

-- a renewal ended so because it failed so
only : (count : ℕ) (unfit : Option SpentRow) (r : Result Renewal KeepFault) (fault : KeepFault) →
    ending_by count unfit r ≡ failing fault → r ≡ Err fault
only count unfit (Ok outcome) fault is = absurd (omega (arith, low count unfit outcome, high fault, ap status_of is))
only count unfit (Err f) fault is = ap Err (same_fault f fault (ap status_of is))

-- and then left what a failed one leaves
pub halted : (w : WhenRefused) (count base : ℕ) (o : Office) (unfit : Option SpentRow) (now : Option Office)
    (r : Result Renewal KeepFault) (e : Ending) (fault : KeepFault) → DoesRenewal w (renew_answer base o) o now r →
    e ≡ ending_by count unfit r → e ≡ failing fault → HaltsRenewal w fault (renew_answer base o) o now
halted w count base o unfit now r e fault done is fails =
    subst (DoesRenewal w (renew_answer base o) o now) (only count unfit r fault (sym is ∙ fails)) done

-- amounts that would go are no failure
pub no_failure : (count : ℕ) (fault : KeepFault) → Drops count ≡ failing fault → ⊥
no_failure count fault is = omega (arith, high fault, ap status_of is)

-- the status of a failure is of no other ending
pub is_failing : (e : Ending) (fault : KeepFault) → status_of e ≡ status_of (failing fault) → e ≡ failing fault
is_failing (Begun base rows dropped) fault same = absurd (omega (arith, high fault, same))
is_failing (Early last) fault same = absurd (omega (arith, high fault, same))
is_failing (Drops rows) fault same = absurd (omega (arith, high fault, same))
is_failing (Unfit row) fault same = absurd (omega (arith, high fault, same))
is_failing KeeperFault keeping.Failed same = refl
is_failing KeeperFault keeping.NoMemory same = absurd (omega (arith, same))
is_failing NoMemory keeping.Failed same = absurd (omega (arith, same))
is_failing NoMemory keeping.NoMemory same = refl

-- only a keeper's fault has its status
pub is_fault : (e : Ending) → status_of e ≡ 6 → e ≡ KeeperFault
is_fault e six = is_failing e keeping.Failed six

-- a renewal ended with a keeper's fault where it failed, and only there
pub fails : (count : ℕ) (unfit : Option SpentRow) (r : Result Renewal KeepFault) →
    ending_by count unfit r ≡ KeeperFault → r ≡ Err keeping.Failed
fails count unfit r is = only count unfit r keeping.Failed is
