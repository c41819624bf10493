-- What was looked for and is not had, and what is told of it.
use Rattle.std.proofs.Common.{◌≡◌, Option, Some, None, Result, Ok, Err, IfSome, subst, refl}
use Rattle.keep_office.specs.declared.kept.KeepFault.{KeepFault}
use Rattle.keep_files.specs.declared.cause.Cause.{Cause}
use Rattle.keep_files.specs.declared.missed.Missed.{Missed}
use Rattle.keep_files.specs.declared.missed.Missed.TheVariants.{Foreign, Failed}
use Rattle.keep_files.specs.Asked.{IsHeld}
use Rattle.keep_files.specs.Closes.{IsTellingWhy, IsUnfolded}
use Rattle.keep_files.specs.Refusals.{IfFailed, IfForeign}

-- of what is given back more is known, where that follows from what is
pub foreign_so : {T : Type 0} (so also : T → Type 0) → ((back : T) → so back → also back) → (missed : Missed T) →
    IfForeign so missed → IfForeign also missed
foreign_so so also more (Foreign back) h = more back h
foreign_so so also more (Failed cause) h = tt

-- a look that failed for the cause that is told failed for such a cause
pub failed_so : {T : Type 0} (so : Cause → Type 0) (why : Option Cause) → IfSome why so → (missed : Missed T) →
    IfFailed (λ cause. why ≡ Some cause) missed → IfFailed so missed
failed_so so why known (Foreign back) h = tt
failed_so so why known (Failed cause) h = subst (λ (told : Option Cause). IfSome told so) h known

-- where nothing is held behind a put that was done, it is said why
pub telling_of : {K : Type 0} (foreign : Type 0) (refuses : Cause → Type 0) (held : Option K)
    (unfolded : Option Cause) → IsUnfolded foreign refuses held unfolded → IsTellingWhy (Ok tt) held unfolded
telling_of foreign refuses (Some kept) unfolded h = tt
telling_of foreign refuses None (Some cause) h = refl
telling_of foreign refuses None None h = absurd h

-- a keeper that was called is held where the call was done
pub telling_held : {K : Type 0} (answer : Result (Unit {0}) KeepFault) (held : Option K) (after : K)
    (unfolded : Option Cause) → IsHeld answer held after → IsTellingWhy answer held unfolded
telling_held (Ok u) (Some kept) after unfolded h = tt
telling_held (Ok u) None after unfolded h = absurd (cc)
telling_held (Err fault) held after unfolded h = tt
