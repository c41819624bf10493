-- Where the files of a database lie, and whether what is held of them still lies there.
use Rattle.std.specs.Prelude.{◌≡◌, ◌⊎◌, ◌&&◌, ◌==◌, nat_lt, Bool, Option, Some, None, Result, Ok, Err, IsSome, IfSome}
use Rattle.keep_office.specs.declared.kept.KeepFault.{KeepFault}
use Rattle.keep_files.specs.declared.cause.Cause.{Cause}
use Rattle.keep_files.specs.declared.cause.Cause.TheVariants.{Replaced}
use Rattle.keep_files.specs.declared.place.Place.{Place}
use Rattle.keep_files.specs.declared.place.Places.{Places}
use Rattle.keep_files.specs.Openings.{WasUnopened}

-- a path names what is held, under as many names, and it is not empty
abbrev pub is_held : Place → Place → Bool
is_held held named =
    (held.device == named.device)
    && ((held.number == named.number) && ((held.names == named.names) && nat_lt 0 named.bytes))

-- the files that are held are where they lay
abbrev pub AreThere : (Places → Type 0) → Option Places → Type 0
AreThere there None = ⊥
AreThere there (Some places) = there places

-- they are not, for a cause
abbrev pub AreGone : (Places → Cause → Type 0) → Option Places → Cause → Type 0
AreGone gone None cause = cause ≡ Replaced
AreGone gone (Some places) cause = gone places cause

module _ {A W : Type 0} (there : Places → Type 0) (gone : Places → Cause → Type 0) where
  -- the files were not where they lay: nothing is held, and the call fails for that
  abbrev pub IsLetGo : Option Places → Option W → Option Cause → Result A KeepFault → Type 0
  IsLetGo places held said result = (held ≡ None) × WasUnopened (AreGone gone places) said result

  -- what was held was looked for first: it was where it lay, and the call was made; or it is let go
  abbrev pub LooksFirst : Option Places → Option W → Option W → Option Cause → Result A KeepFault → Type 0 → Type 0
  LooksFirst places old held said result made =
      (IfSome old (λ _. AreThere there places) × made) ⊎ (IsSome old × IsLetGo places held said result)

-- what an answer of a put is told as: a failure as it is; one that was done, where the files are still where they lie,
-- else as what it is that they are not
abbrev pub IsConfirmed : {W : Type 0} → (Places → Type 0) → (Places → Cause → Type 0) → Option Places → Option W →
    Option Cause → Result (Unit {0}) KeepFault → Option W → Option Cause → Result (Unit {0}) KeepFault → Type 0
IsConfirmed there gone places before told (Err fault) held said result =
    (held ≡ before) × ((said ≡ told) × (result ≡ Err fault))
IsConfirmed there gone places before told (Ok u) held said result =
    (AreThere there places × ((held ≡ before) × ((said ≡ told) × (result ≡ Ok u))))
    ⊎ IsLetGo there gone places held said result

-- a put was made, and what it answered is told once the files were looked for again
pub record IsPutThere {W : Type 0} (there : Places → Type 0) (gone : Places → Cause → Type 0) (places : Option Places)
    (made : Option W → Option Cause → Result (Unit {0}) KeepFault → Type 0) (held : Option W) (said : Option Cause)
    (result : Result (Unit {0}) KeepFault) : Type 0 where
  pub before : Option W
  pub told : Option Cause
  pub answer : Result (Unit {0}) KeepFault
  pub done : made before told answer
  pub then : IsConfirmed there gone places before told answer held said result
