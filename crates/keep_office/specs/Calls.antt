-- What a keeper's calls answer, what they leave of the office where they fail, and which of them fail.
use Rattle.std.specs.Prelude.{◌≡◌, ◌⊎◌, ℕ, ◌+◌, ◌≤◌, Bool, true, false, is_err, Option, Some, None, Result, Ok, Err}
use Rattle.std.specs.Prelude.{IfOk, IsOkUnless}
use Rattle.road_io.specs.Faults.{Rose}
use Rattle.keep_office.specs.declared.kept.KeepFault.{KeepFault}
use Rattle.keep_office.specs.declared.kept.KeepFault.TheVariants.{Failed, NoMemory}
use Rattle.keep_office.specs.Office.{Office, IsSound}

-- a keeper failed
abbrev pub has_failed : {T : Type 0} → Result T KeepFault → Bool
has_failed (Ok x) = false
has_failed (Err Failed) = true
has_failed (Err NoMemory) = false

-- what a keeper tells is sound
abbrev pub SoundIfTold : Option Office → Type 0
SoundIfTold None = Unit {0}
SoundIfTold (Some o) = IsSound o

-- what is asked of the office, where the keeper tells it
abbrev pub IfTold : Option Office → (Office → Type 0) → Type 0
IfTold None P = Unit {0}
IfTold (Some o) P = P o

-- a call that reads leaves all as it is, and answers what the office has; a keeper that does not tell it does not tell
-- it afterwards
abbrev pub Reads : {T : Type 0} → Option Office → Option Office → Result T KeepFault → (Office → T → Type 0) → Type 0
Reads None after r P = after ≡ None
Reads (Some o) None r P = ⊥
Reads (Some o) (Some p) r P = (p ≡ o) × IfOk r (λ x. P o x)

-- what a keeper does at a put that it refuses: it puts nothing; or a put that fails is done whole before, and one that
-- finds no memory is not done; or the one or the other, all or nothing
pub data WhenRefused : Type 0 where
  PutsNothing : WhenRefused
  FailsLate : WhenRefused
  AllOrNothing : WhenRefused

-- what a refused put leaves, where the office was this and would be that
abbrev pub Leaves : WhenRefused → KeepFault → Office → Office → Office → Type 0
Leaves PutsNothing e now was whole = now ≡ was
Leaves FailsLate Failed now was whole = now ≡ whole
Leaves FailsLate NoMemory now was whole = now ≡ was
Leaves AllOrNothing e now was whole = (now ≡ was) ⊎ (now ≡ whole)

-- a put puts all, and where it is refused all or nothing
abbrev pub Puts : WhenRefused → Option Office → Option Office → Result (Unit {0}) KeepFault → (Office → Office) → Type 0
Puts w None after r next = Unit {0}
Puts w (Some o) None r next = ⊥
Puts w (Some o) (Some p) (Ok u) next = p ≡ next o
Puts w (Some o) (Some p) (Err e) next = Leaves w e p o (next o)

-- a call fails exactly where it is planned, and the calls after it stay planned as they were; a plan tells which of
-- the calls to come fail, the next being 0
abbrev pub GoesAsPlanned : {T : Type 0} → Option (ℕ → Bool) → Option (ℕ → Bool) → Result T KeepFault → Type 0
GoesAsPlanned None after r = Unit {0}
GoesAsPlanned (Some p) None r = ⊥
GoesAsPlanned (Some p) (Some q) r = (has_failed r ≡ p 0) × ((n : ℕ) → q n ≡ p (n + 1))

-- a call fails only where it is planned, and is refused there
abbrev pub IsRefusedAsPlanned : {T : Type 0} → Option (ℕ → Bool) → Option (ℕ → Bool) → Result T KeepFault → Type 0
IsRefusedAsPlanned None after r = Unit {0}
IsRefusedAsPlanned (Some p) None r = ⊥
IsRefusedAsPlanned (Some p) (Some q) r = (has_failed r ≡ true → p 0 ≡ true) × (p 0 ≡ true → is_err r ≡ true)
    × ((n : ℕ) → q n ≡ p (n + 1))

-- a put goes as planned; where a put fails late, it may find no memory before
abbrev pub PutsAsPlanned : WhenRefused → Option (ℕ → Bool) → Option (ℕ → Bool) → Result (Unit {0}) KeepFault → Type 0
PutsAsPlanned PutsNothing before after r = GoesAsPlanned before after r
PutsAsPlanned FailsLate before after r = IsRefusedAsPlanned before after r
PutsAsPlanned AllOrNothing before after r = GoesAsPlanned before after r

-- a call that takes memory may find none; one that takes none is refused only as the keeper failed
abbrev pub Wants : {T : Type 0} → Bool → Result T KeepFault → Type 0
Wants true r = Unit {0}
Wants false r = IsOkUnless r Failed

-- the count of faults never falls, rose where the keeper failed, and stands where it did not
pub record CountsFaults {T : Type 0} (before now : ℕ) (result : Result T KeepFault) : Type 0 where
  pub later : before ≤ now
  pub failed : has_failed result ≡ true → Rose before now
  pub still : has_failed result ≡ false → now ≡ before
