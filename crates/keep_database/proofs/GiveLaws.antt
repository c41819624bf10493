-- What follows of answers that give.
use Rattle.std.proofs.Common.{◌≡◌, ◌<◌, ◌≤◌, get_or, ◌^◌, ◌==◌, ℕ, pos, max, true, inl, inr, List, [], ◌∷◌, length}
use Rattle.std.proofs.Common.{find, Option, Some, None, IfSome, arith, Result, Ok, Err, IfErr, OnErr, IsSome, IsErrAnd, map, refl, sym}
use Rattle.std.proofs.Common.{ap, subst}
use Rattle.std.proofs.Common.{◌≢◌, ◌∙◌}
use Rattle.std.specs.List.{AllByRecursion}
use Rattle.std.proofs.lemmas.Bool.{cases_Bool}
use Rattle.std.proofs.lemmas.Bool.Decides.{nat_tests}
use Rattle.sqlite_value.specs.declared.value.Value.TheVariants.{Int}
use Rattle.sqlite_value.specs.Order.{Row, column}
use Rattle.keep_office.specs.declared.kept.DayRecord.{DayRecord}
use Rattle.keep_office.specs.declared.kept.KeepFault.{KeepFault}
use Rattle.keep_office.specs.declared.kept.KeepFault.TheVariants.{Failed, NoMemory}
use Rattle.keep_office.specs.declared.kept.PastRecord.{PastRecord}
use Rattle.road_time.specs.declared.day.SpentRow.{SpentRow}
use Rattle.keep_office.specs.Office.{IsPast, greatest_day}
use Rattle.keep_tables.specs.Stands.{FitsDay, FitsPast}
use Rattle.keep_tables.specs.Amounts.{HasAmount}
use Rattle.keep_tables.specs.Shown.{row_if_any}
use Rattle.keep_database.specs.Gives.{GivesUnless, Gives, FitsBased}

-- an error that is no failure is none of another call
pub err_gives : {T X U Y : Type 0} (see : T → X) (look : U → Y) (e : KeepFault) (x : X) (y : Y) →
    Gives {T = T} see (Err e) x → Gives {T = U} look (Err e) y
err_gives see look NoMemory x y h = tt
err_gives see look Failed x y h = absurd h

-- so is one that is handed on
pub err_as : {T X U Y : Type 0} (see : T → X) (look : U → Y) (r : Result U KeepFault) (e : KeepFault) (x : X) (y : Y) →
    IsErrAnd r (λ f. f ≡ e) → Gives {T = T} see (Err e) x → Gives look r y
err_as see look (Ok u) e x y same h = absurd same
err_as see look (Err f) e x y same h = subst (λ k. Gives look (Err k) y) (sym same) (err_gives see look e x y h)

-- the greatest of days that fit fits
pub last_low : (before : ℕ) (ds : List DayRecord) → before < 2 ^ 32 → AllByRecursion FitsDay ds →
    greatest_day before ds < 2 ^ 32
last_low before [] low all = low
last_low before (d ∷ ds) low all = last_low (max before d.day) ds (omega (arith, low, all.0.day)) all.1

-- a column that has a number is there
pub is_there : (r : Row) (n : ℕ) → column r 0 ≡ Int (pos n) → 0 < length r
is_there [] n is = absurd (cc)
is_there (v ∷ r) n is = omega arith

-- what is given without a failure is given
pub gives_so : {T X : Type 0} (R : Type 0) (see : T → X) (r : Result T KeepFault) (x : X) → Gives see r x →
    GivesUnless R see r x
gives_so R see (Ok t) x h = h
gives_so R see (Err NoMemory) x h = tt
gives_so R see (Err Failed) x h = absurd h

-- an error that is handed on is a failure for a cause
pub refused_so : {U Y : Type 0} (R : Type 0) (look : U → Y) (r : Result U KeepFault) (e : KeepFault) (y : Y) →
    IsErrAnd r (λ f. f ≡ e) → (e ≡ Failed → R) → GivesUnless R look r y
refused_so R look (Ok u) e y same h = absurd same
refused_so R look (Err f) e y same h = subst (λ k. GivesUnless R look (Err k) y) (sym same) (go e h)
  where
    go : (k : KeepFault) → (k ≡ Failed → R) → GivesUnless R look (Err k) y
    go NoMemory h = tt
    go Failed h = h refl

-- the record of a day fits, and is of the day
pub record_fits : (day : ℕ) (ds : List DayRecord) → AllByRecursion FitsDay ds →
    IfSome (find (λ r. r.day == day) ds) (λ r. FitsDay r × (r.day ≡ day))
record_fits day [] all = tt
record_fits day (d ∷ ds) all = elim (cases_Bool (d.day == day)) [
  | inl is ↦ rw is (all.0, same d.day day is)
  | inr other ↦ rw other (record_fits day ds all.1)
]
  where
    same : (m n : ℕ) → (m == n) ≡ true → m ≡ n
    same m n is = grind (arith, nat_tests, is)

-- the amount of an answer of one row
pub amount_alone : (found : List Row) (tolls : ℕ) (d : Row) → 1 ≤ length found → length found < 2 →
    HasAmount found tolls → column (get_or found 0 d) 0 ≡ Int (pos tolls)
amount_alone [] tolls d some few has = absurd (omega (arith, some))
amount_alone (r ∷ []) tolls d some few has = has
amount_alone (r ∷ s ∷ rs) tolls d some few has = absurd has

-- a sound history that fits has a base of 70 or more
pub past_based : (past : Option PastRecord) (days : List DayRecord) (rows : List SpentRow) → IfSome past FitsPast →
    ((p : PastRecord) → past ≡ Some p → IsPast p days rows) → IfSome past FitsBased
past_based None days rows fits sound = tt
past_based (Some p) days rows fits sound = (fits, (sound p refl).based)

-- what is given unless for one cause is given unless for another that it has
pub gives_weaker : {T X : Type 0} (P Q : Type 0) (see : T → X) (r : Result T KeepFault) (y : X) → (P → Q) →
    GivesUnless P see r y → GivesUnless Q see r y
gives_weaker P Q see (Ok t) y f h = h
gives_weaker P Q see (Err NoMemory) y f h = tt
gives_weaker P Q see (Err Failed) y f h = f h

-- a failure of an answer has the cause
pub cause_given : {T X : Type 0} (R : Type 0) (see : T → X) (r : Result T KeepFault) (y : X) → GivesUnless R see r y →
    r ≡ Err Failed → R
cause_given R see (Ok t) y h failed = absurd (cc)
cause_given R see (Err NoMemory) y h failed = absurd (cc)
cause_given R see (Err Failed) y h failed = h

-- an error of a reader that wants no memory is none of another's
pub pure_handed : {T U : Type 0} (r : Result T KeepFault) (e : KeepFault) → IsErrAnd r (λ f. f ≡ e) →
    ◌≢◌ {A = Result U KeepFault} (Err e) (Err NoMemory) → r ≢ Err NoMemory
pure_handed (Ok t) e same pure is = absurd same
pure_handed (Err f) e same pure is = let it : f ≡ NoMemory = cc in pure (ap Err (sym same ∙ it))

-- a reader that wants no memory has no error where it gives what is there
pub never_given : {T X : Type 0} (see : T → X) (e : KeepFault) (x : X) → Gives {T = T} see (Err e) x →
    ◌≢◌ {A = Result T KeepFault} (Err e) (Err NoMemory) → ⊥
never_given see NoMemory x h pure = pure refl
never_given see Failed x h pure = h

-- what is not so anyway is not so where a call fails
pub always_not : {T E : Type 0} (r : Result T E) (P : Type 0) → ¬ P → OnErr r (¬ P)
always_not (Ok x) P never = tt
always_not (Err e) P never = never

-- a row of what may be there is of what is there
pub one_there : {X : Type 0} (row : X → Row) (x : Option X) (found : List Row) → found ≡ row_if_any row x →
    0 < length found → IsSome x
one_there row None found is some = absurd (omega (arith, ap (λ (l : List Row). length l) is, some))
one_there row (Some x) found is some = refl

-- so is a row of some
pub some_there : {X : Type 0} (row : X → Row) (xs : List X) (found : List Row) → found ≡ map row xs →
    0 < length found → xs ≢ []
some_there row [] found is some none = omega (arith, ap (λ (l : List Row). length l) is, some)
some_there row (x ∷ xs) found is some none = cc

-- a fault that is neither a failure nor want of memory is none
pub no_fault : {T : Type 0} (r : Result T KeepFault) (P : KeepFault → Type 0) → r ≢ Err Failed → r ≢ Err NoMemory →
    IfErr r P
no_fault (Ok t) P failed memory = tt
no_fault (Err Failed) P failed memory = absurd (failed refl)
no_fault (Err NoMemory) P failed memory = absurd (memory refl)

-- a call that gives what is there hands no error on
pub no_error : {T U X : Type 0} (see : U → X) (e : KeepFault) (s : Result U KeepFault) (y : X) (x : T) →
    ◌≡◌ {A = Result T KeepFault} (Err e) (Ok x) → Gives see s y
no_error see e s y x is = absurd (cc)
