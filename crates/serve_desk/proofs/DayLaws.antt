-- Laws of the kept days, found one by one, and of the faults that are counted meanwhile.
use Rattle.std.proofs.Common.{◌≡◌, ℕ, ◌+◌, ◌<◌, ◌≤◌, ◌==◌, nat_lt, max, Bool, true, false, cond, List, [], ◌∷◌, ◌++◌}
use Rattle.std.proofs.Common.{map, Option, Some, None, Result, Ok, Err, refl, sym, ap, subst, ◌∙◌, arith}
use Rattle.std.specs.List.{AllByRecursion, find}
use Rattle.std.specs.List.Sorted.{IsStrictlySortedBy}
use Rattle.std.specs.Ordering.{nat_cmp}
use Rattle.std.specs.declared.cmp.Ordering.TheVariants.{Less}
use Rattle.std.proofs.lemmas.Bool.{lt-ltb, ltb-true, ltb-false, ne_eqb, eqb-true, cond-true, cond-false}
use Rattle.std.proofs.lemmas.Cmp.{ranked}
use Rattle.road_time.proofs.EachLaws.{weakened}
use Rattle.keep_office.specs.declared.kept.DayRecord.{DayRecord}
use Rattle.keep_office.specs.declared.kept.PastRecord.{PastRecord}
use Rattle.keep_office.specs.declared.kept.KeepFault.{KeepFault}
use Rattle.keep_office.specs.declared.kept.KeepFault.TheVariants.{Failed, NoMemory}
use Rattle.keep_office.specs.Calls.{CountsFaults, SoundIfTold}
use Rattle.keep_office.specs.Office.{Office, greatest_day, last_from, IsSound}
use Rattle.serve_desk.specs.Days.{first_day, days_below, as_list}

-- no day is below a number that none is below
pub below_none : (n : ℕ) (days : List DayRecord) → AllByRecursion (λ r. n ≤ r.day) days → days_below n days ≡ []
below_none n [] h = refl
below_none n (r ∷ rs) h =
    let off : nat_lt r.day n ≡ false = grind (arith, h.0) in
    cond-false (nat_lt r.day n) _ _ off ∙ below_none n rs h.1

-- all days are below a number that each is below
pub below_all : (n : ℕ) (days : List DayRecord) → AllByRecursion (λ r. r.day < n) days → days_below n days ≡ days
below_all n [] h = refl
below_all n (r ∷ rs) h =
    cond-true (nat_lt r.day n) _ _ (lt-ltb r.day n h.0) ∙ ap (λ ys. r ∷ ys) (below_all n rs h.1)

-- a day that is less than another is below it
less_is : (m n : ℕ) → nat_cmp m n ≡ Less → m < n
less_is m n e = ranked m n Less (sym e)

-- the days behind one are after it
later : (m : ℕ) (days : List DayRecord) → AllByRecursion (λ y. nat_cmp m y ≡ Less) (map (λ r. r.day) days) →
    AllByRecursion (λ r. m + 1 ≤ r.day) days
later m [] h = tt
later m (r ∷ rs) h =
    let low : m < r.day = less_is m r.day h.0 in
    (omega (arith, low), later m rs h.1)

-- a day is not found among later ones
find_none : (n : ℕ) (days : List DayRecord) → AllByRecursion (λ r. n + 1 ≤ r.day) days →
    find (λ r. r.day == n) days ≡ None
find_none n [] h = refl
find_none n (r ∷ rs) h =
    cond-false (r.day == n) _ _ (ne_eqb r.day n (λ e. omega (arith, e, h.0))) ∙ find_none n rs h.1

-- the days below a number and its own record are the days below the next
pub below_more : (n : ℕ) (days : List DayRecord) → IsStrictlySortedBy nat_cmp (map (λ r. r.day) days) →
    days_below n days ++ as_list (find (λ r. r.day == n) days) ≡ days_below (n + 1) days
unfolding IsStrictlySortedBy
below_more n [] h = refl
below_more n (r ∷ rs) h = by (nat_lt r.day n) refl (r.day == n) refl (below_more n rs h.1)
  where
    by : (u : Bool) → nat_lt r.day n ≡ u → (v : Bool) → (r.day == n) ≡ v →
        days_below n rs ++ as_list (find (λ r. r.day == n) rs) ≡ days_below (n + 1) rs →
        cond u (r ∷ days_below n rs) (days_below n rs) ++ as_list (cond v (Some r) (find (λ r. r.day == n) rs))
        ≡ days_below (n + 1) (r ∷ rs)
    by true a true b more = absurd (omega (arith, ltb-true r.day n a, eqb-true r.day n b))
    by true a false b more =
        let low : r.day < n + 1 = omega (arith, ltb-true r.day n a) in
        ap (λ l. r ∷ l) more ∙ sym (cond-true (nat_lt r.day (n + 1)) _ _ (lt-ltb r.day (n + 1) low))
    by false a true b more =
        let same = eqb-true r.day n b in
        let low : r.day < n + 1 = omega (arith, same) in
        let after : AllByRecursion (λ s. n + 1 ≤ s.day) rs =
        subst (λ m. AllByRecursion (λ s. m + 1 ≤ s.day) rs) same (later r.day rs h.0) in
        ap (λ l. l ++ (r ∷ []))
        (below_none n rs (weakened (λ s. n + 1 ≤ s.day) (λ s. n ≤ s.day) (λ s k. omega (arith, k)) rs after))
        ∙ sym
        (cond-true (nat_lt r.day (n + 1)) _ _ (lt-ltb r.day (n + 1) low)
        ∙ ap (λ l. r ∷ l) (below_none (n + 1) rs after))
    by false a false b more =
        let least : n ≤ r.day = ltb-false r.day n a in
        let high : nat_lt r.day (n + 1) ≡ false = grind (arith, a, b) in
        let after : AllByRecursion (λ s. n + 1 ≤ s.day) rs =
        weakened (λ s. r.day + 1 ≤ s.day) (λ s. n + 1 ≤ s.day) (λ s k. omega (arith, k, least)) rs (later r.day rs h.0) in
        ap (λ l. l ++ as_list (find (λ r. r.day == n) rs))
        (below_none n rs (weakened (λ s. n + 1 ≤ s.day) (λ s. n ≤ s.day) (λ s k. omega (arith, k)) rs after))
        ∙ ap as_list (find_none n rs after)
        ∙ sym (cond-false (nat_lt r.day (n + 1)) _ _ high ∙ below_none (n + 1) rs after)

-- the days are at most the greatest
days_most : (n : ℕ) (days : List DayRecord) → (n ≤ greatest_day n days)
    × AllByRecursion (λ r. r.day ≤ greatest_day n days) days
days_most n [] = (omega arith, tt)
days_most n (r ∷ rs) =
    let more = days_most (max n r.day) rs in
    let most : max n r.day ≤ greatest_day (max n r.day) rs = more.0 in
    (omega (arith, most), (omega (arith, most), more.1))

-- no kept day is after the last
pub days_last : (days : List DayRecord) (past : Option PastRecord) →
    AllByRecursion (λ r. r.day ≤ last_from days past) days
days_last [] past = tt
days_last (r ∷ rs) past = let m = days_most r.day rs in (m.0, m.1)

-- no kept day is before the first that may be kept
pub days_first : (o : Office) → IsSound o → AllByRecursion (λ r. first_day o.past ≤ r.day) o.days
days_first o s = by o.past refl
  where
    by : (past : Option PastRecord) → o.past ≡ past → AllByRecursion (λ r. first_day past ≤ r.day) o.days
    by None e = s.from_one
    by (Some p) e = (s.past p e).before

-- a call that answers something counts as another that does
pub counts_ok : {S T : Type 0} (before now : ℕ) (x : S) (y : T) → CountsFaults {T = S} before now (Ok x) →
    CountsFaults {T = T} before now (Ok y)
counts_ok before now x y h = record { later = h.later; failed = λ e. absurd (cc e); still = λ e. h.still refl }

-- and as one that finds no memory
pub counts_memory : {S T : Type 0} (before now : ℕ) (x : S) → CountsFaults {T = S} before now (Ok x) →
    CountsFaults {T = T} before now (Err NoMemory)
counts_memory before now x h = record { later = h.later; failed = λ e. absurd (cc e); still = λ e. h.still refl }

-- a call that fails counts as another that fails so
pub counts_err : {S T : Type 0} (before now : ℕ) (e : KeepFault) → CountsFaults {T = S} before now (Err e) →
    CountsFaults {T = T} before now (Err e)
counts_err before now Failed h =
    record { later = h.later; failed = λ e. h.failed refl; still = λ e. absurd (cc e) }
counts_err before now NoMemory h =
    record { later = h.later; failed = λ e. absurd (cc e); still = λ e. h.still refl }

-- a call after one that answered
pub counts_after : {S T : Type 0} (before mid now : ℕ) (x : S) (r : Result T KeepFault) →
    CountsFaults {T = S} before mid (Ok x) → CountsFaults mid now r → CountsFaults before now r
counts_after before mid now x r h k = subst (λ m. CountsFaults m now r) (h.still refl) k

-- a keeper that found no memory counted nothing
pub memory_still : {T : Type 0} (before now : ℕ) (fault : KeepFault) → CountsFaults {T = T} before now (Err fault) →
    fault ≡ NoMemory → now ≡ before
memory_still {T} before now fault h e = (subst (λ k. CountsFaults {T = T} before now (Err k)) e h).still refl

-- a keeper whose count rose failed
pub risen_failed : {T : Type 0} (before now : ℕ) (fault : KeepFault) → CountsFaults {T = T} before now (Err fault) →
    before < now → fault ≡ Failed
risen_failed before now Failed h less = refl
risen_failed before now NoMemory h less = absurd (omega (arith, h.still refl, less))

-- so does one after which a result is made that is no failure of the keeper
pub counts_quiet : {S T : Type 0} (before now : ℕ) (x : S) (r : Result T KeepFault) →
    CountsFaults {T = S} before now (Ok x) → (r ≡ Err Failed → ⊥) → CountsFaults before now r
counts_quiet before now x (Ok y) h quiet = counts_ok before now x y h
counts_quiet before now x (Err Failed) h quiet = absurd (quiet refl)
counts_quiet before now x (Err NoMemory) h quiet = counts_memory before now x h

-- where the count stands, something was answered
pub counts_still : {T : Type 0} (before now : ℕ) (x : T) → now ≡ before → CountsFaults {T = T} before now (Ok x)
counts_still before now x e = record { later = omega (arith, e); failed = λ f. absurd (cc f); still = λ f. e }

-- an office that is told is sound, where what is told is
pub sound_is : (told : Option Office) (o : Office) → told ≡ Some o → SoundIfTold told → IsSound o
sound_is None o e h = absurd (cc e)
sound_is (Some p) o e h = (let same : p ≡ o = cc e in subst (λ q. IsSound q) same h)

-- a call that failed after some where the count stood
pub counts_later : {S T : Type 0} (before mid now : ℕ) (e : KeepFault) → mid ≡ before →
    CountsFaults {T = S} mid now (Err e) → CountsFaults {T = T} before now (Err e)
counts_later {S} {T} before mid now e same h =
    subst (λ m. CountsFaults {T = T} m now (Err e)) same (counts_err mid now e h)
