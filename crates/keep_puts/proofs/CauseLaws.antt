-- Why the steps of a put fail, and what of them is why the put does.
use Rattle.std.proofs.Common.{◌≡◌, ◌≤◌, ◌<◌, ◌*◌, ◌+◌, ◌⊎◌, inl, inr, ℕ, Bool, true, false, cond}
use Rattle.std.proofs.Common.{true≢false, Result, Ok, Err}
use Rattle.std.proofs.Common.{IfErr, IsErrAnd, IsTrue, [], ◌∷◌, length, refl, sym, ap, subst, ◌∙◌, arith}
use Rattle.std.specs.Prelude.{sum_by}
use Rattle.std.specs.List.{AllByRecursion}
use Rattle.std.specs.Float.{NotNan}
use Rattle.std.proofs.lemmas.Nat.Bits.{bit_at-zero}
use Rattle.std.proofs.lemmas.List.Sums.{sum_by-cons}
use Rattle.sqlite_disk.specs.Disk.{MoreFaults}
use Rattle.sqlite_value.specs.declared.value.Value.{Value}
use Rattle.sqlite_value.specs.declared.value.Value.TheVariants.{Null, Int, Real, Text, Blob}
use Rattle.sqlite_value.specs.Order.{Row, number, bytes}
use Rattle.sqlite_trees.specs.declared.error.StoreError.{StoreError}
use Rattle.sqlite_trees.specs.declared.error.StoreError.TheVariants.{OutOfMemory, Io, Corrupt, Full, Broken, Unstorable}
use Rattle.sqlite_trees.specs.declared.store.Store.{Ghosts}
use Rattle.sqlite_trees.specs.View.{View, IsClean, HasCause, IsStorable, IsStorableRow, OnlyWrites, IsRolledBack}
use Rattle.sqlite_typed.proofs.RowLemmas.{int_is_number, zero_is_number, no_nan}
use Rattle.sqlite_exec.specs.Calls.{OnlyReads}
use Rattle.sqlite_exec.proofs.WriteLemmas.{cause_weaker}
use Rattle.keep_puts.specs.Causes.{HasNoReals, StepCause, PutCause}

module _ {S : Type 0} (g : Ghosts S) where
  -- why a later step failed is why both did
  pub cause_after : (a b c : S) (e : StoreError) → g.faults a ≤ g.faults b
      → (g.view b).is_broken ≡ (g.view a).is_broken → (g.view b).reals ≡ (g.view a).reals
      → StepCause g b c e → StepCause g a c e
  cause_after a b c OutOfMemory up broken reals h = tt
  cause_after a b c Io up broken reals h = omega (arith, up, h)
  cause_after a b c Corrupt up broken reals h = omega (arith, up, h)
  cause_after a b c Full up broken reals h = omega (arith, up, h)
  cause_after a b c Broken up broken reals h = subst IsTrue broken h
  cause_after a b c Unstorable up broken reals h = λ none. h (subst HasNoReals (sym reals) none)

  -- so it is after a step that wrote
  pub cause_written : (a b c : S) (e : StoreError) → g.faults a ≤ g.faults b → OnlyWrites (g.view a) (g.view b)
      → StepCause g b c e → StepCause g a c e
  cause_written a b c e up wrote h =
      cause_after a b c e up (ap (λ (v : View). v.is_broken) wrote) (ap (λ (v : View). v.reals) wrote) h

  -- and after one that read
  pub cause_read : (a b c : S) (e : StoreError) → g.faults a ≤ g.faults b → OnlyReads (g.view a) (g.view b)
      → StepCause g b c e → StepCause g a c e
  cause_read a b c e up read h =
      cause_after a b c e up (ap (λ (v : View). v.is_broken) read) (ap (λ (v : View). v.reals) read) h

  -- the same of an answer
  pub err_written : {A : Type 0} (r : Result A StoreError) (a b c : S) → g.faults a ≤ g.faults b
      → OnlyWrites (g.view a) (g.view b) → IfErr r (StepCause g b c) → IfErr r (StepCause g a c)
  err_written (Ok x) a b c up wrote h = tt
  err_written (Err e) a b c up wrote h = cause_written a b c e up wrote h

  pub err_read : {A : Type 0} (r : Result A StoreError) (a b c : S) → g.faults a ≤ g.faults b
      → OnlyReads (g.view a) (g.view b) → IfErr r (StepCause g b c) → IfErr r (StepCause g a c)
  err_read (Ok x) a b c up read h = tt
  err_read (Err e) a b c up read h = cause_read a b c e up read h

  -- why a step failed that was taken of trees that were sound is why the put did
  pub put_cause : (a b c : S) (e : StoreError) → g.faults a ≤ g.faults b → (g.view b).is_broken ≡ false
      → (g.view b).reals ≡ (g.view a).committed_reals → StepCause g b c e → PutCause g a c e
  put_cause a b c OutOfMemory up sound reals h = tt
  put_cause a b c Io up sound reals h = omega (arith, up, h)
  put_cause a b c Corrupt up sound reals h = omega (arith, up, h)
  put_cause a b c Full up sound reals h = omega (arith, up, h)
  put_cause a b c Broken up sound reals h = absurd (true≢false (sym h ∙ sound))
  put_cause a b c Unstorable up sound reals h = λ none. h (subst HasNoReals (sym reals) none)

  -- the same of a commit
  pub commit_cause : (a b c d : S) (e : StoreError) → g.faults a ≤ g.faults b → g.faults b ≤ g.faults c
      → (g.view b).is_broken ≡ false → OnlyWrites (g.view b) (g.view c)
      → HasCause (g.view c) (MoreFaults (g.faults c) (g.faults d)) ⊥ e → PutCause g a d e
  commit_cause a b c d OutOfMemory up on sound wrote h = tt
  commit_cause a b c d Io up on sound wrote h = omega (arith, up, on, h)
  commit_cause a b c d Corrupt up on sound wrote h = omega (arith, up, on, h)
  commit_cause a b c d Full up on sound wrote h = omega (arith, up, on, h)
  commit_cause a b c d Broken up on sound wrote h =
      absurd (true≢false (sym h ∙ ap (λ (v : View). v.is_broken) wrote ∙ sound))
  commit_cause a b c d Unstorable up on sound wrote h = absurd h

  -- and of its answer
  pub commit_err : {A : Type 0} (r : Result A StoreError) (a b c d : S) → g.faults a ≤ g.faults b
      → g.faults b ≤ g.faults c → (g.view b).is_broken ≡ false → OnlyWrites (g.view b) (g.view c)
      → IfErr r (HasCause (g.view c) (MoreFaults (g.faults c) (g.faults d)) ⊥) → IfErr r (PutCause g a d)
  commit_err (Ok x) a b c d up on sound wrote h = tt
  commit_err (Err e) a b c d up on sound wrote h = commit_cause a b c d e up on sound wrote h

-- where a rollback leaves a store broken, it was shut or the disk failed
pub broken_so : (a b : View) (m n : ℕ) → IsRolledBack a b → b.is_broken ≡ true
    → (a.is_open ≡ true → (b.is_open ≡ true) ⊎ MoreFaults m n) → (a.is_open ≡ false) ⊎ MoreFaults m n
broken_so a b m n undone broken closes = go a.is_open closes
  where
    go : (o : Bool) → (o ≡ true → (b.is_open ≡ true) ⊎ MoreFaults m n) → (o ≡ false) ⊎ MoreFaults m n
    go false f = inl refl
    go true f = elim (f refl) [
      | inl here ↦ absurd (true≢false (sym broken ∙ (undone.undone here).1))
      | inr more ↦ inr more
    ]

-- after a rollback an open store has the shapes and the columns that are committed
pub as_committed_now : (a b : View) → IsRolledBack a b → IsClean b → b.is_open ≡ true
    → (b.shape ≡ a.committed_shape) × (b.reals ≡ a.committed_reals)
as_committed_now a b undone clean here =
    let kept = undone.kept clean in (
      subst (λ (o : Bool). b.shape ≡ cond o a.committed_shape a.shape) here kept.shape,
      subst (λ (o : Bool). b.reals ≡ cond o a.committed_reals a.reals) here kept.reals,
    )

-- what puts write is nothing, a number, or a digest
abbrev pub IsPlain : Value → Type 0
IsPlain Null = Unit {0}
IsPlain (Int n) = Unit {0}
IsPlain (Real x) = ⊥
IsPlain (Text t) = ⊥
IsPlain (Blob b) = length b ≡ 32

-- which is short
plain_size : (v : Value) → IsPlain v → 18 + length (bytes v) ≤ 50
plain_size Null h = omega arith
plain_size (Int n) h = omega arith
plain_size (Real x) h = absurd h
plain_size (Text t) h = absurd h
plain_size (Blob b) h = omega (arith, h)

-- and no NaN
plain_number : (v : Value) → IsPlain v → NotNan (number v)
plain_number Null h = zero_is_number
plain_number (Int n) h = int_is_number n
plain_number (Real x) h = absurd h
plain_number (Text t) h = absurd h
plain_number (Blob b) h = zero_is_number

-- so rows of it are short
plain_sum : (row : Row) → AllByRecursion IsPlain row → sum_by (λ v. 18 + length (bytes v)) row ≤ 50 * length row
plain_sum [] all = omega arith
plain_sum (v ∷ row) all =
    let one = plain_size v all.0 in
    let more = plain_sum row all.1 in
    omega (arith, one, more, sum_by-cons (λ (x : Value). 18 + length (bytes x)) v row)

-- and have no NaN
plain_numbers : (row : Row) → AllByRecursion IsPlain row → AllByRecursion (λ v. NotNan (number v)) row
plain_numbers [] all = tt
plain_numbers (v ∷ row) all = (plain_number v all.0, plain_numbers row all.1)

-- they can be stored where no column has the type REAL
pub plain_storable : (reals : ℕ) (row : Row) → reals ≡ 0 → AllByRecursion IsPlain row → 0 < length row
    → length row ≤ 100 → IsStorable reals row
plain_storable reals row none all some few =
    subst (λ (n : ℕ). IsStorable n row) (sym none)
    (record {
      typed = λ c set. let clear = bit_at-zero c in absurd (omega (arith, set, clear));
      columns = (some, omega (arith, few));
      numbers = no_nan row (plain_numbers row all);
      short = let sum = plain_sum row all in omega (arith, sum, few);
    })

-- a row of it was refused for no other cause than such a column
pub row_cause : (v : View) (F : Type 0) (t : ℕ) (row : Row) (e : StoreError) → t < 6 → AllByRecursion IsPlain row
    → 1 < length row → length row ≤ 100 → HasCause v F (¬ IsStorableRow (v.reals t) row) e
    → HasCause v F (¬ HasNoReals v.reals) e
row_cause v F t row e low all some few h =
    cause_weaker v F (¬ IsStorableRow (v.reals t) row) (¬ HasNoReals v.reals) e
    (λ no none. no (plain_storable (v.reals t) row (none t low) all (omega (arith, some)) few, some)) h

-- so was an entry
pub entry_cause : (v : View) (F : Type 0) (t : ℕ) (entry : Row) (e : StoreError) → t < 6 → AllByRecursion IsPlain entry
    → 0 < length entry → length entry ≤ 100 → HasCause v F (¬ IsStorable (v.reals t) entry) e
    → HasCause v F (¬ HasNoReals v.reals) e
entry_cause v F t entry e low all some few h =
    cause_weaker v F (¬ IsStorable (v.reals t) entry) (¬ HasNoReals v.reals) e
    (λ no none. no (plain_storable (v.reals t) entry (none t low) all some few)) h

-- the same of answers
pub row_err : {A : Type 0} (r : Result A StoreError) (v : View) (F : Type 0) (t : ℕ) (row : Row) → t < 6
    → AllByRecursion IsPlain row → 1 < length row → length row ≤ 100
    → IfErr r (HasCause v F (¬ IsStorableRow (v.reals t) row)) → IfErr r (HasCause v F (¬ HasNoReals v.reals))
row_err (Ok x) v F t row low all some few h = tt
row_err (Err e) v F t row low all some few h = row_cause v F t row e low all some few h

pub entry_err : {A : Type 0} (r : Result A StoreError) (v : View) (F : Type 0) (t : ℕ) (entry : Row) → t < 6
    → AllByRecursion IsPlain entry → 0 < length entry → length entry ≤ 100
    → IfErr r (HasCause v F (¬ IsStorable (v.reals t) entry)) → IfErr r (HasCause v F (¬ HasNoReals v.reals))
entry_err (Ok x) v F t entry low all some few h = tt
entry_err (Err e) v F t entry low all some few h = entry_cause v F t entry e low all some few h

-- an answer that hands an error on has what that has
pub handed_on : {A : Type 0} (r : Result A StoreError) (e : StoreError) (P : StoreError → Type 0)
    → IsErrAnd r (λ y. y ≡ e) → P e → IfErr r P
handed_on (Ok x) e P h p = absurd h
handed_on (Err y) e P h p = subst P (sym h) p

-- where nothing of it can be refused for what it is, least of all for such a column
pub plain_cause : (v : View) (F : Type 0) (e : StoreError) → HasCause v F ⊥ e → HasCause v F (¬ HasNoReals v.reals) e
plain_cause v F e h = cause_weaker v F ⊥ (¬ HasNoReals v.reals) e (λ none. absurd none) h

-- the same of an answer
pub plain_err : {A : Type 0} (r : Result A StoreError) (v : View) (F : Type 0) → IfErr r (HasCause v F ⊥)
    → IfErr r (HasCause v F (¬ HasNoReals v.reals))
plain_err (Ok x) v F h = tt
plain_err (Err e) v F h = plain_cause v F e h
