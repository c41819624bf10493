-- What lies in the places, as an entry is put or taken.
use Rattle.std.proofs.Common.{◌≡◌, ◌≢◌, ℕ, List, sym, ◌∙◌, subst}
use Rattle.std.specs.Prelude.{Option, Some, None, slice_get}
use Rattle.std.proofs.lemmas.Option.{same_Some}
use Rattle.ways_expressway.specs.declared.job.Job.{Job}
use Rattle.ways_crews.specs.Places.{IsPut, IsTaken, HasAt, EachAt}
use Rattle.ways_crews.proofs.Puts.{get_same, get_other}

-- the entry that was put stands at its number
pub put_there : {X : Type 0} → (n : ℕ) (entry : X) (was now : List (Option X)) → IsPut n entry was now →
    slice_get now n ≡ Some (Some entry)
put_there n entry was now put =
    subst (λ xs. slice_get xs n ≡ Some (Some entry)) (sym put.is) (get_same was n None (Some entry) put.free)

-- a put leaves the other places
pub put_leaves : {X : Type 0} → (n m : ℕ) (entry : X) (was now : List (Option X)) → IsPut n entry was now → m ≢ n →
    slice_get now m ≡ slice_get was m
put_leaves n m entry was now put apart =
    subst (λ xs. slice_get xs m ≡ slice_get was m) (sym put.is) (get_other was n m (Some entry) apart)

-- a take leaves the other places
pub take_leaves : {X : Type 0} → (n m : ℕ) (entry : X) (was now : List (Option X)) → IsTaken n entry was now → m ≢ n →
    slice_get now m ≡ slice_get was m
take_leaves n m entry was now taken apart =
    subst (λ xs. slice_get xs m ≡ slice_get was m) (sym taken.is) (get_other was n m None apart)

-- and its own free
pub take_frees : {X : Type 0} → (n : ℕ) (entry : X) (was now : List (Option X)) → IsTaken n entry was now →
    slice_get now n ≡ Some None
take_frees n entry was now taken =
    subst (λ xs. slice_get xs n ≡ Some None) (sym taken.is) (get_same was n (Some entry) None taken.there)

-- two entries of one place are one
pub one_entry : {X : Type 0} → (places : List (Option X)) (n : ℕ) (a b : X) → slice_get places n ≡ Some (Some a) →
    slice_get places n ≡ Some (Some b) → a ≡ b
one_entry places n a b ha hb = same_Some _ _ (same_Some _ _ (sym ha ∙ hb))

-- what is held under the other numbers is held after a put
pub put_keeps : {X : Type 0} → (fits : X → Job → Type 0) (n m : ℕ) (entry : X) (was now : List (Option X)) (job : Job) →
    IsPut n entry was now → m ≢ n → HasAt fits was m job → HasAt fits now m job
put_keeps fits n m entry was now job put apart (e, at, fit) = (e, put_leaves n m entry was now put apart ∙ at, fit)

-- and after a take
pub take_keeps : {X : Type 0} → (fits : X → Job → Type 0) (n m : ℕ) (entry : X) (was now : List (Option X)) (job : Job)
    → IsTaken n entry was now → m ≢ n → HasAt fits was m job → HasAt fits now m job
take_keeps fits n m entry was now job taken apart (e, at, fit) =
    (e, take_leaves n m entry was now taken apart ∙ at, fit)

-- the entry that was put is so, and is all that stands at its number
pub put_each : {X : Type 0} → (P : X → Type 0) (n : ℕ) (entry : X) (was now : List (Option X)) → IsPut n entry was now →
    P entry → EachAt P now n
put_each P n entry was now put p e at = subst P (one_entry now n entry e (put_there n entry was now put) at) p

-- what each entry of another number is, it is after a put
pub put_keeps_each : {X : Type 0} → (P : X → Type 0) (n m : ℕ) (entry : X) (was now : List (Option X)) →
    IsPut n entry was now → m ≢ n → EachAt P was m → EachAt P now m
put_keeps_each P n m entry was now put apart each e at = each e (sym (put_leaves n m entry was now put apart) ∙ at)

-- and after a take
pub take_keeps_each : {X : Type 0} → (P : X → Type 0) (n m : ℕ) (entry : X) (was now : List (Option X)) →
    IsTaken n entry was now → m ≢ n → EachAt P was m → EachAt P now m
take_keeps_each P n m entry was now taken apart each e at =
    each e (sym (take_leaves n m entry was now taken apart) ∙ at)

-- the entry that was taken is of each job that was held under its number
pub taken_fits : {X : Type 0} → (fits : X → Job → Type 0) (n : ℕ) (entry : X) (was now : List (Option X)) (job : Job) →
    IsTaken n entry was now → HasAt fits was n job → fits entry job
taken_fits fits n entry was now job taken (e, at, fit) =
    subst (λ x. fits x job) (one_entry was n e entry at taken.there) fit
