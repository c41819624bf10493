-- Beginnings of a history, and the step that adds to it.
use Rattle.std.proofs.Common.{◌≡◌, ℕ, ◌+◌, ◌<◌, ◌≤◌, ◌==◌, ◌⊎◌, ◌-◌, Bool, true, false, List, [], ◌∷◌, ◌++◌, length, refl, ap}
use Rattle.std.proofs.Common.{sym, subst, arith, inl, inr, length-append, None, zero, suc, Option, Some, slice_get, ◌∙◌}
use Rattle.std.proofs.lemmas.List.{append-nil}
use Rattle.std.proofs.lemmas.Bool.Decides.{nat_tests}
use mathlib.Core.List.{IsPrefix}
use prog.Atomic.{either}
use Rattle.logbook.specs.Pages.{Cell, cell, keeps, no_nib, step, Moves, Goes}
use Rattle.keep_office.specs.Office.{Office}
use Rattle.serve_desk.specs.History.{Counted, AddsSeen, told_at, told_by, told_last, GoesOn}

-- of two beginnings of one list that are as long as one another each is the other
pub as_long : {K : Type 0} (xs ys zs : List K) → IsPrefix xs zs → IsPrefix ys zs → length xs ≡ length ys → xs ≡ ys
as_long [] [] zs p q long = refl
as_long [] (y ∷ ys) zs p q long = absurd (omega (arith, long))
as_long (x ∷ xs) [] zs p q long = absurd (omega (arith, long))
as_long (x ∷ xs) (y ∷ ys) [] p q long = absurd (cc (p.1))
as_long (x ∷ xs) (y ∷ ys) (z ∷ zs) p q long =
    let heads : x ≡ y = cc (p.1, q.1) in
    let rest = as_long xs ys zs (p.0, cc (p.1)) (q.0, cc (q.1)) (omega (arith, long)) in
    (λ i. heads i ∷ rest i)

-- a beginning as long as the whole is the whole
all_of : {K : Type 0} (xs ys : List K) → IsPrefix xs ys → length ys ≤ length xs → xs ≡ ys
all_of [] [] p few = refl
all_of [] (y ∷ ys) p few = absurd (omega (arith, few))
all_of (x ∷ xs) [] p few = absurd (cc (p.1))
all_of (x ∷ xs) (y ∷ ys) p few = let heads : x ≡ y = cc (p.1) in let rest =
    all_of xs ys (p.0, cc (p.1)) (omega (arith, few)) in (λ i. heads i ∷ rest i)

-- clients see nothing of it
abbrev pub shown : {K : Type 0} → List K → List K
shown log = []

-- and trade nothing
abbrev pub moved : {K : Type 0} → List K → List K → ℕ → Type 0
moved xs ys n = Unit {0}

-- the exchange goes on where the word counts the history: it adds what the keeper is, or finds another number
adds_goes : {K : Type 0} (log v : List K) (k : K) (n now : ℕ) → length v ≡ n + 1 → length log ≡ now + 1 → IsPrefix v log
    → (b : Bool) → (now == n) ≡ b → Goes Counted shown moved 0 (v, (no_nib, None)) (λ m. either (m == n) (n + 1) m)
    (AddsSeen (step 0 n (n + 1) k) (v, (no_nib, None))) ((now, true) ∷ []) log
adds_goes log v k n now long all begins true is =
    let here : now ≡ n = grind (arith, nat_tests) in
    let same : v ≡ log = all_of v log begins (omega (arith, here, long, all)) in
    let more : either (now == n) (n + 1) now ≡ n + 1 = rw is refl in (
      keeps,
      k ∷ [],
      None,
      tt,
      record {
        count = n + 1;
        words = ap (λ (m : ℕ). (m, true) ∷ []) more;
        counted = omega (arith, here, all, length-append log (k ∷ []));
      },
      inl (refl, refl),
      rw is (ap (λ w. w ++ k ∷ []) (sym same)),
    )
adds_goes log v k n now long all begins false is =
    let whole : log ++ [] ≡ log = append-nil log in
    let more : either (now == n) (n + 1) now ≡ now = rw is refl in (
      keeps,
      [],
      None,
      tt,
      record {
        count = now;
        words = ap (λ (m : ℕ). (m, true) ∷ []) more;
        counted = ap length whole ∙ all;
      },
      inl (refl, refl),
      rw is tt,
    )

-- so it does whatever the book is
pub adds_moves : {K : Type 0} (v : List K) (k : K) (n : ℕ) → length v ≡ n + 1 →
    Moves Counted shown moved 0 (v, (no_nib, None)) (λ m. either (m == n) (n + 1) m)
    (AddsSeen (step 0 n (n + 1) k) (v, (no_nib, None)))
adds_moves v k n long cells log kept begins away =
    let P : List Cell → Type 0 = λ c. (0 < length c) × ((cell c 0).1 ≡ true)
    × Goes Counted shown moved 0 (v, (no_nib, None)) (λ m. either (m == n) (n + 1) m)
    (AddsSeen (step 0 n (n + 1) k) (v, (no_nib, None))) c log in
    subst P (sym kept.words)
    (omega arith, refl, adds_goes log v k n kept.count long kept.counted begins (kept.count == n) refl)

-- what is added stands behind all
get_last : {K : Type 0} (log : List K) (k : K) (n : ℕ) → length log ≡ n → slice_get (log ++ k ∷ []) n ≡ Some k
get_last [] k zero long = refl
get_last [] k (suc n) long = absurd (omega (arith, long))
get_last (x ∷ xs) k zero long = absurd (omega (arith, long))
get_last (x ∷ xs) k (suc n) long = get_last xs k n (omega (arith, long))

-- what the keeper tells is told at the place where it was added
pub told_added : {K : Type 0} (told : K → Option Office) (log : List K) (k : K) (n : ℕ) → length log ≡ n →
    told_at told (log ++ k ∷ []) n ≡ told k
told_added told log k n long = ap (told_by told) (get_last log k n long)

-- at each place in a history the keeper was something
pub was_at : {K : Type 0} (log : List K) (n : ℕ) → length log ≡ n + 1 → (k : K) × (slice_get log n ≡ Some k)
was_at [] n long = absurd (omega (arith, long))
was_at (x ∷ xs) zero long = (x, refl)
was_at (x ∷ xs) (suc n) long = was_at xs n (omega (arith, long))

-- at a place in a history is told what the keeper told in one of its states
pub tells_of : {K : Type 0} (told : K → Option Office) (log : List K) (n : ℕ) → length log ≡ n + 1 →
    (k : K) × (told_at told log n ≡ told k)
tells_of told log n long = let (k, is) = was_at log n long in (k, ap (told_by told) is)

-- of two beginnings of one list the longer goes on from the shorter
pub longer : {K : Type 0} (xs ys zs : List K) → IsPrefix xs zs → IsPrefix ys zs → length xs ≤ length ys → GoesOn xs ys
longer [] ys zs p q few = (ys, refl)
longer (x ∷ xs) [] zs p q few = absurd (omega (arith, few))
longer (x ∷ xs) (y ∷ ys) [] p q few = absurd (cc (p.1))
longer (x ∷ xs) (y ∷ ys) (z ∷ zs) p q few =
    let heads : y ≡ x = cc (p.1, q.1) in
    let rest = longer xs ys zs (p.0, cc (p.1)) (q.0, cc (q.1)) (omega (arith, few)) in
    (rest.0, (λ i. heads i ∷ rest.1 i))

-- nothing was added
none_added : {K : Type 0} (xs ys more : List K) → length more ≡ 0 → ys ≡ xs ++ more → ys ≡ xs
none_added xs ys [] few e = e ∙ append-nil xs
none_added xs ys (z ∷ zs) few e = absurd (omega (arith, few))

-- a history that goes on from another and is as long is that one
pub no_more : {K : Type 0} (xs ys : List K) → GoesOn xs ys → length ys ≡ length xs → ys ≡ xs
no_more xs ys (more, is) long =
    let whole = ap length is in
    let both = length-append xs more in
    none_added xs ys more (omega (arith, long, whole, both)) is

-- what goes on from another is no shorter
pub goes_length : {K : Type 0} (xs ys : List K) → GoesOn xs ys → length xs ≤ length ys
goes_length xs ys (more, is) = let whole = ap length is in let both = length-append xs more in omega (arith, whole, both)

-- what lies before what was added
get_on : {K : Type 0} (xs more : List K) (n : ℕ) → n < length xs → slice_get (xs ++ more) n ≡ slice_get xs n
get_on [] more n less = absurd (omega (arith, less))
get_on (x ∷ xs) more zero less = refl
get_on (x ∷ xs) more (suc n) less = get_on xs more n (omega (arith, less))

-- what was told at a place is told there where the history went on
pub told_on : {K : Type 0} (told : K → Option Office) (xs ys : List K) (n : ℕ) → GoesOn xs ys → n < length xs →
    told_at told xs n ≡ told_at told ys n
told_on told xs ys n (more, is) less =
    ap (told_by told) (sym (get_on xs more n less)) ∙ ap (λ log. told_at told log n) (sym is)

-- what is told at the last place
pub told_end : {K : Type 0} (told : K → Option Office) (log : List K) (n : ℕ) → length log ≡ n + 1 →
    told_at told log n ≡ told_last told log
told_end told log n long = let here : n ≡ length log - 1 = omega (arith, long) in ap (told_at told log) here

-- where one was added at most, there is none more and the same is told, or one
next_by : {K : Type 0} (told : K → Option Office) (xs ys more : List K) (n m : ℕ) → ys ≡ xs ++ more →
    length xs ≡ n + 1 → length ys ≡ m + 1 → m ≤ n + 1 →
    ((length ys ≡ n + 1) × (told_at told ys m ≡ told_at told xs n)) ⊎ (length ys ≡ n + 2)
next_by told xs ys [] n m is from to few =
    let same : ys ≡ xs = is ∙ append-nil xs in
    let long = ap length same in
    let here : m ≡ n = omega (arith, from, to, long) in
    inl (omega (arith, to, here), ap (λ log. told_at told log m) same ∙ ap (told_at told xs) here)
next_by told xs ys (x ∷ more) n m is from to few =
    let whole = ap length is in
    let both = length-append xs (x ∷ more) in
    inr (omega (arith, whole, both, from, to, few))

-- the same of a history that went on
pub next_is : {K : Type 0} (told : K → Option Office) (xs ys : List K) (n m : ℕ) → GoesOn xs ys → length xs ≡ n + 1 →
    length ys ≡ m + 1 → m ≤ n + 1 →
    ((length ys ≡ n + 1) × (told_at told ys m ≡ told_at told xs n)) ⊎ (length ys ≡ n + 2)
next_is told xs ys n m (more, is) = next_by told xs ys more n m is
