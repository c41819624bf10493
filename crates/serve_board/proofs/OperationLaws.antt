-- beginnings of a history, and the steps that give a pen, add an operation and see all
use Rattle.std.proofs.Common.{◌≡◌, ℕ, ◌+◌, ◌<◌, ◌≤◌, ◌==◌, Bool, true, false, List, [], ◌∷◌, ◌++◌, length, refl, ap}
use Rattle.std.proofs.Common.{sym, subst, arith, inl, length-append, None, zero, suc, ◌∙◌, slice_set}
use Rattle.std.proofs.lemmas.List.{append-nil}
use Rattle.std.proofs.lemmas.Bool.Decides.{nat_tests}
use Rattle.std.proofs.lemmas.Bool.{false≢true}
use mathlib.Core.List.{IsPrefix}
use prog.Atomic.{either}
use Rattle.logbook.specs.Pages.{Cell, cell, keeps, gives, adds, no_nib, nib, may_make, step, Moves, Goes, Away}
use Rattle.day_floor.specs.Operations.{Operation}
use Rattle.serve_board.specs.OperationLog.{homes, aways, cells_of, Counted, GivesPen, AddsSeen, SeesAll}
use Rattle.serve_board.specs.OperationLog.{pen_for}
use Rattle.serve_board.specs.Passes.{StartsWith}

-- of two beginnings of one list the longer begins with the shorter
pub shorter : (xs ys zs : List Operation) → IsPrefix xs zs → IsPrefix ys zs → length xs ≤ length ys → StartsWith ys xs
shorter [] ys zs p q few = (ys, refl)
shorter (x ∷ xs) [] zs p q few = absurd (omega (arith, few))
shorter (x ∷ xs) (y ∷ ys) [] p q few = absurd (cc (p.1))
shorter (x ∷ xs) (y ∷ ys) (z ∷ zs) p q few =
    let heads : y ≡ x = cc (p.1, q.1) in
    let rest = shorter xs ys zs (p.0, cc (p.1)) (q.0, cc (q.1)) (omega (arith, few)) in
    (rest.0, (λ i. heads i ∷ rest.1 i))

-- a beginning as long as the whole is the whole
all_of : (xs ys : List Operation) → IsPrefix xs ys → length ys ≤ length xs → xs ≡ ys
all_of [] [] p few = refl
all_of [] (y ∷ ys) p few = absurd (omega (arith, few))
all_of (x ∷ xs) [] p few = absurd (cc (p.1))
all_of (x ∷ xs) (y ∷ ys) p few = let heads : x ≡ y = cc (p.1) in let rest =
    all_of xs ys (p.0, cc (p.1)) (omega (arith, few)) in (λ i. heads i ∷ rest i)

-- a beginning is no longer than the whole
begins_few : (xs ys : List Operation) → IsPrefix xs ys → length xs ≤ length ys
begins_few xs ys p = let both = length-append xs p.0 in let whole = ap length p.1 in omega (arith, both, whole)

-- a beginning of a beginning is one
begins_by : (xs ys zs : List Operation) → IsPrefix xs ys → IsPrefix ys zs → IsPrefix xs zs
begins_by [] ys zs p q = (zs, refl)
begins_by (x ∷ xs) [] zs p q = absurd (cc (p.1))
begins_by (x ∷ xs) (y ∷ ys) [] p q = absurd (cc (q.1))
begins_by (x ∷ xs) (y ∷ ys) (z ∷ zs) p q =
    let heads : x ≡ z = cc (p.1, q.1) in
    let rest = begins_by xs ys zs (p.0, cc (p.1)) (q.0, cc (q.1)) in
    (rest.0, (λ i. heads i ∷ rest.1 i))

-- whoever has seen all, and no more than so many operations, has seen nothing that is not among these
pub covers : (own other both all : List Operation) → IsPrefix own both → IsPrefix other both → IsPrefix both all →
    length all < length own + 1 → StartsWith own other
covers own other both all p q r few =
    let here : IsPrefix other all = begins_by other both all q r in
    let short = begins_few other all here in
    shorter other own all here (begins_by own both all p r) (omega (arith, few, short))

-- clients see nothing of it
abbrev pub shown : List Operation → List Operation
shown log = []

-- and trade nothing
abbrev pub moved : List Operation → List Operation → ℕ → Type 0
moved xs ys n = Unit {0}

-- how many cells there are
homes_many : (n : ℕ) (rest : List Cell) → length (homes n rest) ≡ n + length rest
homes_many zero rest = omega arith
homes_many (suc n) rest = let more = homes_many n rest in omega (arith, more)

-- a cell for each pen that is out
aways_many : (n : ℕ) → length (aways n) ≡ n
aways_many zero = refl
aways_many (suc n) = let more = aways_many n in omega (arith, more)

-- a cell that is not at home is behind those of the operations
behind : (n k : ℕ) (rest : List Cell) → (cell (homes n rest) k).1 ≡ false → n ≤ k
behind zero k rest e = omega arith
behind (suc n) zero rest e = absurd (false≢true (sym e))
behind (suc n) (suc k) rest e = let more = behind n k rest e in omega (arith, more)

-- and behind that of the word
behind_all : (n pens k : ℕ) → (cell (cells_of n pens) k).1 ≡ false → n < k
behind_all n pens zero e = absurd (false≢true (sym e))
behind_all n pens (suc k) e = let more = behind n k (aways pens) e in omega (arith, more)

-- a cell behind all
homes_more : (n : ℕ) (rest more : List Cell) → homes n rest ++ more ≡ homes n (rest ++ more)
homes_more zero rest more = refl
homes_more (suc n) rest more = ap (λ cs. (0, true) ∷ cs) (homes_more n rest more)

-- a pen more behind those that are out
aways_more : (n : ℕ) → aways n ++ (0, false) ∷ [] ≡ aways (suc n)
aways_more zero = refl
aways_more (suc n) = ap (λ cs. (0, false) ∷ cs) (aways_more n)

-- the pen that was given first of those that are out comes home
home_next : (n k : ℕ) (rest : List Cell) → k ≡ n → slice_set (homes n ((0, false) ∷ rest)) k (0, true) ≡ homes (suc n) rest
home_next zero zero rest e = refl
home_next zero (suc k) rest e = absurd (omega (arith, e))
home_next (suc n) zero rest e = absurd (omega (arith, e))
home_next (suc n) (suc k) rest e = ap (λ cs. (0, true) ∷ cs) (home_next n k rest (omega (arith, e)))

-- the word goes on where it counts as expected, and there is a pen more
pen_goes : (log v : List Operation) (o : Operation) (pens before : ℕ) →
    (b : Bool) → (length log + pens == before) ≡ b →
    Goes Counted shown moved 0 (v, (no_nib, None)) (λ k. either (k == before) (before + 1) k)
    (GivesPen (step 0 before (before + 1) o) (v, (no_nib, None))) (cells_of (length log) pens) log
pen_goes log v o pens before true is =
    let here : length log + pens ≡ before = grind (arith, nat_tests) in
    let all : length (log ++ []) ≡ length log = ap length (append-nil log) in
    let count : either (length log + pens == before) (before + 1) (length log + pens)
    ≡ length (log ++ []) + suc pens = rw is (omega (arith, here, all)) in
    let tail : homes (length log) (aways pens) ++ (0, false) ∷ [] ≡ homes (length (log ++ [])) (aways (suc pens)) =
    homes_more (length log) (aways pens) ((0, false) ∷ []) ∙ (λ i. homes (sym all i) (aways_more pens i)) in
    let many : suc (length (homes (length log) (aways pens))) ≡ before + 1 =
    omega (arith, homes_many (length log) (aways pens), aways_many pens, here) in (
      adds,
      [],
      None,
      tt,
      record { pens = suc pens; words = (λ i. (count i, true) ∷ tail i) },
      inl (refl, refl),
      rw is (ap (λ k. nib may_make k 0) many),
    )
pen_goes log v o pens before false is =
    let all : log ++ [] ≡ log = append-nil log in
    let count : either (length log + pens == before) (before + 1) (length log + pens) ≡ length log + pens = rw is refl
    in (
      keeps,
      [],
      None,
      tt,
      record {
        pens = pens;
        words = (λ i. (count i, true) ∷ homes (length log) (aways pens))
            ∙ ap (λ (l : List Operation). cells_of (length l) pens) (sym all);
      },
      inl (refl, refl),
      rw is tt,
    )

-- so it does whatever the book is
pub pen_moves : (v : List Operation) (o : Operation) (before : ℕ) →
    Moves Counted shown moved 0 (v, (no_nib, None)) (λ k. either (k == before) (before + 1) k)
    (GivesPen (step 0 before (before + 1) o) (v, (no_nib, None)))
pen_moves v o before cells log kept begins away =
    let P : List Cell → Type 0 = λ c. (0 < length c) × ((cell c 0).1 ≡ true)
    × Goes Counted shown moved 0 (v, (no_nib, None)) (λ k. either (k == before) (before + 1) k)
    (GivesPen (step 0 before (before + 1) o) (v, (no_nib, None))) c log in
    subst P (sym kept.words) (
      omega arith,
      refl,
      pen_goes log v o kept.pens before (length log + kept.pens == before) refl,
    )

-- a word that is to be 0 where it is 0 stays as it is
stays : (n : ℕ) (b : Bool) → (n == 0) ≡ b → either (n == 0) 0 n ≡ n
stays n true is = let here : n ≡ 0 = grind (arith, nat_tests) in rw is (sym here)
stays n false is = rw is refl

-- the pen comes home with an operation, to whoever has all of them; at least that pen is out
adds_goes : (log v : List Operation) (o : Operation) (pens : ℕ) → IsPrefix v log →
    Away (pen_for (length v)) (cells_of (length log) pens) →
    Goes Counted shown moved 0 (v, (pen_for (length v), None)) (λ k. either (k == 0) 0 k)
    (AddsSeen (step 0 0 0 o) (v, (pen_for (length v), None))) (cells_of (length log) pens) log
adds_goes log v o zero begins away =
    let there = (away refl).0 in
    let most = behind_all (length log) 0 (suc (length v)) (away refl).1 in
    absurd (omega (arith, there, most, homes_many (length log) []))
adds_goes log v o (suc pens) begins away =
    let most = behind_all (length log) (suc pens) (suc (length v)) (away refl).1 in
    let least = begins_few v log begins in
    let same : v ≡ log = all_of v log begins (omega (arith, most)) in
    let long : length v ≡ length log = omega (arith, most, least) in
    let more : length (log ++ o ∷ []) ≡ suc (length log) = omega (arith, length-append log (o ∷ [])) in
    let count : either (length log + suc pens == 0) 0 (length log + suc pens) ≡ length (log ++ o ∷ []) + pens =
    stays (length log + suc pens) (length log + suc pens == 0) refl ∙ omega (arith, more) in
    let tail : slice_set (homes (length log) ((0, false) ∷ aways pens)) (length v) (0, true)
    ≡ homes (length (log ++ o ∷ [])) (aways pens) =
    home_next (length log) (length v) (aways pens) long ∙ ap (λ k. homes k (aways pens)) (sym more) in (
      gives,
      o ∷ [],
      None,
      refl,
      record { pens = pens; words = (λ i. (count i, true) ∷ tail i) },
      inl (refl, refl),
      ap (λ w. w ++ o ∷ []) (sym same),
    )

-- so it does whatever the book is
pub adds_moves : (v : List Operation) (o : Operation) →
    Moves Counted shown moved 0 (v, (pen_for (length v), None)) (λ k. either (k == 0) 0 k)
    (AddsSeen (step 0 0 0 o) (v, (pen_for (length v), None)))
adds_moves v o cells log kept begins away =
    let P : List Cell → Type 0 = λ c. Away (pen_for (length v)) c → (0 < length c) × ((cell c 0).1 ≡ true)
    × Goes Counted shown moved 0 (v, (pen_for (length v), None)) (λ k. either (k == 0) 0 k)
    (AddsSeen (step 0 0 0 o) (v, (pen_for (length v), None))) c log in
    subst P (sym kept.words) (λ out. (omega arith, refl, adds_goes log v o kept.pens begins out)) away

-- whoever has the pen sees all, and the word stays as it is
sees_goes : (log v : List Operation) (o : Operation) (pens own : ℕ) →
    Away (pen_for own) (cells_of (length log) pens) →
    Goes Counted shown moved 0 (v, (pen_for own, None)) (λ k. either (k == 0) 0 k)
    (SeesAll (step 0 0 0 o) (v, (pen_for own, None))) (cells_of (length log) pens) log
sees_goes log v o pens own away =
    let all : log ++ [] ≡ log = append-nil log in
    let long : length (log ++ []) ≡ length log = ap length all in
    let most = behind_all (length log) pens (suc own) (away refl).1 in
    let count = stays (length log + pens) (length log + pens == 0) refl in (
      keeps,
      [],
      None,
      tt,
      record {
        pens = pens;
        words = (λ i. (count i, true) ∷ homes (length log) (aways pens))
            ∙ ap (λ (l : List Operation). cells_of (length l) pens) (sym all);
      },
      inl (refl, refl),
      (refl, omega (arith, most, long)),
    )

-- so does it whatever the book is
pub sees_moves : (v : List Operation) (o : Operation) (own : ℕ) →
    Moves Counted shown moved 0 (v, (pen_for own, None)) (λ k. either (k == 0) 0 k)
    (SeesAll (step 0 0 0 o) (v, (pen_for own, None)))
sees_moves v o own cells log kept begins away =
    let P : List Cell → Type 0 = λ c. Away (pen_for own) c → (0 < length c) × ((cell c 0).1 ≡ true)
    × Goes Counted shown moved 0 (v, (pen_for own, None)) (λ k. either (k == 0) 0 k)
    (SeesAll (step 0 0 0 o) (v, (pen_for own, None))) c log in
    subst P (sym kept.words) (λ out. (omega arith, refl, sees_goes log v o kept.pens own out)) away
