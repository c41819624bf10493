-- What rows have of the amounts that are asked for.
use Rattle.std.proofs.Common.{◌≡◌, ℕ, ◌==◌, ◌&&◌, ◌||◌, Bool, true, false, List, [], ◌∷◌, ◌++◌, refl, sym, ap}
use Rattle.std.proofs.Common.{◌∙◌, ⊎_elim, Some, Result, Ok, Err, length, arith}
use Rattle.std.specs.List.{AllByRecursion, find, list_any}
use Rattle.std.proofs.lemmas.Bool.{cases_Bool, and_parts, eqb-true, eq-eqb, cond-true, cond-false, or_parts, or_left}
use Rattle.std.proofs.lemmas.Bool.{false_from_ne_true, and_from}
use Rattle.std.proofs.lemmas.List.Folds.{list_any-append}
use Rattle.road_time.specs.declared.day.SpentRow.{SpentRow}
use Rattle.road_time.specs.declared.road.Tuple.{Tuple}
use Rattle.road_time.specs.declared.road.Tuple.TheVariants.{Report as ReportTuple, Balance, Spent, Travel}
use Rattle.road_time.specs.History.{is_row, tolls_of, paid, KeysDiffer}
use Rattle.keep_office.specs.declared.kept.KeepFault.{KeepFault}
use Rattle.keep_office.specs.declared.kept.KeepFault.TheVariants.{Failed}
use Rattle.day_past.specs.Asks.{HasAsked, HasAllAsked, AreRight, HaveAllOf}

-- the key of a row of a key
key_of : (day vid xway : ℕ) (r : SpentRow) → is_row day vid xway r ≡ true → (r.day ≡ day) × (r.vid ≡ vid)
    × (r.xway ≡ xway)
key_of day vid xway r e =
    let a = and_parts (r.day == day) (r.vid == vid && r.xway == xway) e in
    let b = and_parts (r.vid == vid) (r.xway == xway) a.1 in
    (eqb-true r.day day a.0, eqb-true r.vid vid b.0, eqb-true r.xway xway b.1)

-- a row is one of its own key
pub of_itself : (r : SpentRow) → is_row r.day r.vid r.xway r ≡ true
of_itself r =
    and_from (r.day == r.day) (r.vid == r.vid && r.xway == r.xway) (eq-eqb r.day r.day refl)
    (and_from (r.vid == r.vid) (r.xway == r.xway) (eq-eqb r.vid r.vid refl) (eq-eqb r.xway r.xway refl))

-- rows with the amounts of others have those of each key that they have
pub paid_right : (kept : List SpentRow) (day vid xway : ℕ) (rows : List SpentRow) → AreRight kept rows →
    list_any (is_row day vid xway) rows ≡ true → paid rows day vid xway ≡ paid kept day vid xway
paid_right kept day vid xway [] right e = let bad : ⊥ = cc in absurd bad
paid_right kept day vid xway (r ∷ rs) right e =
    ⊎_elim
    (λ (is : is_row day vid xway r ≡ true). let key = key_of day vid xway r is in
    ap tolls_of (cond-true (is_row day vid xway r) (Some r) (find (is_row day vid xway) rs) is) ∙ right.0
    ∙ rw (key.0, key.1, key.2) refl)
    (λ (off : is_row day vid xway r ≡ false).
    ap tolls_of (cond-false (is_row day vid xway r) (Some r) (find (is_row day vid xway) rs) off)
    ∙ paid_right kept day vid xway rs right.1 (sym (ap (λ b. b || list_any (is_row day vid xway) rs) off) ∙ e))
    (cases_Bool (is_row day vid xway r))

-- a right row joins right ones
pub right_on : (kept rows : List SpentRow) (r : SpentRow) → AreRight kept rows →
    r.tolls ≡ paid kept r.day r.vid r.xway → AreRight kept (rows ++ r ∷ [])
right_on kept [] r right e = (e, tt)
right_on kept (s ∷ ss) r right e = (right.0, right_on kept ss r right.1 e)

-- rows have what they had before one joined
pub all_on : (rows : List SpentRow) (r : SpentRow) → HaveAllOf rows (rows ++ r ∷ [])
all_on rows r p e = list_any-append p rows (r ∷ []) ∙ or_left (list_any p rows) (list_any p (r ∷ [])) e

-- and that one
pub one_on : (rows : List SpentRow) (r : SpentRow) → list_any (is_row r.day r.vid r.xway) (rows ++ r ∷ []) ≡ true
one_on [] r = ap (λ b. b || false) (of_itself r)
one_on (s ∷ ss) r =
    ap (λ b. is_row r.day r.vid r.xway s || b) (one_on ss r) ∙ or_true (is_row r.day r.vid r.xway s)
  where
    or_true : (b : Bool) → (b || true) ≡ true
    or_true true = refl
    or_true false = refl

-- a row of the key of another has it for its own
turned : (r s : SpentRow) → is_row r.day r.vid r.xway s ≡ false → is_row s.day s.vid s.xway r ≡ false
turned r s off =
    false_from_ne_true (is_row s.day s.vid s.xway r)
    (λ is. let key = key_of s.day s.vid s.xway r is in
    let same : is_row r.day r.vid r.xway s ≡ true = rw (key.0, key.1, key.2) (of_itself s) in
    let bad : ⊥ = cc in bad)

-- a row of a key that no row has joins those whose keys differ
pub keys_on : (rows : List SpentRow) (r : SpentRow) → KeysDiffer rows →
    list_any (is_row r.day r.vid r.xway) rows ≡ false → KeysDiffer (rows ++ r ∷ [])
keys_on [] r keys off = (tt, tt)
keys_on (s ∷ ss) r keys off =
    let parts = or_parts (is_row r.day r.vid r.xway s) (list_any (is_row r.day r.vid r.xway) ss) off in
    (apart s ss r keys.0 (turned r s parts.0), keys_on ss r keys.1 parts.1)
  where
    apart : (s : SpentRow) (ss : List SpentRow) (r : SpentRow) →
        AllByRecursion (λ t. is_row s.day s.vid s.xway t ≡ false) ss → is_row s.day s.vid s.xway r ≡ false →
        AllByRecursion (λ t. is_row s.day s.vid s.xway t ≡ false) (ss ++ r ∷ [])
    apart s [] r h e = (e, tt)
    apart s (t ∷ ts) r h e = (h.0, apart s ts r h.1 e)

-- what a tuple asks for is there where more is
pub asked_more : (number : ℕ) (rows more : List SpentRow) (x : Tuple) → HaveAllOf rows more →
    HasAsked number rows x → HasAsked number more x
asked_more number rows more (ReportTuple r) all h = tt
asked_more number rows more (Balance time vid qid) all h = tt
asked_more number rows more (Spent time vid xway qid day) all h = all _ h
asked_more number rows more (Travel time) all h = tt

-- an answer is no failure
pub not_failed : (r : Result (Unit {0}) KeepFault) (u : Unit {0}) → r ≡ Ok u → r ≡ Err Failed → ⊥
not_failed r u e f = cc

-- no tuple asks where there is none
pub none_asked : (number : ℕ) (rows : List SpentRow) (xs : List Tuple) → length xs ≡ 0 → HasAllAsked number rows xs
none_asked number rows [] e = tt
none_asked number rows (x ∷ xs) e = absurd (omega (arith, e))
