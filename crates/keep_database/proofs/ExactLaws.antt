-- What answers are of rows, one row after another.
use Rattle.std.proofs.Common.{◌≡◌, ◌<◌, ◌+◌, ℕ, List, [], ◌∷◌, ◌++◌, length, get_or, take, refl, sym, ap, subst}
use Rattle.std.proofs.Common.{◌∙◌}
use Rattle.std.proofs.lemmas.List.{take_more}
use Rattle.std.proofs.lemmas.List.Sums.{fold-append}
use Rattle.sqlite_value.specs.Order.{Row}
use Rattle.road_time.specs.declared.tariff.Tariff.{Tariff}
use Rattle.road_time.specs.Rates.{Tariffs}
use Rattle.keep_database.specs.Exact.{AreRowsOf, AreTariffsIn, IsOwnTariff, with_entry}

-- one row more, and its item
more_rows : {X : Type 0} (is : Row → X → Type 0) (rows : List Row) (xs : List X) (r : Row) (x : X) →
    AreRowsOf is rows xs → is r x → AreRowsOf is (rows ++ r ∷ []) (xs ++ x ∷ [])
more_rows is [] [] r x so_far own = (own, tt)
more_rows is [] (y ∷ ys) r x so_far own = absurd so_far
more_rows is (q ∷ rows) [] r x so_far own = absurd so_far
more_rows is (q ∷ rows) (y ∷ ys) r x so_far own = (so_far.0, more_rows is rows ys r x so_far.1 own)

-- the rows up to a place, with the one there
taken : (rows : List Row) (i : ℕ) (r : Row) → i < length rows → r ≡ get_or rows i r →
    take i rows ++ r ∷ [] ≡ take (i + 1) rows
taken rows i r less at = ap (λ (x : Row). take i rows ++ x ∷ []) at ∙ sym (take_more rows i r less)

-- the items of the rows so far, with that of the next one
pub next_row : {X : Type 0} (is : Row → X → Type 0) (rows : List Row) (xs : List X) (i : ℕ) (r : Row) (x : X) →
    i < length rows → r ≡ get_or rows i r → AreRowsOf is (take i rows) xs → is r x →
    AreRowsOf is (take (i + 1) rows) (xs ++ x ∷ [])
next_row is rows xs i r x less at so_far own =
    subst (λ (l : List Row). AreRowsOf is l (xs ++ x ∷ [])) (taken rows i r less at)
    (more_rows is (take i rows) xs r x so_far own)

-- no row makes no tariff
pub no_tariffs : AreTariffsIn [] []
no_tariffs = record { own = []; read = tt; made = refl }

-- one row more sets its tariff
pub next_tariff : (rows : List Row) (tariffs : Tariffs) (i : ℕ) (r : Row) (e : ℕ × Tariff) → i < length rows →
    r ≡ get_or rows i r → AreTariffsIn (take i rows) tariffs → IsOwnTariff r e →
    AreTariffsIn (take (i + 1) rows) (with_entry tariffs e)
next_tariff rows tariffs i r e less at so_far is =
    record {
      own = so_far.own ++ e ∷ [];
      read = next_row IsOwnTariff rows so_far.own i r e less at so_far.read is;
      made = ap (λ (l : Tariffs). with_entry l e) so_far.made ∙ sym (fold-append with_entry [] so_far.own (e ∷ []));
    }
