-- A second of a comparison in which its notices may stand in any order.
use Rattle.std.proofs.Common.{◌≡◌, ◌∙◌, ℕ, ◌+◌, ◌<◌, ◌≤◌, true, false, nat_lt, List, [], ◌∷◌, ◌++◌, length}
use Rattle.std.proofs.Common.{take, drop, get_or, Option, sym, ap, append_assoc, arith}
use Rattle.std.proofs.lemmas.Bool.{cond-true, cond-false}
use Rattle.std.proofs.lemmas.List.{at_drop_more, drop_all, take_all, take-append-le}
use Rattle.road_time.specs.declared.road.Notice.{Notice}
use Rattle.ways_audit.specs.Seconds.{seconds, less}
use Rattle.office_commands.specs.declared.aside.AsideEntry.{AsideEntry}
use Rattle.office_commands.specs.declared.entry_text.EntryText.{EntryText}
use Rattle.office_commands.specs.declared.entry_text.EntryText.TheVariants.{Read}
use Rattle.office_commands.specs.declared.difference.Difference.{Difference}
use Rattle.office_commands.specs.declared.difference.DifferenceKind.TheVariants.{Missing}
use Rattle.office_commands.specs.declared.second.Reach.{Reach}
use Rattle.office_commands.specs.declared.second.Reach.TheVariants as reach
use Rattle.office_commands.specs.Differences.{differs_at}
use Rattle.office_commands.specs.AnyOrder.{missing_at, differences_by_second}
use Rattle.office_commands.specs.Listings.{StandsAt}
use Rattle.office_commands.specs.Turns.{Onward, ListsBehind, ListsSeconds, ReachTo, ToldTo}

-- a list that is full is the first so many of all
pub full_taken : (most : ℕ) (all listed rest : List Difference) → all ≡ listed ++ rest → length listed ≡ most →
    listed ≡ take most all
full_taken most all listed rest e full =
    sym (ap (take most) e ∙ take-append-le most listed rest (omega (arith, full))
    ∙ take_all most listed (omega (arith, full)))

-- so is one that is all
pub whole_taken : (most : ℕ) (all listed : List Difference) → all ≡ listed → length listed ≤ most →
    listed ≡ take most all
whole_taken most all listed e few = sym e ∙ sym (take_all most all (omega (arith, few, ap length e)))

module _ (n : ℕ) (found : EntryText) (coming : Notice → ℕ) (run : List Notice) (i : ℕ) (d : Notice)
    (within : i < length run) where
  -- a notice that came is not missing
  missing_passes : nat_lt 0 (coming (get_or run i d)) ≡ false →
      missing_at n found coming (drop i run) ≡ missing_at n found coming (drop (i + 1) run)
  missing_passes e = at_drop_more (missing_at n found coming) run i d within ∙ cond-false _ _ _ e

  -- and one that is still to come is
  missing_tells : nat_lt 0 (coming (get_or run i d)) ≡ true → missing_at n found coming (drop i run)
      ≡ differs_at Missing n (Read (get_or run i d)) found
      ∷ missing_at n found (less coming (get_or run i d)) (drop (i + 1) run)
  missing_tells e = at_drop_more (missing_at n found coming) run i d within ∙ cond-true _ _ _ e

  module _ (all listed rest : List Difference) (h : all ≡ listed ++ (missing_at n found coming (drop i run) ++ rest)) where
    -- the list behind a notice that came
    pub list_passes : (now : Notice → ℕ) → now ≡ coming → nat_lt 0 (coming (get_or run i d)) ≡ false →
        all ≡ listed ++ (missing_at n found now (drop (i + 1) run) ++ rest)
    list_passes now same e =
        h ∙ ap (λ ds. listed ++ (ds ++ rest)) (missing_passes e
        ∙ ap (λ c. missing_at n found c (drop (i + 1) run)) (sym same))

    -- the list behind one that is missing
    pub list_tells : (now : Notice → ℕ) (more : List Difference) → now ≡ less coming (get_or run i d) →
        more ≡ listed ++ differs_at Missing n (Read (get_or run i d)) found ∷ [] →
        nat_lt 0 (coming (get_or run i d)) ≡ true
        → all ≡ more ++ (missing_at n found now (drop (i + 1) run) ++ rest)
    list_tells now more same told e =
        h ∙ ap (λ ds. listed ++ (ds ++ rest)) (missing_tells e
        ∙ ap (λ c. differs_at Missing n (Read (get_or run i d)) found ∷ missing_at n found c (drop (i + 1) run))
        (sym same))
        ∙ sym (append_assoc listed (differs_at Missing n (Read (get_or run i d)) found ∷ []) _)
        ∙ ap (λ ds. ds ++ (missing_at n found now (drop (i + 1) run) ++ rest)) (sym told)

-- behind all notices of a second
pub list_passed : (n : ℕ) (found : EntryText) (coming : Notice → ℕ) (run : List Notice) (i : ℕ)
    (all listed rest : List Difference) → length run ≤ i →
    all ≡ listed ++ (missing_at n found coming (drop i run) ++ rest) → all ≡ listed ++ rest
list_passed n found coming run i all listed rest past h =
    h ∙ ap (λ ws. listed ++ (missing_at n found coming ws ++ rest)) (drop_all i run past)

-- how far a list came by the missing ones of a second
pub reach_by : (r : Reach) (most : ℕ) (all listed : List Difference) (behind : Onward) (n : ℕ) (entry : AsideEntry)
    (line : List ℕ) (after : Option (List ℕ)) (entries : List (List ℕ)) → StandsAt entry line after entries →
    ToldTo r most all listed (behind n entries) → ReachTo r most all listed behind n entry line after
reach_by reach.Onward most all listed behind n entry line after entries stands told = (entries, stands, told)
reach_by reach.Whole most all listed behind n entry line after entries stands told = told

-- the differences of notices are those of their first second, and behind it of the others
pub first_of_seconds : (all listed : List Difference) (ws run rest : List Notice) (n : ℕ) (entry : AsideEntry)
    (line : List ℕ) (after : Option (List ℕ)) → seconds ws ≡ run ∷ seconds rest →
    ListsSeconds all listed ws n entry line after →
    ListsBehind all listed (λ m ks. differences_by_second (run ∷ seconds rest) m ks) n entry line after
first_of_seconds all listed ws run rest n entry line after cut h =
    (h.0, h.1, h.2 ∙ ap (λ runs. listed ++ differences_by_second runs n h.0) cut)
