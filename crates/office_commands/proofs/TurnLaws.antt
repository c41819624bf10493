-- One turn of a comparison in which the notices of one second may stand in any order.
use Rattle.std.proofs.Common.{◌≡◌, ◌∙◌, ℕ, zero, suc, ◌+◌, ◌-◌, ◌<◌, ◌≤◌, true, false, List, [], ◌∷◌, ◌++◌}
use Rattle.std.proofs.Common.{length, Option, Some, refl, sym, ap, append_assoc, arith}
use Rattle.std.proofs.lemmas.Bool.{cond-true, cond-false}
use Rattle.road_time.specs.declared.road.Notice.{Notice}
use Rattle.office_commands.specs.declared.aside.AsideEntry.{AsideEntry}
use Rattle.office_commands.specs.declared.aside.AsideEntry.TheVariants.{Line, Long, End}
use Rattle.office_commands.specs.declared.entry_text.EntryText.{EntryText}
use Rattle.office_commands.specs.declared.entry_text.EntryText.TheVariants.{Nothing, Malformed}
use Rattle.office_commands.specs.declared.difference.Difference.{Difference}
use Rattle.office_commands.specs.declared.difference.DifferenceKind.TheVariants.{Additional}
use Rattle.office_commands.specs.Asides.{is_short, found_as}
use Rattle.office_commands.specs.Entries.{entered}
use Rattle.office_commands.specs.Differences.{differs_at}
use Rattle.office_commands.specs.AnyOrder.{is_later, is_wanted, without_found, missing_at, differences_within}
use Rattle.office_commands.specs.Listings.{StandsAt}
use Rattle.office_commands.specs.Turns.{Onward, ListsSecond, LeavesSecond}
use Rattle.office_commands.proofs.AsideLaws.{long}
use Rattle.office_commands.proofs.ListingLaws.{named_long}

-- what has no name is of no later second
later_malformed : (run : List Notice) → is_later run Malformed ≡ false
later_malformed [] = refl
later_malformed (w ∷ run) = refl

module _ (run : List Notice) (behind : Onward) (coming : Notice → ℕ) (n : ℕ) where
  -- behind all lines the second is over
  within_end : (left : ℕ) → 1 ≤ left →
      differences_within run behind left coming n [] ≡ missing_at n Nothing coming run ++ behind n []
  within_end zero h = absurd (omega (arith, h))
  within_end (suc left) h = refl

  module _ (l : List ℕ) (ls : List (List ℕ)) where
    -- it is before a line of a later one
    within_later : (left : ℕ) → 1 ≤ left → is_later run (found_as l) ≡ true →
        differences_within run behind left coming n (l ∷ ls)
        ≡ missing_at n (found_as l) coming run ++ behind n (l ∷ ls)
    within_later zero h later = absurd (omega (arith, h))
    within_later (suc left) h later = cond-true _ _ _ later

    -- a line that is a notice of the second
    within_came : (left : ℕ) → 1 ≤ left → is_later run (found_as l) ≡ false → is_wanted coming (found_as l) ≡ true →
        differences_within run behind left coming n (l ∷ ls)
        ≡ differences_within run behind (left - 1) (without_found coming (found_as l)) (n + 1) ls
    within_came zero h here wanted = absurd (omega (arith, h))
    within_came (suc left) h here wanted =
        let fewer : left ≡ suc left - 1 = omega arith in
        cond-false _ _ _ here ∙ cond-true _ _ _ wanted
        ∙ ap (λ k. differences_within run behind k (without_found coming (found_as l)) (n + 1) ls) fewer

    -- a line that is none of those to come
    within_over : (left : ℕ) → 1 ≤ left → is_later run (found_as l) ≡ false → is_wanted coming (found_as l) ≡ false →
        is_short l ≡ true → differences_within run behind left coming n (l ∷ ls)
        ≡ differs_at Additional n Nothing (found_as l) ∷ differences_within run behind left coming (n + 1) ls
    within_over zero h here needless brief = absurd (omega (arith, h))
    within_over (suc left) h here needless brief =
        cond-false _ _ _ here ∙ cond-false _ _ _ needless
        ∙ ap (λ ds. differs_at Additional n Nothing (found_as l) ∷ ds) (cond-true _ _ _ brief)

    -- a long line
    within_long : (left : ℕ) → 1 ≤ left → 200 < length l →
        differences_within run behind left coming n (l ∷ ls) ≡ differs_at Additional n Nothing Malformed ∷ []
    within_long zero h big = absurd (omega (arith, h))
    within_long (suc left) h big =
        let named : found_as l ≡ Malformed = sym (named_long l big) in
        let here : is_later run (found_as l) ≡ false = ap (is_later run) named ∙ later_malformed run in
        cond-false _ _ _ here ∙ cond-false _ _ _ (ap (is_wanted coming) named)
        ∙ ap (λ ds. differs_at Additional n Nothing (found_as l) ∷ ds) (cond-false _ _ _ (long l big))
        ∙ ap (λ t. differs_at Additional n Nothing t ∷ []) named

module _ (all listed : List Difference) where
  -- a difference more is listed
  one_more : (d : Difference) (rest : List Difference) → all ≡ listed ++ d ∷ rest → all ≡ (listed ++ d ∷ []) ++ rest
  one_more d rest e = e ∙ sym (append_assoc listed (d ∷ []) rest)

  module _ (run : List Notice) (behind : Onward) (left : ℕ) (coming : Notice → ℕ) (n : ℕ) (some : 1 ≤ left) where
    -- where a line is current, it is the first of what is left
    pub second_at_line : (entry : AsideEntry) (line : List ℕ) (after : Option (List ℕ)) → entry ≡ Line →
        ListsSecond all listed run behind left coming n entry line after →
        (now : List ℕ) × (after ≡ Some now) × (length line ≤ 200)
        × (all ≡ listed ++ differences_within run behind left coming n (line ∷ entered now))
    second_at_line Line line after is h =
        (h.1.0, h.1.1, h.1.2, h.2 ∙ ap (λ es. listed ++ differences_within run behind left coming n es) h.1.3)
    second_at_line Long line after is h = let no : ⊥ = cc in absurd no
    second_at_line End line after is h = let no : ⊥ = cc in absurd no

    module _ (m : ℕ) (l now : List ℕ) (entry : AsideEntry) (line : List ℕ) (after : Option (List ℕ)) (moved : m ≡ n + 1)
        (h : all ≡ listed ++ differences_within run behind left coming n (l ∷ entered now))
        (stands : StandsAt entry line after (entered now)) where
      -- a notice of the second came
      pub turn_came : is_later run (found_as l) ≡ false → is_wanted coming (found_as l) ≡ true →
          ListsSecond all listed run behind (left - 1) (without_found coming (found_as l)) m entry line after
      turn_came here wanted =
          let next : Notice → ℕ = without_found coming (found_as l) in (
            entered now,
            stands,
            h
                ∙ ap (λ ds. listed ++ ds) (within_came run behind coming n l (entered now) left some here wanted
                ∙ ap (λ k. differences_within run behind (left - 1) next k (entered now)) (sym moved)),
          )

      -- another line is listed
      pub turn_over : (found : EntryText) → found ≡ found_as l → is_later run found ≡ false →
          is_wanted coming found ≡ false → is_short l ≡ true
          → ListsSecond all (listed ++ differs_at Additional n Nothing found ∷ []) run behind left coming m entry line after
      turn_over found named here needless brief = (
        entered now,
        stands,
        one_more (differs_at Additional n Nothing found) (differences_within run behind left coming m (entered now))
            (h
            ∙ ap (λ ds. listed ++ ds) (within_over run behind coming n l (entered now) left some
            (ap (is_later run) (sym named) ∙ here) (ap (is_wanted coming) (sym named) ∙ needless) brief
            ∙ ap (λ t. differs_at Additional n Nothing t ∷ differences_within run behind left coming (n + 1) (entered now))
            (sym named)
            ∙ ap (λ k. differs_at Additional n Nothing found ∷ differences_within run behind left coming k (entered now))
            (sym moved))),
      )

    -- the second is over before a line
    pub turn_behind : (l : List ℕ) (after : Option (List ℕ)) (entry : AsideEntry) → entry ≡ Line →
        is_later run (found_as l) ≡ true → ListsSecond all listed run behind left coming n entry l after →
        LeavesSecond all listed run behind coming n entry l after
    turn_behind l after Line is later h = (
      h.0,
      h.1,
      h.2
          ∙ ap (λ es. listed ++ differences_within run behind left coming n es) h.1.3
          ∙ ap (λ ds. listed ++ ds) (within_later run behind coming n l (entered h.1.0) left some later
          ∙ ap (λ es. missing_at n (found_as l) coming run ++ behind n es) (sym h.1.3)),
    )
    turn_behind l after Long is later h = let no : ⊥ = cc in absurd no
    turn_behind l after End is later h = let no : ⊥ = cc in absurd no

    -- it is over behind all lines
    pub turn_end : (l : List ℕ) (after : Option (List ℕ)) → ListsSecond all listed run behind left coming n End l after →
        LeavesSecond all listed run behind coming n End l after
    turn_end l after h = (
      h.0,
      h.1,
      h.2
          ∙ ap (λ es. listed ++ differences_within run behind left coming n es) h.1
          ∙ ap (λ ds. listed ++ ds) (within_end run behind coming n left some
          ∙ ap (λ es. missing_at n Nothing coming run ++ behind n es) (sym h.1)),
    )

    -- a long line is the last
    pub turn_long : (l : List ℕ) (after : Option (List ℕ)) → ListsSecond all listed run behind left coming n Long l after →
        all ≡ listed ++ differs_at Additional n Nothing Malformed ∷ []
    turn_long l after h =
        h.2 ∙ ap (λ es. listed ++ differences_within run behind left coming n es) h.1.3
        ∙ ap (λ ds. listed ++ ds) (within_long run behind coming n h.1.0 h.1.1 left some h.1.2)
