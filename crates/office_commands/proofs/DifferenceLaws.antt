-- What the first difference says, and how a list of differences begins.
use Rattle.std.proofs.Common.{◌≡◌, ◌∙◌, ℕ, zero, suc, ◌+◌, ◌-◌, ◌<◌, ◌≤◌, Bool, true, false, cond, List, [], ◌∷◌}
use Rattle.std.proofs.Common.{length, take, slice_index_or, refl, sym, ap, arith}
use Rattle.std.proofs.lemmas.Bool.{cond-true, cond-false, le-leb, lt-leb}
use Rattle.road_time.specs.declared.road.Notice.{Notice}
use Rattle.office_commands.specs.declared.entry_text.EntryText.TheVariants.{Read}
use Rattle.office_commands.specs.declared.closing.Closing.{Closing}
use Rattle.office_commands.specs.declared.closing.Closing.TheVariants.{Agree, DiffersLine}
use Rattle.office_commands.specs.declared.difference.Difference.{Difference}
use Rattle.office_commands.specs.declared.difference.DifferenceKind.TheVariants.{Changed, Missing, Additional}
use Rattle.office_commands.specs.Asides.{is_short, is_text_of, found_as, compared_from}
use Rattle.office_commands.specs.Differences.{is_missing, is_additional, differs_at, differences_by, differences}
use Rattle.office_commands.specs.Differences.{closed_by_first, told_before}
use Rattle.office_commands.specs.Entries.{most_compared}
use Rattle.office_commands.specs.Listings.{most_listed}

-- the first difference is where notices and lines part, and with none they agree
pub first_closes : (ws : List Notice) (n : ℕ) (ls : List (List ℕ)) →
    closed_by_first (Agree (n + length ws - 1)) (differences ws n ls) ≡ compared_from n ws ls
first_closes [] n [] = ap Agree (omega arith)
first_closes [] n (l ∷ ls) = refl
first_closes (w ∷ ws) n [] = refl
first_closes (w ∷ ws) n (l ∷ ls) =
    go (is_text_of w l) (is_short l) (is_missing w ws l) (is_additional w l ls) (first_closes ws (n + 1) ls)
  where
    go : (text brief missing additional : Bool) →
        closed_by_first (Agree (n + 1 + length ws - 1)) (differences ws (n + 1) ls) ≡ compared_from (n + 1) ws ls →
        closed_by_first (Agree (n + suc (length ws) - 1))
        (cond text (differences ws (n + 1) ls)
        (cond brief
        (cond missing (differs_at Missing n (Read w) (found_as l) ∷ differences ws n (l ∷ ls))
        (cond additional
        (differs_at Additional n (Read w) (found_as l) ∷
        differences_by w ws (λ m ks. differences ws m ks) (n + 1) ls)
        (differs_at Changed n (Read w) (found_as l) ∷ differences ws (n + 1) ls)))
        (differs_at Changed n (Read w) (found_as l) ∷ [])))
        ≡ cond text (compared_from (n + 1) ws ls) (DiffersLine n (Read w) (found_as l))
    go true brief missing additional e =
        ap (λ k. closed_by_first (Agree k) (differences ws (n + 1) ls)) (omega arith) ∙ e
    go false true true additional e = refl
    go false true false true e = refl
    go false true false false e = refl
    go false false missing additional e = refl

-- the first of some is the first of all
first_taken : (agreed : Closing) (most : ℕ) (ds : List Difference) → 1 ≤ most →
    closed_by_first agreed (take most ds) ≡ closed_by_first agreed ds
first_taken agreed zero ds h = absurd (omega (arith, h))
first_taken agreed (suc most) [] h = refl
first_taken agreed (suc most) (d ∷ ds) h = refl

-- so the first differences close a comparison
pub closing_is : (ws : List Notice) (ds : List Difference) (most : ℕ) (ls : List (List ℕ)) → 1 ≤ most →
    ds ≡ take most (differences ws 1 ls) → closed_by_first (Agree (length ws)) ds ≡ compared_from 1 ws ls
closing_is ws ds most ls h e =
    let same : length ws ≡ 1 + length ws - 1 = omega arith in
    ap (closed_by_first (Agree (length ws))) e
    ∙ first_taken (Agree (length ws)) most (differences ws 1 ls) h
    ∙ ap (λ k. closed_by_first (Agree k) (differences ws 1 ls)) same
    ∙ first_closes ws 1 ls

module _ (w : Notice) (ws : List Notice) (n : ℕ) (l : List ℕ) (ls : List (List ℕ)) where
  -- a line that is the notice's text
  pub line_same : is_text_of w l ≡ true → differences (w ∷ ws) n (l ∷ ls) ≡ differences ws (n + 1) ls
  line_same same = cond-true _ _ _ same

  -- a notice that is missing
  pub line_missing : is_text_of w l ≡ false → is_short l ≡ true → is_missing w ws l ≡ true →
      differences (w ∷ ws) n (l ∷ ls)
      ≡ differs_at Missing n (Read w) (found_as l) ∷ differences ws n (l ∷ ls)
  line_missing other brief missing = cond-false _ _ _ other ∙ cond-true _ _ _ brief ∙ cond-true _ _ _ missing

  -- a line that is additional
  pub line_additional : is_text_of w l ≡ false → is_short l ≡ true → is_missing w ws l ≡ false →
      is_additional w l ls ≡ true → differences (w ∷ ws) n (l ∷ ls)
      ≡ differs_at Additional n (Read w) (found_as l) ∷ differences (w ∷ ws) (n + 1) ls
  line_additional other brief there additional =
      cond-false _ _ _ other ∙ cond-true _ _ _ brief ∙ cond-false _ _ _ there ∙ cond-true _ _ _ additional

  -- a line that is another
  pub line_changed : is_text_of w l ≡ false → is_short l ≡ true → is_missing w ws l ≡ false →
      is_additional w l ls ≡ false → differences (w ∷ ws) n (l ∷ ls)
      ≡ differs_at Changed n (Read w) (found_as l) ∷ differences ws (n + 1) ls
  line_changed other brief there needed =
      cond-false _ _ _ other ∙ cond-true _ _ _ brief ∙ cond-false _ _ _ there ∙ cond-false _ _ _ needed

  -- a line that is long
  pub line_long : is_text_of w l ≡ false → is_short l ≡ false →
      differences (w ∷ ws) n (l ∷ ls) ≡ differs_at Changed n (Read w) (found_as l) ∷ []
  line_long other long = cond-false _ _ _ other ∙ cond-false _ _ _ long

module _ (show : ℕ) where
  -- where one difference is told, none stands before the closing line, and no line more is read
  module _ (one : show < 2) where
    pub told_none : (all : List Difference) → [] ≡ told_before show all
    told_none all = sym (cond-true _ _ _ (le-leb show 1 (omega (arith, one))))

    pub most_alone : (notices : ℕ) → most_compared notices ≡ most_listed false show notices
    most_alone notices = sym (cond-true _ _ _ (le-leb show 1 (omega (arith, one))))

  -- where more are, the first so many do
  module _ (more : 2 ≤ show) where
    pub told_some : (all : List Difference) → take show all ≡ told_before show all
    told_some all = sym (cond-false _ _ _ (lt-leb show 1 (omega (arith, more))))

    pub most_more : (notices : ℕ) → most_compared (notices + show) ≡ most_listed false show notices
    most_more notices = sym (cond-false _ _ _ (lt-leb show 1 (omega (arith, more))))

-- a list that is not empty closes with its first difference
pub closes_at : (ds : List Difference) (agreed : Closing) (d : Difference) → 1 ≤ length ds →
    DiffersLine (slice_index_or ds 0 d).line (slice_index_or ds 0 d).wanted (slice_index_or ds 0 d).found
    ≡ closed_by_first agreed ds
closes_at [] agreed d h = absurd (omega (arith, h))
closes_at (x ∷ ds) agreed d h = refl

-- and an empty one says that all agree
pub closes_none : (ds : List Difference) (agreed : Closing) → length ds < 1 → agreed ≡ closed_by_first agreed ds
closes_none [] agreed h = refl
closes_none (d ∷ ds) agreed h = absurd (omega (arith, h))
