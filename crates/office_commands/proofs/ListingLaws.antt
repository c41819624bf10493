-- One step of a list of differences.
use Rattle.std.proofs.Common.{◌≡◌, ◌∙◌, ℕ, ◌+◌, ◌<◌, ◌≤◌, ◌&&◌, ◌||◌, true, false, List, [], ◌∷◌, ◌++◌, length}
use Rattle.std.proofs.Common.{Option, Some, None, Result, IfOk, refl, sym, ap, subst, append_assoc, arith}
use Rattle.std.specs.Str.{bytes_eq}
use Rattle.std.proofs.lemmas.Bool.{cond-true, cond-false}
use Rattle.std.proofs.lemmas.List.{length_push, append-nil}
use Rattle.std.proofs.lemmas.Result.{IfOk-weaker}
use Rattle.road_time.specs.declared.road.Notice.{Notice}
use Rattle.road_time.specs.Lines.{without_cr}
use Rattle.road_time.specs.Text.{notice_text, read_notice}
use Rattle.day_reading.specs.declared.whole_day.ReadStop.{ReadStop}
use Rattle.office_commands.specs.declared.aside.AsideEntry.{AsideEntry}
use Rattle.office_commands.specs.declared.aside.AsideEntry.TheVariants.{Line, Long, End}
use Rattle.office_commands.specs.declared.entry_text.EntryText.{EntryText}
use Rattle.office_commands.specs.declared.entry_text.EntryText.TheVariants.{Nothing, Malformed, Read}
use Rattle.office_commands.specs.declared.difference.Difference.{Difference}
use Rattle.office_commands.specs.declared.difference.DifferenceKind.TheVariants.{Changed, Missing, Additional}
use Rattle.office_commands.specs.declared.listing.Step.{Step}
use Rattle.office_commands.specs.Asides.{is_short, is_text_of, entry_of, found_as}
use Rattle.office_commands.specs.Entries.{Enters, entered, HasReadEntries}
use Rattle.office_commands.specs.Differences.{is_before, is_missing, is_additional, is_in_first, differs_at}
use Rattle.office_commands.specs.Differences.{differences}
use Rattle.road_io.specs.declared.cutter.LineCutter.{LineCutter}
use Rattle.road_io.specs.Cutter.{line_of, line_number, fault_of}
use Rattle.office_commands.specs.Listings.{IsReady, StandsAt, ListsOn, StepsTo, StepCounts}
use Rattle.office_commands.proofs.AsideLaws.{short, long}
use Rattle.office_commands.proofs.DifferenceLaws.{line_same, line_missing, line_additional, line_changed, line_long}

-- a short line is a notice's text where its bytes are
pub text_of_short : (w : Notice) (line : List ℕ) → length line ≤ 200 →
    bytes_eq (without_cr line) (notice_text w) ≡ is_text_of w line
text_of_short w line h = sym (ap (λ b. b && bytes_eq (without_cr line) (notice_text w)) (short line h))

-- and is named by what it reads as
pub named_short : (line : List ℕ) → length line ≤ 200 → entry_of (read_notice (without_cr line)) ≡ found_as line
named_short line h = sym (cond-true _ _ _ (short line h))

-- a long line has no name
pub named_long : (line : List ℕ) → 200 < length line → Malformed ≡ found_as line
named_long line h = sym (cond-false _ _ _ (long line h))

-- and is no notice's text
pub text_of_long : (w : Notice) (line : List ℕ) → 200 < length line → is_text_of w line ≡ false
text_of_long w line h = ap (λ b. b && bytes_eq (without_cr line) (notice_text w)) (long line h)

-- what is next stands at the entries of the bytes that lie ahead
pub stands_entered : (entry : AsideEntry) (before after : Option (List ℕ)) (line bytes : List ℕ) →
    Enters entry before after line → before ≡ Some bytes → (entry ≡ Line → length line ≤ 200) →
    StandsAt entry line after (entered bytes)
stands_entered Line before after line bytes enters told brief =
    let at = enters bytes told in (at.0, at.1, brief refl, at.2)
stands_entered Long before after line bytes enters told brief = enters bytes told
stands_entered End before after line bytes enters told brief = enters bytes told

-- where it is a line, the cutter stands there
pub ready_by : (entry : AsideEntry) (c : LineCutter) (most : ℕ) →
    (entry ≡ Line → (line_number c ≡ most) × (fault_of c ≡ None) × (length (line_of c) ≤ 200)) → IsReady entry c most
ready_by Line c most h = let at = h refl in (at.1, at.2, omega (arith, at.0))
ready_by Long c most h = tt
ready_by End c most h = tt

-- whether a notice stands in what is next
pub in_first_line : (w : Notice) (line : List ℕ) (after : Option (List ℕ)) (entries : List (List ℕ)) →
    StandsAt Line line after entries → is_text_of w line ≡ is_in_first w entries
in_first_line w line after entries stands = sym (ap (is_in_first w) stands.3)

pub in_first_long : (w : Notice) (line : List ℕ) (after : Option (List ℕ)) (entries : List (List ℕ)) →
    StandsAt Long line after entries → false ≡ is_in_first w entries
in_first_long w line after entries stands =
    sym (ap (is_in_first w) stands.3 ∙ text_of_long w stands.0 stands.2)

pub in_first_end : (w : Notice) (line : List ℕ) (after : Option (List ℕ)) (entries : List (List ℕ)) →
    StandsAt End line after entries → false ≡ is_in_first w entries
in_first_end w line after entries stands = sym (ap (is_in_first w) stands)

-- what a long line differs from
abbrev pub last_of : List Notice → ℕ → Difference
last_of [] n = differs_at Additional n Nothing Malformed
last_of (w ∷ ws) n = differs_at Changed n (Read w) Malformed

module _ (all listed : List Difference) where
  -- a difference more is listed
  one_more : (d : Difference) (rest : List Difference) → all ≡ listed ++ d ∷ rest → all ≡ (listed ++ d ∷ []) ++ rest
  one_more d rest e = e ∙ sym (append_assoc listed (d ∷ []) rest)

  -- where a line is current, it is the first of what is left
  pub at_a_line : (ws : List Notice) (n : ℕ) (entry : AsideEntry) (line : List ℕ) (after : Option (List ℕ)) →
      entry ≡ Line → ListsOn all listed ws n entry line after →
      (now : List ℕ) × (after ≡ Some now) × (all ≡ listed ++ differences ws n (line ∷ entered now))
  at_a_line ws n Line line after is h =
      (h.1.0, h.1.1, h.2 ∙ ap (λ es. listed ++ differences ws n es) h.1.3)
  at_a_line ws n Long line after is h = let no : ⊥ = cc in absurd no
  at_a_line ws n End line after is h = let no : ⊥ = cc in absurd no

  module _ (w : Notice) (ws : List Notice) (n m : ℕ) (l : List ℕ) (ls : List (List ℕ)) (moved : m ≡ n + 1)
      (h : all ≡ listed ++ differences (w ∷ ws) n (l ∷ ls)) where
    -- the line is the notice's text
    pub step_same : is_text_of w l ≡ true → all ≡ listed ++ differences ws m ls
    step_same same =
        h ∙ ap (λ ds. listed ++ ds) (line_same w ws n l ls same ∙ ap (λ k. differences ws k ls) (sym moved))

    module _ (found : EntryText) (named : found ≡ found_as l) (other : is_text_of w l ≡ false)
        (brief : is_short l ≡ true) where
      -- the notice is missing
      pub step_missing : is_missing w ws l ≡ true →
          all ≡ (listed ++ differs_at Missing n (Read w) found ∷ []) ++ differences ws n (l ∷ ls)
      step_missing missing = one_more (differs_at Missing n (Read w) found) (differences ws n (l ∷ ls))
          (h ∙ ap (λ ds. listed ++ ds) (line_missing w ws n l ls other brief missing
          ∙ ap (λ t. differs_at Missing n (Read w) t ∷ differences ws n (l ∷ ls)) (sym named)))

      -- the line is additional
      pub step_additional : is_missing w ws l ≡ false → is_additional w l ls ≡ true →
          all ≡ (listed ++ differs_at Additional n (Read w) found ∷ []) ++ differences (w ∷ ws) m ls
      step_additional there additional =
          one_more (differs_at Additional n (Read w) found) (differences (w ∷ ws) m ls)
          (h ∙ ap (λ ds. listed ++ ds) (line_additional w ws n l ls other brief there additional
          ∙ ap (λ t. differs_at Additional n (Read w) t ∷ differences (w ∷ ws) (n + 1) ls) (sym named)
          ∙ ap (λ k. differs_at Additional n (Read w) found ∷ differences (w ∷ ws) k ls) (sym moved)))

      -- the line is another
      pub step_changed : is_missing w ws l ≡ false → is_additional w l ls ≡ false →
          all ≡ (listed ++ differs_at Changed n (Read w) found ∷ []) ++ differences ws m ls
      step_changed there needed =
          one_more (differs_at Changed n (Read w) found) (differences ws m ls)
          (h ∙ ap (λ ds. listed ++ ds) (line_changed w ws n l ls other brief there needed
          ∙ ap (λ t. differs_at Changed n (Read w) t ∷ differences ws (n + 1) ls) (sym named)
          ∙ ap (λ k. differs_at Changed n (Read w) found ∷ differences ws k ls) (sym moved)))

  -- a line behind all notices
  pub step_over : (n m : ℕ) (l : List ℕ) (ls : List (List ℕ)) (found : EntryText) → m ≡ n + 1 → found ≡ found_as l →
      is_short l ≡ true → all ≡ listed ++ differences [] n (l ∷ ls) →
      all ≡ (listed ++ differs_at Additional n Nothing found ∷ []) ++ differences [] m ls
  step_over n m l ls found moved named brief h =
      one_more (differs_at Additional n Nothing found) (differences [] m ls)
      (h ∙ ap (λ ds. listed ++ differs_at Additional n Nothing (found_as l) ∷ ds)
      (cond-true _ _ _ brief ∙ ap (λ k. differences [] k ls) (sym moved))
      ∙ ap (λ t. listed ++ differs_at Additional n Nothing t ∷ differences [] m ls) (sym named))

  -- a long line is the last
  pub long_last : (ws : List Notice) (n : ℕ) (line : List ℕ) (after : Option (List ℕ)) →
      ListsOn all listed ws n Long line after → all ≡ listed ++ last_of ws n ∷ []
  long_last [] n line after h =
      let e = h.1.2 in
      h.2 ∙ ap (λ es. listed ++ differences [] n es) h.1.3
      ∙ ap (λ (ds : List Difference). listed ++ ds)
      (ap (λ ds. differs_at Additional n Nothing (found_as h.1.0) ∷ ds) (cond-false _ _ _ (long h.1.0 e))
      ∙ ap (λ t. differs_at Additional n Nothing t ∷ []) (sym (named_long h.1.0 e)))
  long_last (w ∷ ws) n line after h =
      let e = h.1.2 in
      h.2 ∙ ap (λ es. listed ++ differences (w ∷ ws) n es) h.1.3
      ∙ ap (λ (ds : List Difference). listed ++ ds)
      (line_long w ws n h.1.0 h.1.1 (text_of_long w h.1.0 e) (long h.1.0 e)
      ∙ ap (λ t. differs_at Changed n (Read w) t ∷ []) (sym (named_long h.1.0 e)))

  -- behind all lines a notice is missing
  pub step_end : (w : Notice) (ws : List Notice) (n : ℕ) (line : List ℕ) (after : Option (List ℕ)) →
      ListsOn all listed (w ∷ ws) n End line after →
      ListsOn all (listed ++ differs_at Missing n (Read w) Nothing ∷ []) ws n End line after
  step_end w ws n line after h =
      ([], refl, one_more _ _ (h.2 ∙ ap (λ es. listed ++ differences (w ∷ ws) n es) h.1))

  -- and without one nothing is left
  pub all_listed : (n : ℕ) (line : List ℕ) (after : Option (List ℕ)) → ListsOn all listed [] n End line after →
      all ≡ listed
  all_listed n line after h = h.2 ∙ ap (λ es. listed ++ differences [] n es) h.1 ∙ append-nil listed

module _ (r : Result Step ReadStop) (step : Step) (old new : List Difference) (d : Difference)
    (noted : IfOk r (λ s. (s ≡ step) × (new ≡ old ++ d ∷ []))) where
  -- a step by which a difference was listed
  pub noted_to : (all : List Difference) (ws : List Notice) (n : ℕ) (entry : AsideEntry) (line : List ℕ)
      (after : Option (List ℕ)) → StepsTo step all (old ++ d ∷ []) ws n entry line after →
      IfOk r (λ s. StepsTo s all new ws n entry line after)
  noted_to all ws n entry line after to =
      IfOk-weaker r _ _ (λ s k. subst (λ (t : Step). StepsTo t all new ws n entry line after) (sym k.0)
      (subst (λ (xs : List Difference). StepsTo step all xs ws n entry line after) (sym k.1) to)) noted

  -- and what it counts
  pub noted_counts : (notices : ℕ) → StepCounts step notices (length old) (length old + 1) →
      IfOk r (λ s. StepCounts s notices (length old) (length new))
  noted_counts notices counts =
      IfOk-weaker r _ _ (λ s k. subst (λ (t : Step). StepCounts t notices (length old) (length new)) (sym k.0)
      (subst (λ m. StepCounts step notices (length old) m) (sym (ap length k.1 ∙ length_push old d)) counts)) noted

-- more lines may have been read
pub read_more : (front : Option (List ℕ)) (lines more : ℕ) (bytes : List ℕ) → lines ≤ more →
    HasReadEntries front lines bytes → HasReadEntries front more bytes
read_more front lines more bytes h s = record {
  taken = s.taken;
  now = s.now;
  ahead_is = s.ahead_is;
  bytes_are = s.bytes_are;
  few = omega (arith, s.few, h);
}

module _ (w : Notice) (l : List ℕ) (ls : List (List ℕ)) (found : EntryText) (named : found ≡ found_as l) where
  -- a line of an earlier second is additional
  pub early_line : true ≡ is_before w found → is_additional w l ls ≡ true
  early_line e = ap (λ b. b || is_in_first w ls) (sym (e ∙ ap (is_before w) named))

  module _ (here : false ≡ is_before w found) where
    -- another one is where the notice stands behind it
    pub line_behind : true ≡ is_in_first w ls → is_additional w l ls ≡ true
    line_behind e = ap (λ b. b || is_in_first w ls) (sym (here ∙ ap (is_before w) named)) ∙ sym e

    -- and else is not
    pub no_line_behind : false ≡ is_in_first w ls → is_additional w l ls ≡ false
    no_line_behind e = ap (λ b. b || is_in_first w ls) (sym (here ∙ ap (is_before w) named)) ∙ sym e

-- a current line stands before the entries of the bytes that lie ahead
pub line_stands : (entry : AsideEntry) (line now : List ℕ) (after : Option (List ℕ)) → entry ≡ Line → after ≡ Some now →
    length line ≤ 200 → StandsAt entry line after (line ∷ entered now)
line_stands entry line now after is told brief =
    subst (λ (e : AsideEntry). StandsAt e line after (line ∷ entered now)) (sym is) (now, told, brief, refl)

-- what the cutter's place says where a line is current
pub ready_there : (entry : AsideEntry) (c : LineCutter) (most : ℕ) → entry ≡ Line → IsReady entry c most →
    (fault_of c ≡ None) × (length (line_of c) ≤ 200) × (line_number c ≤ most)
ready_there entry c most is h = subst (λ (e : AsideEntry). IsReady e c most) is h

-- more lines may have been cut
pub ready_more : (entry : AsideEntry) (c : LineCutter) (some more : ℕ) → some ≤ more → IsReady entry c some →
    IsReady entry c more
ready_more Line c some more h at = (at.0, at.1, omega (arith, at.2, h))
ready_more Long c some more h at = tt
ready_more End c some more h at = tt

-- no notices are left where there are none
pub no_notices : (ws : List Notice) → length ws ≡ 0 → ws ≡ []
no_notices [] e = refl
no_notices (w ∷ ws) e = absurd (omega (arith, e))
