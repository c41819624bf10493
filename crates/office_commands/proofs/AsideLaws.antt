-- One step of a comparison.
use Rattle.std.proofs.Common.{◌≡◌, ℕ, ◌+◌, ◌<◌, ◌≤◌, ◌&&◌, true, false, List, [], ◌∷◌, length, drop, get_or, Option}
use Rattle.std.proofs.Common.{Some, None, Err, sym, ap, subst, ◌∙◌, arith}
use Rattle.std.specs.Str.{bytes_eq}
use Rattle.std.proofs.lemmas.Bool.{cond-true, cond-false, and_from, le-leb, lt-leb}
use Rattle.std.proofs.lemmas.List.{drop_more}
use Rattle.road_time.specs.declared.road.Notice.{Notice}
use Rattle.road_time.specs.Lines.{lines_of, without_cr}
use Rattle.road_time.specs.Text.{notice_text, read_notice}
use Rattle.road_io.specs.Cutter.{Cuts, FirstHas}
use Rattle.road_io.specs.declared.cutter.LineFault.TheVariants.{LongLine}
use Rattle.office_commands.specs.declared.entry_text.EntryText.TheVariants.{Nothing, Malformed, Read}
use Rattle.office_commands.specs.declared.closing.Closing.TheVariants.{DiffersLine}
use Rattle.office_commands.specs.declared.closing.Closing.{Closing}
use Rattle.office_commands.specs.Asides.{is_short, begins_with_hash, entries_of, entry_of, compared, compared_from}
use Rattle.office_commands.specs.Entries.{entered, GoesOn, PartsAt}

-- a line of at most 200 bytes is short
pub short : (line : List ℕ) → length line ≤ 200 → is_short line ≡ true
short line h = le-leb (length line) 200 h

-- a line of more is not
pub long : (line : List ℕ) → 200 < length line → is_short line ≡ false
long line h = lt-leb (length line) 200 h

-- a long line is no end
pub long_entry : (lines : List (List ℕ)) → FirstHas 201 lines → (first : List ℕ) × (rest : List (List ℕ))
    × (200 < length first) × (entries_of lines ≡ first ∷ rest)
long_entry [] h = absurd h
long_entry (l ∷ ls) h = (
  l,
  entries_of ls,
  omega (arith, h),
  cond-false _ _ _ (ap (λ b. b && begins_with_hash l)
      (long l (omega (arith, h)))),
)

-- a long line was met: it comes first
pub first_long : (before after : Option (List ℕ)) (line bytes : List ℕ) (n : ℕ) →
    Cuts (Err (LongLine n)) before after line → before ≡ Some bytes → FirstHas 201 (lines_of bytes)
first_long None after line bytes n c e = let bad : ⊥ = cc in absurd bad
first_long (Some xs) after line bytes n c e = let same : xs ≡ bytes = cc in
    subst (λ ys. FirstHas 201 (lines_of ys)) same c.0

module _ (n : ℕ) (w : Notice) (rest : List Notice) (bytes : List ℕ) where
  -- the line is the notice's text
  pub one_same : (line now : List ℕ) → entered bytes ≡ line ∷ entered now → length line ≤ 200 →
      bytes_eq (without_cr line) (notice_text w) ≡ true →
      compared_from n (w ∷ rest) (entered bytes) ≡ compared_from (n + 1) rest (entered now)
  one_same line now e h same = ap (compared_from n (w ∷ rest)) e
      ∙ cond-true _ _ _ (and_from (is_short line) (bytes_eq (without_cr line) (notice_text w)) (short line h) same)

  -- the line is another text
  pub one_other : (line now : List ℕ) → entered bytes ≡ line ∷ entered now → length line ≤ 200 →
      bytes_eq (without_cr line) (notice_text w) ≡ false →
      DiffersLine n (Read w) (entry_of (read_notice (without_cr line))) ≡ compared_from n (w ∷ rest) (entered bytes)
  one_other line now e h other =
      let s = short line h in
      sym (ap (compared_from n (w ∷ rest)) e
      ∙ cond-false _ _ _ (ap (λ b. b && bytes_eq (without_cr line) (notice_text w)) s ∙ other)
      ∙ ap (DiffersLine n (Read w)) (cond-true _ _ _ s))

  -- the line is long
  pub one_long : (first : List ℕ) (lines : List (List ℕ)) → entered bytes ≡ first ∷ lines → 200 < length first →
      DiffersLine n (Read w) Malformed ≡ compared_from n (w ∷ rest) (entered bytes)
  one_long first lines e h =
      let l = long first h in
      sym (ap (compared_from n (w ∷ rest)) e
      ∙ cond-false _ _ _ (ap (λ b. b && bytes_eq (without_cr first) (notice_text w)) l)
      ∙ ap (DiffersLine n (Read w)) (cond-false _ _ _ l))

  -- there is none
  pub one_none : entered bytes ≡ [] → DiffersLine n (Read w) Nothing ≡ compared_from n (w ∷ rest) (entered bytes)
  one_none e = sym (ap (compared_from n (w ∷ rest)) e)

-- a line behind all notices
pub end_line : (n : ℕ) (bytes line now : List ℕ) → entered bytes ≡ line ∷ entered now → length line ≤ 200 →
    DiffersLine n Nothing (entry_of (read_notice (without_cr line))) ≡ compared_from n [] (entered bytes)
end_line n bytes line now e h =
    sym (ap (compared_from n []) e ∙ ap (DiffersLine n Nothing) (cond-true _ _ _ (short line h)))

-- a long line behind all notices
pub end_long : (n : ℕ) (bytes first : List ℕ) (lines : List (List ℕ)) → entered bytes ≡ first ∷ lines →
    200 < length first → DiffersLine n Nothing Malformed ≡ compared_from n [] (entered bytes)
end_long n bytes first lines e h =
    sym (ap (compared_from n []) e ∙ ap (DiffersLine n Nothing) (cond-false _ _ _ (long first h)))

-- what is left of a comparison after some notices: the same answer, over the bytes that lie ahead
abbrev pub LeftBy : ℕ → List Notice → List ℕ → Option (List ℕ) → Type 0
LeftBy i wanted bytes after =
    (now : List ℕ) × (after ≡ Some now)
    × (compared_from 1 wanted (entered bytes) ≡ compared_from (i + 1) (drop i wanted) (entered now))

module _ (wanted : List Notice) (bytes : List ℕ) (i line : ℕ) (d : Notice) (is : line ≡ i + 1)
    (h : i < length wanted) where
  -- the first entry of what is left
  first_left : (now : List ℕ) → compared_from (i + 1) (drop i wanted) (entered now) ≡ compared_from line
      (get_or wanted i d ∷ drop (i + 1) wanted) (entered now)
  first_left now = ap (λ ws. compared_from (i + 1) ws (entered now)) (drop_more wanted i d h)
      ∙ ap (λ n. compared_from n (get_or wanted i d ∷ drop (i + 1) wanted) (entered now)) (sym is)

  -- one notice more agrees
  pub goes_on : (before after : Option (List ℕ)) → LeftBy i wanted bytes before →
      GoesOn line (get_or wanted i d) before after → LeftBy (i + 1) wanted bytes after
  goes_on before after at same =
      let step = same (drop (i + 1) wanted) at.0 at.1 in (
        step.0,
        step.1,
        at.2 ∙ first_left at.0 ∙ step.2
            ∙ ap (λ n. compared_from (n + 1) (drop (i + 1) wanted) (entered step.0)) is,
      )

  -- the comparison ends at a notice
  pub parts_at : (before : Option (List ℕ)) (c : Closing) → LeftBy i wanted bytes before →
      PartsAt line (get_or wanted i d) before c → c ≡ compared wanted (lines_of bytes)
  parts_at before c at parts = parts (drop (i + 1) wanted) at.0 at.1 ∙ sym (at.2 ∙ first_left at.0)
