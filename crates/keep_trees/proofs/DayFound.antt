-- What is found of a day, and of the last one.
use Rattle.std.proofs.Common.{◌≡◌, ℕ, pos, max, ◌==◌, true, false, List, [], ◌∷◌, ◌++◌, map, find, slice_get}
use Rattle.std.proofs.Common.{Option, Some, None, refl, sym, ap, subst, ◌∙◌, arith, inl, inr, ◌<◌, ◌^◌}
use Rattle.std.specs.List.{AllByRecursion}
use Rattle.std.specs.List.Sorted.{IsStrictlySortedBy}
use Rattle.std.specs.declared.cmp.Ordering.TheVariants.{Less}
use Rattle.std.specs.Ordering.{nat_cmp}
use Rattle.std.proofs.lemmas.Bool.{eqb-true}
use Rattle.std.proofs.lemmas.Bool.Decides.{nat_tests}
use Rattle.sqlite_value.specs.declared.value.Value.TheVariants.{Int, Blob}
use Rattle.sqlite_value.specs.Order.{Row, column}
use Rattle.sqlite_btree.specs.Cut.{IsIn}
use Rattle.sqlite_btree.proofs.CutLemmas.{in_right}
use Rattle.sqlite_trees.specs.View.{Finds}
use Rattle.sqlite_keyed.proofs.ListLemmas.{slice_get-filter}
use Rattle.keep_office.specs.declared.kept.DayRecord.{DayRecord}
use Rattle.road_digest.specs.declared.digest.Digest.{Digest}
use Rattle.keep_office.specs.declared.kept.OldRecord.{OldRecord}
use Rattle.keep_office.specs.declared.kept.PastRecord.{PastRecord}
use Rattle.keep_office.specs.Kept.{sealed}
use Rattle.keep_office.specs.Office.{greatest_day, last_from}
use Rattle.keep_tables.specs.Codec.{day_row}
use Rattle.keep_tables.specs.Stands.{FitsDay}
use Rattle.keep_trees.specs.Days.{IsLastDay, TellsDay}
use Rattle.keep_trees.proofs.Members.{of_filter}
use Rattle.keep_trees.proofs.ListLaws.{is_hit, no_hit}

-- a row is that of a day
pub record IsDayRow (row : DayRecord → Row) (days : List DayRecord) (day : ℕ) (r : Row) : Type 0 where
  pub record_is : DayRecord
  pub found : find (λ (d : DayRecord). d.day == day) days ≡ Some record_is
  pub row_is : r ≡ row record_is
  pub day_is : record_is.day ≡ day
  pub fits : FitsDay record_is

-- what all fit, one among them fits
day_fits : (days : List DayRecord) (d : DayRecord) → AllByRecursion FitsDay days → IsIn d days → FitsDay d
day_fits [] d all at = absurd at
day_fits (e ∷ days) d all (inl is) = subst FitsDay (sym is) all.0
day_fits (e ∷ days) d all (inr more) = day_fits days d all.1 more

module _ (row : DayRecord → Row) (numbered : (d : DayRecord) → column (row d) 0 ≡ Int (pos d.day)) where
  -- a row that is found is that of the day
  pub day_row_found : (day : ℕ) (days : List DayRecord) (rows : List Row) (r : Row) → AllByRecursion FitsDay days →
      rows ≡ map row days → Finds rows (pos day) r true → IsDayRow row days day r
  day_row_found day days rows r fit are finds =
      let h = is_hit row (λ (d : DayRecord). d.day) numbered day days rows r are finds in
      let its = of_filter (λ (d : DayRecord). d.day == day) days h.hit (subst (IsIn h.hit) (sym h.only) (inl refl)) in
      record {
        record_is = h.hit;
        found = sym (slice_get-filter (λ (d : DayRecord). d.day == day) days)
            ∙ ap (λ (l : List DayRecord). slice_get l 0) h.only;
        row_is = h.row_is;
        day_is = eqb-true h.hit.day day its.1;
        fits = day_fits days h.hit fit its.0;
      }

  -- where none is found, the day is not kept
  pub day_row_none : (day : ℕ) (days : List DayRecord) (rows : List Row) (r : Row) → rows ≡ map row days
      → Finds rows (pos day) r false →
      find (λ (d : DayRecord). d.day == day) days ≡ None
  day_row_none day days rows r are finds =
      sym (slice_get-filter (λ (d : DayRecord). d.day == day) days)
      ∙ ap (λ (l : List DayRecord). slice_get l 0)
      (no_hit row (λ (d : DayRecord). d.day) numbered day days rows r are finds)

-- a day that is told is kept
pub record IsTold (kept : Option DayRecord) (old : OldRecord) : Type 0 where
  pub day : DayRecord
  pub kept_is : kept ≡ Some day
  pub told : sealed day.tariffs old ≡ day

-- a day is told only where one is kept
pub is_told : (kept : Option DayRecord) (old : OldRecord) → TellsDay kept (Some old) → IsTold kept old
is_told None old h = absurd h
is_told (Some r) old h = record { day = r; kept_is = refl; told = h }

-- with the seal that its row has it is the day
pub with_its_seal : (old : OldRecord) (d r : DayRecord) (seal : Digest) → Some d ≡ Some r → sealed d.tariffs old ≡ d →
    Blob r.tariffs.bytes ≡ Blob seal.bytes → Some (sealed seal old) ≡ Some d
with_its_seal old d r seal same told bytes =
    let one : d ≡ r = cc in
    let its : r.tariffs.bytes ≡ seal.bytes = cc in
    let digests : seal ≡ d.tariffs = ap (λ b. record { bytes = b }) (sym its)
    ∙ ap (λ (x : DayRecord). x.tariffs) (sym one) in
    ap Some (ap (λ (x : Digest). sealed x old) digests ∙ told)

-- the last row is that of the last day
pub last_row : (days : List DayRecord) (front : List Row) (r : Row) → map day_row days ≡ front ++ r ∷ [] →
    (before : List DayRecord) × (d : DayRecord) × (days ≡ before ++ d ∷ []) × (r ≡ day_row d)
last_row [] [] r h = absurd (cc)
last_row [] (x ∷ front) r h = absurd (cc)
last_row (d ∷ []) [] r h = ([], d, refl, cc)
last_row (d ∷ e ∷ days) [] r h = absurd (cc)
last_row (d ∷ days) (x ∷ front) r h =
    let rest : map day_row days ≡ front ++ r ∷ [] = cc in
    let more = last_row days front r rest in
    (d ∷ more.0, more.1, ap (λ (l : List DayRecord). d ∷ l) more.2, more.3)

-- its number fits
pub last_fits : (days before : List DayRecord) (last : DayRecord) → AllByRecursion FitsDay days
    → days ≡ before ++ last ∷ [] → last.day < 2 ^ 32
last_fits days before last fit split =
    let its = day_fits days last fit
    (subst (IsIn last) (sym split) (in_right last before (last ∷ []) (inl refl))) in its.day

-- where no row is there, no day is
pub no_rows : (days : List DayRecord) → map day_row days ≡ [] → days ≡ []
no_rows [] h = refl
no_rows (d ∷ days) h = absurd (cc)

-- the last of days that rise is the greatest
most_is_last : (d : DayRecord) (days before : List DayRecord) (last : DayRecord) →
    IsStrictlySortedBy nat_cmp (map (λ (r : DayRecord). r.day) (d ∷ days)) → d ∷ days ≡ before ++ last ∷ [] →
    greatest_day d.day days ≡ last.day
unfolding IsStrictlySortedBy
most_is_last d [] [] last up h = let e : d ≡ last = cc in ap (λ (r : DayRecord). r.day) e
most_is_last d [] (x ∷ []) last up h = absurd (cc)
most_is_last d [] (x ∷ y ∷ before) last up h = absurd (cc)
most_is_last d (e ∷ days) [] last up h = absurd (cc)
most_is_last d (e ∷ days) (x ∷ before) last up h =
    let rest : e ∷ days ≡ before ++ last ∷ [] = cc in
    ap (λ n. greatest_day n days) (later d.day e.day up.0.0) ∙ most_is_last e days before last up.1 rest
  where
    later : (m n : ℕ) → nat_cmp m n ≡ Less → max m n ≡ n
    later m n less = grind (arith, nat_tests, less)

-- so the last of the days is the last that is kept
pub last_is : (days : List DayRecord) (past : Option PastRecord) (day : ℕ) →
    IsStrictlySortedBy nat_cmp (map (λ (r : DayRecord). r.day) days) → IsLastDay days (Some day)
    → day ≡ last_from days past
last_is [] past day up (before, last, h, is) = absurd (none before h)
  where
    none : (l : List DayRecord) → [] ≡ l ++ last ∷ [] → ⊥
    none [] h = cc
    none (x ∷ l) h = cc
last_is (d ∷ days) past day up (before, last, h, is) = sym (most_is_last d days before last up h ∙ is)
