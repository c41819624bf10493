-- What is kept of a verified day is right.
use Rattle.std.proofs.Common.{◌≡◌, ◌∙◌, ◌==◌, ℕ, Bool, true, false, List, [], ◌∷◌, length, Option, Some, None, refl, sym, ap}
use Rattle.std.proofs.Common.{if◌then◌else◌}
use Rattle.std.specs.List.{find}
use Rattle.std.specs.Str.{bytes_eq}
use Rattle.std.specs.Ordering.{nat_cmp, match_ordering}
use Rattle.std.specs.declared.cmp.Ordering.{Ordering}
use Rattle.std.specs.declared.cmp.Ordering.TheVariants.{Less, Equal, Greater}
use Rattle.std.specs.FinMap.{nat_cmp-IsAntisymmetric}
use Rattle.std.proofs.lemmas.Bool.{eqb-true}
use Rattle.std.proofs.lemmas.Slice.Eq.{bytes_eq-Decides}
use Rattle.road_time.specs.declared.road.Tuple.{Tuple}
use Rattle.road_time.specs.declared.day.SpentRow.{SpentRow}
use Rattle.road_time.specs.declared.day.Limits.{Limits}
use Rattle.road_time.specs.Form.{Fault}
use Rattle.road_time.specs.Reads.{reads}
use Rattle.road_time.specs.Rows.{rows_from}
use Rattle.road_time.specs.Text.{out}
use Rattle.road_digest.specs.declared.digest.Digest.{Digest}
use Rattle.road_digest.specs.Digests.{digest_of}
use Rattle.keep_office.specs.declared.kept.DayRecord.{DayRecord}
use Rattle.keep_office.specs.Office.{Office, record_of, row_cmp, rows_between}
use Rattle.keep_office.specs.Kept.{seal_of, kept_record}
use Rattle.keep_office.proofs.RowOrder.{then_parts}
use Rattle.day_import.specs.declared.outcomes.AnsweredDay.{AnsweredDay}
use Rattle.day_import.specs.Imports.{Work, work_of, worked_sums}
use Rattle.day_verify.specs.declared.verdict.Amiss.{Amiss}
use Rattle.day_verify.specs.declared.verdict.Amiss.TheVariants.{Bytes, Tuples, Notices, Text, Total}
use Rattle.day_verify.specs.declared.verdict.Parting.{Parting}
use Rattle.day_verify.specs.declared.verdict.Verdict.TheVariants.{Verified, Differs, OtherTariffs}
use Rattle.day_verify.specs.Partings.{parting, parting_at, or_later, kept_alone, right_alone, unlike}
use Rattle.day_verify.specs.Verdicts.{amiss_of, verdict_by, judged, read_verdict, kept_verdict}
use Rattle.day_verify.specs.Verdicts.{recorded_verdict}
use Rattle.day_verify.specs.Laws.{IsRight, VerifiedLaw, AgreeLaw}

-- a test that leaves nothing amiss was passed
passed : {T : Type 0} (b : Bool) (x : T) (later : Option T) → (if b then later else Some x) ≡ None →
    (b ≡ true) × (later ≡ None)
passed true x later e = (refl, e)
passed false x later e = let bad : ⊥ = cc in absurd bad

-- nothing parts where neither part does
none_both : (a b : Option Parting) → or_later a b ≡ None → (a ≡ None) × (b ≡ None)
none_both None b e = (refl, e)
none_both (Some p) b e = let bad : ⊥ = cc in absurd bad

-- rows of the same day, vehicle, expressway and tolls
row_parts : {a b c d a' b' c' d' : ℕ} → a ≡ a' → b ≡ b' → c ≡ c' → d ≡ d' →
    ◌≡◌ {A = SpentRow} (record { day = a; vid = b; xway = c; tolls = d })
    (record { day = a'; vid = b'; xway = c'; tolls = d' })
row_parts p q r s = cc

-- a row that parts nowhere from another is that
at_none : (k r : SpentRow) → parting_at k r ≡ None → k ≡ r
at_none k r = go (row_cmp k r) refl where
  go : (o : Ordering) → row_cmp k r ≡ o → match_ordering o (Some (kept_alone k))
      (if k.tolls == r.tolls then None else Some (unlike k r)) (Some (right_alone r)) ≡ None → k ≡ r
  go Less h e = let bad : ⊥ = cc in absurd bad
  go Greater h e = let bad : ⊥ = cc in absurd bad
  go Equal h e =
      let by_day = then_parts (nat_cmp k.day r.day) _ h in
      let by_vid = then_parts (nat_cmp k.vid r.vid) _ by_day.1 in
      row_parts (nat_cmp-IsAntisymmetric k.day r.day by_day.0) (nat_cmp-IsAntisymmetric k.vid r.vid by_vid.0)
      (nat_cmp-IsAntisymmetric k.xway r.xway by_vid.1)
      (eqb-true k.tolls r.tolls (passed (k.tolls == r.tolls) (unlike k r) None e).0)

pub agree_law : AgreeLaw
agree_law [] [] e = refl
agree_law [] (r ∷ rs) e = let bad : ⊥ = cc in absurd bad
agree_law (k ∷ ks) [] e = let bad : ⊥ = cc in absurd bad
agree_law (k ∷ ks) (r ∷ rs) e =
    let both = none_both (parting_at k r) (parting ks rs) e in
    let same : k ≡ r = at_none k r both.0 in
    let later : ks ≡ rs = agree_law ks rs both.1 in
    cc

-- equal bytes, equal digests
digest_parts : {a b : List ℕ} → a ≡ b → ◌≡◌ {A = Digest} (record { bytes = a }) (record { bytes = b })
digest_parts p = cc

digest_is : (a b : Digest) → bytes_eq a.bytes b.bytes ≡ true → a ≡ b
digest_is a b e = digest_parts ((bytes_eq-Decides a.bytes b.bytes).0 e)

-- a record of which nothing is amiss
record IsAs (kept : DayRecord) (sums : AnsweredDay) (text : Digest) : Type 0 where
  bytes : kept.bytes ≡ sums.bytes
  tuples : kept.tuples ≡ sums.tuples
  notices : kept.notices ≡ sums.notices
  text_is : kept.notices_digest ≡ text
  total : kept.total ≡ sums.total

none_amiss : (kept : DayRecord) (sums : AnsweredDay) (text : Digest) → amiss_of kept sums text ≡ None →
    IsAs kept sums text
none_amiss kept sums text e =
    let a = passed (kept.bytes == sums.bytes) (Bytes kept.bytes sums.bytes) _ e in
    let b = passed (kept.tuples == sums.tuples) (Tuples kept.tuples sums.tuples) _ a.1 in
    let c = passed (kept.notices == sums.notices) (Notices kept.notices sums.notices) _ b.1 in
    let d = passed (bytes_eq kept.notices_digest.bytes text.bytes) (Text kept.notices_digest text) _ c.1 in
    let t = passed (kept.total == sums.total) (Total kept.total sums.total) None d.1 in
    record {
      bytes = eqb-true _ _ a.0;
      tuples = eqb-true _ _ b.0;
      notices = eqb-true _ _ c.0;
      text_is = digest_is _ _ d.0;
      total = eqb-true _ _ t.0;
    }

-- a verdict by which nothing is amiss
record IsByNone (kept k : DayRecord) (amounts n : ℕ) (p : Option Parting) (a : Option Amiss) : Type 0 where
  parts : p ≡ None
  amiss : a ≡ None
  kept_is : k ≡ kept
  counted : n ≡ amounts

verified_by : (kept k : DayRecord) (amounts n : ℕ) (p : Option Parting) (a : Option Amiss) →
    verdict_by kept amounts p a ≡ Verified k n → IsByNone kept k amounts n p a
verified_by kept k amounts n None None e = record { parts = refl; amiss = refl; kept_is = cc; counted = cc }
verified_by kept k amounts n None (Some a) e = let bad : ⊥ = cc in absurd bad
verified_by kept k amounts n (Some p) a e = let bad : ⊥ = cc in absurd bad

-- the record that is found for a day is of that day
found_day : (number : ℕ) (days : List DayRecord) (k : DayRecord) →
    find (λ (r : DayRecord). r.day == number) days ≡ Some k → k.day ≡ number
found_day number [] k e = let bad : ⊥ = cc in absurd bad
found_day number (r ∷ rs) k e = go (r.day == number) refl (found_day number rs k)
  where
    go : (b : Bool) → (r.day == number) ≡ b →
        (find (λ (x : DayRecord). x.day == number) rs ≡ Some k → k.day ≡ number) → k.day ≡ number
    go true hit later =
        let same : Some r ≡ Some k = rw hit at e in
        let it : r ≡ k = cc in
        ap (λ (x : DayRecord). x.day) (sym it) ∙ eqb-true r.day number hit
    go false hit later = later (rw hit at e)

-- records of the same eight parts
record_parts : {n b t s m n' b' t' s' m' : ℕ} {d x g d' x' g' : Digest} → n ≡ n' → d ≡ d' → b ≡ b' → t ≡ t' → s ≡ s' →
    x ≡ x' → g ≡ g' → m ≡ m' →
    ◌≡◌ {A = DayRecord}
    (record { day = n; digest = d; bytes = b; tuples = t; notices = s; notices_digest = x; tariffs = g; total = m })
    (record {
      day = n';
      digest = d';
      bytes = b';
      tuples = t';
      notices = s';
      notices_digest = x';
      tariffs = g';
      total = m';
    })
record_parts h1 h2 h3 h4 h5 h6 h7 h8 = cc

module _ (number late : ℕ) (limits : Limits) (bytes : List ℕ) (o : Office) (kept : DayRecord) (amounts : ℕ)
    (k : DayRecord) (is : record_of o number ≡ Some k) where
  abbrev day : List Tuple
  day = (reads bytes limits late).tuples

  abbrev work : Work
  work = work_of number day o

  abbrev rows : List SpentRow
  rows = rows_between o number number

  -- of a day that was judged to be right all is right
  judged_right : (reads bytes limits late).refused ≡ None → bytes_eq (seal_of o.tariffs).bytes k.tariffs.bytes ≡ true →
      bytes_eq (digest_of bytes).bytes k.digest.bytes ≡ true →
      judged k rows (worked_sums work bytes day) (digest_of (out work.told)) (rows_from number work.charged)
      ≡ Verified kept amounts → IsRight number late limits bytes o kept amounts
  judged_right whole sealed digested e =
      let by = verified_by k kept (length rows) amounts (parting rows (rows_from number work.charged))
      (amiss_of k (worked_sums work bytes day) (digest_of (out work.told))) e in
      let right = none_amiss k (worked_sums work bytes day) (digest_of (out work.told)) by.amiss in
      let own : k ≡ kept_record number bytes day o =
      record_parts (found_day number o.days k is) (sym (digest_is (digest_of bytes) k.digest digested)) right.bytes right.tuples
      right.notices right.text_is (sym (digest_is (seal_of o.tariffs) k.tariffs sealed)) right.total in
      record {
        whole = whole;
        kept_is = is ∙ ap Some (sym by.kept_is);
        record_is = by.kept_is ∙ own;
        rows_are = agree_law rows (rows_from number work.charged) by.parts;
        counted = by.counted;
      }

  whole_right : (reads bytes limits late).refused ≡ None → bytes_eq (seal_of o.tariffs).bytes k.tariffs.bytes ≡ true →
      (b : Bool) → bytes_eq (digest_of bytes).bytes k.digest.bytes ≡ b →
      (if b then judged k rows (worked_sums work bytes day) (digest_of (out work.told)) (rows_from number work.charged)
      else Differs k.digest (digest_of bytes)) ≡ Verified kept amounts → IsRight number late limits bytes o kept amounts
  whole_right whole sealed true digested e = judged_right whole sealed digested e
  whole_right whole sealed false digested e = let bad : ⊥ = cc in absurd bad

  read_right : bytes_eq (seal_of o.tariffs).bytes k.tariffs.bytes ≡ true → (refused : Option (ℕ × Fault)) →
      (reads bytes limits late).refused ≡ refused → read_verdict k work number bytes day refused o ≡ Verified kept amounts
      → IsRight number late limits bytes o kept amounts
  read_right sealed (Some (line, fault)) there e = let bad : ⊥ = cc in absurd bad
  read_right sealed None there e =
      whole_right there sealed (bytes_eq (digest_of bytes).bytes k.digest.bytes) refl e

  sealed_right : (b : Bool) → bytes_eq (seal_of o.tariffs).bytes k.tariffs.bytes ≡ b →
      (if b then kept_verdict k number late limits bytes o else OtherTariffs k.tariffs (seal_of o.tariffs))
      ≡ Verified kept amounts → IsRight number late limits bytes o kept amounts
  sealed_right true sealed e = read_right sealed (reads bytes limits late).refused refl e
  sealed_right false sealed e = let bad : ⊥ = cc in absurd bad

recorded_right : (number late : ℕ) (limits : Limits) (bytes : List ℕ) (o : Office) (kept : DayRecord) (amounts : ℕ)
    (r : Option DayRecord) → record_of o number ≡ r →
    recorded_verdict r number late limits bytes o ≡ Verified kept amounts →
    IsRight number late limits bytes o kept amounts
recorded_right number late limits bytes o kept amounts None is e = let bad : ⊥ = cc in absurd bad
recorded_right number late limits bytes o kept amounts (Some k) is e =
    sealed_right number late limits bytes o kept amounts k is (bytes_eq (seal_of o.tariffs).bytes k.tariffs.bytes) refl e

pub verified_law : VerifiedLaw
verified_law number late limits bytes o kept amounts e =
    recorded_right number late limits bytes o kept amounts (record_of o number) refl e
