-- Of a sound office the amounts of each kept day add up.
use Rattle.std.proofs.Common.{◌≡◌, ℕ, ◌==◌, ◌&&◌, nat_le, true, false, List, [], ◌∷◌, find, cond, Option, Some, refl, sym, ap}
use Rattle.std.proofs.Common.{◌∙◌, subst, arith, ◌≤◌, ◌<◌, ⊎_elim}
use Rattle.std.specs.Prelude.{Result, Ok, Err, OnOk}
use Rattle.std.specs.Io.KnownBytes.{Appends}
use Rattle.std.specs.List.{AllByRecursion, filter}
use Rattle.std.proofs.lemmas.Bool.{cases_lt, cases_Bool, cond-true, cond-false, eqb-true, eqb-false, and_from, and_left, and_right, le-leb, lt-leb}
use Rattle.road_time.proofs.EachLaws.{some_is, no_some}
use Rattle.road_time.specs.declared.day.SpentRow.{SpentRow}
use Rattle.keep_office.specs.declared.kept.DayRecord.{DayRecord}
use Rattle.keep_office.specs.Office.{Office, IsSound, record_of, rows_on, rows_between, sum_of_rows}
use Rattle.office_reports.specs.declared.report_fault.ReportFault.{ReportFault}
use Rattle.office_reports.specs.Endings.{WroteText, AddsUp}

-- a day alone is between itself and itself
one_day : (day d : ℕ) → (nat_le day d && nat_le d day) ≡ (d == day)
one_day day d =
    ⊎_elim
    (λ (is : (d == day) ≡ true).
    let same : d ≡ day = eqb-true d day is in
    and_from _ _ (le-leb day d (omega (arith, same))) (le-leb d day (omega (arith, same))) ∙ sym is)
    (λ (other : (d == day) ≡ false). apart d day other ∙ sym other)
    (cases_Bool (d == day))
  where
    apart : (d day : ℕ) → (d == day) ≡ false → (nat_le day d && nat_le d day) ≡ false
    apart d day other =
        ⊎_elim (λ (low : d < day). and_left _ _ (lt-leb day d low))
        (λ (least : day ≤ d).
        ⊎_elim (λ (high : day < d). and_right _ _ (lt-leb d day high))
        (λ (most : d ≤ day). absurd (eqb-false d day other (omega (arith, least, most)))) (cases_lt day d))
        (cases_lt d day)

-- the amounts of one day, found either way
alike : (day : ℕ) (rows : List SpentRow) → filter (λ r. nat_le day r.day && nat_le r.day day) rows ≡ rows_on day rows
alike day [] = refl
alike day (r ∷ rows) =
    ap (λ b. cond b (r ∷ filter (λ x. nat_le day x.day && nat_le x.day day) rows)
    (filter (λ x. nat_le day x.day && nat_le x.day day) rows)) (one_day day r.day)
    ∙ ap (λ rest. cond (r.day == day) (r ∷ rest) rest) (alike day rows)

-- what holds of all records holds of the one that is found, which is of its day
found : (P : DayRecord → Type 0) (day : ℕ) (days : List DayRecord) (r : DayRecord) → AllByRecursion P days →
    find (λ x. x.day == day) days ≡ Some r → P r × (r.day ≡ day)
found P day [] r all is = absurd (no_some r is)
found P day (x ∷ days) r all is =
    ⊎_elim
    (λ (own : (x.day == day) ≡ true).
    let same : x ≡ r = some_is x r (sym (cond-true _ _ _ own) ∙ is) in
    (subst P same all.0, ap (λ y. y.day) (sym same) ∙ eqb-true x.day day own))
    (λ (other : (x.day == day) ≡ false). found P day days r all.1 (sym (cond-false _ _ _ other) ∙ is))
    (cases_Bool (x.day == day))

-- the amounts of a kept day come to the total of its record
pub kept_adds : (o : Office) (day : ℕ) (r : DayRecord) → IsSound o → record_of o day ≡ Some r →
    sum_of_rows (rows_between o day day) ≡ r.total
kept_adds o day r sound is =
    let (sum, own) = found (λ x. sum_of_rows (rows_on x.day o.rows) ≡ x.total) day o.days r sound.sums is in
    ap sum_of_rows (alike day o.rows) ∙ ap (λ d. sum_of_rows (rows_on d o.rows)) (sym own) ∙ sum

-- what was written whole of a record and of amounts that come to its total
pub adds : (done : Result (Unit {0}) ReportFault) (old new : Option (List ℕ)) (text : DayRecord → List SpentRow → List ℕ)
    (written : List ℕ) (r : DayRecord) (rows : List SpentRow) → WroteText done old new written → written ≡ text r rows →
    sum_of_rows rows ≡ r.total → OnOk done (AddsUp text old new)
adds (Ok u) old new text written r rows wrote is sum = (r, rows, sum, subst (Appends old new) is wrote)
adds (Err e) old new text written r rows wrote is sum = tt
