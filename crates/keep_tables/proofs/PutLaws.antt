-- What a whole put makes of an office.
use Rattle.std.proofs.Common.{◌≡◌, ℕ, ◌<◌, ◌≤◌, max, suc, get_or, length, OnOk, List, [], ◌∷◌, ◌++◌, Option, Ok, Err}
use Rattle.std.proofs.Common.{Result, refl, sym, ◌∙◌, arith}
use Rattle.std.specs.List.{AllByRecursion}
use Rattle.std.proofs.lemmas.List.Sums.{sum_by-cons}
use Rattle.sqlite_keyed.proofs.ListLemmas.{all_weaker, all-append}
use Rattle.sqlite.specs.Effect.{Database}
use Rattle.sqlite.specs.State.{State, KeepsCommit, Shows, Survives}
use Rattle.sqlite.proofs.StateLemmas.{survives_then}
use Rattle.road_time.specs.declared.day.SpentRow.{SpentRow}
use Rattle.road_digest.specs.declared.digest.Digest.{Digest}
use Rattle.keep_office.specs.declared.kept.DayRecord.{DayRecord}
use Rattle.keep_office.specs.declared.kept.PastRecord.{PastRecord}
use Rattle.keep_office.specs.Office.{Office, sum_of_rows, greatest_day, last_from}
use Rattle.keep_office.specs.Kept.{IsDayPut, IsPastPut, IsLater, HasNoDays, with_day, with_past}
use Rattle.keep_office.proofs.SoundLaws.{day_sound, past_sound}
use Rattle.keep_tables.specs.Stands.{Contents, Holds, HasOffice, HasTables, FitsDay, FitsSpent, FitsPast, IsWholeDigest}
use Rattle.keep_tables.specs.Stands.{with_rows}
use Rattle.keep_tables.specs.Steps.{AddsAmounts, StaysInside}
use Rattle.keep_tables.proofs.EditLaws.{other_rows}

-- no day is after the greatest
most_of : (before : ℕ) (ds : List DayRecord) → (before ≤ greatest_day before ds)
    × AllByRecursion (λ d. d.day ≤ greatest_day before ds) ds
most_of before [] = (omega arith, tt)
most_of before (d ∷ ds) = let m = most_of (max before d.day) ds in (omega (arith, m.0), (omega (arith, m.0), m.1))

-- all days are before one that is after the last
days_from_last : (ds : List DayRecord) (past : Option PastRecord) (day : ℕ) → last_from ds past < day →
    AllByRecursion (λ d. d.day < day) ds
days_from_last [] past day later = tt
days_from_last (d ∷ ds) past day later =
    let m = most_of d.day ds in (
      omega (arith, m.0, later),
      all_weaker (λ (e : DayRecord). e.day ≤ greatest_day d.day ds)
          (λ (e : DayRecord). e.day < day) (λ e low. omega (arith, low, later)) ds m.1,
    )

-- all kept days are before a later one
pub days_before : (o : Office) (day : ℕ) → IsLater day o → AllByRecursion (λ d. d.day < day) o.days
days_before o day later = days_from_last o.days o.past day later

-- no amount is more than all come to
pub below_sum : (rows : List SpentRow) (bound : ℕ) → sum_of_rows rows < bound →
    AllByRecursion (λ r. r.tolls < bound) rows
below_sum [] bound low = tt
below_sum (r ∷ rows) bound low =
    let all = sum_by-cons (λ (s : SpentRow). s.tolls) r rows in
    (omega (arith, all, low), below_sum rows bound (omega (arith, all, low)))

-- amounts that are added are held
pub adds_holds : (db next : Database) (c : Contents) (more : List SpentRow) → Holds db c → AddsAmounts db next more →
    Holds next (with_rows more c)
adds_holds db next c more has adds =
    other_rows _ db next c (c.rows ++ more) has (adds.schema ∙ sym has.schema) (adds.rows c.rows has.rows_are)
    adds.others

-- tables with a day more hold the office with it
pub day_stands : (before db : Database) (o : Office) (r : DayRecord) (rows : List SpentRow) → HasOffice before o →
    IsDayPut r rows → IsLater r.day o → FitsDay r → AllByRecursion FitsSpent rows
    → HasTables db (with_day r rows o) → HasOffice db (with_day r rows o)
day_stands before db o r rows has put later fits small tables = record {
  tables = tables;
  fits = record {
    days = all-append FitsDay o.days (r ∷ []) has.fits.days (fits, tt);
    rows = all-append FitsSpent o.rows rows has.fits.rows small;
    past = has.fits.past;
    tariffs = has.fits.tariffs;
  };
  sound = day_sound o.days o.rows o.past o.tariffs r rows has.sound put later;
}

-- tables with a history hold the office with it
pub past_stands : (before db : Database) (o : Office) (p : PastRecord) (rows : List SpentRow) → HasOffice before o →
    IsPastPut p rows → HasNoDays o → FitsPast p → AllByRecursion FitsSpent rows
    → HasTables db (with_past p rows o) → HasOffice db (with_past p rows o)
past_stands before db o p rows has put none fits small tables = record {
  tables = tables;
  fits = record {
    days = has.fits.days;
    rows = all-append FitsSpent o.rows rows has.fits.rows small;
    past = fits;
    tariffs = has.fits.tariffs;
  };
  sound = past_sound o.days o.rows o.past o.tariffs p rows has.sound put none.days none.past;
}

-- steps of a transaction, one after another
pub shows_then : (a b c : State) → Shows a b b.now a.committed a.in_transaction →
    Shows b c c.now b.committed b.in_transaction → Shows a c c.now a.committed a.in_transaction
shows_then a b c p q =
    record {
      was_open = p.was_open;
      is_open = q.is_open;
      now_is = refl;
      committed_is = q.committed_is
          ∙ p.committed_is;
      mode = q.mode ∙ p.mode;
    }

-- a step that is refused after others
pub kept_after : (a b c : State) → Shows a b b.now a.committed a.in_transaction → KeepsCommit b c → KeepsCommit a c
kept_after a b c p q = record { was_open = λ _. p.was_open; committed = λ h. q.committed h ∙ p.committed_is }

-- the next step goes on, or is refused and commits nothing
pub stays_then : (a b c : State) (r : Result (Unit {0}) _) → Shows a b b.now a.committed a.in_transaction →
    StaysInside b c r → StaysInside a c r
stays_then a b c (Ok u) p q = shows_then a b c p q
stays_then a b c (Err e) p q = kept_after a b c p q

-- bytes that are 32 and each below 256 are a whole digest
pub whole_by : (d : Digest) → length d.bytes ≡ 32 → ((i : ℕ) → get_or d.bytes i 0 < 256) → IsWholeDigest d
whole_by d long each = (long, each_below d.bytes each)
  where
    each_below : (bs : List ℕ) → ((i : ℕ) → get_or bs i 0 < 256) → AllByRecursion (λ b. b < 256) bs
    each_below [] low = tt
    each_below (b ∷ bs) low = (low 0, each_below bs (λ i. low (suc i)))

-- what follows from two outcomes
pub ok_both : {T E : Type 0} (r : Result T E) (P Q R : Type 0) → OnOk r P → OnOk r Q → (P → Q → R) → OnOk r R
ok_both (Ok x) P Q R p q f = f p q
ok_both (Err e) P Q R p q f = tt

-- two steps that commit nothing
pub survives_both : (a b c : State) → Survives a b (λ _. ⊥) → Survives b c (λ _. ⊥) → Survives a c (λ _. ⊥)
survives_both a b c p q = survives_then a b c (λ _. ⊥) (λ _. ⊥) (λ _. ⊥) (λ _ db none. none) (λ _ db none. none) p q
