-- What the tariff of an expressway makes of the office that trees stand for.
use Rattle.std.proofs.Common.{◌≡◌, ℕ, pos, ◌==◌, ◌<◌, ◌^◌, not, false, [], ◌∷◌, map, Result, Ok, refl, sym, ap, subst}
use Rattle.std.proofs.Common.{◌∙◌, arith}
use Rattle.std.specs.List.{AllByRecursion}
use Rattle.std.specs.Ordering.{nat_cmp, match_ordering}
use Rattle.std.specs.declared.cmp.Ordering.{Ordering}
use Rattle.std.specs.declared.cmp.Ordering.TheVariants.{Less, Equal, Greater}
use Rattle.std.specs.BTreeMap.{insert_entry}
use Rattle.sqlite_trees.specs.Tree.{Trees, put_row, without_rowid}
use Rattle.sqlite_trees.specs.View.{View, SetsTree}
use Rattle.sqlite_keyed.proofs.ListLemmas.{all-filter}
use Rattle.road_time.specs.declared.tariff.Tariff.{Tariff}
use Rattle.road_time.specs.Rates.{Tariffs, IsTariff, benchmark, same_tariff}
use Rattle.road_time.specs.Tariffs.{IsTariffs, with_tariff}
use Rattle.keep_office.specs.Office.{Office}
use Rattle.keep_office.specs.Kept.{with_tariff_of}
use Rattle.keep_office.proofs.SoundLaws.{tariff_sound}
use Rattle.keep_office.proofs.TariffLaws.{tariffs_set}
use Rattle.keep_tables.specs.Codec.{tariff_row, version_row}
use Rattle.keep_tables.specs.Stands.{contents_of}
use Rattle.keep_tables.specs.Steps.{FitsAny}
use Rattle.keep_tables.proofs.EditLaws.{other_tariffs}
use Rattle.keep_tables.proofs.TariffLists.{others, taken_is, row_taken, row_put}
use Rattle.keep_tables.proofs.TariffWriteLaws.{set_after_taken}
use Rattle.keep_puts.specs.Trees.{database_of, StandFor}
use Rattle.keep_puts.specs.Stores.{Makes}
use Rattle.keep_puts.proofs.TreeLaws.{with_same, with_other}
use Rattle.keep_puts.proofs.OfficeLaws.{still_indexed}

-- with other tariffs, where all else is as it was
retariffed : (old new : Trees) (o : Office) (ts : Tariffs) → StandFor old o → new 5 ≡ map tariff_row ts
    → ((t : ℕ) → (t ≡ 5 → ⊥) → new t ≡ old t) → IsTariffs ts → AllByRecursion (λ e. e.0 < 2 ^ 8) ts
    → StandFor new (record { days = o.days; rows = o.rows; past = o.past; tariffs = ts })
retariffed old new o ts stand rows others are fit =
    let has = stand.office in
    record {
      office = record {
        tables = other_tariffs (version_row ∷ []) (database_of old) (database_of new) (contents_of o) ts has.tables
            (record { schema = refl; rows = rows; others = λ t apart other. others t apart });
        fits = record { days = has.fits.days; rows = has.fits.rows; past = has.fits.past; tariffs = fit };
        sound = tariff_sound o.days o.rows o.past o.tariffs ts has.sound are;
      };
      indexed = still_indexed old new (others 1 (λ e. omega (arith, e))) (others 2 (λ e. omega (arith, e)))
          stand.indexed;
    }

-- without one they are tariffs still
benchmark_taken : (xway : ℕ) (ts : Tariffs) → IsTariffs ts → IsTariffs (with_tariff ts xway benchmark)
benchmark_taken xway ts are =
    tariffs_set (let r : Result (Unit {0}) (Unit {0}) = Ok tt in r) ts (with_tariff ts xway benchmark) xway benchmark
    refl tt are (omega arith, omega arith, omega arith)

-- the row of an expressway was taken away
pub tariff_taken : (old new : View) (xway : ℕ) → SetsTree old new 5 (without_rowid (pos xway))
    → Makes FitsAny (with_tariff_of xway benchmark) old.trees new.trees
tariff_taken old new xway sets o stand _ =
    let at = λ (t : ℕ). let e : new.trees t ≡ _ = ap (λ (v : View). v.trees t) sets.is in e in
    let has = stand.office in
    let same = taken_is xway o.tariffs has.sound.tariffs.in_order in
    let rows = at 5 ∙ with_same old.trees 5 _ ∙ ap (without_rowid (pos xway)) has.tables.tariffs_are
    ∙ row_taken xway o.tariffs ∙ ap (map tariff_row) (sym same) in
    retariffed old.trees new.trees o (with_tariff o.tariffs xway benchmark) stand rows
    (λ t apart. at t ∙ with_other old.trees 5 _ t apart) (benchmark_taken xway o.tariffs has.sound.tariffs)
    (rw same (all-filter (λ e. e.0 < 2 ^ 8) (λ e. not (e.0 == xway)) o.tariffs has.fits.tariffs))

-- a tariff that is put fits its field
put_low : (xway : ℕ) (t : Tariff) (ts : Tariffs) → xway < 2 ^ 8 → AllByRecursion (λ e. e.0 < 2 ^ 8) ts →
    AllByRecursion (λ e. e.0 < 2 ^ 8) (insert_entry nat_cmp ts xway t)
put_low xway t [] low all = (low, tt)
put_low xway t (e ∷ ts) low all = go (nat_cmp xway e.0) (put_low xway t ts low all.1)
  where
    go : (o : Ordering) → AllByRecursion (λ e. e.0 < 2 ^ 8) (insert_entry nat_cmp ts xway t)
        → AllByRecursion (λ e. e.0 < 2 ^ 8)
        (match_ordering o ((xway, t) ∷ e ∷ ts) ((e.0, t) ∷ ts) (e ∷ insert_entry nat_cmp ts xway t))
    go Less more = (low, all)
    go Equal more = (all.0, all.1)
    go Greater more = (all.0, more)

-- the row of a tariff was put
pub tariff_given : (old new : View) (xway : ℕ) (t : Tariff) → xway < 2 ^ 8 → IsTariff t
    → same_tariff t benchmark ≡ false → SetsTree old new 5 (put_row (tariff_row (xway, t)))
    → Makes FitsAny (with_tariff_of xway t) old.trees new.trees
tariff_given old new xway t low valid own sets o stand _ =
    let at = λ (n : ℕ). let e : new.trees n ≡ _ = ap (λ (v : View). v.trees n) sets.is in e in
    let has = stand.office in
    let set : with_tariff o.tariffs xway t ≡ insert_entry nat_cmp o.tariffs xway t = rw own refl in
    let rows = at 5 ∙ with_same old.trees 5 _ ∙ ap (put_row (tariff_row (xway, t))) has.tables.tariffs_are
    ∙ row_put xway t o.tariffs ∙ ap (map tariff_row) (sym set) in
    let are = tariffs_set (let r : Result (Unit {0}) (Unit {0}) = Ok tt in r) o.tariffs (with_tariff o.tariffs xway t)
    xway t refl tt has.sound.tariffs valid in
    retariffed old.trees new.trees o (with_tariff o.tariffs xway t) stand rows
    (λ n apart. at n ∙ with_other old.trees 5 _ n apart) are
    (subst (AllByRecursion (λ (x : ℕ × Tariff). x.0 < 2 ^ 8)) (sym set)
    (put_low xway t o.tariffs low has.fits.tariffs))

-- it was taken away, and put
pub tariff_written : (old mid new : Trees) (xway : ℕ) (t : Tariff) → same_tariff t benchmark ≡ false
    → Makes FitsAny (with_tariff_of xway benchmark) old mid → Makes FitsAny (with_tariff_of xway t) mid new
    → Makes FitsAny (with_tariff_of xway t) old new
tariff_written old mid new xway t own took gave o stand fit =
    subst (StandFor new) (set_after_taken xway t o stand.office.sound.tariffs own)
    (gave (with_tariff_of xway benchmark o) (took o stand fit) fit)
