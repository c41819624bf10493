-- What the statements on tariffs make of a database that stands for an office.
use Rattle.std.proofs.Common.{◌≡◌, ℕ, pos, ◌==◌, ◌<◌, ◌^◌, not, ◌&&◌, true, false, List, [], ◌∷◌, map, filter, None, Ok}
use Rattle.std.proofs.Common.{Result, refl, sym, ap, subst, ◌∙◌, arith, IsPermutation}
use Rattle.std.specs.List.{AllByRecursion}
use Rattle.std.specs.Ordering.{nat_cmp, match_ordering}
use Rattle.std.specs.declared.cmp.Ordering.{Ordering}
use Rattle.std.specs.declared.cmp.Ordering.TheVariants.{Less, Equal, Greater}
use Rattle.std.specs.BTreeMap.{insert_entry}
use Rattle.sqlite_value.specs.declared.value.Value.TheVariants.{Int}
use Rattle.sqlite_value.specs.Order.{Row}
use Rattle.sqlite_trees.specs.Tree.{Trees, put_row}
use Rattle.sqlite_rules.specs.declared.error.Rowids.TheVariants.{Chosen, Given}
use Rattle.sqlite_rules.specs.Edit.{edit_of, edited, without_all}
use Rattle.sqlite_rules.specs.Calls.{ids_of}
use Rattle.sqlite.specs.Effect.{Database, Answers}
use Rattle.sqlite.specs.Rows.{Written}
use Rattle.sqlite.specs.Does.{Does, Tally}
use Rattle.sqlite.specs.State.{State, Executes, mode_of}
use Rattle.sqlite.specs.Listing.{understood}
use Rattle.sqlite.proofs.Callers.{runs_as, one_step, statement_of}
use Rattle.road_time.specs.declared.tariff.Tariff.{Tariff}
use Rattle.road_time.specs.Rates.{Tariffs, IsTariff, benchmark, same_tariff}
use Rattle.road_time.specs.Tariffs.{IsTariffs, with_tariff}
use Rattle.keep_office.specs.Office.{Office}
use Rattle.keep_office.specs.Kept.{with_tariff_of}
use Rattle.keep_office.proofs.SoundLaws.{tariff_sound}
use Rattle.keep_office.proofs.TariffLaws.{tariffs_set}
use Rattle.keep_tables.specs.Layout.{all_tables, tariffs_table}
use Rattle.keep_tables.specs.Texts.{drop_tariff, put_tariff}
use Rattle.keep_tables.specs.Select.{tariff_ids, drop_compiled, put_compiled, passes}
use Rattle.keep_tables.specs.Codec.{tariff_row}
use Rattle.keep_tables.specs.Stands.{HasOffice, LacksTariff, contents_of}
use Rattle.keep_tables.proofs.EditLaws.{went, same_value, cast_int, cast_null, other_tariffs}
use Rattle.keep_tables.proofs.QueryLaws.{drop_tariff_is, drop_tariff_plain, put_tariff_is, put_tariff_plain}
use Rattle.keep_tables.proofs.SelectLaws.{table_answer, shown}
use Rattle.keep_tables.proofs.TariffLists.{others, taken_is, lookup_others, set_others, row_taken, row_put, no_hits}
use Rattle.keep_tables.proofs.TariffLists.{others_twice, hits_are}
use Rattle.keep_tables.proofs.AmountLaws.{same_numbers, last_true, none_left}
use Rattle.sqlite_keyed.proofs.ListLemmas.{map-map, filter-map, filter_same, all-filter}
use Rattle.std.proofs.lemmas.List.Sorted.{All-permutation, IsPermutation-sym}
use Rattle.std.proofs.lemmas.List.Elements.{recursion_from_All, All-from_recursion}

-- with other tariffs, where all else is as it was
retariffed : (db next : Database) (o : Office) (ts : Tariffs) → HasOffice db o → next.schema ≡ all_tables →
    next.trees 5 ≡ map tariff_row ts
    → ((t : ℕ) → (t ≡ 5 → ⊥) → (2 ≡ t → ⊥) → next.trees t ≡ db.trees t) → IsTariffs ts →
    AllByRecursion (λ e. e.0 < 2 ^ 8) ts
    → HasOffice next (record { days = o.days; rows = o.rows; past = o.past; tariffs = ts })
retariffed db next o ts has schema rows others are fit = record {
  tables = other_tariffs _ db next (contents_of o) ts has.tables
      (record { schema = schema; rows = rows; others = others });
  fits = record { days = has.fits.days; rows = has.fits.rows; past = has.fits.past; tariffs = fit };
  sound = tariff_sound o.days o.rows o.past o.tariffs ts has.sound are;
}

-- the edit that a DELETE makes, and what else it leaves
drop_edit : (old new : State) (xway count : ℕ) → old.now.schema ≡ all_tables →
    Executes drop_tariff (Int (pos xway) ∷ []) old new (Ok count)
    → (rows : List Row) × Answers (record { schema = all_tables; trees = old.now.trees })
    (record { lets = []; body = tariff_ids }) (Int (pos xway) ∷ []) rows
    × (new.now.schema ≡ all_tables) × (new.now.trees 5 ≡ without_all (old.now.trees 5) (ids_of rows))
    × ((t : ℕ) → (t ≡ 5 → ⊥) → (2 ≡ t → ⊥) → new.now.trees t ≡ old.now.trees t)
drop_edit old new xway count schema ran =
    let params = Int (pos xway) ∷ [] in
    let db = old.now.trees in
    let w = runs_as drop_tariff params old new all_tables schema drop_compiled drop_tariff_is drop_tariff_plain count
    ran in
    let text = statement_of drop_tariff (understood all_tables drop_tariff) in
    let done =
    went (subst
    (λ s. Does old.step_limit (mode_of old) params (record old.now { schema = s }) text None drop_compiled
    (Ok (w.tally, new.now))) schema w.changed) in
    let now = ap (λ (p : Tally × Database). p.1) (same_value (went (went done.2).2).2) in
    let given = went done.1 in
    let written = went given.2 in
    let trees : done.0.trees ≡ written.0 = ap (λ (it : Written). it.trees) (same_value written.2) in
    let edit = edit_of db tariffs_table (ids_of given.0) Given 0 [] in
    let step = one_step all_tables _ db written.0 edit refl written.1 in
    let at = λ (t : ℕ). let e : new.now.trees t ≡ written.0 t = ap (λ (d : Database). d.trees t) now
    ∙ ap (λ (all : Trees). all t) trees in e in (
      given.0,
      given.1,
      ap (λ (d : Database). d.schema) now,
      at 5 ∙ step.rows,
      λ t other apart. at t
          ∙ step.others t other (apart, tt),
    )

-- the rows found are those with the key
found_hits : (xway : ℕ) (ts : Tariffs) (rows : List Row)
    → IsPermutation
    (map (shown tariff_ids.project (Int (pos xway) ∷ []))
    (filter (passes tariff_ids.filter (Int (pos xway) ∷ [])) (map tariff_row ts))) rows
    → IsPermutation (map (λ (e : ℕ × Tariff). Int (pos e.0) ∷ []) (filter (λ e. e.0 == xway) ts)) rows
found_hits xway ts rows answer =
    let params = Int (pos xway) ∷ [] in
    let seen : (e : ℕ × Tariff) → passes tariff_ids.filter params (tariff_row e) ≡ (e.0 == xway) =
    λ e. ap (λ b. b && true) (same_numbers e.0 xway) ∙ last_true (e.0 == xway) in
    let picked = filter-map (passes tariff_ids.filter params) tariff_row ts
    ∙ ap (map tariff_row) (filter_same _ _ seen ts) in
    subst (λ l. IsPermutation l rows)
    (ap (map (shown tariff_ids.project params)) picked
    ∙ map-map (shown tariff_ids.project params) tariff_row (filter (λ e. e.0 == xway) ts)) answer

-- rows that are gone stay gone
dropped_again : (xway : ℕ) (ts : Tariffs) (rows : List Row) → AllByRecursion (λ (r : Row). r ≡ Int (pos xway) ∷ []) rows
    → without_all (map tariff_row (others xway ts)) (ids_of rows) ≡ map tariff_row (others xway ts)
dropped_again xway ts [] all = refl
dropped_again xway ts (r ∷ rows) all =
    rw (all.0, row_taken xway (others xway ts), others_twice xway ts) (dropped_again xway ts rows all.1)

-- the rows with the key are dropped
rows_dropped : (xway : ℕ) (ts : Tariffs) (rows : List Row) →
    IsPermutation (map (λ (e : ℕ × Tariff). Int (pos e.0) ∷ []) (filter (λ e. e.0 == xway) ts)) rows
    → without_all (map tariff_row ts) (ids_of rows) ≡ map tariff_row (others xway ts)
rows_dropped xway ts [] found =
    ap (map tariff_row)
    (sym (no_hits xway ts (unmapped (filter (λ e. e.0 == xway) ts) (none_left _ (IsPermutation-sym _ _ found)))))
  where
    unmapped : (es : Tariffs) → map (λ (e : ℕ × Tariff). let r : Row = Int (pos e.0) ∷ [] in r) es ≡ [] → es ≡ []
    unmapped [] none = refl
    unmapped (e ∷ es) none = absurd (cc)
rows_dropped xway ts (r ∷ rows) found =
    let all =
    recursion_from_All (λ (s : Row). s ≡ Int (pos xway) ∷ []) (r ∷ rows)
    (All-permutation (λ (s : Row). s ≡ Int (pos xway) ∷ []) _ (r ∷ rows) found
    (All-from_recursion (λ (s : Row). s ≡ Int (pos xway) ∷ []) _ (hits_are xway ts))) in
    rw (all.0, row_taken xway ts) (dropped_again xway ts rows all.1)

-- the others fit their field
kept_low : (xway : ℕ) (ts : Tariffs) → AllByRecursion (λ e. e.0 < 2 ^ 8) ts →
    AllByRecursion (λ e. e.0 < 2 ^ 8) (others xway ts)
kept_low xway ts low = all-filter (λ e. e.0 < 2 ^ 8) (λ e. not (e.0 == xway)) ts low

-- without one they are tariffs still
benchmark_taken : (xway : ℕ) (ts : Tariffs) → IsTariffs ts → IsTariffs (with_tariff ts xway benchmark)
benchmark_taken xway ts are =
    tariffs_set (let r : Result (Unit {0}) (Unit {0}) = Ok tt in r) ts (with_tariff ts xway benchmark) xway benchmark
    refl tt are (omega arith, omega arith, omega arith)

-- a DELETE takes the tariff of an expressway away
pub drop_writes : (old new : State) (xway count : ℕ) (o : Office) → HasOffice old.now o →
    Executes drop_tariff (Int (pos xway) ∷ []) old new (Ok count) → HasOffice new.now (with_tariff_of xway benchmark o)
drop_writes old new xway count o has ran =
    let e = drop_edit old new xway count has.tables.schema ran in
    let params = Int (pos xway) ∷ [] in
    let answer = table_answer 5 tariff_ids.filter tariff_ids.project [] _ params e.0 e.1.answer in
    let found =
    found_hits xway o.tariffs e.0
    (subst (λ l. IsPermutation (map (shown tariff_ids.project params) (filter (passes tariff_ids.filter params) l))
    e.0) has.tables.tariffs_are answer) in
    let gone = e.3 ∙ ap (λ l. without_all l (ids_of e.0)) has.tables.tariffs_are
    ∙ rows_dropped xway o.tariffs e.0 found in
    let are : IsTariffs (with_tariff o.tariffs xway benchmark) = benchmark_taken xway o.tariffs has.sound.tariffs in
    let same = taken_is xway o.tariffs has.sound.tariffs.in_order in
    retariffed old.now new.now o (with_tariff o.tariffs xway benchmark) has e.2 (gone ∙ ap (map tariff_row) (sym same))
    e.4 are (rw same (kept_low xway o.tariffs has.fits.tariffs))

-- the edit that an INSERT makes, and what else it leaves
put_edit : (old new : State) (xway count : ℕ) (t : Tariff) → old.now.schema ≡ all_tables
    → Executes put_tariff (Int (pos xway) ∷ Int (pos t.crowd) ∷ Int (pos t.speed) ∷ Int (pos t.factor) ∷ []) old new
    (Ok count)
    → (new.now.schema ≡ all_tables) × (new.now.trees 5 ≡ put_row (tariff_row (xway, t)) (old.now.trees 5))
    × ((n : ℕ) → (n ≡ 5 → ⊥) → (2 ≡ n → ⊥) → new.now.trees n ≡ old.now.trees n)
put_edit old new xway count t schema ran =
    let params = Int (pos xway) ∷ Int (pos t.crowd) ∷ Int (pos t.speed) ∷ Int (pos t.factor) ∷ [] in
    let db = old.now.trees in
    let w = runs_as put_tariff params old new all_tables schema put_compiled put_tariff_is put_tariff_plain count ran in
    let text = statement_of put_tariff (understood all_tables put_tariff) in
    let done =
    went (subst
    (λ s. Does old.step_limit (mode_of old) params (record old.now { schema = s }) text None put_compiled
    (Ok (w.tally, new.now))) schema w.changed) in
    let now = ap (λ (p : Tally × Database). p.1) (same_value (went (went done.2).2).2) in
    let given = went done.1 in
    let written = went (went given.2).2 in
    let counted = went written.2 in
    let trees : done.0.trees ≡ written.0 = ap (λ (it : Written). it.trees) (same_value counted.2)
    ∙ same_value counted.1 in
    let step = one_step all_tables _ db written.0 (edit_of db tariffs_table [] Chosen 0 given.0) refl written.1 in
    let edit : edited db (edit_of db tariffs_table [] Chosen 0 given.0) ≡ put_row (tariff_row (xway, t)) (db 5) =
    ap (λ all. edited db (edit_of db tariffs_table [] Chosen 0 all)) given.1.1
    ∙ rw (cast_int xway, cast_null, cast_int t.crowd, cast_int t.speed, cast_int t.factor) refl in
    let at = λ (n : ℕ). let e : new.now.trees n ≡ written.0 n = ap (λ (d : Database). d.trees n) now
    ∙ ap (λ (all : Trees). all n) trees in e in (
      ap (λ (d : Database). d.schema) now,
      at 5 ∙ step.rows ∙ edit,
      λ n other apart. at n
          ∙ step.others n other (apart, tt),
    )

-- a tariff that is put fits its field
put_low : (xway : ℕ) (t : Tariff) (ts : Tariffs) → xway < 2 ^ 8 → AllByRecursion (λ e. e.0 < 2 ^ 8) ts →
    AllByRecursion (λ e. e.0 < 2 ^ 8) (insert_entry nat_cmp ts xway t)
put_low xway t [] low all = (low, tt)
put_low xway t (e ∷ ts) low all = go (nat_cmp xway e.0) (put_low xway t ts low all.1)
  where
    go : (o : Ordering) → AllByRecursion (λ e. e.0 < 2 ^ 8) (insert_entry nat_cmp ts xway t)
        → AllByRecursion (λ e. e.0 < 2 ^ 8)
        (match_ordering o ((xway, t) ∷ e ∷ ts) ((e.0, t) ∷ ts) (e ∷ insert_entry nat_cmp ts xway t))
    go Less more = (low, all)
    go Equal more = (all.0, all.1)
    go Greater more = (all.0, more)

-- an INSERT gives an expressway a tariff
pub put_writes : (old new : State) (xway count : ℕ) (t : Tariff) (o : Office) → xway < 2 ^ 8 → IsTariff t →
    same_tariff t benchmark ≡ false → HasOffice old.now o
    → Executes put_tariff (Int (pos xway) ∷ Int (pos t.crowd) ∷ Int (pos t.speed) ∷ Int (pos t.factor) ∷ []) old new
    (Ok count) → HasOffice new.now (with_tariff_of xway t o)
put_writes old new xway count t o low valid own has ran =
    let e = put_edit old new xway count t has.tables.schema ran in
    let set : with_tariff o.tariffs xway t ≡ insert_entry nat_cmp o.tariffs xway t = rw own refl in
    let rows = e.1 ∙ ap (put_row (tariff_row (xway, t))) has.tables.tariffs_are ∙ row_put xway t o.tariffs
    ∙ ap (map tariff_row) (sym set) in
    let are = tariffs_set (let r : Result (Unit {0}) (Unit {0}) = Ok tt in r) o.tariffs (with_tariff o.tariffs xway t)
    xway t refl tt has.sound.tariffs valid in
    retariffed old.now new.now o (with_tariff o.tariffs xway t) has e.0 rows e.2 are
    (subst (AllByRecursion (λ (x : ℕ × Tariff). x.0 < 2 ^ 8)) (sym set)
    (put_low xway t o.tariffs low has.fits.tariffs))

-- an expressway lacks a tariff after that was taken away
pub lacks_taken : (xway : ℕ) (o : Office) → IsTariffs o.tariffs → LacksTariff xway (with_tariff_of xway benchmark o)
lacks_taken xway o are = rw (taken_is xway o.tariffs are.in_order) (lookup_others xway o.tariffs)

-- taking away and giving is giving
pub set_after_taken : (xway : ℕ) (t : Tariff) (o : Office) → IsTariffs o.tariffs → same_tariff t benchmark ≡ false →
    with_tariff_of xway t (with_tariff_of xway benchmark o) ≡ with_tariff_of xway t o
set_after_taken xway t o are own =
    ap (λ (ts : Tariffs). let p : Office = record { days = o.days; rows = o.rows; past = o.past; tariffs = ts } in p)
    (rw (own, taken_is xway o.tariffs are.in_order) (set_others xway t o.tariffs are.in_order))
