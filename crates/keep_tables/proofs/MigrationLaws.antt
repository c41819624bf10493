-- What makes six tables of none, or of the three of version 1.
use Rattle.std.proofs.Common.{◌≡◌, ℕ, pos, ◌&&◌, true, filter, List, [], ◌∷◌, map, slice_get, Some, None, Ok, Option}
use Rattle.std.proofs.Common.{refl, sym, ap, subst, ◌∙◌, IsPermutation}
use Rattle.std.proofs.lemmas.List.Sorted.{IsPermutation-refl}
use Rattle.sqlite_value.specs.declared.value.Value.TheVariants.{Int}
use Rattle.sqlite_value.specs.Order.{Row}
use Rattle.sqlite_trees.specs.Tree.{Trees, put_row}
use Rattle.sqlite_schema.specs.declared.schema.Table.{Table}
use Rattle.sqlite_catalog.specs.Change.{created, KeepsRows}
use Rattle.sqlite_rules.specs.declared.error.Rowids.TheVariants.{Chosen}
use Rattle.sqlite_rules.specs.Edit.{edit_of, edited}
use Rattle.sqlite_keyed.proofs.ListLemmas.{map-map, all-slice_get, filter_all}
use Rattle.sqlite.specs.Effect.{Database}
use Rattle.sqlite.specs.Rows.{Written}
use Rattle.sqlite.specs.Does.{Does, Tally}
use Rattle.sqlite.specs.State.{State, Executes, mode_of, Shown}
use Rattle.sqlite.specs.Listing.{understood}
use Rattle.sqlite.proofs.Callers.{runs_as, reads_as, one_step, statement_of, one_permutation}
use Rattle.road_time.specs.declared.day.SpentRow.{SpentRow}
use Rattle.keep_office.specs.declared.kept.OldRecord.{OldRecord}
use Rattle.keep_office.specs.declared.kept.PastRecord.{PastRecord}
use Rattle.keep_office.specs.Office.{Office, nothing_kept}
use Rattle.keep_office.specs.Kept.{sealed, seal_of, old_office}
use Rattle.keep_office.proofs.SoundLaws.{nothing_sound, no_tariffs}
use Rattle.keep_tables.specs.Layout.{days_table, spent_table, past_table, day_tariffs_table, tariffs_table, form_table}
use Rattle.keep_tables.specs.Layout.{no_tables, old_tables, all_tables}
use Rattle.keep_tables.specs.Texts.{make_days, make_spent, make_past, make_day_tariffs, make_tariffs, make_form}
use Rattle.keep_tables.specs.Texts.{put_version, find_version}
use Rattle.keep_tables.specs.Select.{version_compiled, version_query, passes}
use Rattle.keep_tables.specs.Codec.{day_row, version_row}
use Rattle.keep_tables.specs.Stands.{Contents, HoldsOld, HasOld, Holds, HoldsAs, HasOffice, Changes, AreAmountRows}
use Rattle.keep_tables.specs.Stands.{unsealed, contents_of}
use Rattle.keep_tables.proofs.TextLaws.{old_made, all_made}
use Rattle.keep_tables.proofs.CreateLaws.{makes, days_in, spent_in, past_in, day_tariffs_in, tariffs_in, form_in}
use Rattle.keep_tables.proofs.EditLaws.{went, same_value, cast_int, cast_null, other_version}
use Rattle.keep_tables.proofs.QueryLaws.{put_version_is, put_version_plain, find_version_is, find_version_plain}
use Rattle.keep_tables.proofs.SelectLaws.{table_answer, shown}
use Rattle.keep_tables.proofs.AmountLaws.{same_numbers}

-- a table that was there has the rows that it had
kept_at : (tables : List Table) (a b : Trees) (i : ℕ) (t : Table) → slice_get tables i ≡ Some t → KeepsRows tables a b →
    b t.tree ≡ a t.tree
kept_at tables a b i t at keeps = all-slice_get (λ (u : Table). b u.tree ≡ a u.tree) tables i t at keeps

-- no rows keep no amounts
none_kept : (rows : List Row) → rows ≡ [] → AreAmountRows [] rows
none_kept rows empty = subst (AreAmountRows []) (sym empty) (IsPermutation-refl [])

-- of no tables, the three of version 1
pub first_made : (s0 s1 s2 s3 : State) (n1 n2 n3 : ℕ) → s0.now.schema ≡ no_tables → Executes make_days [] s0 s1 (Ok n1)
    → Executes make_spent [] s1 s2 (Ok n2) → Executes make_past [] s2 s3 (Ok n3)
    → HoldsOld s3.now [] [] None
first_made s0 s1 s2 s3 n1 n2 n3 none r1 r2 r3 =
    let one = created no_tables days_table in
    let two = created one spent_table in
    let m1 = makes no_tables make_days days_table s0 s1 n1 days_in none r1 in
    let m2 = makes one make_spent (record spent_table { tree = 0 }) s1 s2 n2 spent_in m1.0 r2 in
    let m3 = makes two make_past (record past_table { tree = 0 }) s2 s3 n3 past_in m2.0 r3 in
    let at_days = kept_at two.tables s2.now.trees s3.now.trees 0 days_table refl m3.2
    ∙ (kept_at one.tables s1.now.trees s2.now.trees 0 days_table refl m2.2 ∙ m1.1) in
    let at_spent = kept_at two.tables s2.now.trees s3.now.trees 1 spent_table refl m3.2 ∙ m2.1 in
    record {
      schema = m3.0 ∙ old_made;
      days_are = at_days;
      rows_are = none_kept (s3.now.trees 1) at_spent;
      past_is =
          m3.1;
    }

-- of those, all six, with no version yet
pub second_made : (s0 s1 s2 s3 : State) (n1 n2 n3 : ℕ) (records : List OldRecord) (rows : List SpentRow)
    (history : Option PastRecord) → HoldsOld s0.now records rows history
    → Executes make_day_tariffs [] s0 s1 (Ok n1) → Executes make_tariffs [] s1 s2 (Ok n2) →
    Executes make_form [] s2 s3 (Ok n3) → HoldsAs [] s3.now (unsealed records rows history)
second_made s0 s1 s2 s3 n1 n2 n3 records rows history has r1 r2 r3 =
    let one = created old_tables day_tariffs_table in
    let two = created one tariffs_table in
    let m1 = makes old_tables make_day_tariffs (record day_tariffs_table { tree = 0 }) s0 s1 n1 day_tariffs_in
    has.schema
    r1 in
    let m2 = makes one make_tariffs (record tariffs_table { tree = 0 }) s1 s2 n2 tariffs_in m1.0 r2 in
    let m3 = makes two make_form (record form_table { tree = 0 }) s2 s3 n3 form_in m2.0 r3 in
    let kept = λ (i : ℕ) (t : Table) (at3 : slice_get two.tables i ≡ Some t) (at2 : slice_get one.tables i ≡ Some t)
    (at1 : slice_get old_tables.tables i ≡ Some t).
    let e : s3.now.trees t.tree ≡ s0.now.trees t.tree =
    kept_at two.tables s2.now.trees s3.now.trees i t at3 m3.2
    ∙ (kept_at one.tables s1.now.trees s2.now.trees i t at2 m2.2
    ∙ kept_at old_tables.tables s0.now.trees s1.now.trees i t at1 m1.2) in e in
    let seals = kept_at two.tables s2.now.trees s3.now.trees 3 day_tariffs_table refl m3.2
    ∙ (kept_at one.tables s1.now.trees s2.now.trees 3 day_tariffs_table refl m2.2 ∙ m1.1) in
    record {
      schema = m3.0 ∙ all_made;
      days_are = kept 0 days_table refl refl refl ∙ has.days_are ∙ sym (map-map day_row (sealed (seal_of [])) records);
      rows_are = subst (AreAmountRows rows) (sym (kept 1 spent_table refl refl refl)) has.rows_are;
      past_is = kept 2 past_table refl refl refl ∙ has.past_is;
      seals_are = seals;
      tariffs_are = kept_at two.tables s2.now.trees s3.now.trees 4 tariffs_table refl m3.2 ∙ m2.1;
      version = m3.1;
    }

-- the edit that the version is
version_edit : (old new : State) (count : ℕ) → old.now.schema ≡ all_tables → Executes put_version [] old new (Ok count)
    → Changes 6 (put_row version_row (old.now.trees 6)) old.now new.now
version_edit old new count schema ran =
    let db = old.now.trees in
    let w = runs_as put_version [] old new all_tables schema version_compiled put_version_is put_version_plain count
    ran in
    let text = statement_of put_version (understood all_tables put_version) in
    let done =
    went (subst
    (λ s. Does old.step_limit (mode_of old) [] (record old.now { schema = s }) text None version_compiled
    (Ok (w.tally, new.now))) schema w.changed) in
    let now = ap (λ (p : Tally × Database). p.1) (same_value (went (went done.2).2).2) in
    let given = went done.1 in
    let written = went (went given.2).2 in
    let counted = went written.2 in
    let trees : done.0.trees ≡ written.0 = ap (λ (it : Written). it.trees) (same_value counted.2)
    ∙ same_value counted.1 in
    let step = one_step all_tables _ db written.0 (edit_of db form_table [] Chosen 0 given.0) refl written.1 in
    let edit : edited db (edit_of db form_table [] Chosen 0 given.0) ≡ put_row version_row (db 6) =
    ap (λ all. edited db (edit_of db form_table [] Chosen 0 all)) given.1.1
    ∙ rw (cast_int 1, cast_null, cast_int 2) refl in
    let at = λ (n : ℕ). let e : new.now.trees n ≡ written.0 n = ap (λ (d : Database). d.trees n) now
    ∙ ap (λ (all : Trees). all n) trees in e in
    record {
      schema = ap (λ (d : Database). d.schema) now;
      rows = at 6 ∙ step.rows ∙ edit;
      others =
          λ n other apart. at n ∙ step.others n other (apart, tt);
    }

-- with the version they are the tables of version 2
pub version_puts : (old new : State) (c : Contents) (count : ℕ) → HoldsAs [] old.now c →
    Executes put_version [] old new (Ok count) → Holds new.now c
version_puts old new c count has ran =
    let e = version_edit old new count has.schema ran in
    other_version [] (version_row ∷ []) old.now new.now c has
    (record { schema = e.schema; rows = e.rows ∙ ap (put_row version_row) has.version; others = e.others })

-- six tables that hold what three held stand for the same office
pub old_stands : (old new : Database) (o : Office) → HasOld old o →
    ((records : List OldRecord) (rows : List SpentRow) (history : Option PastRecord) → HoldsOld old records rows history
    → Holds new (contents_of (old_office records rows history)))
    → HasOffice new o
old_stands old new o has grown = record {
  tables = subst (λ (p : Office). Holds new (contents_of p)) (sym has.office)
      (grown has.records has.rows has.history has.tables);
  fits = has.fits;
  sound = has.sound;
}

-- six tables that hold nothing stand for an office that keeps nothing
pub nothing_stands : (db : Database) → Holds db (contents_of nothing_kept) → HasOffice db nothing_kept
nothing_stands db tables =
    record {
      tables = tables;
      fits = record { days = tt; rows = tt; past = tt; tariffs = tt };
      sound =
          nothing_sound [] no_tariffs;
    }

-- the version is shown
pub version_shown : (c : Contents) (old new : State) (found : List Row) → Holds old.now c →
    Shown find_version [] old new found → found ≡ (Int (pos 2) ∷ []) ∷ []
version_shown c old new found has shown_so =
    let read =
    reads_as find_version [] old new all_tables has.schema _ find_version_is find_version_plain.0
    find_version_plain.1 found shown_so in
    let answer =
    subst (λ l. IsPermutation (map (shown version_query.project []) (filter (passes version_query.filter []) l))
    found) has.version (table_answer 6 version_query.filter version_query.project [] _ [] found read.answer) in
    let seen = ap (λ b. b && true) (same_numbers 1 1) in
    let all : filter (passes version_query.filter []) (version_row ∷ []) ≡ version_row ∷ [] =
    filter_all (passes version_query.filter []) (version_row ∷ []) (seen, tt) in
    one_permutation (Int (pos 2) ∷ []) found
    (subst (λ l. IsPermutation (map (shown version_query.project []) l) found) all answer)
