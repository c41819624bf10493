-- What the statements that put days, seals and histories make of what the tables hold.
use Rattle.std.proofs.Common.{◌≡◌, ℕ, pos, ◌<◌, List, [], ◌∷◌, ◌++◌, map, Some, None, Ok, refl, ap, subst, ◌∙◌, arith}
use Rattle.std.specs.List.{AllByRecursion}
use Rattle.std.specs.Ordering.{int_cmp}
use Rattle.std.specs.declared.cmp.Ordering.TheVariants.{Less}
use Rattle.std.proofs.lemmas.Bool.Decides.{nat_tests}
use Rattle.sqlite_value.specs.declared.value.Value.TheVariants.{Int}
use Rattle.sqlite_value.specs.Order.{Row}
use Rattle.sqlite_value.proofs.OrderLemmas.{value_cmp-Int}
use Rattle.sqlite_trees.specs.Tree.{Trees, rowid, put_row}
use Rattle.sqlite_rules.specs.declared.error.Rowids.TheVariants.{Chosen}
use Rattle.sqlite_rules.specs.Edit.{edit_of, edited}
use Rattle.sqlite.specs.Effect.{Database}
use Rattle.sqlite.specs.Rows.{Written}
use Rattle.sqlite.specs.Does.{Does, Tally}
use Rattle.sqlite.specs.State.{State, Executes, mode_of}
use Rattle.sqlite.specs.Listing.{understood}
use Rattle.sqlite.proofs.Callers.{runs_as, one_step, statement_of}
use Rattle.keep_office.specs.declared.kept.DayRecord.{DayRecord}
use Rattle.keep_office.specs.declared.kept.PastRecord.{PastRecord}
use Rattle.keep_tables.specs.Layout.{all_tables, days_table, day_tariffs_table, past_table}
use Rattle.keep_tables.specs.Texts.{put_day, put_seal, put_past}
use Rattle.keep_tables.specs.Select.{day_compiled, seal_compiled, past_compiled}
use Rattle.keep_tables.specs.Codec.{day_row, seal_row, past_row, day_values, seal_values, past_values}
use Rattle.keep_tables.specs.Stands.{Contents, Holds, HoldsAs, Changes, with_record, with_seal, with_history}
use Rattle.keep_tables.proofs.EditLaws.{went, same_value, cast_int, cast_null, other_days, other_seals, other_past}
use Rattle.keep_tables.proofs.QueryLaws.{put_day_is, put_day_plain, put_seal_is, put_seal_plain, put_past_is}
use Rattle.keep_tables.proofs.QueryLaws.{put_past_plain}

-- a lesser number is below as a whole number
below : (m n : ℕ) → m < n → int_cmp (pos m) (pos n) ≡ Less
below m n h = grind (arith, nat_tests, h)

-- a row whose number is above those of the others comes last
pub put_last : {X : Type 0} (row : X → Row) (key : X → ℕ) → ((x : X) → rowid (row x) ≡ Int (pos (key x))) →
    (x : X) (xs : List X) → AllByRecursion (λ y. key y < key x) xs
    → put_row (row x) (map row xs) ≡ map row (xs ++ x ∷ [])
put_last row key is x [] all = refl
put_last row key is x (y ∷ ys) all =
    rw (is y, is x, value_cmp-Int (pos (key y)) (pos (key x)), below (key y) (key x) all.0)
    (ap (λ l. row y ∷ l) (put_last row key is x ys all.1))

-- the edit that the record of a day is
day_edit : (old new : State) (r : DayRecord) (count : ℕ) → old.now.schema ≡ all_tables →
    Executes put_day (day_values r) old new (Ok count) →
    Changes 0 (put_row (day_row r) (old.now.trees 0)) old.now new.now
day_edit old new r count schema ran =
    let params = day_values r in
    let db = old.now.trees in
    let w = runs_as put_day params old new all_tables schema day_compiled put_day_is put_day_plain count ran in
    let text = statement_of put_day (understood all_tables put_day) in
    let done =
    went (subst
    (λ s. Does old.step_limit (mode_of old) params (record old.now { schema = s }) text None day_compiled
    (Ok (w.tally, new.now))) schema w.changed) in
    let now = ap (λ (p : Tally × Database). p.1) (same_value (went (went done.2).2).2) in
    let given = went done.1 in
    let written = went (went given.2).2 in
    let counted = went written.2 in
    let trees : done.0.trees ≡ written.0 = ap (λ (it : Written). it.trees) (same_value counted.2)
    ∙ same_value counted.1 in
    let step = one_step all_tables _ db written.0 (edit_of db days_table [] Chosen 0 given.0) refl written.1 in
    let edit : edited db (edit_of db days_table [] Chosen 0 given.0) ≡ put_row (day_row r) (db 0) =
    ap (λ all. edited db (edit_of db days_table [] Chosen 0 all)) given.1.1
    ∙ rw (cast_int r.day, cast_null, cast_int r.bytes, cast_int r.tuples, cast_int r.notices, cast_int r.total) refl in
    let at = λ (n : ℕ). let e : new.now.trees n ≡ written.0 n = ap (λ (d : Database). d.trees n) now
    ∙ ap (λ (all : Trees). all n) trees in e in
    record {
      schema = ap (λ (d : Database). d.schema) now;
      rows = at 0 ∙ step.rows ∙ edit;
      others =
          λ n other apart. at n ∙ step.others n other (apart, tt);
    }

-- the edit that a seal is
seal_edit : (old new : State) (r : DayRecord) (count : ℕ) → old.now.schema ≡ all_tables →
    Executes put_seal (seal_values r) old new (Ok count) →
    Changes 4 (put_row (seal_row r) (old.now.trees 4)) old.now new.now
seal_edit old new r count schema ran =
    let params = seal_values r in
    let db = old.now.trees in
    let w = runs_as put_seal params old new all_tables schema seal_compiled put_seal_is put_seal_plain count ran in
    let text = statement_of put_seal (understood all_tables put_seal) in
    let done =
    went (subst
    (λ s. Does old.step_limit (mode_of old) params (record old.now { schema = s }) text None seal_compiled
    (Ok (w.tally, new.now))) schema w.changed) in
    let now = ap (λ (p : Tally × Database). p.1) (same_value (went (went done.2).2).2) in
    let given = went done.1 in
    let written = went (went given.2).2 in
    let counted = went written.2 in
    let trees : done.0.trees ≡ written.0 = ap (λ (it : Written). it.trees) (same_value counted.2)
    ∙ same_value counted.1 in
    let step = one_step all_tables _ db written.0 (edit_of db day_tariffs_table [] Chosen 0 given.0) refl written.1 in
    let edit : edited db (edit_of db day_tariffs_table [] Chosen 0 given.0) ≡ put_row (seal_row r) (db 4) =
    ap (λ all. edited db (edit_of db day_tariffs_table [] Chosen 0 all)) given.1.1 ∙
    rw (cast_int r.day, cast_null) refl in
    let at = λ (n : ℕ). let e : new.now.trees n ≡ written.0 n = ap (λ (d : Database). d.trees n) now
    ∙ ap (λ (all : Trees). all n) trees in e in
    record {
      schema = ap (λ (d : Database). d.schema) now;
      rows = at 4 ∙ step.rows ∙ edit;
      others =
          λ n other apart. at n ∙ step.others n other (apart, tt);
    }

-- the edit that the record of a history is
past_edit : (old new : State) (p : PastRecord) (count : ℕ) → old.now.schema ≡ all_tables →
    Executes put_past (past_values p) old new (Ok count) →
    Changes 3 (put_row (past_row p) (old.now.trees 3)) old.now new.now
past_edit old new p count schema ran =
    let params = past_values p in
    let db = old.now.trees in
    let w = runs_as put_past params old new all_tables schema past_compiled put_past_is put_past_plain count ran in
    let text = statement_of put_past (understood all_tables put_past) in
    let done =
    went (subst
    (λ s. Does old.step_limit (mode_of old) params (record old.now { schema = s }) text None past_compiled
    (Ok (w.tally, new.now))) schema w.changed) in
    let now = ap (λ (p : Tally × Database). p.1) (same_value (went (went done.2).2).2) in
    let given = went done.1 in
    let written = went (went given.2).2 in
    let counted = went written.2 in
    let trees : done.0.trees ≡ written.0 = ap (λ (it : Written). it.trees) (same_value counted.2)
    ∙ same_value counted.1 in
    let step = one_step all_tables _ db written.0 (edit_of db past_table [] Chosen 0 given.0) refl written.1 in
    let edit : edited db (edit_of db past_table [] Chosen 0 given.0) ≡ put_row (past_row p) (db 3) =
    ap (λ all. edited db (edit_of db past_table [] Chosen 0 all)) given.1.1
    ∙ rw (cast_int 1, cast_null, cast_int p.base, cast_int p.bytes, cast_int p.rows) refl in
    let at = λ (n : ℕ). let e : new.now.trees n ≡ written.0 n = ap (λ (d : Database). d.trees n) now
    ∙ ap (λ (all : Trees). all n) trees in e in
    record {
      schema = ap (λ (d : Database). d.schema) now;
      rows = at 3 ∙ step.rows ∙ edit;
      others =
          λ n other apart. at n ∙ step.others n other (apart, tt);
    }

-- a record of a later day joins the others
pub day_puts : (old new : State) (c : Contents) (r : DayRecord) (count : ℕ) → Holds old.now c →
    AllByRecursion (λ d. d.day < r.day) c.days → Executes put_day (day_values r) old new (Ok count)
    → Holds new.now (with_record r c)
day_puts old new c r count has later ran =
    let e = day_edit old new r count has.schema ran in
    let rows = e.rows ∙ ap (put_row (day_row r)) has.days_are
    ∙ put_last day_row (λ (d : DayRecord). d.day) (λ _. refl) r c.days later in
    other_days _ old.now new.now c (c.days ++ r ∷ []) has (record { schema = e.schema; rows = rows; others = e.others })

-- so does its seal
pub seal_puts : (version : List Row) (old new : State) (c : Contents) (r : DayRecord) (count : ℕ) →
    HoldsAs version old.now c → AllByRecursion (λ d. d.day < r.day) c.sealed →
    Executes put_seal (seal_values r) old new (Ok count)
    → HoldsAs version new.now (with_seal r c)
seal_puts version old new c r count has later ran =
    let e = seal_edit old new r count has.schema ran in
    let rows = e.rows ∙ ap (put_row (seal_row r)) has.seals_are
    ∙ put_last seal_row (λ (d : DayRecord). d.day) (λ _. refl) r c.sealed later in
    other_seals version old.now new.now c (c.sealed ++ r ∷ []) has
    (record { schema = e.schema; rows = rows; others = e.others })

-- a history is kept where none was
pub past_puts : (old new : State) (c : Contents) (p : PastRecord) (count : ℕ) → Holds old.now c → c.past ≡ None →
    Executes put_past (past_values p) old new (Ok count) → Holds new.now (with_history p c)
past_puts old new c p count has none ran =
    let e = past_edit old new p count has.schema ran in
    let empty : old.now.trees 3 ≡ [] = has.past_is ∙ rw none refl in
    other_past _ old.now new.now c (Some p) has
    (record { schema = e.schema; rows = e.rows ∙ ap (put_row (past_row p)) empty; others = e.others })
