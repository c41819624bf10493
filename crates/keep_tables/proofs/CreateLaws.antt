-- What the making of a table makes of a database.
use Rattle.std.proofs.Common.{◌≡◌, ℕ, false, List, [], None, Ok, refl, sym, ap, subst, ◌∙◌}
use Rattle.sqlite_tied.specs.Compute.{everything}
use Rattle.sqlite_schema.specs.declared.schema.Table.{Table}
use Rattle.sqlite_schema.specs.declared.schema.Schema.{Schema}
use Rattle.sqlite_schema.specs.declared.command.Command.TheVariants.{CreateTable}
use Rattle.sqlite_resolve.specs.Compile.{table_defined_by}
use Rattle.sqlite_catalog.specs.Change.{created, next_tree, KeepsRows}
use Rattle.sqlite.specs.Does.{Tally, lacks_sequence}
use Rattle.sqlite.specs.Effect.{Database}
use Rattle.sqlite.specs.State.{State, Executes, Writes}
use Rattle.sqlite.specs.Listing.{understood}
use Rattle.sqlite.proofs.Callers.{IsPlain, command_of, statement_of, runs_as}
use Rattle.keep_tables.specs.Layout.{days_table, spent_table, past_table, day_tariffs_table, tariffs_table, form_table}
use Rattle.keep_tables.specs.Layout.{no_tables, old_tables}
use Rattle.keep_tables.specs.Texts.{make_days, make_spent, make_past, make_day_tariffs, make_tariffs, make_form}
use Rattle.keep_tables.proofs.EditLaws.{went, same_value}

-- a text makes a table in a schema
pub record MakesIn (schema : Schema) (text : List ℕ) (table : Table) : Type 0 where
  pub command : command_of (understood schema text) ≡ CreateTable
  pub whole : statement_of text (understood schema text) ≡ text
  pub plain : IsPlain (understood schema text)
  pub defined : table_defined_by text ≡ Ok table
  pub uncounted : lacks_sequence (created schema table) ≡ false

-- the table is there and empty, and the rows of the others are as they were
pub makes : (schema : Schema) (text : List ℕ) (table : Table) (old new : State) (count : ℕ) → MakesIn schema text table
    → old.now.schema ≡ schema → Executes text [] old new (Ok count)
    → (new.now.schema ≡ created schema table) × (new.now.trees (next_tree schema) ≡ [])
    × KeepsRows schema.tables old.now.trees new.now.trees
makes schema text table old new count it has ran =
    let w = subst (λ t. Writes old new None CreateTable t [] count) it.whole
    (runs_as text [] old new schema has CreateTable it.command it.plain count ran) in
    let all = went w.changed in
    let first = went all.1 in
    let made = first.1 in
    let both : Ok made.table ≡ Ok table = sym made.defined ∙ it.defined in
    let same : made.table ≡ table = cc in
    let after : first.0.schema ≡ created schema table = made.is ∙ ap (λ s. created s made.table) has
    ∙ ap (created schema) same in
    let plain : lacks_sequence first.0.schema ≡ false = ap lacks_sequence after ∙ it.uncounted in
    let now : new.now ≡ first.0 = ap (λ (p : Tally × Database). p.1) (same_value all.2)
    ∙ same_value (rw plain at first.2) in (
      ap (λ (d : Database). d.schema) now ∙ after,
      ap (λ (d : Database). d.trees (next_tree schema)) now
          ∙ subst (λ s. first.0.trees (next_tree s) ≡ []) has made.empty,
      subst (λ (d : Database). KeepsRows schema.tables old.now.trees d.trees) (sym now)
          (subst (λ (s : Schema). KeepsRows s.tables old.now.trees first.0.trees) has made.others),
    )

-- each table in its turn
pub days_in : MakesIn no_tables make_days days_table
unfolding understood everything
days_in = record { command = refl; whole = refl; plain = (refl, refl); defined = refl; uncounted = refl }

-- the amounts
pub spent_in : MakesIn (created no_tables days_table) make_spent (record spent_table { tree = 0 })
unfolding understood everything
spent_in = record { command = refl; whole = refl; plain = (refl, refl); defined = refl; uncounted = refl }

-- the history
pub past_in : MakesIn (created (created no_tables days_table) spent_table) make_past (record past_table { tree = 0 })
unfolding understood everything
past_in = record { command = refl; whole = refl; plain = (refl, refl); defined = refl; uncounted = refl }

-- the seals
pub day_tariffs_in : MakesIn old_tables make_day_tariffs (record day_tariffs_table { tree = 0 })
unfolding understood everything
day_tariffs_in = record { command = refl; whole = refl; plain = (refl, refl); defined = refl; uncounted = refl }

-- the tariffs
pub tariffs_in : MakesIn (created old_tables day_tariffs_table) make_tariffs (record tariffs_table { tree = 0 })
unfolding understood everything
tariffs_in = record { command = refl; whole = refl; plain = (refl, refl); defined = refl; uncounted = refl }

-- the version
pub form_in : MakesIn (created (created old_tables day_tariffs_table) tariffs_table) make_form
    (record form_table { tree = 0 })
unfolding understood everything
form_in = record { command = refl; whole = refl; plain = (refl, refl); defined = refl; uncounted = refl }
