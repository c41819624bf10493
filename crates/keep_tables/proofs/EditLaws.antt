-- What an edit of one table makes of what the tables hold.
use Rattle.std.proofs.Common.{◌≡◌, ◌⊎◌, inl, inr, ℕ, pos, Bool, true, false, cond, List, map, drop, Ok, Err, Result}
use Rattle.std.proofs.Common.{Option, refl, sym, subst, ◌∙◌, arith, IsPermutation}
use Rattle.sqlite_sql.specs.Ops.{unary}
use Rattle.sqlite_rules.specs.Cast.{cast}
use Rattle.sqlite_schema.specs.declared.schema.Kind.TheVariants.{Integer}
use Rattle.sqlite_value.specs.declared.value.Value.{Value}
use Rattle.sqlite_value.specs.declared.value.Value.TheVariants.{Int, Null}
use Rattle.sqlite_value.specs.Order.{Row}
use Rattle.sqlite.specs.Effect.{Database}
use Rattle.road_time.specs.declared.day.SpentRow.{SpentRow}
use Rattle.road_time.specs.Rates.{Tariffs}
use Rattle.keep_office.specs.declared.kept.DayRecord.{DayRecord}
use Rattle.keep_office.specs.declared.kept.PastRecord.{PastRecord}
use Rattle.keep_tables.specs.Codec.{day_row, seal_row, spent_row, tariff_row}
use Rattle.keep_tables.specs.Stands.{Contents, HoldsAs, Changes, AreAmountRows, past_rows}

-- a part that gave a value did not stop on the way
pub went : {B E R : Type 0} {b : B} {Stops : E → Type 0} → ((stop : E) × Stops stop × (Ok b ≡ Err stop)) ⊎ R → R
went (inl stopped) = absurd (let e = stopped.2 in cc)
went (inr on) = on

-- two outcomes that are the same have the same value
pub same_value : {B E : Type 0} {a b : B} → ◌≡◌ {A = Result B E} (Ok a) (Ok b) → a ≡ b
same_value e = cc

-- a choice between the same
either : (b : Bool) (x : Value) → cond b x x ≡ x
either true x = refl
either false x = refl

-- a column of whole numbers keeps them, and its key as it is
pub cast_int : (n : ℕ) → cast Integer (Int (pos n)) ≡ Int (pos n)
unfolding unary
cast_int n = either _ (Int (pos n))

-- nothing stays nothing
pub cast_null : cast Integer Null ≡ Null
unfolding unary
cast_null = either _ Null

module _ (version : List Row) (db next : Database) (c : Contents) where
  -- where the rows are the same, so are the amounts
  same_rows : HoldsAs version db c → next.trees 1 ≡ db.trees 1 → AreAmountRows c.rows (next.trees 1)
  same_rows has same = subst (λ l. IsPermutation (map spent_row c.rows) (map (drop 1) l)) (sym same) has.rows_are

  -- other tariffs, and all else as it was
  pub other_tariffs : (ts : Tariffs) → HoldsAs version db c → Changes 5 (map tariff_row ts) db next →
      HoldsAs version next (record c { tariffs = ts })
  other_tariffs ts has to = record {
    schema = to.schema;
    days_are = to.others 0 (λ e. omega (arith, e)) (λ e. omega (arith, e)) ∙ has.days_are;
    rows_are = same_rows has (to.others 1 (λ e. omega (arith, e)) (λ e. omega (arith, e)));
    past_is = to.others 3 (λ e. omega (arith, e)) (λ e. omega (arith, e)) ∙ has.past_is;
    seals_are = to.others 4 (λ e. omega (arith, e)) (λ e. omega (arith, e)) ∙ has.seals_are;
    tariffs_are = to.rows;
    version = to.others 6 (λ e. omega (arith, e)) (λ e. omega (arith, e)) ∙ has.version;
  }

  -- other records of days
  pub other_days : (ds : List DayRecord) → HoldsAs version db c → Changes 0 (map day_row ds) db next →
      HoldsAs version next (record c { days = ds })
  other_days ds has to = record {
    schema = to.schema;
    days_are = to.rows;
    rows_are = same_rows has (to.others 1 (λ e. omega (arith, e)) (λ e. omega (arith, e)));
    past_is = to.others 3 (λ e. omega (arith, e)) (λ e. omega (arith, e)) ∙ has.past_is;
    seals_are = to.others 4 (λ e. omega (arith, e)) (λ e. omega (arith, e)) ∙ has.seals_are;
    tariffs_are = to.others 5 (λ e. omega (arith, e)) (λ e. omega (arith, e)) ∙ has.tariffs_are;
    version = to.others 6 (λ e. omega (arith, e)) (λ e. omega (arith, e)) ∙ has.version;
  }

  -- other days that have a seal
  pub other_seals : (ds : List DayRecord) → HoldsAs version db c → Changes 4 (map seal_row ds) db next →
      HoldsAs version next (record c { sealed = ds })
  other_seals ds has to = record {
    schema = to.schema;
    days_are = to.others 0 (λ e. omega (arith, e)) (λ e. omega (arith, e)) ∙ has.days_are;
    rows_are = same_rows has (to.others 1 (λ e. omega (arith, e)) (λ e. omega (arith, e)));
    past_is = to.others 3 (λ e. omega (arith, e)) (λ e. omega (arith, e)) ∙ has.past_is;
    seals_are = to.rows;
    tariffs_are = to.others 5 (λ e. omega (arith, e)) (λ e. omega (arith, e)) ∙ has.tariffs_are;
    version = to.others 6 (λ e. omega (arith, e)) (λ e. omega (arith, e)) ∙ has.version;
  }

  -- another history
  pub other_past : (p : Option PastRecord) → HoldsAs version db c → Changes 3 (past_rows p) db next →
      HoldsAs version next (record c { past = p })
  other_past p has to = record {
    schema = to.schema;
    days_are = to.others 0 (λ e. omega (arith, e)) (λ e. omega (arith, e)) ∙ has.days_are;
    rows_are = same_rows has (to.others 1 (λ e. omega (arith, e)) (λ e. omega (arith, e)));
    past_is = to.rows;
    seals_are = to.others 4 (λ e. omega (arith, e)) (λ e. omega (arith, e)) ∙ has.seals_are;
    tariffs_are = to.others 5 (λ e. omega (arith, e)) (λ e. omega (arith, e)) ∙ has.tariffs_are;
    version = to.others 6 (λ e. omega (arith, e)) (λ e. omega (arith, e)) ∙ has.version;
  }

  -- other amounts
  pub other_rows : (rows : List SpentRow) → HoldsAs version db c → next.schema ≡ db.schema →
      AreAmountRows rows (next.trees 1)
      → ((t : ℕ) → (t ≡ 1 → ⊥) → (2 ≡ t → ⊥) → next.trees t ≡ db.trees t) →
      HoldsAs version next (record c { rows = rows })
  other_rows rows has schema are others = record {
    schema = schema ∙ has.schema;
    days_are = others 0 (λ e. omega (arith, e)) (λ e. omega (arith, e)) ∙ has.days_are;
    rows_are = are;
    past_is = others 3 (λ e. omega (arith, e)) (λ e. omega (arith, e)) ∙ has.past_is;
    seals_are = others 4 (λ e. omega (arith, e)) (λ e. omega (arith, e)) ∙ has.seals_are;
    tariffs_are = others 5 (λ e. omega (arith, e)) (λ e. omega (arith, e)) ∙ has.tariffs_are;
    version = others 6 (λ e. omega (arith, e)) (λ e. omega (arith, e)) ∙ has.version;
  }

-- another version
pub other_version : (before after : List Row) (db next : Database) (c : Contents) → HoldsAs before db c →
    Changes 6 after db next → HoldsAs after next c
other_version before after db next c has to = record {
  schema = to.schema;
  days_are = to.others 0 (λ e. omega (arith, e)) (λ e. omega (arith, e)) ∙ has.days_are;
  rows_are = same_rows before db next c has (to.others 1 (λ e. omega (arith, e)) (λ e. omega (arith, e)));
  past_is = to.others 3 (λ e. omega (arith, e)) (λ e. omega (arith, e)) ∙ has.past_is;
  seals_are = to.others 4 (λ e. omega (arith, e)) (λ e. omega (arith, e)) ∙ has.seals_are;
  tariffs_are = to.others 5 (λ e. omega (arith, e)) (λ e. omega (arith, e)) ∙ has.tariffs_are;
  version = to.rows;
}
