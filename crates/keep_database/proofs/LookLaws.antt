-- What looks at a database that stands for an office show.
use Rattle.std.proofs.Common.{◌≡◌, ℕ, pos, [], ◌∷◌, List, map, sym, subst, ◌∙◌, IsTrue}
use Rattle.std.proofs.Common.{Option, Some, None, IfSome, Result, Ok, Err, IfOk}
use Rattle.sqlite_value.specs.declared.value.Value.TheVariants.{Int}
use Rattle.sqlite_value.specs.Order.{Row}
use Rattle.sqlite_trees.specs.declared.store.Store.{Ghosts}
use Rattle.sqlite.specs.Effect.{Database}
use Rattle.sqlite.specs.Held.{Held, state}
use Rattle.sqlite.specs.State.{KeepsCommit}
use Rattle.keep_office.specs.Office.{Office, record_of, rows_between, vehicle_rows_between}
use Rattle.road_time.specs.History.{paid}
use Rattle.keep_tables.specs.Texts.{find_spent, find_tariffs, list_spent, list_vehicle, find_last, find_day, find_seal}
use Rattle.keep_tables.specs.Texts.{find_past}
use Rattle.keep_tables.specs.Codec.{spent_row, past_values}
use Rattle.keep_tables.specs.Shown.{tariff_columns, day_columns, seal_columns, row_if_any, last_rows}
use Rattle.keep_tables.specs.Stands.{HasOffice}
use Rattle.keep_tables.specs.Amounts.{HasAmount}
use Rattle.keep_tables.proofs.AmountLaws.{amount_read, asked}
use Rattle.keep_tables.proofs.DayReadLaws.{day_shown, seal_shown, past_shown, last_shown}
use Rattle.keep_tables.proofs.ReadLaws.{rows_shown, vehicle_rows_shown, tariffs_shown}
use Rattle.keep_database.specs.Looks.{ShowsCommitted, ShowsOne, IsSealed}

module _ {S : Type 0} (g : Ghosts S) (old new : Held S) (o : Office) (has : HasOffice (state g old).committed o)
    (found : List Row) where
  -- what the query sees stands for the office too
  seen : (sql : List ℕ) (params : Row) (s : ShowsCommitted g sql params old new found) →
      HasOffice (state g s.before).now o
  seen sql params s = subst (λ (db : Database). HasOffice db o) (sym s.now) has

  pub last_looks : ShowsCommitted g find_last [] old new found → found ≡ last_rows o.days
  last_looks s = last_shown o (state g s.before) (state g new) found (seen find_last [] s) s.shown

  pub past_looks : ShowsCommitted g find_past [] old new found → found ≡ row_if_any past_values o.past
  past_looks s = past_shown o (state g s.before) (state g new) found (seen find_past [] s) s.shown

  pub tariffs_look : ShowsCommitted g find_tariffs [] old new found → found ≡ map tariff_columns o.tariffs
  tariffs_look s = tariffs_shown o (state g s.before) (state g new) found (seen find_tariffs [] s) s.shown

  pub day_looks : (day : ℕ) → ShowsCommitted g find_day (Int (pos day) ∷ []) old new found →
      found ≡ row_if_any day_columns (record_of o day)
  day_looks day s =
      day_shown day o (state g s.before) (state g new) found (seen find_day (Int (pos day) ∷ []) s) s.shown

  pub seal_looks : (day : ℕ) → ShowsCommitted g find_seal (Int (pos day) ∷ []) old new found →
      found ≡ row_if_any seal_columns (record_of o day)
  seal_looks day s =
      seal_shown day o (state g s.before) (state g new) found (seen find_seal (Int (pos day) ∷ []) s) s.shown

  pub spent_looks : (day vid xway : ℕ) → ShowsCommitted g find_spent (asked day vid xway) old new found →
      HasAmount found (paid o.rows day vid xway)
  spent_looks day vid xway s =
      amount_read day vid xway o (state g s.before) (state g new) found (seen find_spent (asked day vid xway) s) s.shown

  pub rows_look : (from to : ℕ) → ShowsCommitted g list_spent (Int (pos from) ∷ Int (pos to) ∷ []) old new found →
      found ≡ map spent_row (rows_between o from to)
  rows_look from to s =
      rows_shown from to o (state g s.before) (state g new) found
      (seen list_spent (Int (pos from) ∷ Int (pos to) ∷ []) s) s.shown

  pub vehicle_rows_look : (vid from to : ℕ) →
      ShowsCommitted g list_vehicle (Int (pos vid) ∷ Int (pos from) ∷ Int (pos to) ∷ []) old new found →
      found ≡ map spent_row (vehicle_rows_between o vid from to)
  vehicle_rows_look vid from to s =
      vehicle_rows_shown vid from to o (state g s.before) (state g new) found
      (seen list_vehicle (Int (pos vid) ∷ Int (pos from) ∷ Int (pos to) ∷ []) s) s.shown

-- what follows of what holds of an answer that is there
pub some_then : {T E : Type 0} (r : Result (Option T) E) (P Q : Type 0) → IfOk r (λ o. IfSome o (λ x. P)) → (P → Q) →
    IfOk r (λ o. IfSome o (λ x. Q))
some_then (Ok None) P Q p f = tt
some_then (Ok (Some x)) P Q p f = f p
some_then (Err e) P Q p f = tt

-- what is committed after a step that commits nothing is what was before it
module _ {S : Type 0} (g : Ghosts S) (old mid : Held S) (kept : KeepsCommit (state g old) (state g mid)) where
  pub committed_before : (new : Held S) (sql : List ℕ) (params : Row) (rows : List Row) → IsTrue (state g mid).is_open →
      ShowsCommitted g sql params mid new rows → ShowsCommitted g sql params old new rows
  committed_before new sql params rows here s =
      record { before = s.before; now = s.now ∙ kept.committed here; is_open = s.is_open; shown = s.shown }

  pub one_before : (sql : List ℕ) (params : Row) → ShowsOne g sql params mid → ShowsOne g sql params old
  one_before sql params s = record {
    now = s.now;
    rows = s.rows;
    was_open = kept.was_open s.was_open;
    shown = committed_before s.now sql params s.rows s.was_open s.shown;
    one = s.one;
  }

  pub sealed_before : (day : ℕ) → IsSealed g day mid → IsSealed g day old
  sealed_before day s =
      record { record_shown = one_before _ _ s.record_shown; seal_shown = one_before _ _ s.seal_shown }
