-- What is told of a database is what it stands for.
use Rattle.std.proofs.Common.{◌≡◌, inl, inr, Bool, true, false, cond, [], map, drop, length, Option, Some, None, Result}
use Rattle.std.proofs.Common.{Ok, Err, IfOk, OnOk, OnErr, refl, sym, ap, subst, ◌∙◌, arith}
use Rattle.std.specs.Coded.{coded_list}
use Rattle.std.proofs.lemmas.Bool.{cases_Bool, and_parts}
use Rattle.sqlite_value.specs.contracts.row.Row as row
use Rattle.sqlite_schema.specs.contracts.schema.Schema as schema
use Rattle.sqlite_schema.specs.declared.schema.Schema.{Schema}
use Rattle.sqlite_keyed.proofs.ListLemmas.{map_back}
use Rattle.sqlite.specs.Effect.{Database}
use Rattle.keep_office.specs.declared.kept.KeepFault.{KeepFault}
use Rattle.keep_office.specs.Office.{Office, IsSound, RowsRise, nothing_kept}
use Rattle.keep_office.specs.Kept.{old_office}
use Rattle.keep_office.specs.Calls.{Reads, Puts, AllOrNothing, SoundIfTold}
use Rattle.keep_office.proofs.SoundLaws.{nothing_sound, no_tariffs}
use Rattle.keep_tables.specs.Layout.{no_tables, old_tables, all_tables}
use Rattle.keep_tables.specs.Same.{same}
use Rattle.keep_tables.specs.Codec.{old_row, spent_row, old_from, spent_from}
use Rattle.keep_tables.specs.Stands.{HasOld, StandsForOffice, StandsForNone, past_rows}
use Rattle.keep_tables.specs.Tests.{is_sound, fits_fields}
use Rattle.keep_tables.specs.Told.{whole_in, office_in, told_in, holds_old, old_in, past_record_in, amounts_in}
use Rattle.keep_tables.proofs.SameLaws.{same_is, same_if}
use Rattle.keep_tables.proofs.TestLaws.{fields_are, fields_if, sound_is, sound_if, both}
use Rattle.keep_tables.proofs.ToldLaws.{rows_held, rows_back, past_back, stored_so, held_if_told, told_if_held}

-- three tables that pass the tests hold an old office
old_held : (db : Database) → db.schema ≡ old_tables → holds_old db ≡ true → HasOld db (old_in db)
old_held db tables h =
    let a = and_parts _ _ h in
    let b = and_parts _ _ a.1 in
    let c = and_parts _ _ b.1 in
    let d = and_parts _ _ c.1 in
    record {
      records = map old_from (db.trees 0);
      rows = amounts_in (db.trees 1);
      history = past_record_in (db.trees 3);
      tables = record {
        schema = tables;
        days_are = same_is (coded_list row.the_row.coded) _ _ a.0;
        rows_are = rows_held (db.trees 1) b.0;
        past_is = same_is (coded_list row.the_row.coded) _ _ c.0;
      };
      office = refl;
      fits = fields_are (old_in db) d.0;
      sound = sound_is (old_in db) d.1;
    }

-- and those that hold one pass them
old_passes : (db : Database) (o : Office) → HasOld db o → (holds_old db ≡ true) × (old_in db ≡ o)
old_passes db o has =
    let up : RowsRise has.rows = subst RowsRise (ap (λ (p : Office). p.rows) has.office) has.sound.rows_rise in
    let days = ap (map old_from) has.tables.days_are ∙ map_back old_row old_from (λ _. refl) has.records in
    let rows = rows_back has.rows (db.trees 1) up has.tables.rows_are in
    let history = ap past_record_in has.tables.past_is ∙ past_back has.history in
    let read : old_in db ≡ old_office has.records has.rows has.history =
    λ i. old_office (days i) (rows i) (history i) in
    let it : old_in db ≡ o = read ∙ sym has.office in
    let code = coded_list row.the_row.coded in (
      both (same_if code (db.trees 0) (map old_row (map old_from (db.trees 0)))
          (has.tables.days_are ∙ ap (map old_row) (sym days)))
          (both (same_if code (map (drop 1) (db.trees 1)) (map spent_row (map spent_from (db.trees 1)))
          (stored_so has.rows (db.trees 1) has.tables.rows_are))
          (both (same_if code (db.trees 3) (past_rows (past_record_in (db.trees 3)))
          (has.tables.past_is ∙ ap past_rows (sym history)))
          (both (subst (λ (p : Office). fits_fields p ≡ true) (sym it) (fields_if o has.fits))
          (subst (λ (p : Office). is_sound p ≡ true) (sym it) (sound_if o has.sound))))),
      it,
    )

-- schemas that differ do not pass for the same
apart : (s t : Schema) → (s ≡ t → ⊥) → same schema.the_row.coded s t ≡ false
apart s t differ = elim (cases_Bool (same schema.the_row.coded s t)) [
  | inl is ↦ absurd (differ (same_is schema.the_row.coded s t is))
  | inr other ↦ other
]

-- three tables are not none
three_and_none : old_tables ≡ no_tables → ⊥
three_and_none e = omega (arith, ap (λ (s : Schema). length s.tables) e)

-- six are not none
six_and_none : all_tables ≡ no_tables → ⊥
six_and_none e = omega (arith, ap (λ (s : Schema). length s.tables) e)

-- six are not three
six_and_three : all_tables ≡ old_tables → ⊥
six_and_three e = omega (arith, ap (λ (s : Schema). length s.tables) e)

-- a database stands for what is told of it
pub stands_if_told : (db : Database) (o : Office) → office_in db ≡ Some o → StandsForOffice db o
unfolding office_in
stands_if_told db o told = first (same schema.the_row.coded db.schema no_tables) refl told
  where
    third : db.schema ≡ old_tables → (b : Bool) → holds_old db ≡ b → cond b (Some (old_in db)) None ≡ Some o →
        StandsForOffice db o
    third tables true is e = let it : old_in db ≡ o = cc in inr (inl (subst (HasOld db) it (old_held db tables is)))
    third tables false is e = absurd (cc)

    second : (b : Bool) → same schema.the_row.coded db.schema old_tables ≡ b →
        cond b (cond (holds_old db) (Some (old_in db)) None) (whole_in db) ≡ Some o → StandsForOffice db o
    second true is e = third (same_is schema.the_row.coded db.schema old_tables is) (holds_old db) refl e
    second false is e = inr (inr (held_if_told db o e))

    first : (b : Bool) → same schema.the_row.coded db.schema no_tables ≡ b
        → cond b (Some nothing_kept)
        (cond (same schema.the_row.coded db.schema old_tables) (cond (holds_old db) (Some (old_in db)) None)
        (whole_in db)) ≡ Some o → StandsForOffice db o
    first true is e = let it : nothing_kept ≡ o = cc in
        inl (same_is schema.the_row.coded db.schema no_tables is, sym it)
    first false is e = second (same schema.the_row.coded db.schema old_tables) refl e

-- what it stands for is told of it
pub told_if_stands : (db : Database) (o : Office) → StandsForOffice db o → office_in db ≡ Some o
unfolding office_in
told_if_stands db o (inl nothing) =
    rw (same_if schema.the_row.coded db.schema no_tables nothing.0) (ap Some (sym nothing.1))
told_if_stands db o (inr (inl old)) =
    let none = subst (λ s. same schema.the_row.coded s no_tables ≡ false) (sym old.tables.schema)
    (apart old_tables no_tables three_and_none) in
    let passes = old_passes db o old in
    rw (none, same_if schema.the_row.coded db.schema old_tables old.tables.schema, passes.0) (ap Some passes.1)
told_if_stands db o (inr (inr has)) =
    let none = subst (λ s. same schema.the_row.coded s no_tables ≡ false) (sym has.tables.schema)
    (apart all_tables no_tables six_and_none) in
    let three = subst (λ s. same schema.the_row.coded s old_tables ≡ false) (sym has.tables.schema)
    (apart all_tables old_tables six_and_three) in
    rw (none, three) (told_if_held db o has)

-- a database stands for one office at most
pub stands_for_one : (db : Database) (o p : Office) → StandsForOffice db o → StandsForOffice db p → o ≡ p
stands_for_one db o p first second =
    let both : ◌≡◌ {A = Option Office} (Some o) (Some p) = sym (told_if_stands db o first)
    ∙ told_if_stands db p second in cc

-- which is sound
pub stands_sound : (db : Database) (o : Office) → StandsForOffice db o → IsSound o
stands_sound db o (inl nothing) = subst IsSound (sym nothing.1) (nothing_sound [] no_tariffs)
stands_sound db o (inr (inl old)) = old.sound
stands_sound db o (inr (inr has)) = has.sound

-- of one that stands for none nothing is told
none_if_untold : (db : Database) → office_in db ≡ None → StandsForNone db
none_if_untold db untold o stands = absurd (let e = sym untold ∙ told_if_stands db o stands in cc)

-- and where nothing is told it stands for none
untold_if_none : (db : Database) → StandsForNone db → office_in db ≡ None
untold_if_none db none = go (office_in db) refl
  where
    go : (told : Option Office) → office_in db ≡ told → told ≡ None
    go None is = refl
    go (Some o) is = absurd (none o (stands_if_told db o is))

-- what is told is sound
pub told_sound : (steady : Bool) (db : Database) → SoundIfTold (told_in steady db)
told_sound false db = tt
told_sound true db = go (office_in db) refl
  where
    go : (told : Option Office) → office_in db ≡ told → SoundIfTold told
    go None is = tt
    go (Some o) is = stands_sound db o (stands_if_told db o is)

-- a call that keeps what a steady store stands for reads
pub reads_told : {T : Type 0} (steady : Bool) (old new : Database) (r : Result T KeepFault) (P : Office → T → Type 0) →
    (steady ≡ true → StandsForNone old → StandsForNone new)
    → (steady ≡ true → (o : Office) → StandsForOffice old o → StandsForOffice new o × IfOk r (P o)) →
    Reads (told_in steady old) (told_in steady new) r P
reads_told false old new r P none answers = refl
reads_told {T} true old new r P none answers = go (office_in old) refl
  where
    go : (told : Option Office) → office_in old ≡ told → Reads told (office_in new) r P
    go None is = untold_if_none new (none refl (none_if_untold old is))
    go (Some o) is = let both = answers refl o (stands_if_told old o is) in
        rw (told_if_stands new o both.0) (refl, both.1)

-- a put of a steady store puts all or nothing
pub puts_told : (steady : Bool) (old new : Database) (r : Result (Unit {0}) KeepFault) (next : Office → Office)
    → (steady ≡ true → (o : Office) → StandsForOffice old o → OnOk r (StandsForOffice new (next o))
    × OnErr r (StandsForOffice new o)) → Puts AllOrNothing (told_in steady old) (told_in steady new) r next
puts_told false old new r next put = tt
puts_told true old new r next put = go (office_in old) refl
  where
    at_end : (o : Office) (s : Result (Unit {0}) KeepFault) → OnOk s (StandsForOffice new (next o))
        × OnErr s (StandsForOffice new o) → Puts AllOrNothing (Some o) (office_in new) s next
    at_end o (Ok u) h = rw (told_if_stands new (next o) h.0) refl
    at_end o (Err e) h = rw (told_if_stands new o h.1) (inl refl)

    go : (told : Option Office) → office_in old ≡ told → Puts AllOrNothing told (office_in new) r next
    go None is = tt
    go (Some o) is = at_end o r (put refl o (stands_if_told old o is))
