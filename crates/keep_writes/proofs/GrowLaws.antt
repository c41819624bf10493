-- What the making of tables leaves.
use Rattle.std.proofs.Common.{◌≡◌, ◌⊎◌, IfErr, ◌<◌, ℕ, pos, zero, suc, inl, inr, Bool, true, false, List, [], ◌∷◌}
use Rattle.std.proofs.Common.{length, get_or, take, map, None, Result, Ok, Err, OnOk, OnErr, IfOk, IsErr, IsTrue}
use Rattle.std.proofs.Common.{refl}
use Rattle.std.proofs.Common.{sym, ap, subst, ◌∙◌, arith}
use Rattle.std.specs.List.{AllByRecursion}
use Rattle.std.specs.List.Sorted.{IsStrictlySortedBy}
use Rattle.std.specs.Ordering.{nat_cmp}
use Rattle.std.specs.declared.cmp.Ordering.TheVariants.{Less}
use Rattle.std.proofs.lemmas.Bool.Decides.{nat_tests}
use Rattle.sqlite_trees.specs.declared.error.StoreError.{StoreError}
use Rattle.sqlite_trees.specs.declared.error.StoreError.TheVariants.{OutOfMemory, Io, Corrupt, Full, Broken}
use Rattle.sqlite_trees.specs.declared.error.StoreError.TheVariants.{Unstorable}
use Rattle.sqlite_value.specs.declared.value.Value.{Value}
use Rattle.sqlite_value.specs.declared.value.Value.TheVariants.{Int}
use Rattle.sqlite_value.specs.Order.{Row}
use Rattle.sqlite_schema.specs.declared.schema.Schema.{Schema}
use Rattle.sqlite_resolve.specs.declared.compiled.Compiled.{Compiled}
use Rattle.sqlite_resolve.specs.declared.error.CompileError.{CompileError}
use Rattle.sqlite.specs.declared.error.Error.{Error}
use Rattle.sqlite.specs.declared.error.Error.TheVariants.{SqlInputError}
use Rattle.sqlite.specs.Effect.{Database}
use Rattle.sqlite.specs.Listing.{understood}
use Rattle.sqlite.specs.Steps.{Outlines}
use Rattle.sqlite.specs.Outline.{Outline}
use Rattle.sqlite.specs.State.{State, KeepsCommit, IsUnchanged, IsNotRun, IsTooLate}
use Rattle.sqlite.specs.State.{FailsToQuery, Shown, store_error}
use Rattle.sqlite.proofs.Callers.{IsPlain}
use Rattle.keep_office.specs.declared.kept.DayRecord.{DayRecord}
use Rattle.keep_office.specs.declared.kept.OldRecord.{OldRecord}
use Rattle.keep_office.specs.Kept.{seal_of, sealed}
use Rattle.keep_office.specs.Office.{Office, IsSound}
use Rattle.keep_office.proofs.SoundLaws.{nothing_sound, no_tariffs}
use Rattle.keep_tables.specs.Texts.{find_version, list_days, make_days, make_spent, make_past, make_day_tariffs}
use Rattle.keep_tables.specs.Texts.{make_tariffs, make_form}
use Rattle.keep_tables.specs.Shown.{number_columns}
use Rattle.keep_tables.specs.Stands.{HoldsAs, HasOld, HasNothing, HasOffice, FitsFields, StandsForOffice, contents_of}
use Rattle.keep_tables.proofs.AskLaws.{asked_changes_nothing, list_days_asks}
use Rattle.keep_tables.proofs.StepLaws.{kept_same, kept_undone, kept_if_unread}
use Rattle.keep_tables.proofs.MigrationLaws.{first_made, second_made}
use Rattle.keep_tables.proofs.QueryLaws.{find_version_plain, no_days, old_days_plain, no_version, no_old_version}
use Rattle.keep_writes.specs.Growth.{TextRan, IsUnsealed, Stood, IsUnderstood, SaysIf, LacksVersion}

-- what follows of what holds where a call went well
pub on_ok : {T E : Type 0} (r : Result T E) (P Q : Type 0) → OnOk r P → (P → Q) → OnOk r Q
on_ok (Ok x) P Q p f = f p
on_ok (Err e) P Q p f = tt

-- the same, where that is known only of a call that went well
pub on_both : {T E : Type 0} (r : Result T E) (P Q : Type 0) → OnOk r P → (P → OnOk r Q) → OnOk r Q
on_both (Ok x) P Q p f = f p
on_both (Err e) P Q p f = tt

-- nothing is kept in tables of version 1 that are new
pub old_from_nothing : (s0 s1 s2 s3 : State) (o : Office) → HasNothing s0.now o → TextRan make_days s0 s1 →
    TextRan make_spent s1 s2 → TextRan make_past s2 s3 → HasOld s3.now o
old_from_nothing s0 s1 s2 s3 o none r1 r2 r3 = record {
  records = [];
  rows = [];
  history = None;
  tables = first_made s0 s1 s2 s3 r1.0 r2.0 r3.0 none.0 r1.1 r2.1 r3.1;
  office = none.1;
  fits = subst FitsFields (sym none.1) (record { days = tt; rows = tt; past = tt; tariffs = tt });
  sound = subst IsSound (sym none.1) (nothing_sound [] no_tariffs);
}

-- old records have the seal of no tariffs
all_sealed : (records : List OldRecord) →
    AllByRecursion (λ (d : DayRecord). d.tariffs ≡ seal_of []) (map (sealed (seal_of [])) records)
all_sealed [] = tt
all_sealed (r ∷ records) = (refl, all_sealed records)

-- tables of version 1 and the new ones hold the office, but for its seals
pub unsealed_from_old : (s0 s1 s2 s3 : State) (o : Office) → HasOld s0.now o → TextRan make_day_tariffs s0 s1 →
    TextRan make_tariffs s1 s2 → TextRan make_form s2 s3 → IsUnsealed s3.now o
unsealed_from_old s0 s1 s2 s3 o has r1 r2 r3 = record {
  tables = subst (λ (p : Office). HoldsAs [] s3.now (record (contents_of p) { sealed = [] })) (sym has.office)
      (second_made s0 s1 s2 s3 r1.0 r2.0 r3.0 has.records has.rows has.history has.tables r1.1 r2.1 r3.1);
  seals = subst (λ (p : Office). AllByRecursion (λ (d : DayRecord). d.tariffs ≡ seal_of []) p.days) (sym has.office)
      (all_sealed has.records);
  fits = has.fits;
  sound = has.sound;
}

-- the days before a place are before the day there
pub days_under : (ds : List DayRecord) (i : ℕ) (d : DayRecord) →
    IsStrictlySortedBy nat_cmp (map (λ (r : DayRecord). r.day) ds) → i < length ds →
    AllByRecursion (λ r. r.day < (get_or ds i d).day) (take i ds)
unfolding IsStrictlySortedBy
days_under [] i d up less = absurd (omega (arith, less))
days_under (x ∷ ds) zero d up less = tt
days_under (x ∷ ds) (suc i) d up less =
    (under (get_or ds i d).day (above ds i d up.0 (omega (arith, less))), days_under ds i d up.1 (omega (arith, less)))
  where
    above : (es : List DayRecord) (j : ℕ) (e : DayRecord) →
        AllByRecursion (λ k. nat_cmp x.day k ≡ Less) (map (λ (r : DayRecord). r.day) es) → j < length es →
        nat_cmp x.day (get_or es j e).day ≡ Less
    above [] j e all low = absurd (omega (arith, low))
    above (y ∷ es) zero e all low = all.0
    above (y ∷ es) (suc j) e all low = above es j e all.1 (omega (arith, low))

    under : (n : ℕ) → nat_cmp x.day n ≡ Less → x.day < n
    under n less = grind (arith, nat_tests, less)

-- the row at a place has the number of the day there
pub row_of_day : (ds : List DayRecord) (i : ℕ) (r : Row) (d : DayRecord) → i < length (map number_columns ds) →
    (i < length ds) × (get_or (map number_columns ds) i r ≡ Int (pos (get_or ds i d).day) ∷ [])
row_of_day [] i r d less = absurd (omega (arith, less))
row_of_day (x ∷ ds) zero r d less = (omega arith, refl)
row_of_day (x ∷ ds) (suc i) r d less = let more = row_of_day ds i r d (omega (arith, less)) in
    (omega (arith, more.0), more.1)

-- what holds of all holds at a place
pub seal_at : (ds : List DayRecord) (i : ℕ) (d : DayRecord) →
    AllByRecursion (λ (r : DayRecord). r.tariffs ≡ seal_of []) ds → i < length ds → (get_or ds i d).tariffs ≡ seal_of []
seal_at [] i d all less = absurd (omega (arith, less))
seal_at (x ∷ ds) zero d all less = all.0
seal_at (x ∷ ds) (suc i) d all less = seal_at ds i d all.1 (omega (arith, less))

-- an understood text has an outline
pub outlined : (r : Result Compiled CompileError) (s : Outline) → Outlines r s → IsUnderstood r
outlined (Ok c) s h = tt
outlined (Err e) s h = h

-- a store's error is no error of a text
never_store : (cause : StoreError) (fault : CompileError) → SqlInputError fault ≡ store_error cause → ⊥
never_store OutOfMemory fault e = cc
never_store Io fault e = cc
never_store Corrupt fault e = cc
never_store Full fault e = cc
never_store Broken fault e = cc
never_store Unstorable fault e = cc

-- a text that is refused as such is not understood, and changes nothing
pub missed : (old new : State) (sql : List ℕ) (params : Row) (e : Error) (fault : CompileError) →
    e ≡ SqlInputError fault → IsNotRun old new sql params e → (¬ IsUnderstood (understood old.now.schema sql))
    × IsUnchanged old new
unfolding IsNotRun
missed old new sql params e fault is (inl (inl wrong, same)) = (λ said. subst IsUnderstood wrong.1 said, same)
missed old new sql params e fault is (inl (inr (c, known, inl many), same)) = absurd (let bad = sym is ∙ many.1 in cc)
missed old new sql params e fault is (inl (inr (c, known, inr (inl count)), same)) =
    absurd (let bad = sym is ∙ count.1 in cc)
missed old new sql params e fault is (inl (inr (c, known, inr (inr clock)), same)) =
    absurd (let bad = sym is ∙ clock.1 in cc)
missed old new sql params e fault is (inr fails) = absurd (never_store fails.0 fault (sym is ∙ fails.1))

-- a plain text is understood
plain_understood : (r : Result Compiled CompileError) → IsPlain r → IsUnderstood r
plain_understood (Ok c) plain = tt
plain_understood (Err e) plain = plain

-- what a database without six tables stands for, by whether the table of days is there
pub stood_by : (is_old : Bool) (db : Database) (o : Office) → StandsForOffice db o → LacksVersion db →
    SaysIf is_old (IsUnderstood (understood db.schema list_days)) → Stood is_old db o
stood_by true db o (inl none) lacks says =
    absurd (subst IsUnderstood (ap (λ (s : Schema). understood s list_days) none.0 ∙ no_days) says)
stood_by false db o (inl none) lacks says = none
stood_by true db o (inr (inl old)) lacks says = old
stood_by false db o (inr (inl old)) lacks says =
    absurd (says
    (subst (λ (s : Schema). IsUnderstood (understood s list_days)) (sym old.tables.schema)
    (plain_understood _ old_days_plain)))
stood_by is_old db o (inr (inr has)) lacks says =
    absurd (lacks
    (subst (λ (s : Schema). IsUnderstood (understood s find_version)) (sym has.tables.schema)
    (plain_understood _ find_version_plain.0)))

-- with a version, what a database stands for is in six tables
pub six_there : (db : Database) (o : Office) → StandsForOffice db o → IsUnderstood (understood db.schema find_version) →
    HasOffice db o
six_there db o (inl none) said =
    absurd (subst IsUnderstood (ap (λ (s : Schema). understood s find_version) none.0 ∙ no_version) said)
six_there db o (inr (inl old)) said =
    absurd (subst IsUnderstood (ap (λ (s : Schema). understood s find_version) old.tables.schema ∙ no_old_version) said)
six_there db o (inr (inr has)) said = has

-- the query for all days changes nothing
pub asked_same : {X : Type 0} (rows_in : X → List Row) (old new : State) (r : Result X Error) →
    IfOk r (λ x. Shown list_days [] old new (rows_in x)) → OnOk r (IsUnchanged old new)
asked_same rows_in old new (Ok x) shown = asked_changes_nothing list_days [] old new (rows_in x) list_days_asks shown
asked_same rows_in old new (Err e) shown = tt

-- in a transaction too, what is committed stays
pub asked_inside : {X : Type 0} (rows_in : X → List Row) (old new : State) (r : Result X Error) →
    IfOk r (λ x. Shown list_days [] old new (rows_in x)) →
    IfErr r (λ e. FailsToQuery list_days [] old new e ⊎ IsTooLate list_days [] old new e) → KeepsCommit old new
asked_inside rows_in old new (Ok x) shown fails =
    kept_same old new (asked_changes_nothing list_days [] old new (rows_in x) list_days_asks shown)
asked_inside rows_in old new (Err e) shown (inl fails) = kept_if_unread old new list_days [] e fails
asked_inside rows_in old new (Err e) shown (inr late) = kept_same old new late.5

-- any day
abbrev pub no_day : DayRecord
no_day = record {
  day = 0;
  digest = record { bytes = [] };
  bytes = 0;
  tuples = 0;
  notices = 0;
  notices_digest = record { bytes = [] };
  tariffs = record { bytes = [] };
  total = 0;
}

-- numbers that are stored as the same value are the same
pub same_number : (m n : ℕ) → ◌≡◌ {A = Value} (Int (pos m)) (Int (pos n)) → m ≡ n
same_number m n e = cc

-- what follows of what holds where a call was refused
pub on_err : {T E : Type 0} (r : Result T E) (P Q : Type 0) → OnErr r P → (P → Q) → OnErr r Q
on_err (Ok x) P Q p f = tt
on_err (Err e) P Q p f = f p

-- what is said of a text that was refused as such
pub missed_says : (old new : State) (sql : List ℕ) (e : Error) (r : Result Bool Error) →
    IfOk r (λ is. (is ≡ false) × ((fault : CompileError) × (e ≡ SqlInputError fault))) →
    ((params : Row) → IsNotRun old new sql params e)
    → IfOk r (λ is. SaysIf is (IsUnderstood (understood old.now.schema sql))) × OnOk r (IsUnchanged old new)
missed_says old new sql e (Ok is) h refused =
    let m = missed old new sql [] e h.1.0 h.1.1 (refused []) in
    (subst (λ (b : Bool). SaysIf b (IsUnderstood (understood old.now.schema sql))) (sym h.0) m.0, m.1)
missed_says old new sql e (Err f) h refused = (tt, tt)

-- a text that is not run commits nothing
pub not_run_keeps : (old new : State) (sql : List ℕ) (params : Row) (e : Error) → IsNotRun old new sql params e →
    KeepsCommit old new
unfolding IsNotRun
not_run_keeps old new sql params e (inl h) = kept_same old new h.1
not_run_keeps old new sql params e (inr h) = kept_undone old new h.3

-- a call that keeps what is committed keeps what that stands for
pub still_stands : (old new : State) (o : Office) → IsTrue new.is_open → StandsForOffice old.committed o →
    KeepsCommit old new → StandsForOffice new.committed o
still_stands old new o here stands kept =
    subst (λ (db : Database). StandsForOffice db o) (sym (kept.committed here)) stands

-- what is refused before it began stands for what it did
pub err_stands : {T E : Type 0} (old new : State) (r : Result T E) (P : Type 0) (o : Office) → IsErr r →
    IsTrue new.is_open → StandsForOffice old.committed o → KeepsCommit old new → OnOk r P
    × OnErr r (StandsForOffice new.committed o)
err_stands old new (Ok x) P o err here stands kept = absurd (cc)
err_stands old new (Err e) P o err here stands kept = (tt, still_stands old new o here stands kept)
