-- What whole puts make of the office that trees stand for.
use Rattle.std.proofs.Common.{◌≡◌, pos, Bool, true, false, Result, Ok, Err, IfOk, [], ◌∷◌, ◌++◌, List, Some, refl}
use Rattle.std.proofs.Common.{sym, ap}
use Rattle.std.proofs.Common.{filter, length, subst, subst₂, ◌∙◌, arith}
use Rattle.std.specs.List.{AllByRecursion}
use Rattle.sqlite_value.specs.Order.{Row}
use Rattle.sqlite_trees.specs.Tree.{Trees, has_rowid, put_row}
use Rattle.sqlite_sql.specs.Catalog.{IsIndexOf}
use Rattle.road_time.specs.declared.day.SpentRow.{SpentRow}
use Rattle.keep_office.specs.declared.kept.DayRecord.{DayRecord}
use Rattle.keep_office.specs.declared.kept.PastRecord.{PastRecord}
use Rattle.keep_office.specs.Office.{Office}
use Rattle.keep_office.specs.Kept.{IsDayPut, IsPastPut, IsLater, HasNoDays, with_day, with_past}
use Rattle.keep_tables.specs.Codec.{day_row, seal_row, past_row, version_row}
use Rattle.keep_tables.specs.Stands.{Holds, FitsDay, FitsSpent, FitsPast, contents_of, with_record}
use Rattle.keep_tables.specs.Stands.{with_seal, with_history}
use Rattle.keep_tables.proofs.EditLaws.{other_days, other_seals, other_past}
use Rattle.keep_tables.proofs.DayWriteLaws.{put_last}
use Rattle.keep_tables.proofs.PutLaws.{days_before, adds_holds, day_stands, past_stands}
use Rattle.keep_puts.specs.Trees.{database_of, key_columns, StandFor}
use Rattle.keep_puts.specs.Steps.{IfDone, Joins, AddsKept, MayFollow, IsFreshDay, IsFreshPast}
use Rattle.keep_puts.specs.Room.{HasNumbers, TakesAmounts, TakesDay, TakesPast, TakesAnew}
use Rattle.keep_puts.specs.Clears.{ClearsAll}

-- where neither the amounts nor their index changed, it is still theirs
pub still_indexed : (a b : Trees) → b 1 ≡ a 1 → b 2 ≡ a 2 → IsIndexOf key_columns (a 1) (a 2)
    → IsIndexOf key_columns (b 1) (b 2)
still_indexed a b rows entries was = subst₂ (IsIndexOf key_columns) (sym rows) (sym entries) was

-- a day's record, its seal and its amounts are one day more
pub day_made : (a b c d : Trees) (r : DayRecord) (rows : List SpentRow) (o : Office) → IsDayPut r rows → FitsDay r
    → AllByRecursion FitsSpent rows → Joins 0 (day_row r) (pos r.day) a b → Joins 4 (seal_row r) (pos r.day) b c
    → AddsKept c d rows → StandFor a o → IsLater r.day o → StandFor d (with_day r rows o)
day_made a b c d r rows o put fits small one two adds stand later =
    let has = stand.office in
    let before = days_before o r.day later in
    let version = version_row ∷ [] in
    let first = contents_of o in
    let second = with_record r first in
    let recorded : Holds (database_of b) second =
    other_days version (database_of a) (database_of b) first (o.days ++ r ∷ []) has.tables
    (record {
      schema = refl;
      rows = one.rows ∙ ap (put_row (day_row r)) has.tables.days_are
          ∙ put_last day_row (λ (d : DayRecord). d.day) (λ _. refl) r o.days before;
      others = λ t apart other. one.others t apart;
    }) in
    let sealed : Holds (database_of c) (with_seal r second) =
    other_seals version (database_of b) (database_of c) second (o.days ++ r ∷ []) recorded
    (record {
      schema = refl;
      rows = two.rows ∙ ap (put_row (seal_row r)) recorded.seals_are
          ∙ put_last seal_row (λ (d : DayRecord). d.day) (λ _. refl) r o.days before;
      others = λ t apart other. two.others t apart;
    }) in
    record {
      office = day_stands (database_of a) (database_of d) o r rows has put later fits small
          (adds_holds (database_of c) (database_of d) (with_seal r second) rows sealed adds.adds);
      indexed = adds.indexed (still_indexed a c
          (two.others 1 (λ e. omega (arith, e)) ∙ one.others 1 (λ e. omega (arith, e)))
          (two.others 2 (λ e. omega (arith, e)) ∙ one.others 2 (λ e. omega (arith, e))) stand.indexed);
    }

-- a history's record and its amounts are a history
pub past_made : (a b c : Trees) (p : PastRecord) (rows : List SpentRow) (o : Office) → IsPastPut p rows → FitsPast p
    → AllByRecursion FitsSpent rows → Joins 3 (past_row p) (pos 1) a b → AddsKept b c rows → StandFor a o
    → HasNoDays o → StandFor c (with_past p rows o)
past_made a b c p rows o put fits small one adds stand none =
    let has = stand.office in
    let first = contents_of o in
    let empty : a 3 ≡ [] = has.tables.past_is ∙ rw none.past refl in
    let kept : Holds (database_of b) (with_history p first) =
    other_past (version_row ∷ []) (database_of a) (database_of b) first (Some p) has.tables
    (record {
      schema = refl;
      rows = one.rows ∙ ap (put_row (past_row p)) empty;
      others = λ t apart other. one.others t apart;
    }) in
    record {
      office = past_stands (database_of a) (database_of c) o p rows has put none fits small
          (adds_holds (database_of b) (database_of c) (with_history p first) rows kept adds.adds);
      indexed = adds.indexed (still_indexed a b (one.others 1 (λ e. omega (arith, e)))
          (one.others 2 (λ e. omega (arith, e))) stand.indexed);
    }

-- what two outcomes of a step that was done give
pub done_both : {E : Type 0} (r : Result Bool E) (P Q R : Type 0) → IfOk r (λ done. IfDone done P)
    → IfOk r (λ done. IfDone done Q) → (P → Q → R) → IfOk r (λ done. IfDone done R)
done_both (Ok true) P Q R p q f = f p q
done_both (Ok false) P Q R p q f = tt
done_both (Err e) P Q R p q f = tt

-- a day whose record and seal joined, and whose amounts may follow then, was fresh
pub day_fresh : (a b c : Trees) (r : DayRecord) (rows : List SpentRow) → Joins 0 (day_row r) (pos r.day) a b
    → Joins 4 (seal_row r) (pos r.day) b c → MayFollow (c 2) rows → IsFreshDay r rows a
day_fresh a b c r rows one two follow = record {
  unrecorded = one.free;
  unsealed = subst (λ (l : List Row). filter (has_rowid (pos r.day)) l ≡ [])
      (one.others 4 (λ e. omega (arith, e))) two.free;
  after = subst (λ (l : List Row). MayFollow l rows)
      (two.others 2 (λ e. omega (arith, e)) ∙ one.others 2 (λ e. omega (arith, e))) follow;
}

-- so of a history
pub past_fresh : (a b : Trees) (p : PastRecord) (rows : List SpentRow) → Joins 3 (past_row p) (pos 1) a b
    → MayFollow (b 2) rows → IsFreshPast rows a
past_fresh a b p rows one follow = record {
  unrecorded = one.free;
  after = subst (λ (l : List Row). MayFollow l rows) (one.others 2 (λ e. omega (arith, e))) follow;
}

-- where a day is taken, its amounts are once its record and seal have joined
pub day_takes : (a b c : Trees) (r : DayRecord) (rows : List SpentRow) → Joins 0 (day_row r) (pos r.day) a b
    → Joins 4 (seal_row r) (pos r.day) b c → TakesDay r rows a → TakesAmounts rows c
day_takes a b c r rows one two takes = record {
  after = subst (λ (l : List Row). MayFollow l rows)
      (sym (two.others 2 (λ e. omega (arith, e)) ∙ one.others 2 (λ e. omega (arith, e)))) takes.fresh.after;
  numbers = subst (HasNumbers (length rows))
      (sym (two.others 1 (λ e. omega (arith, e)) ∙ one.others 1 (λ e. omega (arith, e)))) takes.numbers;
}

-- so of a history
pub past_takes : (a b : Trees) (p : PastRecord) (rows : List SpentRow) → Joins 3 (past_row p) (pos 1) a b
    → TakesPast rows a → TakesAmounts rows b
past_takes a b p rows one takes = record {
  after = subst (λ (l : List Row). MayFollow l rows) (sym (one.others 2 (λ e. omega (arith, e)))) takes.fresh.after;
  numbers = subst (HasNumbers (length rows)) (sym (one.others 1 (λ e. omega (arith, e)))) takes.numbers;
}

-- trees that were emptied take a history
pub anew_takes : (a b : Trees) (rows : List SpentRow) → ClearsAll a b → TakesAnew rows a → TakesPast rows b
anew_takes a b rows gone takes = record {
  fresh = record {
    unrecorded = subst (λ (l : List Row). filter (has_rowid (pos 1)) l ≡ []) (sym gone.past) refl;
    after = subst (λ (l : List Row). MayFollow l rows) (sym gone.key) (after_none rows);
  };
  numbers = record {
    first = takes.numbers;
    after = λ front last n is. absurd (never_empty front last (sym is ∙ gone.spent));
  };
}
  where
    never_empty : (front : List Row) (last : Row) → front ++ last ∷ [] ≡ [] → ⊥
    never_empty [] last h = absurd (cc)
    never_empty (x ∷ front) last h = absurd (cc)

    after_none : (more : List SpentRow) → MayFollow [] more
    after_none [] = tt
    after_none (r ∷ more) = λ front last is. absurd (never_empty front last (sym is))

-- what was so of a step that was done is so of an answer that tells the same
pub told_so : {E : Type 0} (r : Result Bool E) (done : Bool) (P Q : Type 0) → IfOk r (λ is. is ≡ done) → IfDone done P
    → (P → Q) → IfOk r (λ is. IfDone is Q)
told_so (Ok true) done P Q same p f = f (subst (λ b. IfDone b P) (sym same) p)
told_so (Ok false) done P Q same p f = tt
told_so (Err e) done P Q same p f = tt
