-- What an amount that is put makes of its table, whose rows have numbers that no column shows.
use Rattle.std.proofs.Common.{◌≡◌, ℕ, not, ◌&&◌, Bool, true, false, List, [], ◌∷◌, ◌++◌, map, drop, None, Ok, refl, ap}
use Rattle.std.proofs.Common.{subst, ◌∙◌, append-nil, append_assoc, IsPermutation}
use Rattle.std.specs.List.{list_any}
use Rattle.std.specs.declared.cmp.Ordering.{Ordering}
use Rattle.std.specs.declared.cmp.Ordering.TheVariants.{Less, Equal, Greater}
use Rattle.std.specs.Ordering.{is_eq, match_ordering}
use Rattle.std.proofs.lemmas.List.Sorted.{IsPermutation-refl, IsPermutation-trans, IsPermutation-cons}
use Rattle.std.proofs.lemmas.List.Sorted.{IsPermutation-map, IsPermutation-sym, IsPermutation-middle}
use Rattle.std.proofs.lemmas.List.{map-append}
use Rattle.sqlite_tied.specs.Compute.{everything}
use Rattle.sqlite_value.specs.declared.value.Value.TheVariants.{Int, Null}
use Rattle.sqlite_value.specs.Order.{Row, value_cmp}
use Rattle.sqlite_trees.specs.Tree.{Trees, rowid, put_row}
use Rattle.sqlite_sql.specs.Term.{lit}
use Rattle.sqlite_schema.specs.declared.command.Command.{Command}
use Rattle.sqlite_schema.specs.declared.command.Command.TheVariants.{Insert}
use Rattle.sqlite_schema.specs.declared.command.Source.TheVariants.{Values}
use Rattle.sqlite_rules.specs.declared.error.Rowids.TheVariants.{Chosen}
use Rattle.sqlite_rules.specs.Edit.{edit_of, edited, put_all, is_taken, next_rowid, are_fresh}
use Rattle.sqlite.specs.Effect.{Database}
use Rattle.sqlite.specs.Rows.{Written}
use Rattle.sqlite.specs.Does.{Does, Tally}
use Rattle.sqlite.specs.State.{State, Executes, mode_of}
use Rattle.sqlite.specs.Listing.{understood}
use Rattle.sqlite.proofs.Callers.{IsPlain, command_of, runs_as, one_step, statement_of}
use Rattle.road_time.specs.declared.day.SpentRow.{SpentRow}
use Rattle.keep_tables.specs.Layout.{all_tables, spent_table}
use Rattle.keep_tables.specs.Texts.{put_spent}
use Rattle.keep_tables.specs.Select.{param_at}
use Rattle.keep_tables.specs.Codec.{spent_row}
use Rattle.keep_tables.specs.Stands.{AreAmountRows}
use Rattle.keep_tables.specs.Steps.{AddsAmounts}
use Rattle.keep_tables.proofs.EditLaws.{went, same_value, cast_int, cast_null}

-- what the text that puts an amount is understood as
abbrev pub put_spent_command : Command
put_spent_command = Insert 1 (Values (lit Null ∷ param_at 0 ∷ param_at 1 ∷ param_at 2 ∷ param_at 3 ∷ []) 5)

-- it is understood so
pub put_spent_is : command_of (understood all_tables put_spent) ≡ put_spent_command
unfolding understood everything
put_spent_is = refl

-- and has no more to it
pub put_spent_plain : IsPlain (understood all_tables put_spent)
unfolding understood everything
put_spent_plain = (refl, refl)

-- a row with a number of its own joins the others
put_fresh : (new : Row) (rows : List Row) → is_taken rows new ≡ false → IsPermutation (new ∷ rows) (put_row new rows)
put_fresh new [] fresh = IsPermutation-refl (new ∷ [])
put_fresh new (r ∷ rows) fresh = go (value_cmp (rowid r) (rowid new)) refl (put_fresh new rows)
  where
    later : is_eq (value_cmp (rowid r) (rowid new)) ≡ false →
        list_any (λ s. is_eq (value_cmp (rowid s) (rowid new))) rows ≡ false
    later apart = rw apart at fresh

    go : (o : Ordering) → value_cmp (rowid r) (rowid new) ≡ o →
        (is_taken rows new ≡ false → IsPermutation (new ∷ rows) (put_row new rows))
        → IsPermutation (new ∷ r ∷ rows) (match_ordering o (r ∷ put_row new rows) (new ∷ rows) (new ∷ r ∷ rows))
    go Less is more = IsPermutation-trans _ _ _ (IsPermutation-sym _ _ (IsPermutation-middle (r ∷ []) new rows))
        (IsPermutation-cons r _ _ (more (later (ap is_eq is))))
    go Equal is more = absurd (let bad = rw is at fresh in cc)
    go Greater is more = IsPermutation-refl (new ∷ r ∷ rows)

-- the edit that an INSERT makes, and what else it leaves
pub spent_edit : (old new : State) (r : SpentRow) (count : ℕ) → old.now.schema ≡ all_tables →
    Executes put_spent (spent_row r) old new (Ok count)
    → (row : Row) × (drop 1 row ≡ spent_row r) × (is_taken (old.now.trees 1) row ≡ false)
    × (new.now.schema ≡ all_tables) × (new.now.trees 1 ≡ put_row row (old.now.trees 1))
    × ((n : ℕ) → (n ≡ 1 → ⊥) → (2 ≡ n → ⊥) → new.now.trees n ≡ old.now.trees n)
spent_edit old new r count schema ran =
    let params = spent_row r in
    let db = old.now.trees in
    let w = runs_as put_spent params old new all_tables schema put_spent_command put_spent_is put_spent_plain count
    ran in
    let text = statement_of put_spent (understood all_tables put_spent) in
    let done =
    went (subst
    (λ s. Does old.step_limit (mode_of old) params (record old.now { schema = s }) text None put_spent_command
    (Ok (w.tally, new.now))) schema w.changed) in
    let now = ap (λ (p : Tally × Database). p.1) (same_value (went (went done.2).2).2) in
    let from = went done.1 in
    let written = went (went from.2).2 in
    let counted = went written.2 in
    let trees : done.0.trees ≡ written.0 = ap (λ (it : Written). it.trees) (same_value counted.2)
    ∙ same_value counted.1 in
    let step = one_step all_tables _ db written.0 (edit_of db spent_table [] Chosen 0 from.0) refl written.1 in
    let row : Row = Int (next_rowid (db 1)) ∷ spent_row r in
    let news : (edit_of db spent_table [] Chosen 0 from.0).news ≡ row ∷ [] =
    ap (λ all. (edit_of db spent_table [] Chosen 0 all).news) from.1.1
    ∙ rw (cast_null, cast_int r.day, cast_int r.vid, cast_int r.xway, cast_int r.tolls) refl in
    let edit : edited db (edit_of db spent_table [] Chosen 0 from.0) ≡ put_row row (db 1) = ap (put_all (db 1)) news in
    let fresh : (not (is_taken (db 1) row) && true) ≡ true =
    subst (λ (all : List Row). are_fresh (db 1) all ≡ true) news step.fresh in
    let at = λ (n : ℕ). let e : new.now.trees n ≡ written.0 n = ap (λ (d : Database). d.trees n) now
    ∙ ap (λ (all : Trees). all n) trees in e in (
      row,
      refl,
      untaken (is_taken (db 1) row) fresh,
      ap (λ (d : Database). d.schema) now,
      at 1 ∙ step.rows
          ∙ edit,
      λ n other apart. at n ∙ step.others n other (apart, tt),
    )
  where
    untaken : (b : Bool) → (not b && true) ≡ true → b ≡ false
    untaken true h = absurd (cc)
    untaken false h = refl

-- the amounts with one more
pub spent_put : (old new : State) (r : SpentRow) (count : ℕ) (rows : List SpentRow) → old.now.schema ≡ all_tables →
    AreAmountRows rows (old.now.trees 1) → Executes put_spent (spent_row r) old new (Ok count)
    → (new.now.schema ≡ all_tables) × AreAmountRows (rows ++ r ∷ []) (new.now.trees 1)
    × ((n : ℕ) → (n ≡ 1 → ⊥) → (2 ≡ n → ⊥) → new.now.trees n ≡ old.now.trees n)
spent_put old new r count rows schema are ran =
    let e = spent_edit old new r count schema ran in
    let kept = old.now.trees 1 in
    let joined : IsPermutation (spent_row r ∷ map (drop 1) kept) (map (drop 1) (put_row e.0 kept)) =
    subst (λ x. IsPermutation (x ∷ map (drop 1) kept) (map (drop 1) (put_row e.0 kept))) e.1
    (IsPermutation-map (drop 1) _ _ (put_fresh e.0 kept e.2)) in
    let first : IsPermutation (map spent_row rows ++ spent_row r ∷ []) (spent_row r ∷ map spent_row rows) =
    rw append-nil at (IsPermutation-middle (map spent_row rows) (spent_row r) []) in
    let all =
    IsPermutation-trans _ _ _ first (IsPermutation-trans _ _ _ (IsPermutation-cons (spent_row r) _ _ are) joined) in
    (e.3, rw (map-append spent_row rows (r ∷ []), e.4) all, e.5)

-- one after another
pub adds_then : (a b c : Database) (xs ys : List SpentRow) → AddsAmounts a b xs → AddsAmounts b c ys →
    AddsAmounts a c (xs ++ ys)
adds_then a b c xs ys p q = record {
  schema = q.schema;
  rows = λ kept are. subst (λ l. AreAmountRows l (c.trees 1)) (append_assoc kept xs ys)
      (q.rows (kept ++ xs) (p.rows kept are));
  others = λ tree other apart. q.others tree other apart ∙ p.others tree other apart;
}
