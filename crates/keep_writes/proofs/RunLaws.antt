-- What texts did that ran one after another.
use Rattle.std.proofs.Common.{◌≡◌, ◌<◌, ◌+◌, ℕ, true, List, [], ◌∷◌, ◌++◌, map, Ok, IsTrue, refl}
use Rattle.std.proofs.Common.{take, drop, get_or, length, ap, sym, subst, ◌∙◌, arith}
use Rattle.std.proofs.lemmas.List.{map-append, take-append-drop, take_more}
use Rattle.sqlite_value.specs.Order.{Row}
use Rattle.road_time.specs.declared.day.SpentRow.{SpentRow}
use Rattle.sqlite_trees.specs.declared.store.Store.{Ghosts}
use Rattle.sqlite.specs.Held.{Held, state}
use Rattle.sqlite.specs.State.{State, ExecutesInside, HasCleanDisk, KeepsCommit, Survives}
use Rattle.sqlite.proofs.Callers.{survives_begin}
use Rattle.sqlite.proofs.StateLemmas.{survives_then}
use Rattle.keep_writes.specs.Runs.{SeesAs, SeesCommit, RanOne, IsText, RanAll, RanOn, CommitsRun}
use Rattle.keep_writes.specs.Runs.{LeavesNow, LeavesRun}
use Rattle.keep_writes.specs.Writes.{amount_text}

-- a connection shows what it shows
pub sees_self : (s : State) → SeesAs s s
sees_self s here = (here, refl)

-- what one showed that showed what another did
pub sees_then : (one two three : State) → SeesAs one two → SeesAs two three → SeesAs one three
sees_then one two three first second here =
    let later = second here in
    let early = first later.0 in
    (early.0, later.1 ∙ early.1)

-- the amounts before one, that one, and those behind it
pub amounts_cut : (rows : List SpentRow) (place : ℕ) (none : SpentRow) → place < length rows →
    map amount_text rows
    ≡ (map amount_text (take place rows) ++ amount_text (get_or rows place none) ∷ [])
    ++ map amount_text (drop (place + 1) rows)
amounts_cut rows place none below =
    ap (map amount_text) (sym (take-append-drop (place + 1) rows))
    ∙ map-append amount_text (take (place + 1) rows) (drop (place + 1) rows)
    ∙ ap (λ (l : List (List ℕ × Row)). l ++ map amount_text (drop (place + 1) rows))
    (ap (map amount_text) (take_more rows place none below)
    ∙ map-append amount_text (take place rows) (get_or rows place none ∷ []))

module _ {S : Type 0} (g : Ghosts S) where
  -- none ran yet
  pub all_none : (old : Held S) → RanAll g [] old old
  all_none old = sees_self (state g old)

  -- one is the first of some
  pub all_first : (old mid new : Held S) (text : List ℕ × Row) (texts : List (List ℕ × Row)) →
      RanOne g (IsText text) old mid → RanAll g texts mid new → RanAll g (text ∷ texts) old new
  all_first old mid new text texts one more = (old, mid, sees_self (state g old), one, more)

  -- one ran alone
  pub all_once : (old new : Held S) (sql : List ℕ) (params : Row) (count : ℕ) → IsTrue (state g old).in_transaction →
      ExecutesInside 0 sql params (state g old) (state g new) (Ok count) → RanAll g ((sql, params) ∷ []) old new
  all_once old new sql params count inside ran =
      all_first old new new (sql, params) []
      (record { sql = sql; params = params; count = count; written = (refl, refl); inside = inside; ran = ran })
      (all_none new)

  -- some ran, before which nothing was changed
  all_behind : (texts : List (List ℕ × Row)) (old mid new : Held S) → SeesAs (state g old) (state g mid) →
      RanAll g texts mid new → RanAll g texts old new
  all_behind [] old mid new sees ran = sees_then (state g old) (state g mid) (state g new) sees ran
  all_behind (text ∷ texts) old mid new sees (a, b, first, one, more) =
      (a, b, sees_then (state g old) (state g mid) (state g a) sees first, one, more)

  -- some ran, and then some more
  pub all_then : (texts more : List (List ℕ × Row)) (old mid new : Held S) → RanAll g texts old mid →
      RanAll g more mid new → RanAll g (texts ++ more) old new
  all_then [] more old mid new sees ran = all_behind more old mid new sees ran
  all_then (text ∷ texts) more old mid new (a, b, first, one, rest) ran =
      (a, b, first, one, all_then texts more b mid new rest ran)

  -- what ran on what was committed ran on it before a step that commits nothing
  pub on_after : (texts : List (List ℕ × Row)) (old mid before : Held S) → KeepsCommit (state g old) (state g mid) →
      RanOn g texts mid before → RanOn g texts old before
  on_after texts old mid before kept it = record {
    start = it.start;
    found = λ here. let shown = it.found here in (kept.was_open shown.0, shown.1 ∙ kept.committed shown.0);
    ran = it.ran;
  }

  -- in a transaction that began where nothing was under way, what ran ran on what was committed
  pub on_begun : (texts : List (List ℕ × Row)) (old before : Held S) →
      (IsTrue (state g old).is_open → (state g old).now ≡ (state g old).committed) →
      RanAll g texts (record old { in_transaction = true }) before → RanOn g texts old before
  on_begun texts old before settled ran = record {
    start = record old { in_transaction = true };
    found = λ here. (here, settled here);
    ran = ran;
  }

  -- one more amount was put
  pub amounts_next : (rows : List SpentRow) (row : SpentRow) (old mid new : Held S) →
      RanAll g (map amount_text rows) old mid → RanAll g (amount_text row ∷ []) mid new →
      RanAll g (map amount_text (rows ++ row ∷ [])) old new
  amounts_next rows row old mid new so_far one =
      subst (λ (l : List (List ℕ × Row)). RanAll g l old new) (sym (map-append amount_text rows (row ∷ [])))
      (all_then (map amount_text rows) (amount_text row ∷ []) old mid new so_far one)

  -- what is committed of a transaction that began with the call, where nothing was under way
  pub commits_begun : (texts : List (List ℕ × Row)) (old last new : Held S) →
      (IsTrue (state g old).is_open → (state g old).now ≡ (state g old).committed) →
      RanAll g texts (record old { in_transaction = true }) last → (state g new).committed ≡ (state g last).now →
      CommitsRun g texts old new
  commits_begun texts old last new settled ran committed =
      record { last = last; ran = on_begun texts old last settled ran; committed = committed }

  -- what a call commits that began with a step that commits nothing
  pub commits_after : (texts : List (List ℕ × Row)) (old mid new : Held S) → KeepsCommit (state g old) (state g mid) →
      CommitsRun g texts mid new → CommitsRun g texts old new
  commits_after texts old mid new kept it =
      record { last = it.last; ran = on_after texts old mid it.last kept it.ran; committed = it.committed }

  -- what a crash leaves of a transaction that began with the call, was written and then committed
  pub commit_leaves : (texts : List (List ℕ × Row)) (old last end : Held S) →
      Survives (state g (record old { in_transaction = true })) (state g last) (λ _. ⊥) →
      Survives (state g last) (state g end) (λ db. db ≡ (state g last).now.trees) →
      (HasCleanDisk (state g last) → RanAll g texts (record old { in_transaction = true }) last) →
      Survives (state g old) (state g end) (LeavesNow g texts old)
  commit_leaves texts old last end written committed ran =
      survives_then (state g old) (state g last) (state g end) (λ _. ⊥) (λ db. db ≡ (state g last).now.trees)
      (LeavesNow g texts old) (λ _ db none. absurd none)
      (λ clean db is.
      let late : HasCleanDisk (state g last) = omega (arith, committed.clean) in
      (last, all_behind texts old (record old { in_transaction = true }) last (λ here. (here, refl)) (ran late), is))
      (survives_begin g old (state g last) _ written) committed

  -- what one leaves of a call that began with a step that commits nothing
  pub leaves_after : (texts : List (List ℕ × Row)) (old mid new : Held S) →
      (HasCleanDisk (state g mid) → IsTrue (state g mid).is_open → (state g mid).now ≡ (state g mid).committed) →
      (HasCleanDisk (state g mid) → KeepsCommit (state g old) (state g mid)) →
      Survives (state g old) (state g mid) (λ _. ⊥) → Survives (state g mid) (state g new) (LeavesNow g texts mid) →
      Survives (state g old) (state g new) (LeavesRun g texts old)
  leaves_after texts old mid new settled kept first last =
      survives_then (state g old) (state g mid) (state g new) (λ _. ⊥) (LeavesNow g texts mid) (LeavesRun g texts old)
      (λ _ db none. absurd none)
      (λ clean db made.
      let early : HasCleanDisk (state g mid) = omega (arith, last.clean) in
      record {
        last = made.0;
        ran = record {
          start = mid;
          found = λ here. ((kept early).was_open here, settled early here ∙ (kept early).committed here);
          ran = made.1;
        };
        is = made.2;
      }) first last

  -- so behind a step that comes before such a call
  pub leaves_behind : (texts : List (List ℕ × Row)) (old mid new : Held S) →
      (HasCleanDisk (state g mid) → KeepsCommit (state g old) (state g mid)) →
      Survives (state g old) (state g mid) (λ _. ⊥) → Survives (state g mid) (state g new) (LeavesRun g texts mid) →
      Survives (state g old) (state g new) (LeavesRun g texts old)
  leaves_behind texts old mid new kept first last =
      survives_then (state g old) (state g mid) (state g new) (λ _. ⊥) (LeavesRun g texts mid) (LeavesRun g texts old)
      (λ _ db none. absurd none)
      (λ clean db made.
      let early : HasCleanDisk (state g mid) = omega (arith, last.clean) in
      record { last = made.last; ran = on_after texts old mid made.last (kept early) made.ran; is = made.is })
      first last
