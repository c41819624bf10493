-- What calls show of what was committed, one query after another.
use Rattle.std.proofs.Common.{◌≡◌, ℕ, List, Result, Ok, Err, IfOk, subst}
use Rattle.sqlite_value.specs.Order.{Row}
use Rattle.sqlite_trees.specs.declared.store.Store.{Ghosts}
use Rattle.sqlite.specs.Held.{Held, state}
use Rattle.sqlite.specs.State.{KeepsCommit}
use Rattle.keep_database.specs.Looks.{ShowsCommitted}
use Rattle.keep_database.specs.Shows.{ShowsSuch}
use Rattle.keep_database.proofs.LookLaws.{committed_before}

-- what follows of what holds of an answer
pub ok_then : {T E : Type 0} (r : Result T E) (P Q : T → Type 0) → IfOk r P → ((x : T) → P x → Q x) → IfOk r Q
ok_then (Ok x) P Q p f = f x p
ok_then (Err e) P Q p f = tt

-- what follows of rows that a query shows
pub such_then : {S : Type 0} (g : Ghosts S) (sql : List ℕ) (params : Row) (old : Held S) (P Q : List Row → Type 0) →
    ((rows : List Row) → P rows → Q rows) → ShowsSuch g sql params old P → ShowsSuch g sql params old Q
such_then g sql params old P Q f s =
    record { now = s.now; rows = s.rows; was_open = s.was_open; shown = s.shown; are = f s.rows s.are }

module _ {S : Type 0} (g : Ghosts S) (old mid : Held S) (kept : KeepsCommit (state g old) (state g mid)) where
  -- rows that a step shows, and what is taken of them
  pub such_shown : (sql : List ℕ) (params : Row) (rows found : List Row) (such : List Row → Type 0) →
      ShowsCommitted g sql params old mid rows → found ≡ rows → such found → ShowsSuch g sql params old such
  such_shown sql params rows found such s same are =
      record { now = mid; rows = rows; was_open = kept.was_open s.is_open; shown = s; are = subst such same are }

  -- what is shown after a step that commits nothing is shown before it
  pub such_before : (sql : List ℕ) (params : Row) (such : List Row → Type 0) → ShowsSuch g sql params mid such →
      ShowsSuch g sql params old such
  such_before sql params such s = record {
    now = s.now;
    rows = s.rows;
    was_open = kept.was_open s.was_open;
    shown = committed_before g old mid kept s.now sql params s.rows s.was_open s.shown;
    are = s.are;
  }

  -- so are the rows of two queries
  pub both_before : (sql next : List ℕ) (params values : Row) (such : List Row → List Row → Type 0) →
      ShowsSuch g sql params mid (λ rows. ShowsSuch g next values mid (such rows)) →
      ShowsSuch g sql params old (λ rows. ShowsSuch g next values old (such rows))
  both_before sql next params values such s =
      such_before sql params (λ rows. ShowsSuch g next values old (such rows))
      (such_then g sql params mid (λ rows. ShowsSuch g next values mid (such rows))
      (λ rows. ShowsSuch g next values old (such rows)) (λ rows h. such_before next values (such rows) h) s)

  -- rows that two steps show, and what is taken of both
  pub both_shown : (new : Held S) → KeepsCommit (state g mid) (state g new) → (sql next : List ℕ)
      (params values : Row) (rows seals first second : List Row) (such : List Row → List Row → Type 0) →
      ShowsCommitted g sql params old mid rows → ShowsCommitted g next values mid new seals → first ≡ rows →
      second ≡ seals → such first second →
      ShowsSuch g sql params old (λ l. ShowsSuch g next values old (such l))
  both_shown new still sql next params values rows seals first second such s t same alike are =
      such_shown sql params rows first (λ l. ShowsSuch g next values old (such l)) s same
      (such_before next values (such first) (later t alike are))
    where
      later : ShowsCommitted g next values mid new seals → second ≡ seals → such first second →
          ShowsSuch g next values mid (such first)
      later t alike are = record {
        now = new;
        rows = seals;
        was_open = still.was_open t.is_open;
        shown = t;
        are = subst (such first) alike are;
      }
