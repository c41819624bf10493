-- What taking rows away makes of trees, and of the office that they stand for.
use Rattle.std.proofs.Common.{◌≡◌, ◌<◌, ℕ, suc, ℤ, Bool, true, false, not, cond, Result, Ok, Err, IfOk, IsTrue, List}
use Rattle.std.proofs.Common.{[], ◌∷◌, ◌++◌, filter, length, Ordering, Less, Equal, Greater, refl}
use Rattle.std.proofs.Common.{sym, ap, subst, subst₂, ◌∙◌, true≢false, arith}
use Rattle.std.specs.List.{AllByRecursion}
use Rattle.std.specs.Ordering.{is_eq, ordering_reverse}
use Rattle.std.proofs.lemmas.List.Sorted.{IsPermutation-refl}
use Rattle.sqlite_value.specs.declared.value.Value.{Value}
use Rattle.sqlite_value.specs.declared.value.Value.TheVariants.{Int}
use Rattle.sqlite_value.specs.declared.value.ValueRef.{ValueRef}
use Rattle.sqlite_value.specs.declared.value.ValueRef.TheVariants as Lent
use Rattle.sqlite_value.specs.Value.{owned}
use Rattle.sqlite_value.specs.declared.keys.Order.{Order}
use Rattle.sqlite_value.specs.Order.{Row, value_cmp}
use Rattle.sqlite_value.specs.Keys.{entry_cmp}
use Rattle.sqlite_value.proofs.OrderLemmas.{value_cmp_total}
use Rattle.sqlite_value.proofs.KeyLemmas.{entry_cmp_total}
use Rattle.sqlite_trees.specs.declared.store.Shape.TheVariants.{Table}
use Rattle.sqlite_trees.specs.Tree.{Trees, rowid, has_rowid, without_rowid, remove_entry, with_tree}
use Rattle.sqlite_trees.specs.View.{View, IsShaped, SetsTree, is_int}
use Rattle.sqlite_exec.specs.Calls.{OnlyReads}
use Rattle.sqlite_exec.specs.Write.{IsLast}
use Rattle.sqlite_sql.specs.Catalog.{IsIndexOf}
use Rattle.road_time.specs.declared.day.SpentRow.{SpentRow}
use Rattle.keep_office.specs.declared.kept.PastRecord.{PastRecord}
use Rattle.keep_office.specs.Office.{Office}
use Rattle.keep_office.specs.Kept.{HasNoDays, with_past}
use Rattle.keep_office.proofs.SoundLaws.{nothing_sound}
use Rattle.keep_office.specs.Renewed.{emptied, anew}
use Rattle.keep_tables.specs.Stands.{AreAmountRows}
use Rattle.keep_tables.specs.Steps.{FitsAny}
use Rattle.keep_puts.specs.Trees.{key_columns, StandFor}
use Rattle.keep_puts.specs.Steps.{IfDone}
use Rattle.keep_puts.specs.Stores.{Makes}
use Rattle.keep_puts.specs.Clears.{OthersStay, Pops, Clears, ClearsAmounts, ClearsDays, ClearsAll}
use Rattle.keep_puts.proofs.ListLaws.{of_end}
use Rattle.keep_puts.proofs.TreeLaws.{with_same, with_other}

-- where a search for the last found none, there is none
pub none_popped : (old new : View) (tree : ℕ) (row : Row) → IsLast (old.trees tree) row false → OnlyReads old new →
    Pops tree false old.trees new.trees
none_popped old new tree row none reads =
    let same : new.trees ≡ old.trees = ap (λ (v : View). v.trees) reads in (
      ap (λ (all : Trees). all tree) same ∙ none,
      λ t apart. ap (λ (all : Trees). all t) same,
    )

-- one was taken away
pub one_popped : (old mid new : View) (tree : ℕ) (edit : List Row → List Row) → OnlyReads old mid →
    SetsTree mid new tree edit → length (edit (old.trees tree)) < length (old.trees tree) →
    Pops tree true old.trees new.trees
one_popped old mid new tree edit reads sets fewer =
    let before : mid.trees ≡ old.trees = ap (λ (v : View). v.trees) reads in
    let here : new.trees tree ≡ with_tree mid.trees tree (edit (mid.trees tree)) tree =
    ap (λ (v : View). v.trees tree) sets.is in
    let this : new.trees tree ≡ edit (old.trees tree) =
    here ∙ with_same mid.trees tree (edit (mid.trees tree)) ∙ ap (λ (all : Trees). edit (all tree)) before in (
      subst (λ (l : List Row). length l < length (old.trees tree)) (sym this) fewer,
      λ t apart.
          let after = ap (λ (v : View). v.trees t) sets.is in
          after ∙ with_other mid.trees tree (edit (mid.trees tree)) t apart ∙ ap (λ (all : Trees). all t) before,
    )

-- a list loses its last, where that is sifted out
sifted : {X : Type 0} (p : X → Bool) (front : List X) (x : X) → p x ≡ false →
    length (filter p (front ++ x ∷ [])) < length (front ++ x ∷ [])
sifted p [] x out = rw out (omega arith)
sifted p (y ∷ front) x out = go (p y) (sifted p front x out)
  where
    go : (b : Bool) → length (filter p (front ++ x ∷ [])) < length (front ++ x ∷ []) →
        length (cond b (y ∷ filter p (front ++ x ∷ [])) (filter p (front ++ x ∷ []))) < suc (length (front ++ x ∷ []))
    go true less = omega (arith, less)
    go false less = omega (arith, less)

-- what comes neither before nor after itself is itself
alike : (o : Ordering) → o ≡ ordering_reverse o → o ≡ Equal
alike Less h = absurd (cc)
alike Equal h = refl
alike Greater h = absurd (cc)

-- the last row is taken away by its number
pub fewer_rows : (rows : List Row) (row : Row) (n : ℤ) → IsLast rows row true → rowid row ≡ Int n →
    length (without_rowid n rows) < length rows
fewer_rows rows row n last is =
    let same : value_cmp (rowid row) (Int n) ≡ Equal =
    subst (λ (v : Value). value_cmp v (Int n) ≡ Equal) (sym is)
    (alike (value_cmp (Int n) (Int n)) (value_cmp_total.antisymm (Int n) (Int n))) in
    subst (λ (l : List Row). length (without_rowid n l) < length l) (sym last.1)
    (sifted (λ r. not (has_rowid n r)) last.0 row (ap (λ (o : Ordering). not (is_eq o)) same))

-- the last entry is taken away as it is
pub fewer_entries : (o : Order) (entries : List Row) (entry : Row) → IsLast entries entry true →
    length (remove_entry o entry entries) < length entries
fewer_entries o entries entry last =
    let same : entry_cmp o entry entry ≡ Equal =
    alike (entry_cmp o entry entry) ((entry_cmp_total o).antisymm entry entry) in
    subst (λ (l : List Row). length (remove_entry o entry l) < length l) (sym last.1)
    (sifted (λ e. not (is_eq (entry_cmp o e entry))) last.0 entry (ap (λ (c : Ordering). not (is_eq c)) same))

-- what a row lends of a column is a number, where that has one
pub lends_number : (lent : ValueRef) (v : Value) → owned lent ≡ v → IsTrue (is_int v)
    → ((n : ℤ) → lent ≡ Lent.Int n → ⊥) → ⊥
lends_number (Lent.Int n) v is int none = none n refl
lends_number Lent.Null v is int none = true≢false (sym (subst (λ (w : Value). IsTrue (is_int w)) (sym is) int))
lends_number (Lent.Real x) v is int none = true≢false (sym (subst (λ (w : Value). IsTrue (is_int w)) (sym is) int))
lends_number (Lent.Text t) v is int none = true≢false (sym (subst (λ (w : Value). IsTrue (is_int w)) (sym is) int))
lends_number (Lent.Blob b) v is int none = true≢false (sym (subst (λ (w : Value). IsTrue (is_int w)) (sym is) int))

-- the last row of a table has a number
pub last_numbered : (rows : List Row) (row : Row) → IsShaped Table rows → IsLast rows row true
    → IsTrue (is_int (rowid row))
last_numbered rows row shaped last =
    of_end (λ (r : Row). IsTrue (is_int (rowid r))) last.0 row
    (subst (AllByRecursion (λ (r : Row). IsTrue (is_int (rowid r)))) last.1 shaped.1)

-- others stay as they stayed
pub stay_then : (a b c : Trees) (tree : ℕ) → OthersStay tree a b → OthersStay tree b c → OthersStay tree a c
stay_then a b c tree p q = λ t apart. q t apart ∙ p t apart

-- none is left of a tree of which some went before
pub cleared_now : (a b c : Trees) (tree : ℕ) → OthersStay tree a b → Pops tree false b c → Clears tree a c
cleared_now a b c tree before none = record {
  empty = none.0;
  others = stay_then a b c tree before none.1;
}

-- two trees are gone
pub amounts_cleared : (a b c : Trees) → Clears 1 a b → Clears 2 b c → ClearsAmounts a c
amounts_cleared a b c p q = record {
  spent = q.others 1 (λ e. omega (arith, e)) ∙ p.empty;
  key = q.empty;
  others = λ t apart other. q.others t other ∙ p.others t apart;
}

pub days_cleared : (a b c : Trees) → Clears 0 a b → Clears 4 b c → ClearsDays a c
days_cleared a b c p q = record {
  days = q.others 0 (λ e. omega (arith, e)) ∙ p.empty;
  seals = q.empty;
  others = λ t apart other. q.others t other ∙ p.others t apart;
}

-- all of them are
pub all_cleared : (a b c d : Trees) → ClearsAmounts a b → ClearsDays b c → Clears 3 c d → ClearsAll a d
all_cleared a b c d p q r = record {
  days = r.others 0 (λ e. omega (arith, e)) ∙ q.days;
  spent = r.others 1 (λ e. omega (arith, e)) ∙ q.others 1 (λ e. omega (arith, e)) (λ e. omega (arith, e)) ∙ p.spent;
  key = r.others 2 (λ e. omega (arith, e)) ∙ q.others 2 (λ e. omega (arith, e)) (λ e. omega (arith, e)) ∙ p.key;
  past = r.empty;
  seals = r.others 4 (λ e. omega (arith, e)) ∙ q.seals;
  others = λ t above. r.others t (λ e. omega (arith, above, e))
      ∙ q.others t (λ e. omega (arith, above, e)) (λ e. omega (arith, above, e))
      ∙ p.others t (λ e. omega (arith, above, e)) (λ e. omega (arith, above, e));
}

-- an office stands with nothing but the tariffs
pub emptied_stands : (old new : Trees) (o : Office) → ClearsAll old new → StandFor old o → StandFor new (emptied o)
emptied_stands old new o gone stand =
    let has = stand.office in
    record {
      office = record {
        tables = record {
          schema = refl;
          days_are = gone.days;
          rows_are = subst (AreAmountRows []) (sym gone.spent) (IsPermutation-refl []);
          past_is = gone.past;
          seals_are = gone.seals;
          tariffs_are = gone.others 5 (omega arith) ∙ has.tables.tariffs_are;
          version = gone.others 6 (omega arith) ∙ has.tables.version;
        };
        fits = record { days = tt; rows = tt; past = tt; tariffs = has.fits.tariffs };
        sound = nothing_sound o.tariffs has.sound.tariffs;
      };
      indexed = subst₂ (IsIndexOf key_columns) (sym gone.spent) (sym gone.key) (IsPermutation-refl []);
    }

-- what was taken away, and a history that was put then, is an office that began anew
pub begun_anew : (a b c : Trees) (p : PastRecord) (rows : List SpentRow) → ClearsAll a b →
    Makes HasNoDays (with_past p rows) b c → Makes FitsAny (anew p rows) a c
begun_anew a b c p rows gone puts o stand _ =
    puts (emptied o) (emptied_stands a b o gone stand) (record { days = refl; past = refl })

-- what follows of a step that was done
pub done_then : {E : Type 0} (r : Result Bool E) (P Q : Type 0) → IfOk r (λ done. IfDone done P) → (P → Q) →
    IfOk r (λ done. IfDone done Q)
done_then (Ok true) P Q p f = f p
done_then (Ok false) P Q p f = tt
done_then (Err e) P Q p f = tt
