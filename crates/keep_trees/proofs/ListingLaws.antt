-- Where sqlite_schema lists a tree.
use Rattle.std.proofs.Common.{◌≡◌, ℕ, ℤ, pos, ◌<◌, ◌≤◌, ◌^◌, nat_le, true, List, [], ◌∷◌, filter, length}
use Rattle.std.proofs.Common.{refl, sym, ap, subst, ◌∙◌, subst₂, Option, Some, IfSome, inl, inr, arith}
use Rattle.std.specs.List.{AllByRecursion, list_all}
use Rattle.std.proofs.lemmas.Bool.{cases_Bool, and_parts, lt-ltb}
use Rattle.std.proofs.lemmas.Bool.Decides.{nat_tests}
use Rattle.std.proofs.lemmas.List.Sums.{length-filter}
use Rattle.sqlite_value.specs.declared.value.Value.TheVariants.{Int}
use Rattle.sqlite_value.specs.Order.{Row, column}
use Rattle.sqlite_pages.specs.PageMap.{PageMap}
use Rattle.sqlite_btree.specs.Cut.{IsIn}
use Rattle.sqlite_trees.specs.declared.store.Shape.TheVariants.{Table}
use Rattle.sqlite_trees.specs.View.{Finds}
use Rattle.sqlite_trees.specs.Tree.{has_rowid}
use Rattle.sqlite_keyed.proofs.ListLemmas.{all_from_test}
use Rattle.sqlite_store.specs.declared.catalog.Wanted.{Wanted}
use Rattle.sqlite_store.specs.Catalog.{describes, root_in, page_number, is_listed_once, may_stand}
use Rattle.sqlite_store.specs.Db.{IsDb, rows_at}
use Rattle.keep_trees.specs.Pages.{our_trees}
use Rattle.keep_trees.proofs.Members.{into_filter, of_filter}

-- of at most one element, and of two, one is the other
only_one : (e row : Row) (rest : List Row) → length (e ∷ rest) ≤ 1 → IsIn row rest → ⊥
only_one e row [] short at = absurd at
only_one e row (x ∷ rest) short at = omega (arith, short)

-- the only entry that describes a tree has its root
root_of : (w : Wanted) (entries : List Row) (row : Row) → length (filter (describes w) entries) ≤ 1 → IsIn row entries
    → describes w row ≡ true →
    root_in entries w ≡ page_number (column row 4)
root_of w [] row once at is = absurd at
root_of w (e ∷ entries) row once (inl same) is =
    let here : describes w e ≡ true = ap (describes w) (sym same) ∙ is in
    rw here (ap (λ (r : Row). page_number (column r 4)) (sym same))
root_of w (e ∷ entries) row once (inr more) is =
    elim (cases_Bool (describes w e)) [
      | inl here ↦ absurd (only_one e row (filter (describes w) entries) (rw here at once)
          (into_filter (describes w) entries row more is))
      | inr off ↦ rw off (root_of w entries row (rw off at once) more is)
    ]

-- what holds of all, holds of one among them
among_all : (P : Wanted → Type 0) (ws : List Wanted) (w : Wanted) → AllByRecursion P ws → IsIn w ws → P w
among_all P [] w all at = absurd at
among_all P (x ∷ ws) w all (inl is) = subst P (sym is) all.0
among_all P (x ∷ ws) w all (inr more) = among_all P ws w all.1 more

-- a count that is tested to be at most one is
at_most_one : (n : ℕ) → nat_le n 1 ≡ true → n ≤ 1
at_most_one n h = grind (arith, nat_tests, h)

-- a number of 32 bits is a page number
small : (n : ℕ) → n < 2 ^ 32 → page_number (Int (pos n)) ≡ n
small n h = rw (lt-ltb n (2 ^ 32) h) refl

-- a row that is found and describes one of our trees has its root
pub root_is : {size : ℕ} {pages : PageMap} (db : IsDb size our_trees pages) (w : Wanted) (row : Row) (number : ℤ)
    (root : ℕ) → IsIn w our_trees →
    Finds (rows_at size pages Table 1) number row true → describes w row ≡ true → column row 4 ≡ Int (pos root)
    → root < 2 ^ 32 →
    root_in (rows_at size pages Table 1) w ≡ root
unfolding is_listed_once
root_is {size} {pages} db w row number root ours finds is at fits =
    let entries = rows_at size pages Table 1 in
    let three = and_parts _ _ db.known in
    let two = and_parts _ _ three.0 in
    let once = and_parts (list_all (may_stand our_trees) entries) (list_all (is_listed_once entries) our_trees) two.0 in
    let one = among_all (λ (x : Wanted). is_listed_once entries x ≡ true) our_trees w
    (all_from_test (is_listed_once entries) our_trees once.1) ours in
    let there = of_filter (has_rowid number) entries row (subst (IsIn row) (sym finds) (inl refl)) in
    root_of w entries row (subst (λ n. n ≤ 1) (sym (length-filter (describes w) entries)) (at_most_one _ one)) there.0
    is
    ∙ ap page_number at ∙ small root fits

-- where a tree is listed in pages that have not changed since
pub at_first : {size later : ℕ} {pages after : PageMap} (w : Wanted) (found : Option ℕ) (root : ℕ) → later ≡ size
    → after ≡ pages → IsDb size our_trees pages →
    (IsDb later our_trees after → IfSome found (λ r. root_in (rows_at later after Table 1) w ≡ r)) → found ≡ Some root →
    root_in (rows_at size pages Table 1) w ≡ root
at_first {size} {later} {pages} {after} w found root s p db h e =
    let k = subst₂ (λ (n : ℕ) (m : PageMap). IsDb n our_trees m
    → IfSome found (λ r. root_in (rows_at n m Table 1) w ≡ r)) s p h db in
    subst (λ (f : Option ℕ). IfSome f (λ r. root_in (rows_at size pages Table 1) w ≡ r)) e k
