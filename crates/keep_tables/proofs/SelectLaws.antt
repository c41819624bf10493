-- What the answers of queries on one table are.
use Rattle.std.proofs.Common.{◌≡◌, ℕ, Bool, true, false, cond, List, [], ◌∷◌, ◌++◌, map, filter, flat_map, take, Less}
use Rattle.std.proofs.Common.{refl, ap, subst, ◌∙◌, IsPermutation, IsSorted}
use Rattle.std.proofs.lemmas.Cmp.{on_total}
use Rattle.std.proofs.lemmas.List.Sorted.{IsPermutation-map, IsPermutation-trans}
use Rattle.sqlite_value.specs.declared.value.Value.TheVariants.{Null}
use Rattle.sqlite_value.specs.declared.keys.Key.{Key}
use Rattle.sqlite_value.specs.Order.{Row}
use Rattle.sqlite_trees.specs.Tree.{Trees, IsAscending}
use Rattle.sqlite_sql.specs.Term.{Term, eval_all}
use Rattle.sqlite_sql.specs.Query.{Query, IsSureAnswer, IsAnswer, Output, output, output_cmp}
use Rattle.sqlite_sql.proofs.QueryLemmas.{key_cmp_total}
use Rattle.sqlite_keyed.proofs.ListLemmas.{map-map, ascending-map, filter_all, all_of}
use Rattle.sqlite_keyed.proofs.SortLemmas.{sorted_unique}
use Rattle.keep_tables.specs.Select.{plain, topmost, passes}

-- taking the rows that pass, one by one
flat_map_if : {A B : Type 0} (p : A → Bool) (f : A → B) (xs : List A) →
    flat_map (λ x. cond (p x) (f x ∷ []) []) xs ≡ map f (filter p xs)
flat_map_if p f [] = refl
flat_map_if p f (x ∷ xs) =
    elim (p x) as
    (λ b. cond b (f x ∷ []) [] ++ flat_map (λ y. cond (p y) (f y ∷ []) []) xs
    ≡ map f (cond b (x ∷ filter p xs) (filter p xs)))
    [ true ↦ ap (λ l. f x ∷ l) (flat_map_if p f xs) | false ↦ flat_map_if p f xs ]

-- what is shown of a row
abbrev pub shown : List Term → Row → Row → Row
shown terms params r = eval_all terms (params ∷ r ∷ [])

module _ (table : ℕ) (tests shows : List Term) (order : List (Term × Key)) (db : Trees) (params : Row)
    (rows : List Row) where
  -- the query
  abbrev q : Query
  q = plain table tests shows order

  -- what it makes of a row
  abbrev made : Row → Output
  made r = output q (params ∷ r ∷ [])

  pub record Orders : Type 0 where
    pub ordered : List Output
    pub same : IsPermutation (map made (filter (passes tests params) (db table))) ordered
    pub sorted : IsSorted (output_cmp q) ordered
    pub shown_is : rows ≡ map (λ o. o.1) ordered

  -- an answer has an order that is sorted
  orders : IsSureAnswer q db params rows → Orders
  orders sure =
      let a : IsAnswer q db params rows = sure Null in
      let kept =
      a.distinct
      ∙ ap (map (output q)) (a.grouped ∙ flat_map_if (passes tests params) (λ r. params ∷ r ∷ []) (db table))
      ∙ map-map (output q) (λ r. params ∷ r ∷ []) (filter (passes tests params) (db table)) in
      record {
        ordered = a.ordered;
        same = subst (λ k. IsPermutation k a.ordered) kept a.same;
        sorted =
            a.sorted;
        shown_is = a.shown;
      }

  -- in some order, what is shown of the rows that pass
  pub table_answer : IsSureAnswer q db params rows →
      IsPermutation (map (shown shows params) (filter (passes tests params) (db table))) rows
  table_answer sure =
      let o = orders sure in
      rw (o.shown_is)
      (subst (λ l. IsPermutation l (map (λ p. p.1) o.ordered))
      (map-map (λ p. p.1) made (filter (passes tests params) (db table))) (IsPermutation-map (λ p. p.1) _ _ o.same))

  -- where a list of the rows that pass rises by their keys, it is the answer
  pub ordered_answer : (xs : List Row) → IsPermutation xs (filter (passes tests params) (db table)) →
      IsAscending (λ a b. output_cmp q (made a) (made b) ≡ Less) xs
      → IsSureAnswer q db params rows → rows ≡ map (shown shows params) xs
  ordered_answer xs same up sure =
      let o = orders sure in
      let both = IsPermutation-trans _ _ _ (IsPermutation-map made xs _ same) o.same in
      let one = sorted_unique (output_cmp q) (on_total (λ (p : Output). p.0) (key_cmp_total (map (λ k. k.1) order) 0))
      (map made xs) o.ordered (ascending-map (λ a b. output_cmp q a b ≡ Less) made xs up) both o.sorted in
      o.shown_is ∙ ap (map (λ p. p.1)) one ∙ map-map (λ p. p.1) made xs

  -- where outputs that rise are those of the rows that pass, they are the answer
  pub ordered_by : (outs : List Output) → IsPermutation outs (map made (filter (passes tests params) (db table))) →
      IsAscending (λ a b. output_cmp q a b ≡ Less) outs → IsSureAnswer q db params rows
      → rows ≡ map (λ o. o.1) outs
  ordered_by outs same up sure =
      let o = orders sure in
      let one = sorted_unique (output_cmp q) (on_total (λ (p : Output). p.0) (key_cmp_total (map (λ k. k.1) order) 0))
      outs o.ordered up (IsPermutation-trans _ _ _ same o.same) o.sorted in
      o.shown_is ∙ ap (map (λ p. p.1)) one

-- where a query takes the first row alone, it is the first of the outputs that rise
module _ (table : ℕ) (shows : List Term) (order : List (Term × Key)) (db : Trees) (params : Row) (rows : List Row) where
  -- the query
  abbrev top : Query
  top = topmost table shows order

  pub first_by : (outs : List Output) → IsPermutation outs (map (λ r. output top (params ∷ r ∷ [])) (db table)) →
      IsAscending (λ a b. output_cmp top a b ≡ Less) outs → IsSureAnswer top db params rows
      → rows ≡ take 1 (map (λ o. o.1) outs)
  first_by outs same up sure =
      let a : IsAnswer top db params rows = sure Null in
      let all : filter (passes [] params) (db table) ≡ db table =
      filter_all (passes [] params) (db table) (all_of (λ r. passes [] params r ≡ true) (λ _. refl) (db table)) in
      let kept =
      a.distinct
      ∙ ap (map (output top)) (a.grouped ∙ flat_map_if (passes [] params) (λ r. params ∷ r ∷ []) (db table))
      ∙ map-map (output top) (λ r. params ∷ r ∷ []) (filter (passes [] params) (db table))
      ∙ ap (map (λ r. output top (params ∷ r ∷ []))) all in
      let one = sorted_unique (output_cmp top) (on_total (λ (p : Output). p.0) (key_cmp_total (map (λ k. k.1) order) 0))
      outs a.ordered up (IsPermutation-trans _ _ _ same (subst (λ k. IsPermutation k a.ordered) kept a.same))
      a.sorted in
      a.shown ∙ ap (λ l. take 1 (map (λ p. p.1) l)) one
