-- Sums by expressway, and the lines that they make.
use Rattle.std.proofs.Common.{◌≡◌, ℕ, zero, suc, ◌+◌, ◌*◌, ◌^◌, ◌<◌, ◌≤◌, ◌==◌, ⊎_elim, true, false, List, [], ◌∷◌}
use Rattle.std.proofs.Common.{◌++◌, length, take, get_or, set, refl, sym, ap, subst, ◌∙◌, arith}
use Rattle.std.specs.List.{filter}
use Rattle.std.proofs.lemmas.Bool.{cases_Bool, cond-true, cond-false, eqb-true, eqb-false}
use Rattle.std.proofs.lemmas.List.{take_more, append-nil, get_or-set_same, get_or-set_other}
use Rattle.std.proofs.lemmas.List.Elements.{filter-append}
use Rattle.std.proofs.lemmas.List.Sums.{sum_by_push}
use Rattle.road_time.specs.declared.day.SpentRow.{SpentRow}
use Rattle.keep_office.specs.Office.{sum_of_rows}
use Rattle.office_reports.specs.Statements.{sum_on, way_text, ways_text}

-- no line is below the first expressway
pub ways_none : (sums : ℕ → ℕ) → ways_text sums 0 ≡ []
unfolding ways_text
ways_none sums = refl

-- the lines below one expressway more
pub ways_more : (sums : ℕ → ℕ) (n : ℕ) → ways_text sums (n + 1) ≡ ways_text sums n ++ way_text n (sums n)
unfolding ways_text
ways_more sums n = let e : n + 1 ≡ suc n = omega arith in ap (ways_text sums) e

-- the same sums make the same lines
pub ways_same : (f g : ℕ → ℕ) (n : ℕ) → ((x : ℕ) → x < n → f x ≡ g x) → ways_text f n ≡ ways_text g n
unfolding ways_text
ways_same f g zero same = refl
ways_same f g (suc n) same =
    let e : f n ≡ g n = same n (omega arith) in
    ap (λ t. t ++ way_text n (f n)) (ways_same f g n (λ x h. same x (omega (arith, h))))
    ∙ ap (λ s. ways_text g n ++ way_text n s) e

-- a row of the expressway adds its tolls
sum_of_own : (rows : List SpentRow) (r : SpentRow) (x : ℕ) → (r.xway == x) ≡ true →
    sum_on (rows ++ r ∷ []) x ≡ sum_on rows x + r.tolls
sum_of_own rows r x is =
    ap sum_of_rows
    (filter-append (λ s. s.xway == x) rows (r ∷ [])
    ∙ ap (λ zs. filter (λ (s : SpentRow). s.xway == x) rows ++ zs) (cond-true _ _ _ is))
    ∙ sum_by_push (λ (s : SpentRow). s.tolls) (filter (λ (s : SpentRow). s.xway == x) rows) r

-- a row of another adds nothing
sum_of_other : (rows : List SpentRow) (r : SpentRow) (x : ℕ) → (r.xway == x) ≡ false →
    sum_on (rows ++ r ∷ []) x ≡ sum_on rows x
sum_of_other rows r x is =
    ap sum_of_rows
    (filter-append (λ s. s.xway == x) rows (r ∷ [])
    ∙ ap (λ zs. filter (λ (s : SpentRow). s.xway == x) rows ++ zs) (cond-false _ _ _ is) ∙ append-nil _)

module _ (sums : List ℕ) (rows : List SpentRow) (i : ℕ) (d : SpentRow) (tolls : ℕ) (h : i < length rows)
    (inside : (get_or rows i d).xway < length sums) (are : tolls ≡ (get_or rows i d).tolls) where
  -- the sums with the next row's tolls
  abbrev pub added : List ℕ
  added = set sums (get_or rows i d).xway (get_or sums (get_or rows i d).xway 0 + tolls)

  -- they are the sums of one row more
  pub added_sums : ((x : ℕ) → x < 256 → get_or sums x 0 ≡ sum_on (take i rows) x) → (x : ℕ) → x < 256 →
      get_or added x 0 ≡ sum_on (take (i + 1) rows) x
  added_sums so x few =
      let r = get_or rows i d in
      let more : sum_on (take (i + 1) rows) x ≡ sum_on (take i rows ++ r ∷ []) x =
      ap (λ ys. sum_on ys x) (take_more rows i d h) in
      ⊎_elim
      (λ (is : (r.xway == x) ≡ true).
      let at : r.xway ≡ x = eqb-true r.xway x is in
      let now : get_or added x 0 ≡ get_or sums x 0 + tolls =
      subst (λ y. get_or added y 0 ≡ get_or sums y 0 + tolls) at (get_or-set_same sums r.xway _ 0 inside) in
      now ∙ ap (λ s. s + tolls) (so x few) ∙ ap (λ s. sum_on (take i rows) x + s) are
      ∙ sym (more ∙ sum_of_own (take i rows) r x is))
      (λ (is : (r.xway == x) ≡ false).
      get_or-set_other sums r.xway x _ 0 (λ e. eqb-false r.xway x is (sym e)) ∙ so x few
      ∙ sym (more ∙ sum_of_other (take i rows) r x is))
      (cases_Bool (r.xway == x))

  -- and stay small
  pub added_bound : tolls < 2 ^ 64 → ((x : ℕ) → x < 256 → get_or sums x 0 ≤ i * 2 ^ 64) → (x : ℕ) → x < 256 →
      get_or added x 0 ≤ (i + 1) * 2 ^ 64
  added_bound small so x few =
      let r = get_or rows i d in
      ⊎_elim
      (λ (is : (r.xway == x) ≡ true).
      let at : r.xway ≡ x = eqb-true r.xway x is in
      let now : get_or added x 0 ≡ get_or sums x 0 + tolls =
      subst (λ y. get_or added y 0 ≡ get_or sums y 0 + tolls) at (get_or-set_same sums r.xway _ 0 inside) in
      omega (arith, now, so x few, small))
      (λ (is : (r.xway == x) ≡ false). omega (
        arith,
        get_or-set_other sums r.xway x (get_or sums r.xway 0 + tolls) 0 (λ e. eqb-false r.xway x is (sym e)),
        so x few,
      ))
      (cases_Bool (r.xway == x))
