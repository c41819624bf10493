-- things that are counted
use Rattle.std.proofs.Common.{◌≡◌, ℕ, suc, ◌+◌, ◌-◌, ◌≤◌, ◌||◌, ⊎_elim, Bool, true, false, cond, List, [], ◌∷◌, length}
use Rattle.std.proofs.Common.{refl, sym, ap, ◌∙◌, arith}
use Rattle.std.specs.List.{list_any, IsDistinct, AllByRecursion}
use Rattle.std.proofs.lemmas.Bool.{cases_Bool, or_cases, or_left, or_right, or_from, false≢true}
use Rattle.std.proofs.lemmas.Map.Keys.{IsDistinct-head, IsDistinct-tail, IsDistinct-cons}
use Rattle.ways_expressway.specs.Counted.{AreSoMany}

-- neither of two, where not one or the other
pub split_or : (a b : Bool) → (a || b) ≡ false → (a ≡ false) × (b ≡ false)
split_or false b h = (refl, h)
split_or true b h = absurd (false≢true (sym h))

module _ {X : Type 0} (same : X → X → Bool) (is : (x y : X) → same x y ≡ true → x ≡ y)
    (itself : (x : X) → same x x ≡ true) where
  -- the test goes both ways
  flips : (x y : X) → same x y ≡ same y x
  flips x y =
      ⊎_elim
      (λ e. e ∙ sym (ap (λ z. same z x) (sym (is x y e)) ∙ itself x))
      (λ e. ⊎_elim (λ f. absurd (false≢true (sym e ∙ ap (λ z. same z y) (sym (is y x f)) ∙ itself y))) (λ f. e ∙ sym f)
      (cases_Bool (same y x)))
      (cases_Bool (same x y))

  -- none of a list is one that it does not have
  none_of : (x : X) (xs : List X) → list_any (same x) xs ≡ false → AllByRecursion (λ y. same x y ≡ false) xs
  none_of x [] h = tt
  none_of x (y ∷ ys) h = let p = split_or (same x y) (list_any (same x) ys) h in (p.0, none_of x ys p.1)

  -- a list has nothing of which none of it is
  none_from : (x : X) (xs : List X) → AllByRecursion (λ y. same x y ≡ false) xs → list_any (same x) xs ≡ false
  none_from x [] h = refl
  none_from x (y ∷ ys) h = or_from (same x y) (list_any (same x) ys) h.0 (none_from x ys h.1)

  -- true with anything
  or_true : (b : Bool) → (b || true) ≡ true
  or_true true = refl
  or_true false = refl

  -- what is in front of a list, and the rest
  added : (x y : X) (b c : Bool) → c ≡ b → (same y x || c) ≡ cond (same x y) true b
  added x y b c h = rw (h, flips y x) (by_cases (same x y) b)
    where
      by_cases : (a b : Bool) → (a || b) ≡ cond a true b
      by_cases true b = refl
      by_cases false b = refl

  -- one more
  pub counted_more : (test after : X → Bool) (n : ℕ) (x : X) → AreSoMany same test n → test x ≡ false →
      ((y : X) → after y ≡ cond (same x y) true (test y)) → AreSoMany same after (n + 1)
  counted_more test after n x h new step = record {
    members = x ∷ h.members;
    distinct = IsDistinct-cons same x h.members (none_of x h.members (h.each x ∙ new)) h.distinct;
    each = λ y. added x y (test y) (list_any (same y) h.members) (h.each y) ∙ sym (step y);
    many = let e = h.many in omega (arith, e);
  }

  -- the others
  abbrev take_out : X → List X → List X
  take_out x [] = []
  take_out x (y ∷ ys) = cond (same x y) ys (y ∷ take_out x ys)

  -- one less in number
  out_length : (x : X) (xs : List X) → list_any (same x) xs ≡ true → length (take_out x xs) + 1 ≡ length xs
  out_length x [] h = absurd (false≢true h)
  out_length x (y ∷ ys) h =
      ⊎_elim
      (λ e. ap (λ b. length (cond b ys (y ∷ take_out x ys)) + 1) e ∙ one_more ys)
      (λ e. ap (λ b. length (cond b ys (y ∷ take_out x ys)) + 1) e
      ∙ (let r = out_length x ys (sym (ap (λ b. b || list_any (same x) ys) e) ∙ h) in omega (arith, r)))
      (cases_Bool (same x y))
    where
      one_more : (ys : List X) → length ys + 1 ≡ suc (length ys)
      one_more ys = omega arith

  -- all the others stay
  out_each : (x : X) (xs : List X) (z : X) → IsDistinct same xs →
      list_any (same z) (take_out x xs) ≡ cond (same x z) false (list_any (same z) xs)
  out_each x [] z h = sides (same x z)
    where
      sides : (b : Bool) → false ≡ cond b false false
      sides true = refl
      sides false = refl
  out_each x (y ∷ ys) z h =
      ⊎_elim
      (λ e. ap (λ b. list_any (same z) (cond b ys (y ∷ take_out x ys))) e ∙ here e)
      (λ e. ap (λ b. list_any (same z) (cond b ys (y ∷ take_out x ys))) e
      ∙ ap (λ b. same z y || b) (out_each x ys z (IsDistinct-tail same y ys h)) ∙ there e)
      (cases_Bool (same x y))
    where
      here : same x y ≡ true → list_any (same z) ys ≡ cond (same x z) false (same z y || list_any (same z) ys)
      here e =
          ⊎_elim
          (λ f. rw f (ap (λ w. list_any (same w) ys) (sym (is x z f) ∙ is x y e)
          ∙ none_from y ys (IsDistinct-head same y ys h)))
          (λ f. rw f (sym (ap (λ b. b || list_any (same z) ys) (flips z y ∙ ap (λ w. same w z) (sym (is x y e)) ∙ f))))
          (cases_Bool (same x z))

      there : same x y ≡ false → (same z y || cond (same x z) false (list_any (same z) ys)) ≡ cond (same x z) false
          (same z y || list_any (same z) ys)
      there e =
          ⊎_elim
          (λ f. rw f (ap (λ b. b || false) (ap (λ w. same w y) (sym (is x z f)) ∙ e)))
          (λ f. rw f refl)
          (cases_Bool (same x z))

  -- what holds of all holds of the others
  out_all : (x : X) (xs : List X) (P : X → Type 0) → AllByRecursion P xs → AllByRecursion P (take_out x xs)
  out_all x [] P h = tt
  out_all x (y ∷ ys) P h = ⊎_elim (λ e. rw e h.1) (λ e. rw e (h.0, out_all x ys P h.1)) (cases_Bool (same x y))

  -- the others are each there once
  out_distinct : (x : X) (xs : List X) → IsDistinct same xs → IsDistinct same (take_out x xs)
  out_distinct x [] h = h
  out_distinct x (y ∷ ys) h =
      ⊎_elim
      (λ e. rw e (IsDistinct-tail same y ys h))
      (λ e. rw e
      (IsDistinct-cons same y (take_out x ys) (out_all x ys (λ z. same y z ≡ false) (IsDistinct-head same y ys h))
      (out_distinct x ys (IsDistinct-tail same y ys h))))
      (cases_Bool (same x y))

  -- one less
  pub counted_less : (test after : X → Bool) (n : ℕ) (x : X) → AreSoMany same test n → test x ≡ true →
      ((y : X) → after y ≡ cond (same x y) false (test y)) → AreSoMany same after (n - 1)
  counted_less test after n x h there step = record {
    members = take_out x h.members;
    distinct = out_distinct x h.members h.distinct;
    each = λ y. out_each x h.members y h.distinct ∙ ap (λ b. cond (same x y) false b) (h.each y) ∙ sym (step y);
    many = let e = h.many in let r = out_length x h.members (h.each x ∙ there) in omega (arith, e, r);
  }

  -- the same ones
  pub counted_same : (test after : X → Bool) (n m : ℕ) → AreSoMany same test n → n ≡ m → ((y : X) → after y ≡ test y) →
      AreSoMany same after m
  counted_same test after n m h e step =
      record { members = h.members; distinct = h.distinct; each = λ y. h.each y ∙ sym (step y); many = h.many ∙ e }

  -- a list with anything has a first
  first_of : (xs : List X) → 1 ≤ length xs → (x : X) × (list_any (same x) xs ≡ true)
  first_of [] h = absurd (omega arith)
  first_of (x ∷ xs) h = (x, or_left (same x x) (list_any (same x) xs) (itself x))

  -- one of those that are counted
  pub counted_one : (test : X → Bool) (n : ℕ) → AreSoMany same test n → 1 ≤ n → (x : X) × (test x ≡ true)
  counted_one test n h g = let w = first_of h.members (let e = h.many in omega (arith, e)) in
      (w.0, sym (h.each w.0) ∙ w.1)

  -- a list that has something is not empty
  some_length : (x : X) (xs : List X) → list_any (same x) xs ≡ true → 1 ≤ length xs
  some_length x [] h = absurd (false≢true h)
  some_length x (y ∷ ys) h = omega arith

  -- where one passes, at least one is counted
  pub one_counted : (test : X → Bool) (n : ℕ) (x : X) → AreSoMany same test n → test x ≡ true → 1 ≤ n
  one_counted test n x h e = let m = h.many in let l = some_length x h.members (h.each x ∙ e) in omega (arith, m, l)

  -- two of a list of two or more, each there once
  two_of : (xs : List X) → IsDistinct same xs → 2 ≤ length xs → (x : X) × (y : X) × (same x y ≡ false)
      × (list_any (same x) xs ≡ true) × (list_any (same y) xs ≡ true)
  two_of [] h g = absurd (omega arith)
  two_of (x ∷ []) h g = absurd (omega arith)
  two_of (x ∷ y ∷ ys) h g = (
    x,
    y,
    (IsDistinct-head same x (y ∷ ys) h).0,
    or_left (same x x) (list_any (same x) (y ∷ ys)) (itself x),
    or_right (same y x) (list_any (same y) (y ∷ ys)) (or_left (same y y) (list_any (same y) ys) (itself y)),
  )

  -- two of those that are counted
  pub counted_two : (test : X → Bool) (n : ℕ) → AreSoMany same test n → 2 ≤ n → (x : X) × (y : X) × (same x y ≡ false)
      × (test x ≡ true) × (test y ≡ true)
  counted_two test n h g =
      let w = two_of h.members h.distinct (let e = h.many in omega (arith, e)) in
      (w.0, w.1, w.2, sym (h.each w.0) ∙ w.3, sym (h.each w.1) ∙ w.4)

  -- of a list of one
  one_only : (x z : X) → (same x z || false) ≡ true → x ≡ z
  one_only x z h = ⊎_elim (λ e. is x z e) (λ e. absurd (false≢true e)) (or_cases (same x z) false h)

  -- a list that has two is of two or more
  both_length : (x y : X) (xs : List X) → same x y ≡ false → list_any (same x) xs ≡ true → list_any (same y) xs ≡ true →
      2 ≤ length xs
  both_length x y [] e f g = absurd (false≢true f)
  both_length x y (z ∷ []) e f g =
      absurd (false≢true (sym e ∙ ap (λ w. same w y) (one_only x z f ∙ sym (one_only y z g)) ∙ itself y))
  both_length x y (z ∷ w ∷ zs) e f g = omega arith

  -- where two pass, at least two are counted
  pub two_counted : (test : X → Bool) (n : ℕ) (x y : X) → AreSoMany same test n → same x y ≡ false → test x ≡ true →
      test y ≡ true → 2 ≤ n
  two_counted test n x y h e f g = let m = h.many in let l =
      both_length x y h.members e (h.each x ∙ f) (h.each y ∙ g) in omega (arith, m, l)
