-- What a look tells of a word, and names that are read as they are written.
use Rattle.std.proofs.Common.{◌≡◌, ◌||◌, ◌==◌, ◌+◌, ℕ, Bool, true, false, suc, refl, sym, ap, subst, List, [], ◌∷◌}
use Rattle.std.proofs.Common.{◌++◌, bytes_eq, arith, true≢false, Option, Some, None, option_and_then, if◌then◌else◌}
use Rattle.std.specs.List.{list_any, list_all, before_first, after_first, position_or_len}
use Rattle.std.proofs.lemmas.Bool.{eqb-true}
use Rattle.std.proofs.lemmas.Slice.Eq.{bytes_eq-Decides}
use Rattle.office_words.specs.Grammar.{Text, Said, WordLook, long_look, look_after_two, look_after_one, is_equals}
use Rattle.office_words.specs.Grammar.{ending, alone, joined, refused, plain, look, contains, is_said, Form, says, give}
use Rattle.office_words.specs.Grammar.{stands, words_placed}

-- how a word of this look is written
abbrev pub Written : WordLook → Text → Type 0
Written ending word = word ≡ 45 ∷ 45 ∷ []
Written (alone n) word = word ≡ 45 ∷ 45 ∷ n
Written (joined n v) word = word ≡ 45 ∷ 45 ∷ (n ++ 61 ∷ v)
Written refused word = Unit {0}
Written plain word = Unit {0}

-- a text with a `=` is what is before it, and what is behind it
first_equals : (xs : Text) → list_any is_equals xs ≡ true →
    xs ≡ before_first is_equals xs ++ 61 ∷ after_first is_equals xs
first_equals [] e = absurd (true≢false (sym e))
first_equals (x ∷ xs) e = go (x == 61) refl (first_equals xs)
  where
    go : (b : Bool) → (x == 61) ≡ b →
        (list_any is_equals xs ≡ true → xs ≡ before_first is_equals xs ++ 61 ∷ after_first is_equals xs)
        → x ∷ xs ≡ before_first is_equals (x ∷ xs) ++ 61 ∷ after_first is_equals (x ∷ xs)
    go true hit rest = rw hit (ap (λ k. k ∷ xs) (eqb-true x 61 hit))
    go false hit rest =
        let some : list_any is_equals xs ≡ true = rw hit at e in
        let n : 1 + position_or_len is_equals xs ≡ suc (position_or_len is_equals xs) = omega arith in
        let m : suc (position_or_len is_equals xs) + 1 ≡ suc (position_or_len is_equals xs + 1) = omega arith in
        rw (hit, n, m) (ap (λ ys. x ∷ ys) (rest some))

-- a look of what is behind `--` says how it is written
written_long : (z : ℕ) (zs : Text) → Written (long_look (z ∷ zs)) (45 ∷ 45 ∷ z ∷ zs)
written_long z zs = go (list_any is_equals (z ∷ zs)) refl
  where
    go : (b : Bool) → list_any is_equals (z ∷ zs) ≡ b → Written (long_look (z ∷ zs)) (45 ∷ 45 ∷ z ∷ zs)
    go true e = rw e (ap (λ ys. 45 ∷ 45 ∷ ys) (first_equals (z ∷ zs) e))
    go false e = rw e refl

-- the same, and of nothing
written_two : (cs : Text) → Written (look_after_two cs) (45 ∷ 45 ∷ cs)
written_two [] = refl
written_two (z ∷ zs) = written_long z zs

-- a look of what is behind one `-` says it too
written_one : (cs : Text) → Written (look_after_one cs) (45 ∷ cs)
written_one [] = tt
written_one (d ∷ ds) = go (d == 45) refl
  where
    go : (b : Bool) → (d == 45) ≡ b → Written (look_after_one (d ∷ ds)) (45 ∷ d ∷ ds)
    go true e = subst (λ k. Written (look_after_one (k ∷ ds)) (45 ∷ k ∷ ds)) (sym (eqb-true d 45 e)) (written_two ds)
    go false e = rw e tt

-- a look says how the word is written
pub written : (word : Text) → Written (look word) word
unfolding look
written [] = tt
written (c ∷ cs) = go (c == 45) refl
  where
    go : (b : Bool) → (c == 45) ≡ b → Written (look (c ∷ cs)) (c ∷ cs)
    go true e = subst (λ k. Written (look (k ∷ cs)) (k ∷ cs)) (sym (eqb-true c 45 e)) (written_one cs)
    go false e = rw e tt

-- the name has no `=`, and is not empty: so it is read as it is written
abbrev pub Plainly : Text → Type 0
Plainly n = (look (45 ∷ 45 ∷ n) ≡ alone n) × ((v : Text) → look (45 ∷ 45 ∷ (n ++ 61 ∷ v)) ≡ joined n v)

-- all names are so
abbrev pub AllPlainly : List Text → Type 0
AllPlainly [] = Unit {0}
AllPlainly (n ∷ ns) = Plainly n × AllPlainly ns

-- each of them is
pub plainly : (os : List Text) (n : Text) → AllPlainly os → contains os n ≡ true → Plainly n
plainly [] n all has = absurd (true≢false (sym has))
plainly (o ∷ os) n all has = go (bytes_eq o n) refl (plainly os n all.1)
  where
    go : (b : Bool) → bytes_eq o n ≡ b → (contains os n ≡ true → Plainly n) → Plainly n
    go true e rest = subst Plainly ((bytes_eq-Decides o n).0 e) all.0
    go false e rest = rest (rw e at has)

-- a name that is among some is among them and others
pub contains_both : (os fs : List Text) (n : Text) → contains (os ++ fs) n ≡ (contains os n || contains fs n)
contains_both [] fs n = refl
contains_both (o ∷ os) fs n = go (bytes_eq o n) (contains_both os fs n)
  where
    go : (b : Bool) → contains (os ++ fs) n ≡ (contains os n || contains fs n) →
        (b || contains (os ++ fs) n) ≡ ((b || contains os n) || contains fs n)
    go true e = refl
    go false e = e

-- an option of the form is read as it is written
pub plain_option : (f : Form) (n : Text) → AllPlainly (f.options ++ f.flags) → contains f.options n ≡ true → Plainly n
plain_option f n all has =
    plainly (f.options ++ f.flags) n all (rw (contains_both f.options f.flags n, has) refl)

-- and so is a flag
pub plain_flag : (f : Form) (n : Text) → AllPlainly (f.options ++ f.flags) → contains f.flags n ≡ true → Plainly n
plain_flag f n all has =
    plainly (f.options ++ f.flags) n all (rw (contains_both f.options f.flags n, has) (go (contains f.options n)))
  where
    go : (b : Bool) → (b || true) ≡ true
    go true = refl
    go false = refl

-- what is said with a name more
pub is_said_more : (m n v : Text) (said : Said) → is_said m (said ++ (n, v) ∷ []) ≡ (is_said m said || bytes_eq n m)
is_said_more m n v [] = go (bytes_eq n m)
  where
    go : (b : Bool) → (b || false) ≡ b
    go true = refl
    go false = refl
is_said_more m n v (p ∷ said) = go (bytes_eq p.0 m) (is_said_more m n v said)
  where
    go : (b : Bool) → is_said m (said ++ (n, v) ∷ []) ≡ (is_said m said || bytes_eq n m) →
        (b || is_said m (said ++ (n, v) ∷ [])) ≡ ((b || is_said m said) || bytes_eq n m)
    go true e = refl
    go false e = e

-- what holds of each name holds of all
pub all_from : (ps : List Text) (test : Text → Bool) → ((n : Text) → contains ps n ≡ true → test n ≡ true) →
    list_all test ps ≡ true
all_from [] test h = refl
all_from (p ∷ ps) test h =
    let here : test p ≡ true = h p (rw ((bytes_eq-Decides p p).1 refl) refl) in
    rw here (all_from ps test (λ n has. h n (more (bytes_eq p n) has)))
  where
    more : {c : Bool} (b : Bool) → c ≡ true → (b || c) ≡ true
    more true e = refl
    more false e = e

-- what the grammar makes of a word with this look
abbrev pub by_look : Form → Text → List Text → List Text → Said → WordLook → Option Said
by_look f word words left said l = elim l [
  | ending ↦ words_placed f left said words
  | alone name ↦ if contains f.options name then says f left (Some name) said words
      else (if contains f.flags name
      then option_and_then (λ now. says f left None now words) (give name stands said) else None)
  | joined name value ↦ if contains f.options name
      then option_and_then (λ now. says f left None now words) (give name value said) else None
  | refused ↦ None
  | plain ↦ elim left [
    | [] ↦ None
    | place ∷ rest ↦ option_and_then (λ now. says f rest None now words) (give place word said)
  ]
]

-- and of one where the value of an option is awaited
abbrev pub by_value : Form → Text → List Text → List Text → Text → Said → WordLook → Option Said
by_value f word words left name said l = elim l [
  | ending ↦ None
  | alone x ↦ None
  | joined x value ↦ None
  | refused ↦ None
  | plain ↦ option_and_then (λ now. says f left None now words) (give name word said)
]
