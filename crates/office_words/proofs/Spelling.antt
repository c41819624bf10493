-- Words that are spelled so are read so: the grammar as a function gives what the grammar as a relation says.
use Rattle.std.proofs.Common.{◌≡◌, ◌∙◌, ◌||◌, Bool, true, false, refl, sym, ap, subst, List, [], ◌∷◌, ◌++◌, map, Option}
use Rattle.std.proofs.Common.{Some, None, bytes_eq, append-nil, append_assoc}
use Rattle.office_words.specs.Grammar.{Form, Text, Said, look, contains, is_said, says, stands, whole, words_placed}
use Rattle.office_words.specs.Spelling.{Item, in_place, apart, joint, flagged, AllFit, words_of, said_in}
use Rattle.office_words.specs.Spelling.{places_filled, HasFreshNames, Spells}
use Rattle.office_words.proofs.Looks.{by_look, by_value}
use Rattle.office_words.proofs.Looks.{plain_option, plain_flag, is_said_more, all_from, AllPlainly}

-- the places to come are the form's, are apart from one another, the options and the flags, and none is said
abbrev pub Open : Form → List Text → Said → Type 0
Open f [] said = Unit {0}
Open f (p ∷ left) said = (contains f.places p ≡ true) × (is_said p said ≡ false) × (contains left p ≡ false)
    × ((contains f.options p || contains f.flags p) ≡ false) × Open f left said

module _ (f : Form) (named : AllPlainly (f.options ++ f.flags)) where
  -- each place is said or is to come
  abbrev Covers : List Text → Said → Type 0
  Covers left said = (n : Text) → contains f.places n ≡ true → (is_said n said || contains left n) ≡ true

  -- a form whose places are all said is whole
  covered : (said : Said) → Covers [] said → whole f said ≡ Some said
  covered said covers = rw (all_from f.places (λ n. is_said n said) (λ n has. go (is_said n said) (covers n has))) refl
    where
      go : (b : Bool) → (b || false) ≡ true → b ≡ true
      go true e = refl
      go false e = e

  -- a place that is said is covered
  covers_place : (n v : Text) (left : List Text) (said : Said) → Covers (n ∷ left) said →
      Covers left (said ++ (n, v) ∷ [])
  covers_place n v left said covers m has =
      rw (is_said_more m n v said) (go (is_said m said) (bytes_eq n m) (covers m has))
    where
      go : (a b : Bool) → (a || (b || contains left m)) ≡ true → ((a || b) || contains left m) ≡ true
      go true b e = refl
      go false b e = e

  -- and an option more covers what was covered
  covers_option : (n v : Text) (left : List Text) (said : Said) → Covers left said → Covers left (said ++ (n, v) ∷ [])
  covers_option n v left said covers m has =
      rw (is_said_more m n v said) (go (is_said m said) (bytes_eq n m) (covers m has))
    where
      go : (a b : Bool) → (a || contains left m) ≡ true → ((a || b) || contains left m) ≡ true
      go true b e = refl
      go false true e = refl
      go false false e = e

  -- what is said of places is read so behind `--`
  to_placed : (rest said : Said) → HasFreshNames said rest → Covers (map (λ p. p.0) rest) said →
      words_placed f (map (λ p. p.0) rest) said (map (λ p. p.1) rest) ≡ Some (said ++ rest)
  to_placed [] said fresh covers = covered said covers ∙ ap (λ s. Some s) (sym (append-nil said))
  to_placed (p ∷ rest) said fresh covers =
      rw fresh.0 (to_placed rest (said ++ p ∷ []) fresh.1 (covers_place p.0 p.1 _ said covers)
      ∙ ap (λ s. Some s) (append_assoc said (p ∷ []) rest))

  -- what is spelled so is read so
  to_says : (items : List Item) (rest : Option Said) (said : Said) → AllFit f items →
      HasFreshNames said (said_in items rest) → Covers (places_filled items rest) said
      → says f (places_filled items rest) None said (words_of items rest) ≡ Some (said ++ said_in items rest)
  unfolding look
  to_says [] None said fit fresh covers = covered said covers ∙ ap (λ s. Some s) (sym (append-nil said))
  to_says [] (Some rest) said fit fresh covers = to_placed rest said fresh covers
  to_says (in_place n w ∷ items) rest said fit fresh covers =
      ap (by_look f w (words_of items rest) (n ∷ places_filled items rest) said) fit.0
      ∙ rw fresh.0 (to_says items rest (said ++ (n, w) ∷ []) fit.1 fresh.1 (covers_place n w _ said covers)
      ∙ ap (λ s. Some s) (append_assoc said ((n, w) ∷ []) (said_in items rest)))
  to_says (apart n v ∷ items) rest said fit fresh covers =
      ap (by_look f (45 ∷ 45 ∷ n) (v ∷ words_of items rest) (places_filled items rest) said)
      (plain_option f n named fit.0.0).0
      ∙ rw fit.0.0 (ap (by_value f v (words_of items rest) (places_filled items rest) n said) fit.0.1
      ∙ rw fresh.0 (to_says items rest (said ++ (n, v) ∷ []) fit.1 fresh.1 (covers_option n v _ said covers)
      ∙ ap (λ s. Some s) (append_assoc said ((n, v) ∷ []) (said_in items rest))))
  to_says (joint n v ∷ items) rest said fit fresh covers =
      ap (by_look f (45 ∷ 45 ∷ (n ++ 61 ∷ v)) (words_of items rest) (places_filled items rest) said)
      ((plain_option f n named fit.0).1 v)
      ∙ rw (fit.0, fresh.0) (to_says items rest (said ++ (n, v) ∷ []) fit.1 fresh.1 (covers_option n v _ said covers)
      ∙ ap (λ s. Some s) (append_assoc said ((n, v) ∷ []) (said_in items rest)))
  to_says (flagged n ∷ items) rest said fit fresh covers =
      ap (by_look f (45 ∷ 45 ∷ n) (words_of items rest) (places_filled items rest) said)
      (plain_flag f n named fit.0.1).0
      ∙ rw (fit.0.0, fit.0.1, fresh.0)
      (to_says items rest (said ++ (n, stands) ∷ []) fit.1 fresh.1 (covers_option n stands _ said covers)
      ∙ ap (λ s. Some s) (append_assoc said ((n, stands) ∷ []) (said_in items rest)))

  -- words that are spelled so are read so
  pub read_back : (words : List Text) (said : Said) → Spells f words said → says f f.places None [] words ≡ Some said
  read_back words said s =
      let fresh : HasFreshNames [] (said_in s.items s.rest) = subst (HasFreshNames []) s.said_is s.once in
      let all : Covers (places_filled s.items s.rest) [] = λ n has. subst (λ ps. contains ps n ≡ true) (sym s.places)
      has in
      ap (says f f.places None []) s.words_are
      ∙ subst (λ ps. says f ps None [] (words_of s.items s.rest) ≡ Some (said_in s.items s.rest)) s.places
      (to_says s.items s.rest [] s.fit fresh all)
      ∙ ap (λ x. Some x) (sym s.said_is)
