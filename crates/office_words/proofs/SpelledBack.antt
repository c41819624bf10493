-- Words that are read so are spelled so: from the grammar as a function back to the relation.
use Rattle.std.proofs.Common.{◌≡◌, ◌∙◌, ◌||◌, Bool, true, false, refl, sym, ap, subst, List, [], ◌∷◌, ◌++◌, map, Option}
use Rattle.std.proofs.Common.{Some, None, option_and_then, bytes_eq, append-nil, append_assoc, true≢false}
use Rattle.std.specs.List.{list_all}
use Rattle.std.specs.Option.{unwrap_or}
use Rattle.std.proofs.lemmas.Option.{none-some}
use Rattle.std.proofs.lemmas.Slice.Eq.{bytes_eq-Decides}
use Rattle.office_words.specs.Grammar.{Form, Text, Said, WordLook, ending, alone, joined, refused, plain, look}
use Rattle.office_words.specs.Grammar.{contains, is_said, give, says, stands, whole, words_placed}
use Rattle.office_words.specs.Spelling.{Item, in_place, apart, joint, flagged, AllFit, words_of, said_in}
use Rattle.office_words.specs.Spelling.{places_filled, HasFreshNames, Spells}
use Rattle.office_words.proofs.Looks.{Written, written, is_said_more, by_look, by_value}
use Rattle.office_words.proofs.Spelling.{Open}

module _ (f : Form) where
  -- two names that differ, the other way round
  apart_back : (q n : Text) → bytes_eq q n ≡ false → bytes_eq n q ≡ false
  apart_back q n e = go (bytes_eq n q) refl
    where
      go : (b : Bool) → bytes_eq n q ≡ b → b ≡ false
      go true h = absurd (true≢false (sym ((bytes_eq-Decides q n).1 (sym ((bytes_eq-Decides n q).0 h))) ∙ e))
      go false h = refl

  -- neither holds
  both_false : (a b : Bool) → (a || b) ≡ false → (a ≡ false) × (b ≡ false)
  both_false true b e = absurd (true≢false e)
  both_false false b e = (refl, e)

  -- places stay open behind another name
  still_open : (left : List Text) (said : Said) (n v : Text) → contains left n ≡ false → Open f left said →
      Open f left (said ++ (n, v) ∷ [])
  still_open [] said n v new o = tt
  still_open (q ∷ left) said n v new o =
      let k = both_false (bytes_eq q n) (contains left n) new in
      (o.0, rw (is_said_more q n v said, o.1) (apart_back q n k.0), o.2, o.3, still_open left said n v k.1 o.4)

  -- an option or flag is no place to come
  named_new : (left : List Text) (said : Said) (n : Text) → (contains f.options n || contains f.flags n) ≡ true →
      Open f left said → contains left n ≡ false
  named_new [] said n has o = refl
  named_new (q ∷ left) said n has o = go (bytes_eq q n) refl (named_new left said n has o.4)
    where
      go : (b : Bool) → bytes_eq q n ≡ b → contains left n ≡ false → (b || contains left n) ≡ false
      go true e rest =
          let same : (contains f.options q || contains f.flags q) ≡ true =
          subst (λ x. (contains f.options x || contains f.flags x) ≡ true) (sym ((bytes_eq-Decides q n).0 e)) has in
          absurd (true≢false (sym same ∙ o.3))
      go false e rest = rest

  -- an option is no place to come
  option_new : (left : List Text) (said : Said) (n : Text) → contains f.options n ≡ true → Open f left said →
      contains left n ≡ false
  option_new left said n has o = named_new left said n (rw has refl) o

  -- nor is a flag
  flag_new : (left : List Text) (said : Said) (n : Text) → contains f.flags n ≡ true → Open f left said →
      contains left n ≡ false
  flag_new left said n has o = named_new left said n (rw has (go (contains f.options n))) o
    where
      go : (b : Bool) → (b || true) ≡ true
      go true = refl
      go false = refl

  -- a name that is given was not said
  given : (n v : Text) (said out : Said) (F : Said → Option Said) → option_and_then F (give n v said) ≡ Some out →
      (is_said n said ≡ false) × (F (said ++ (n, v) ∷ []) ≡ Some out)
  given n v said out F e = go (is_said n said) refl
    where
      go : (b : Bool) → is_said n said ≡ b → (is_said n said ≡ false) × (F (said ++ (n, v) ∷ []) ≡ Some out)
      go true i = absurd (none-some out (rw i at e))
      go false i = (i, rw i at e)

  -- a place is said where all are
  said_place : (ps : List Text) (said : Said) (n : Text) → list_all (λ p. is_said p said) ps ≡ true →
      contains ps n ≡ true → is_said n said ≡ true
  said_place [] said n all has = absurd (true≢false (sym has))
  said_place (p ∷ ps) said n all has = go (bytes_eq p n) (is_said p said) refl refl (said_place ps said n)
    where
      go : (b d : Bool) → bytes_eq p n ≡ b → is_said p said ≡ d →
          (list_all (λ q. is_said q said) ps ≡ true → contains ps n ≡ true → is_said n said ≡ true) →
          is_said n said ≡ true
      go b false e i rest =
          let bad : false ≡ true = rw i at all in
          absurd (true≢false (sym bad))
      go true true e i rest = subst (λ x. is_said x said ≡ true) ((bytes_eq-Decides p n).0 e) i
      go false true e i rest = rest (rw i at all) (rw e at has)

  -- no place is to come where all are said
  ends : (left : List Text) (said out : Said) → Open f left said → whole f said ≡ Some out → (left ≡ []) × (out ≡ said)
  ends left said out o e = go (list_all (λ p. is_said p said) f.places) refl
    where
      none_left : (ps : List Text) → Open f ps said → list_all (λ p. is_said p said) f.places ≡ true → ps ≡ []
      none_left [] k all = refl
      none_left (p ∷ ps) k all = absurd (true≢false (sym (said_place f.places said p all k.0) ∙ k.1))

      go : (b : Bool) → list_all (λ p. is_said p said) f.places ≡ b → (left ≡ []) × (out ≡ said)
      go true all =
          let same : Some said ≡ Some out = rw all at e in
          (none_left left o all, sym (ap (λ x. unwrap_or x said) same))
      go false all = absurd (none-some out (rw all at e))

  -- what is read behind `--` is of places in turn
  from_placed : (words left : List Text) (said out : Said) → Open f left said → words_placed f left said words ≡
      Some out
      → (rest : Said) × (words ≡ map (λ p. p.1) rest) × (out ≡ said ++ rest) × (map (λ p. p.0) rest ≡ left)
      × HasFreshNames said rest
  from_placed [] left said out o e =
      let k = ends left said out o e in
      ([], refl, k.1 ∙ sym (append-nil said), sym k.0, tt)
  from_placed (word ∷ words) [] said out o e = absurd (none-some out e)
  from_placed (word ∷ words) (place ∷ left) said out o e =
      let g = given place word said out (λ now. words_placed f left now words) e in
      let r = from_placed words left (said ++ (place, word) ∷ []) out (still_open left said place word o.2 o.4) g.1 in (
        (place, word) ∷ r.0,
        ap (λ ws. word ∷ ws) r.1,
        r.2
            ∙ append_assoc said ((place, word) ∷ []) r.0,
        ap (λ ps. place ∷ ps) r.3,
        (g.0, r.4),
      )

  -- the words are items, and then places behind `--`, if there are any
  abbrev Parts : List Text → Said → List Text → Said → Type 0
  Parts left said words out = (items : List Item) × (rest : Option Said) × (words ≡ words_of items rest)
      × (out ≡ said ++ said_in items rest) × AllFit f items × (places_filled items rest ≡ left)
      × HasFreshNames said (said_in items rest)

  -- words that are read so are spelled so
  abbrev FromNone : List Text → Type 0
  FromNone words = (left : List Text) (said out : Said) → Open f left said → says f left None said words ≡ Some out →
      Parts left said words out

  -- and behind an option that awaits its value
  abbrev FromSome : List Text → Type 0
  FromSome words = (left : List Text) (said out : Said) (n : Text) → contains f.options n ≡ true → Open f left said →
      says f left (Some n) said words ≡ Some out
      → (v : Text) × (more : List Text) × (words ≡ v ∷ more) × (look v ≡ plain) × (is_said n said ≡ false)
      × Parts left (said ++ (n, v) ∷ []) more out

  -- a word more
  none_step : (word : Text) (words : List Text) → FromNone words → FromSome words → FromNone (word ∷ words)
  none_step word words fn fs left said out o e = go (look word) refl (written word) e
    where
      go : (l : WordLook) → look word ≡ l → Written l word → by_look f word words left said l ≡ Some out →
          Parts left said (word ∷ words) out
      go ending is w h =
          let r = from_placed words left said out o h in
          ([], Some r.0, (λ i. w i ∷ r.1 i), r.2, tt, r.3, r.4)
      go (alone n) is w h = has_it (contains f.options n) refl
        where
          has_it : (b : Bool) → contains f.options n ≡ b → Parts left said (word ∷ words) out
          has_it true has =
              let r = fs left said out n has o (rw has at h) in
              let p = r.5 in (
                apart n r.0 ∷ p.0,
                p.1,
                (λ i. w i ∷ (r.2 ∙ ap (λ ws. r.0 ∷ ws) p.2) i),
                p.3
                    ∙ append_assoc said ((n, r.0) ∷ []) (said_in p.0 p.1),
                ((has, r.3), p.4),
                p.5,
                (r.4, p.6),
              )
          has_it false has = stands_so (contains f.flags n) refl
            where
              stands_so : (b : Bool) → contains f.flags n ≡ b → Parts left said (word ∷ words) out
              stands_so true flag =
                  let g = given n stands said out (λ now. says f left None now words) (rw (has, flag) at h) in
                  let p = fn left (said ++ (n, stands) ∷ []) out
                  (still_open left said n stands (flag_new left said n flag o) o) g.1 in (
                    flagged n ∷ p.0,
                    p.1,
                    (λ i. w i ∷ p.2 i),
                    p.3
                        ∙ append_assoc said ((n, stands) ∷ []) (said_in p.0 p.1),
                    ((has, flag), p.4),
                    p.5,
                    (g.0, p.6),
                  )
              stands_so false flag = absurd (none-some out (rw (has, flag) at h))
      go (joined n v) is w h = has_it (contains f.options n) refl
        where
          has_it : (b : Bool) → contains f.options n ≡ b → Parts left said (word ∷ words) out
          has_it true has =
              let g = given n v said out (λ now. says f left None now words) (rw has at h) in
              let p = fn left (said ++ (n, v) ∷ []) out (still_open left said n v (option_new left said n has o) o)
              g.1 in (
                joint n v ∷ p.0,
                p.1,
                (λ i. w i ∷ p.2 i),
                p.3
                    ∙ append_assoc said ((n, v) ∷ []) (said_in p.0 p.1),
                (has, p.4),
                p.5,
                (g.0, p.6),
              )
          has_it false has = absurd (none-some out (rw has at h))
      go refused is w h = absurd (none-some out h)
      go plain is w h = to_place left o h
        where
          to_place : (ps : List Text) → Open f ps said → by_look f word words ps said plain ≡ Some out →
              Parts ps said (word ∷ words) out
          to_place [] k x = absurd (none-some out x)
          to_place (place ∷ ps) k x =
              let g = given place word said out (λ now. says f ps None now words) x in
              let p = fn ps (said ++ (place, word) ∷ []) out (still_open ps said place word k.2 k.4) g.1 in (
                in_place place word ∷ p.0,
                p.1,
                ap (λ ws. word ∷ ws) p.2,
                p.3
                    ∙ append_assoc said ((place, word) ∷ []) (said_in p.0 p.1),
                (is, p.4),
                ap (λ qs. place ∷ qs) p.5,
                (g.0, p.6),
              )

  -- a word more where a value is awaited
  some_step : (word : Text) (words : List Text) → FromNone words → FromSome (word ∷ words)
  some_step word words fn left said out n has o e = go (look word) refl e
    where
      go : (l : WordLook) → look word ≡ l → by_value f word words left n said l ≡ Some out
          → (v : Text) × (more : List Text) × (word ∷ words ≡ v ∷ more) × (look v ≡ plain) × (is_said n said ≡ false)
          × Parts left (said ++ (n, v) ∷ []) more out
      go ending is h = absurd (none-some out h)
      go (alone x) is h = absurd (none-some out h)
      go (joined x v) is h = absurd (none-some out h)
      go refused is h = absurd (none-some out h)
      go plain is h =
          let g = given n word said out (λ now. says f left None now words) h in (
            word,
            words,
            refl,
            is,
            g.0,
            fn left (said ++ (n, word) ∷ []) out
                (still_open left said n word (option_new left said n has o) o) g.1,
          )

  -- all words
  from_says : (words : List Text) → FromNone words × FromSome words
  from_says [] = (
    (λ left said out o e. let k = ends left said out o e in
        ([], None, refl, k.1 ∙ sym (append-nil said), tt, sym k.0, tt)),
    (λ left said out n has o e. absurd (none-some out e)),
  )
  from_says (word ∷ words) =
      let rest = from_says words in
      (none_step word words rest.0 rest.1, some_step word words rest.0)

  -- words that are read so are spelled so
  pub spelled_back : (words : List Text) (said : Said) → Open f f.places [] → says f f.places None [] words ≡ Some said
      → Spells f words said
  spelled_back words said o e =
      let p = (from_says words).0 f.places [] said o e in
      record {
        items = p.0;
        rest = p.1;
        words_are = p.2;
        said_is = p.3;
        fit = p.4;
        places = p.5;
        once =
            subst (HasFreshNames []) (sym p.3) p.6;
      }
