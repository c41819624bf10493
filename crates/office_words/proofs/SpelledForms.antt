-- The forms of the office: words are read by them as they are spelled.
use Rattle.std.proofs.Common.{◌≡◌, ◌∙◌, Bool, true, false, refl, ap, subst, List, [], ◌∷◌, ◌++◌, Option, Some}
use Rattle.std.proofs.Common.{None, bytes_eq, codes, find, ◌↔◌}
use Rattle.std.specs.Option.{unwrap_or}
use Rattle.std.proofs.lemmas.Option.{none-some}
use Rattle.office_words.specs.Grammar.{Form, Text, Said, look, says, spoken}
use Rattle.office_words.specs.Table.{forms, audits, audit_flags, runs, sizes}
use Rattle.office_words.specs.Spelling.{Spells, IsSpelled}
use Rattle.office_words.proofs.Looks.{AllPlainly}
use Rattle.office_words.proofs.Spelling.{Open, read_back}
use Rattle.office_words.proofs.SpelledBack.{spelled_back}

-- a form's options and flags are read as they are written, and its places have names of their own
abbrev Sound : Form → Type 0
Sound f = AllPlainly (f.options ++ f.flags) × Open f f.places []

abbrev AllSound : List Form → Type 0
AllSound [] = Unit {0}
AllSound (f ∷ fs) = Sound f × AllSound fs

sound_found : (fs : List Form) (word : Text) (f : Form) → AllSound fs → find (λ g. bytes_eq g.name word) fs ≡ Some f →
    Sound f
sound_found [] word f all e = absurd (none-some f e)
sound_found (g ∷ fs) word f all e = go (bytes_eq g.name word) refl (sound_found fs word f all.1)
  where
    go : (b : Bool) → bytes_eq g.name word ≡ b → (find (λ x. bytes_eq x.name word) fs ≡ Some f → Sound f) → Sound f
    go true hit rest =
        let same : Some g ≡ Some f = rw hit at e in
        subst Sound (ap (λ x. unwrap_or x g) same) all.0
    go false hit rest = rest (rw hit at e)

-- the options are read as they are written
runs_plain : AllPlainly runs
unfolding look
runs_plain = ((refl, λ v. refl), ((refl, λ v. refl), ((refl, λ v. refl), ((refl, λ v. refl), tt))))

sizes_plain : AllPlainly sizes
unfolding look
sizes_plain = ((refl, λ v. refl), ((refl, λ v. refl), ((refl, λ v. refl), ((refl, λ v. refl), tt))))

audits_plain : AllPlainly (audits ++ audit_flags)
unfolding look
audits_plain =
    ((refl, λ v. refl), ((refl, λ v. refl), ((refl, λ v. refl), ((refl, λ v. refl), ((refl, λ v. refl), tt)))))

late_plain : AllPlainly (codes "late" ∷ [])
unfolding look
late_plain = ((refl, λ v. refl), tt)

plain_both : (ns ms : List Text) → AllPlainly ns → AllPlainly ms → AllPlainly (ns ++ ms)
plain_both [] ms a b = b
plain_both (n ∷ ns) ms a b = (a.0, plain_both ns ms a.1 b)

all_sound : AllSound forms
all_sound = (
  (runs_plain, (refl, refl, refl, refl, tt)),
  (
    (runs_plain, (refl, refl, refl, refl, tt)),
    (
      (late_plain, (refl, refl, refl, refl, tt)),
      (
        (audits_plain, (refl, refl, refl, refl, tt)),
        (
          (tt, (refl, refl, refl, refl, tt)),
          (
            (tt, (refl, refl, refl, refl, tt)),
            (
              (tt, (refl, refl, refl, refl, (refl, refl, refl, refl, (refl, refl, refl, refl, tt)))),
              (
                (late_plain, tt),
                (
                  (tt, (refl, refl, refl, refl, tt)),
                  (
                    (
                      tt,
                      (
                        refl,
                        refl,
                        refl,
                        refl,
                        (refl, refl, refl, refl, (refl, refl, refl, refl, (refl, refl, refl, refl, tt))),
                      ),
                    ),
                    (
                      (tt, tt),
                      (
                        (sizes_plain, (refl, refl, refl, refl, tt)),
                        (
                          (plain_both sizes runs sizes_plain runs_plain, (refl, refl, refl, refl, tt)),
                          (
                            (tt, tt),
                            (
                              (tt, (refl, refl, refl, refl, (refl, refl, refl, refl, tt))),
                              ((late_plain, (refl, refl, refl, refl, tt)), tt),
                            ),
                          ),
                        ),
                      ),
                    ),
                  ),
                ),
              ),
            ),
          ),
        ),
      ),
    ),
  ),
)

pub is_spelled : (words : List Text) (form : Form) (said : Said) →
    spoken forms words ≡ Some (form, said) ↔ IsSpelled forms words form said
is_spelled words form said = (to words, from)
  where
    to : (ws : List Text) → spoken forms ws ≡ Some (form, said) → IsSpelled forms ws form said
    to [] e = absurd (none-some _ e)
    to (word ∷ rest) e = named (find (λ f. bytes_eq f.name word) forms) refl
      where
        named : (o : Option Form) → find (λ f. bytes_eq f.name word) forms ≡ o → IsSpelled forms (word ∷ rest) form said
        named None i = absurd (none-some _ (rw i at e))
        named (Some f) i = spoken_so (says f f.places None [] rest) refl
          where
            spoken_so : (o : Option Said) → says f f.places None [] rest ≡ o → IsSpelled forms (word ∷ rest) form said
            spoken_so None j = absurd (none-some _ (rw (i, j) at e))
            spoken_so (Some s) j =
                let same : Some (f, s) ≡ Some (form, said) = rw (i, j) at e in
                let pair_is : (f, s) ≡ (form, said) = ap (λ x. unwrap_or x (f, s)) same in
                record {
                  first = word;
                  rest = rest;
                  words_are = refl;
                  named = i ∙ ap (λ p. Some p.0) pair_is;
                  spells = subst (λ p. Spells p.0 rest p.1) pair_is
                      (spelled_back f rest s (sound_found forms word f all_sound i).1 j);
                }

    from : IsSpelled forms words form said → spoken forms words ≡ Some (form, said)
    from s =
        let back = read_back form (sound_found forms s.first form all_sound s.named).0 s.rest said s.spells in
        ap (spoken forms) s.words_are ∙ rw (s.named, back) refl
