-- The law: what clap finds in the words is what the grammar says that they say.
use Rattle.std.proofs.Common.{◌≡◌, ◌∙◌, ◌||◌, Bool, cond, true, false, refl, sym, ap, ap₂, subst, List, [], ◌∷◌, ◌++◌}
use Rattle.std.proofs.Common.{map, Option, Some, None, is_some, find, fold, option_map, bytes_eq, codes, append_assoc}
use Rattle.std.proofs.Common.{append-nil}
use Rattle.std.specs.Option.{unwrap_or}
use Rattle.std.proofs.lemmas.Option.{none-some}
use Rattle.std.proofs.Math.Bool.{and-false}
use Rattle.std.proofs.lemmas.Slice.Eq.{bytes_eq-Decides}
use Rattle.clap.specs.Kinds.{Kinds, or_else}
use Rattle.clap.specs.Walk.{Names, Row, Rule, Walk, answers_to, walk, walked, walk_from, nothing_held, settled}
use Rattle.clap.specs.Walk.{finished}
use Rattle.clap.specs.Simple.{App, Shape, built, built_leaf, inherited, label_of, entered}
use Rattle.clap.specs.Faults.{walk_fault, settle_fault, defaults_fault, check_fault, entered_fault, flags_fault}
use Rattle.office_words.specs.Grammar.{Form, Text, Said, WordLook, ending, alone, joined, refused, plain, look, says}
use Rattle.office_words.specs.Grammar.{spoken}
use Rattle.office_words.specs.App.{app_of_forms, shape_of_form, office_top, unless, found_in}
use Rattle.office_words.specs.Laws.{rows_said, AllText, FindsWhatIsSpoken}
use Rattle.office_words.specs.Table.{forms}
use Rattle.office_words.proofs.Leaf.{as_place, made, leaf, built_form, built_is, ComesAt, Shows, shows}
use Rattle.office_words.proofs.Values.{walk_finds}
use Rattle.office_words.proofs.WalkEnds.{result}

abbrev Ready : Form → Type 0
Ready f = ComesAt (made f) 1 f.places

abbrev AllReady : List Form → Type 0
AllReady [] = Unit {0}
AllReady (f ∷ fs) = Ready f × AllReady fs

abbrev named : Text → List Form → Option Form
named word fs = find (λ f. bytes_eq f.name word) fs

abbrev subs : List Form → List Shape
subs fs = map built_leaf (map (inherited office_top) (map shape_of_form fs))

name_found : (word : Text) (fs : List Form) →
    find (answers_to word) (map label_of (subs fs)) ≡ option_map (λ f. (f.name, [])) (named word fs)
name_found word [] = refl
name_found word (f ∷ fs) = go (bytes_eq f.name word) (name_found word fs)
  where
    go : (b : Bool) → find (answers_to word) (map label_of (subs fs)) ≡ option_map (λ g. (g.name, [])) (named word fs)
        → cond (b || false) (Some (f.name, [])) (find (answers_to word) (map label_of (subs fs))) ≡ option_map
        (λ g. (g.name, [])) (cond b (Some f) (named word fs))
    go true e = refl
    go false e = e

sub_found : (word : Text) (fs : List Form) → find (λ s. answers_to word (label_of s)) (subs fs) ≡ option_map built_form
    (named word fs)
sub_found word [] = refl
sub_found word (f ∷ fs) = go (bytes_eq f.name word) (sub_found word fs)
  where
    go : (b : Bool) → find (λ s. answers_to word (label_of s)) (subs fs) ≡ option_map built_form (named word fs)
        → cond (b || false) (Some (built_form f)) (find (λ s. answers_to word (label_of s)) (subs fs))
        ≡ option_map built_form (cond b (Some f) (named word fs))
    go true e = refl
    go false e = e

some_same : (g f : Form) → Some g ≡ Some f → g ≡ f
some_same g f e = ap (λ o. unwrap_or o g) e

found_ready : (word : Text) (fs : List Form) (f : Form) → AllReady fs → named word fs ≡ Some f →
    Ready f × (f.name ≡ word)
found_ready word [] f all e = absurd (none-some f e)
found_ready word (g ∷ fs) f all e = go (bytes_eq g.name word) refl (found_ready word fs f all.1)
  where
    go : (b : Bool) → bytes_eq g.name word ≡ b → (named word fs ≡ Some f → Ready f × (f.name ≡ word)) →
        Ready f × (f.name ≡ word)
    go true hit rest =
        let is : g ≡ f = some_same g f (rw hit at e) in
        subst (λ x. Ready x × (x.name ≡ word)) is (all.0, (bytes_eq-Decides g.name word).0 hit)
    go false hit rest = rest (rw hit at e)

-- ---- the walk above the subcommands

stopped_walk : (c : List Rule) (names : Names) (w : Walk) (name : Text) (before words : List Text)
    → fold (walked c names) (record w { stopped = Some (name, before) }) words
    ≡ record w { stopped = Some (name, before ++ words) }
unfolding walked
stopped_walk c names w name before [] = ap (λ ws. record w { stopped = Some (name, ws) }) (sym (append-nil before))
stopped_walk c names w name before (x ∷ xs) =
    stopped_walk c names w name (before ++ x ∷ []) xs
    ∙ ap (λ ws. record w { stopped = Some (name, ws) }) (append_assoc before (x ∷ []) xs)

stopped_passes : (s : Shape) (names : Names) (w : Walk) (name : Text) (before words : List Text) →
    walk_fault s names (record w { stopped = Some (name, before) }) words ≡ []
unfolding walk_fault walked
stopped_passes s names w name before [] = refl
stopped_passes s names w name before (x ∷ xs) = stopped_passes s names w name (before ++ x ∷ []) xs

module _ (fs : List Form) where
  abbrev whole_app : App
  whole_app = built (app_of_forms fs)

  abbrev names : Names
  names = map label_of (subs fs)

  -- what is found, from the walk over the words and its fault
  abbrev found_from : Walk → Kinds → Option (Text × List Row)
  found_from w k =
      unless (or_else k (or_else (entered_fault whole_app w.stopped) (or_else (settle_fault [] false w.held)
      (or_else (defaults_fault (settled [] w.held).rows [])
      (check_fault whole_app.top (finished [] w.held) (is_some (entered whole_app w.stopped)))))))
      (entered whole_app w.stopped)

  found_by_walk : (words : List Text) → found_in (app_of_forms fs) words ≡ found_from (walk [] names nothing_held words)
      (walk_fault whole_app.top names (walk_from nothing_held) words)
  found_by_walk words = refl

  -- the first word is the name of a command
  enters : (word : Text) (words : List Text) (f : Form) → named word fs ≡ Some f →
      walk [] names nothing_held (word ∷ words) ≡ record (walk_from nothing_held) { stopped = Some (f.name, words) }
  unfolding walked
  enters word words f e =
      let met = name_found word fs ∙ ap (option_map (λ (g : Form). (g.name, []))) e in
      rw met (stopped_walk [] names (walk_from nothing_held) f.name [] words)

  enters_well : (word : Text) (words : List Text) (f : Form) → named word fs ≡ Some f →
      walk_fault whole_app.top names (walk_from nothing_held) (word ∷ words) ≡ []
  unfolding walked walk_fault
  enters_well word words f e =
      let met = name_found word fs ∙ ap (option_map (λ (g : Form). (g.name, []))) e in
      rw (met, and-false (bytes_eq f.name (codes "help")))
      (stopped_passes whole_app.top names (walk_from nothing_held) f.name [] words)

  inner : (f : Form) (words : List Text) (k : Kinds) (r : List Row) (o : Option Said) →
      unless k (Some r) ≡ result f.flags o
      → unless (or_else k []) (Some (f.name, r)) ≡ option_map rows_said (option_map (λ said. (f, said)) o)
  inner f words [] r (Some said) e = ap (option_map (λ (x : List Row). (f.name, x))) e
  inner f words [] r None e = ap (option_map (λ (x : List Row). (f.name, x))) e
  inner f words (k ∷ ks) r (Some said) e = ap (option_map (λ (x : List Row). (f.name, x))) e
  inner f words (k ∷ ks) r None e = refl

  of_command : AllReady fs → (word : Text) (words : List Text) (f : Form) → AllText words → named word fs ≡ Some f
      → found_in (app_of_forms fs) (word ∷ words) ≡ option_map rows_said (spoken fs (word ∷ words))
  unfolding defaults_fault
  of_command all word words f text e =
      let ready = found_ready word fs f all e in
      let sub : find (λ s. answers_to f.name (label_of s)) (subs fs) ≡ Some (leaf f) =
      subst (λ w. find (λ s. answers_to w (label_of s)) (subs fs) ≡ Some (leaf f)) (sym ready.1)
      (sub_found word fs ∙ ap (option_map built_form) e ∙ ap (λ s. Some s) (built_is f)) in
      found_by_walk (word ∷ words) ∙ ap₂ found_from (enters word words f e) (enters_well word words f e)
      ∙ rw (sub, e) (inner f words _ _ (says f f.places None [] words) (walk_finds f words text ready.0))

  no_command : (word : Text) (words : List Text) → AllText (word ∷ words) → named word fs ≡ None →
      found_in (app_of_forms fs) (word ∷ words) ≡ None
  unfolding walked walk_fault flags_fault defaults_fault
  no_command word words text e = found_by_walk (word ∷ words) ∙ go (look word) (shows word text.0) words
    where
      met : find (answers_to word) (map label_of (subs fs)) ≡ None
      met = name_found word fs ∙ ap (option_map (λ (g : Form). (g.name, []))) e

      go : (l : WordLook) → Shows l word → (ws : List Text) → found_from (walk [] names nothing_held (word ∷ ws))
          (walk_fault whole_app.top names (walk_from nothing_held) (word ∷ ws)) ≡ None
      go ending shown [] = rw (met, shown) refl
      go ending shown (x ∷ xs) = rw (met, shown) refl
      go (alone n) shown ws = rw (met, shown.0, shown.1) refl
      go (joined n v) shown ws = rw (met, shown.0, shown.1) refl
      go refused shown ws = rw (met, shown.0, shown.1, shown.4, shown.6) refl
      go plain shown ws = rw (met, shown.0, shown.1, shown.2) refl

  pub law_of : AllReady fs → (words : List Text) → AllText words →
      found_in (app_of_forms fs) words ≡ option_map rows_said (spoken fs words)
  unfolding walk_fault defaults_fault
  law_of all [] text = refl
  law_of all (word ∷ words) text = go (named word fs) refl
    where
      go : (o : Option Form) → named word fs ≡ o →
          found_in (app_of_forms fs) (word ∷ words) ≡ option_map rows_said (spoken fs (word ∷ words))
      go None e = no_command word words text e ∙ rw e refl
      go (Some f) e = of_command all word words f text.1 e

-- the places of each command are found in their turn
ready : AllReady forms
ready = (
  (refl, (as_place 1 refl, refl)),
  (
    (refl, (as_place 1 refl, refl)),
    (
      (refl, (as_place 1 refl, refl)),
      (
        (refl, (as_place 1 refl, refl)),
        (
          (refl, (as_place 1 refl, refl)),
          (
            (refl, (as_place 1 refl, refl)),
            (
              (refl, (as_place 1 refl, (refl, (as_place 2 refl, (refl, (as_place 3 refl, refl)))))),
              (
                refl,
                (
                  (refl, (as_place 1 refl, refl)),
                  (
                    (
                      refl,
                      (
                        as_place 1 refl,
                        (refl, (as_place 2 refl, (refl, (as_place 3 refl, (refl, (as_place 4 refl, refl)))))),
                      ),
                    ),
                    (
                      refl,
                      (
                        (refl, (as_place 1 refl, refl)),
                        (
                          (refl, (as_place 1 refl, refl)),
                          (
                            refl,
                            (
                              (refl, (as_place 1 refl, (refl, (as_place 2 refl, refl)))),
                              ((refl, (as_place 1 refl, refl)), tt),
                            ),
                          ),
                        ),
                      ),
                    ),
                  ),
                ),
              ),
            ),
          ),
        ),
      ),
    ),
  ),
)

pub law : (words : List Text) → FindsWhatIsSpoken words
law words = law_of forms ready words
