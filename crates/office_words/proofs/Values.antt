-- A subcommand's walk where the value of an option is awaited, and the whole walk.
use Rattle.std.proofs.Common.{◌≡◌, ◌∙◌, ℕ, Bool, true, false, refl, List, [], ◌∷◌, Some, None}
use Rattle.std.proofs.Common.{option_and_then}
use Rattle.std.proofs.Math.Bool.{and-false}
use Rattle.office_words.specs.App.{unless}
use Rattle.std.proofs.lemmas.Slice.Eq.{bytes_eq-Decides}
use Rattle.clap.specs.Walk.{Row, idle, option, walked, nothing_held, walk_from, is_pending}
use Rattle.clap.specs.declared.error.kind.ErrorKind.TheVariants.{InvalidValue}
use Rattle.clap.specs.Faults.{walk_fault, turn_fault, settle_fault, flags_fault}
use Rattle.office_words.specs.Grammar.{Form, Text, Said, WordLook, ending, alone, joined, refused, plain, look}
use Rattle.office_words.specs.Grammar.{contains, give, says}
use Rattle.office_words.specs.Laws.{AllText}
use Rattle.office_words.proofs.Leaf.{place_made, made, leaf, no_short, long_is, Knows, as_place, as_option}
use Rattle.office_words.proofs.Leaf.{knows_option, ComesAt, Shows, shows}
use Rattle.office_words.proofs.WalkEnds.{rows, hold, at, step, outcome, result, at_end, gives}
use Rattle.office_words.proofs.Turns.{Says, Waits, says_step}
use Rattle.office_words.proofs.Looks.{by_value}

module _ (f : Form) where
  -- an option without its value has a fault
  stuck : (n : Text) (r : List Row) → Knows (made f) n →
      settle_fault (made f) false (hold r (Some (n, []))) ≡ InvalidValue ∷ []
  stuck n r (as_place i found) = rw found refl
  stuck n r (as_option found) = rw found refl

  -- an option that `--` follows has no value
  cut_off : (words : List Text) (n : Text) (r : List Row) (left : List Text) (i : ℕ) → Knows (made f) n →
      ComesAt (made f) i left
      → outcome (leaf f) (at r (Some (n, [])) (option n) i true) words ≡ None
  unfolding walked walk_fault
  cut_off [] n r left i k comes = rw (stuck n r k) refl
  cut_off (word ∷ words) n r [] i k comes = step (leaf f) (at r (Some (n, [])) (option n) i true) word words
      ∙ rw comes refl
  cut_off (word ∷ words) n r (place ∷ left) i k comes =
      step (leaf f) (at r (Some (n, [])) (option n) i true) word words
      ∙ rw (comes.0, and-false (is_pending (place_made i place) (Some (n, []))), stuck n r k) refl

  -- a word with this look is the value, or is refused
  value_next : (word : Text) (words : List Text) (said : Said) (n : Text) (left : List Text) (i : ℕ) → AllText words →
      Says f words → Knows (made f) n → ComesAt (made f) i left
      → (l : WordLook) → Shows l word →
      outcome (leaf f) (at (rows said) (Some (n, [])) (option n) i false) (word ∷ words)
      ≡ result f.flags (by_value f word words left n said l)
  unfolding walked flags_fault
  value_next word words said n left i text next k comes ending shown =
      step (leaf f) (at (rows said) (Some (n, [])) (option n) i false) word words
      ∙ rw shown (cut_off words n (rows said) left i k comes)
  value_next word words said n left i text next k comes (alone x) shown =
      go (contains f.options x) (contains f.flags x) refl refl
    where
      go : (b d : Bool) → contains f.options x ≡ b → contains f.flags x ≡ d →
          outcome (leaf f) (at (rows said) (Some (n, [])) (option n) i false) (word ∷ words) ≡ None
      go true d e h = step (leaf f) (at (rows said) (Some (n, [])) (option n) i false) word words
          ∙ rw (shown.0, shown.1, long_is 1 f.places f.options f.flags x, e, stuck n (rows said) k) refl
      go false true e h = step (leaf f) (at (rows said) (Some (n, [])) (option n) i false) word words
          ∙ rw (shown.0, shown.1, long_is 1 f.places f.options f.flags x, e, h, stuck n (rows said) k) refl
      go false false e h = step (leaf f) (at (rows said) (Some (n, [])) (option n) i false) word words
          ∙ rw (shown.0, shown.1, long_is 1 f.places f.options f.flags x, e, h) refl
  value_next word words said n left i text next k comes (joined x v) shown =
      go (contains f.options x) (contains f.flags x) refl refl
    where
      go : (b d : Bool) → contains f.options x ≡ b → contains f.flags x ≡ d →
          outcome (leaf f) (at (rows said) (Some (n, [])) (option n) i false) (word ∷ words) ≡ None
      go true d e h = step (leaf f) (at (rows said) (Some (n, [])) (option n) i false) word words
          ∙ rw (shown.0, shown.1, long_is 1 f.places f.options f.flags x, e, stuck n (rows said) k) refl
      go false true e h = step (leaf f) (at (rows said) (Some (n, [])) (option n) i false) word words
          ∙ rw (shown.0, shown.1, long_is 1 f.places f.options f.flags x, e, h) refl
      go false false e h = step (leaf f) (at (rows said) (Some (n, [])) (option n) i false) word words
          ∙ rw (shown.0, shown.1, long_is 1 f.places f.options f.flags x, e, h) refl
  value_next word words said n left i text next k comes refused shown =
      step (leaf f) (at (rows said) (Some (n, [])) (option n) i false) word words
      ∙ rw (shown.0, shown.1, shown.4, shown.6, no_short 1 f.places f.options f.flags shown.5) refl
  value_next word words said n left i text next k comes plain shown =
      step (leaf f) (at (rows said) (Some (n, [])) (option n) i false) word words
      ∙ by k (next text (rows said) (Some (n, word ∷ [])) (give n word said) left i
      (gives f n word (rows said) said refl k) comes)
    where
      by : Knows (made f) n → outcome (leaf f) (at (rows said) (Some (n, word ∷ [])) idle i false) words ≡ result f.flags
          (option_and_then (λ now. says f left None now words) (give n word said))
          → unless (turn_fault (leaf f) [] (at (rows said) (Some (n, [])) (option n) i false) word)
          (outcome (leaf f) (walked (made f) [] (at (rows said) (Some (n, [])) (option n) i false) word) words)
          ≡ result f.flags (option_and_then (λ now. says f left None now words) (give n word said))
      by (as_place j found) rest = rw (shown.0, shown.1, shown.2, found, (bytes_eq-Decides n n).1 refl) rest
      by (as_option found) rest = rw (shown.0, shown.1, shown.2, found, (bytes_eq-Decides n n).1 refl) rest

  -- a word more where a value is awaited
  waits_step : (word : Text) (words : List Text) → Says f words → Waits f (word ∷ words)
  waits_step word words next text said n left i has comes =
      value_next word words said n left i text.1 next (knows_option 1 f.places f.options f.flags n has) comes (look word)
      (shows word text.0)

  -- no word where a value is awaited
  waits_end : Waits f []
  unfolding walk_fault
  waits_end text said n left i has comes = rw (stuck n (rows said) (knows_option 1 f.places f.options f.flags n has)) refl

  -- the walk finds what the words say
  all_said : (words : List Text) → Says f words × Waits f words
  all_said [] = ((λ text r p o left i s comes. at_end f r p o idle i false s), waits_end)
  all_said (word ∷ words) =
      let rest = all_said words in
      (says_step f word words rest.0 rest.1, waits_step word words rest.0)

  -- the walk over a subcommand's words finds what the grammar says
  pub walk_finds : (words : List Text) → AllText words → ComesAt (made f) 1 f.places →
      outcome (leaf f) (walk_from nothing_held) words ≡ result f.flags (says f f.places None [] words)
  walk_finds words text comes = (all_said words).0 text [] None (Some []) f.places 1 (refl, refl) comes
