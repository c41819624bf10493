-- The laws: what clap finds in the words is what the grammar says that they say, and how they are spelled.
use Rattle.std.proofs.Common.{◌≡◌, ◌∙◌, refl, ap, false, List, [], Option, Some, None, is_some}
use Rattle.clap.specs.Walk.{walk, nothing_held}
use Rattle.clap.specs.Simple.{App, built, entered, matches_of}
use Rattle.clap.specs.Faults.{level_fault, entered_fault}
use Rattle.office_words.specs.Grammar.{Text, Said, look}
use Rattle.office_words.specs.App.{unless}
use Rattle.office_words.specs.Spelling.{Spells}
use Rattle.office_words.proofs.Leaf.{leaf, as_place}
use Rattle.office_words.proofs.Values.{walk_finds}
use Rattle.office_words.proofs.Looks.{AllPlainly}
use Rattle.office_words.proofs.Spelling.{Open, read_back}
use Rattle.office_words.proofs.SpelledBack.{spelled_back}
use Rattle.serve_top.specs.App.{server_app}
use Rattle.serve_top.specs.Meaning.{server_form, said_by_words}
use Rattle.serve_top.specs.Laws.{FindsWhatIsSaid, IsServingSaidOnlySo}

-- no subcommand is met, since there is none
alone : (words : List Text) (stop : Option (Text × List Text))
    → level_fault (leaf server_form) [] nothing_held words (is_some (entered (built server_app) stop))
    (entered_fault (built server_app) stop)
    ≡ level_fault (leaf server_form) [] nothing_held words false []
alone words None = refl
alone words (Some p) = refl

pub law : (words : List Text) → FindsWhatIsSaid words
law words text =
    ap (λ k. unless k (Some (matches_of server_app words)))
    (alone words (walk (leaf server_form).rules [] nothing_held words).stopped)
    ∙ walk_finds server_form words text (refl, (as_place 1 refl, refl))

-- the options are read as they are written
named : AllPlainly server_form.options
unfolding look
named = ((refl, λ v. refl), ((refl, λ v. refl), tt))

-- the port is not said before it comes, and is no option
apart : Open server_form server_form.places []
apart = (refl, refl, refl, refl, tt)

pub spelled : (words : List Text) → IsServingSaidOnlySo words
spelled words said = (spelled_back server_form words said apart, read_back server_form named words said)
