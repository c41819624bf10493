-- From the law to what the words mean.
use Rattle.std.proofs.Common.{◌≡◌, ◌∙◌, inl, inr, refl, sym, ap, subst, List, [], ◌∷◌, map, Option, Some, None, Err}
use Rattle.std.proofs.Common.{option_map, option_and_then}
use Rattle.clap.specs.Walk.{Row, first_of, rows_of}
use Rattle.clap.specs.Words.{kind_of, first_value, found_of}
use Rattle.clap.specs.Simple.{HasMatchesOf, matches_of}
use Rattle.clap.proofs.WalkLemmas.{first_value-rows}
use Rattle.clap.specs.declared.error.kind.ErrorKind.{ErrorKind}
use Rattle.clap.specs.declared.error.kind.ErrorKind.TheVariants.{OutOfMemory}
use Rattle.clap.specs.declared.parser.matches.ArgMatches.{ArgMatches}
use Rattle.clap.specs.declared.error.Error.{Error}
use Rattle.clap.specs.Kinds.{Kinds, HasKind, IsAmong}
use Rattle.clap.specs.Faults.{fault_of}
use Rattle.office_words.specs.Grammar.{Text, Said}
use Rattle.office_words.specs.App.{unless}
use Rattle.office_words.specs.Laws.{row_said, AllText}
use Rattle.office_words.specs.Meaning.{value_of}
use Rattle.office_words.specs.declared.command.WordFault.{WordFault}
use Rattle.office_words.specs.declared.command.WordFault.TheVariants.{Words, NoMemory}
use Rattle.office_words.proofs.Meant.{value_is}
use Rattle.serve_top.specs.App.{server_app, server_found}
use Rattle.serve_top.specs.Meaning.{serving_of, serving_meant, said_by_words, ReadsServing}
use Rattle.serve_top.specs.declared.served_words.Serving.{Serving}
use Rattle.serve_top.proofs.Law.{law}

-- what clap's matches stand for
abbrev of_found : List Row → Option Serving
of_found rows = serving_of (λ n. first_of n rows)

meant : (words : List Text) → AllText words → serving_meant words ≡ option_and_then of_found (server_found words)
meant words text = go (said_by_words words) ∙ ap (option_and_then of_found) (sym (law words text))
  where
    go : (o : Option Said) → option_and_then (λ said. serving_of (value_of said)) o ≡ option_and_then of_found
        (option_map (map row_said) o)
    go None = refl
    go (Some said) =
        let same : value_of said ≡ (λ n. first_of n (map row_said said)) = λ i n. sym (value_is said n) i in
        ap serving_of same

-- where clap refuses the words, they mean nothing
refused : (words : List Text) → AllText words → (k : ErrorKind) → IsAmong k (fault_of server_app words) →
    serving_meant words ≡ None
refused words text k among = meant words text ∙ go (fault_of server_app words) among
  where
    go : (kinds : Kinds) → IsAmong k kinds →
        option_and_then of_found (unless kinds (Some (matches_of server_app words))) ≡ None
    go [] h = absurd h
    go (x ∷ xs) h = refl

pub on_error : (words : List Text) → AllText words → (e : Error) (f : WordFault) → HasKind (fault_of server_app words) e
    → (f ≡ Words → kind_of e ≡ OutOfMemory → ⊥) → ReadsServing (serving_meant words) (Err f)
on_error words text e NoMemory has apart = go (serving_meant words)
  where
    go : (o : Option Serving) → ReadsServing o (Err NoMemory)
    go None = tt
    go (Some s) = refl
on_error words text e Words (inl out) apart = absurd (apart refl out)
on_error words text e Words (inr among) apart =
    subst (λ o. ReadsServing o (Err Words)) (sym (refused words text (kind_of e) among)) tt

-- what the words mean, from the matches
pub on_matches : (words : List Text) → AllText words → (m : ArgMatches) → fault_of server_app words ≡ [] →
    HasMatchesOf server_app words m
    → serving_meant words ≡ serving_of (first_value (found_of m))
on_matches words text m none has =
    let same : (λ (n : Text). first_of n (rows_of (found_of m))) ≡ first_value (found_of m) =
    λ i n. sym (first_value-rows (found_of m) n) i in
    meant words text ∙ ap (λ k. option_and_then of_found (unless k (Some (matches_of server_app words)))) none
    ∙ ap of_found (sym (has refl).0) ∙ ap serving_of same
