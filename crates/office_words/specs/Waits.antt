-- How long a command waits for who has the file open, and which words are left without `--wait N`.
use Rattle.std.specs.Prelude.{◌||◌, ℕ, Bool, true, false, List, [], ◌∷◌, Option, None, codes, take, drop}
use Rattle.std.specs.Prelude.{if◌then◌else◌, option_and_then, option_map}
use Rattle.std.specs.Option.{is_some, option_map_or}
use Rattle.std.specs.List.{position, remove}
use Rattle.std.specs.Str.{bytes_eq}
use Rattle.office_words.specs.Grammar.{Text}
use Rattle.office_words.specs.Meaning.{number}
use Rattle.office_words.specs.declared.waits.TheConstants.{LONGEST, WAIT}

-- the seconds that a text is
abbrev pub seconds_of : Text → Option ℕ
seconds_of text = number 0 LONGEST text

-- the seconds that a word says as `--wait=N`
abbrev pub seconds_joined : Text → Option ℕ
seconds_joined word = if bytes_eq (take 7 word) (codes "--wait=") then seconds_of (drop 7 word) else None

-- whether a word ends the options or says the wait
abbrev pub is_met : Text → Bool
is_met word = bytes_eq word (codes "--") || (bytes_eq word (codes "--wait") || is_some (seconds_joined word))

-- the seconds that the first of these words says behind `--wait`
abbrev pub seconds_apart : List Text → Option ℕ
seconds_apart [] = None
seconds_apart (text ∷ words) = seconds_of text

-- the seconds that these words begin with, and whether they stand apart, in a word behind `--wait`
abbrev pub wait_from : List Text → Option (ℕ × Bool)
wait_from [] = None
wait_from (word ∷ words) =
    if bytes_eq word (codes "--wait") then option_map (λ n. (n, true)) (seconds_apart words)
    else option_map (λ n. (n, false)) (seconds_joined word)

-- the same of the words from a place on, and the place
abbrev pub wait_at : List Text → ℕ → Option (ℕ × ℕ × Bool)
wait_at words place = option_map (λ said. (place, said.0, said.1)) (wait_from (drop place words))

-- The place where the words say the wait, the seconds, and whether these stand apart. Behind `--` no word says it.
abbrev pub wait_said : List Text → Option (ℕ × ℕ × Bool)
wait_said words = option_and_then (wait_at words) (position is_met words)

-- how many seconds a command waits
abbrev pub wait_of : List Text → ℕ
wait_of words = option_map_or (λ said. said.1) (wait_said words) WAIT

-- the words without the one at a place, and without the next where the seconds stand apart
abbrev pub without : List Text → ℕ → Bool → List Text
without words place apart = if apart then remove (remove words place) place else remove words place

-- the words that the command is read of
abbrev pub words_left : List Text → List Text
words_left words = option_map_or (λ said. without words said.0 said.2) (wait_said words) words
