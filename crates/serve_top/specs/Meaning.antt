-- What the words of the server mean.
use Rattle.std.specs.Prelude.{◌≡◌, ◌≤◌, ◌^◌, ◌-◌, List, [], ◌∷◌, Option, Some, None, Result, Ok, Err, codes}
use Rattle.std.specs.Prelude.{option_and_then}
use Rattle.office_words.specs.Grammar.{Form, Text, Said, says}
use Rattle.office_words.specs.Table.{stated_form}
use Rattle.office_words.specs.Meaning.{Values, needed, optional, value_of, with}
use Rattle.office_words.specs.declared.command.WordFault.{WordFault}
use Rattle.office_words.specs.declared.command.WordFault.TheVariants as fault
use Rattle.serve_top.specs.declared.served_words.Serving.{Serving}

-- the words of the server: a port, and two options
abbrev pub server_form : Form
server_form = stated_form (codes "serve") (codes "port" ∷ []) (codes "sessions" ∷ codes "readers" ∷ [])

-- what the words say, where they are of that form
abbrev pub said_by_words : List Text → Option Said
said_by_words words = says server_form server_form.places None [] words

-- how to serve by the values of these names, where each number is in its range
abbrev pub serving_of : Values → Option Serving
serving_of value = with (needed 1 65535 (value (codes "port"))) (λ port.
    with (optional 1 (2 ^ 64 - 1) (2 ^ 64 - 1) (value (codes "sessions"))) (λ sessions.
    with (optional 1 64 4 (value (codes "readers"))) (λ readers.
    Some (record { port = port; sessions = sessions; readers = readers }))))

-- how to serve by the words, where they are of the stated form
abbrev pub serving_meant : List Text → Option Serving
serving_meant words = option_and_then (λ said. serving_of (value_of said)) (said_by_words words)

-- the words are refused exactly where they mean nothing, and what is answered is what they mean
abbrev pub ReadsServing : Option Serving → Result Serving WordFault → Type 0
ReadsServing None (Ok s) = ⊥
ReadsServing None (Err e) = Unit {0}
ReadsServing (Some s) (Ok t) = t ≡ s
ReadsServing (Some s) (Err e) = e ≡ fault.NoMemory

-- the numbers are in their ranges
pub record IsServingInRange (serving : Serving) : Type 0 where
  pub some_port : 1 ≤ serving.port
  pub some_sessions : 1 ≤ serving.sessions
  pub some_readers : 1 ≤ serving.readers
  pub few_readers : serving.readers ≤ 64
