-- The form of the words as `clap` is told it.
use Rattle.std.specs.Prelude.{true, List, [], ◌∷◌, Option, Some, codes}
use Rattle.clap.specs.Walk.{Row}
use Rattle.clap.specs.Simple.{App, Shape, new_shape, matches_of}
use Rattle.clap.specs.Faults.{fault_of}
use Rattle.office_words.specs.Grammar.{Text}
use Rattle.office_words.specs.App.{option_rule, place_rule, unless}

-- the program, with no words yet
abbrev pub bare_shape : Shape
bare_shape = record (new_shape (codes "serve")) {
  no_binary_name = true;
  disable_help_flag = true;
  disable_version_flag = true;
}

-- the program with no words, as an app without commands
abbrev pub bare_server : App
bare_server = record { top = bare_shape; subs = [] }

-- the program with its words
abbrev pub server_app : App
server_app = record {
  top = record bare_shape {
    rules = place_rule (codes "port") ∷ option_rule (codes "sessions") ∷ option_rule (codes "readers") ∷ [];
  };
  subs = [];
}

-- what clap finds in the words, where it refuses nothing
abbrev pub server_found : List Text → Option (List Row)
server_found words = unless (fault_of server_app words) (Some (matches_of server_app words))
