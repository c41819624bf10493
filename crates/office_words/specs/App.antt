-- The table as `clap` is told it.
use Rattle.std.specs.Prelude.{true, false, List, [], ◌∷◌, ◌++◌, map, Some, None, Option, codes}
use Rattle.clap.specs.Walk.{Row, Rule}
use Rattle.clap.specs.Simple.{App, Shape, new_rule, new_shape, with_subcommand, subcommand_of}
use Rattle.clap.specs.Kinds.{Kinds}
use Rattle.clap.specs.Faults.{fault_of}
use Rattle.clap.specs.declared.builder.action.ArgAction.TheVariants.{Set, SetTrue}
use Rattle.office_words.specs.Grammar.{Form, Text}

-- an option, by its name
abbrev pub option_rule : Text → Rule
option_rule id = record (new_rule id) { long = Some id; action = Some Set }

-- a flag, by its name
abbrev pub flag_rule : Text → Rule
flag_rule id = record (new_rule id) { long = Some id; action = Some SetTrue }

-- a word in place, by what it stands for
abbrev pub place_rule : Text → Rule
place_rule id = record (new_rule id) { required = true; action = Some Set }

-- a subcommand: its places, then its options and then its flags
abbrev pub shape_of_form : Form → Shape
shape_of_form f = record (new_shape f.name) {
  rules = map place_rule f.places ++ (map option_rule f.options ++ map flag_rule f.flags);
}

-- the app of a subcommand alone
abbrev pub app_of_form : Form → App
app_of_form f = record { top = shape_of_form f; subs = [] }

-- the program above its subcommands
abbrev pub office_top : Shape
office_top = record (new_shape (codes "office")) {
  is_leaf = false;
  no_binary_name = true;
  disable_help_flag = true;
  disable_help_subcommand = true;
  disable_version_flag = true;
  subcommand_required = true;
}

-- the program, before its subcommands are added
abbrev pub bare_app : App
bare_app = record { top = record office_top { is_leaf = true }; subs = [] }

-- the program with further commands
abbrev pub with_forms : App → List Form → App
with_forms a [] = a
with_forms a (f ∷ fs) = with_forms (with_subcommand a (shape_of_form f)) fs

-- the program with the commands of a table
abbrev pub app_of_forms : List Form → App
app_of_forms forms = record { top = office_top; subs = map shape_of_form forms }

-- the value, where no kind of error comes
abbrev pub unless : {X : Type 0} → Kinds → Option X → Option X
unless [] x = x
unless (k ∷ ks) x = None

-- what clap finds in the words: the subcommand and its rows, where it refuses nothing
abbrev pub found_in : App → List Text → Option (Text × List Row)
found_in app words = unless (fault_of app words) (subcommand_of app words)
