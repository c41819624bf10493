-- That `clap` finds in the words what the grammar says.
use Rattle.std.specs.Prelude.{◌≡◌, List, [], ◌∷◌, ◌++◌, map, Some, None, option_map, IsUtf8, if◌then◌else◌}
use Rattle.clap.specs.Walk.{Row, has_row}
use Rattle.clap.specs.declared.builder.value_parser.Reading.TheVariants as reading
use Rattle.clap.specs.declared.parser.matches.ValueSource.TheVariants.{CommandLine, DefaultValue}
use Rattle.office_words.specs.Grammar.{Form, Said, Text, lacks, spoken}
use Rattle.office_words.specs.App.{app_of_forms, found_in}
use Rattle.office_words.specs.Table.{forms}

-- a name and its value, as clap has them
abbrev pub row_said : Text × Text → Row
row_said p = record {
  id = p.0;
  values = p.1 ∷ [];
  count = None;
  source = Some CommandLine;
  reading = reading.AsWritten;
}

-- a flag that is not said, as clap has it
abbrev pub row_unsaid : Text → Row
row_unsaid name = record {
  id = name;
  values = lacks ∷ [];
  count = None;
  source = Some DefaultValue;
  reading = reading.AsWritten;
}

-- rows, and behind them each flag that has none
abbrev pub with_flags : List Text → List Row → List Row
with_flags [] rows = rows
with_flags (name ∷ names) rows = with_flags names (if has_row name rows then rows else rows ++ row_unsaid name ∷ [])

-- what is said of a form, as clap has it: also that a flag is not
abbrev pub rows_said : Form × Said → Text × List Row
rows_said p = (p.0.name, with_flags p.0.flags (map row_said p.1))

-- the words are text
abbrev pub AllText : List Text → Type 0
AllText [] = Unit {0}
AllText (word ∷ words) = IsUtf8 word × AllText words

-- what clap finds is what is said
abbrev pub FindsWhatIsSpoken : List Text → Type 0
FindsWhatIsSpoken words = AllText words →
    found_in (app_of_forms forms) words ≡ option_map rows_said (spoken forms words)
