-- That `clap` finds in the words what the grammar says, and how words of the form are spelled.
use Rattle.std.specs.Prelude.{◌≡◌, ◌↔◌, List, map, Some, option_map}
use Rattle.office_words.specs.Grammar.{Text, Said}
use Rattle.office_words.specs.Laws.{AllText, row_said}
use Rattle.office_words.specs.Spelling.{Spells}
use Rattle.serve_top.specs.App.{server_found}
use Rattle.serve_top.specs.Meaning.{server_form, said_by_words}

-- what clap finds is what is said
abbrev pub FindsWhatIsSaid : List Text → Type 0
FindsWhatIsSaid words = AllText words → server_found words ≡ option_map (map row_said) (said_by_words words)

-- words of the server say exactly what they are spelled to say
abbrev pub IsServingSaidOnlySo : List Text → Type 0
IsServingSaidOnlySo words = (said : Said) → said_by_words words ≡ Some said ↔ Spells server_form words said
