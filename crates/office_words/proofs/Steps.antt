-- One command of the table more.
use Rattle.std.proofs.Common.{ℕ, take, drop}
use Rattle.clap.specs.Simple.{App}
use Rattle.office_words.specs.App.{with_forms}
use Rattle.office_words.specs.Table.{forms}

-- the command at place k joins
abbrev pub adds : ℕ → App → App
adds k a = with_forms a (take 1 (drop k forms))
