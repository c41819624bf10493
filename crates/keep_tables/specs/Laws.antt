-- Laws of which database stands for which office, which no code runs.
use Rattle.std.specs.Prelude.{◌≡◌, ◌↔◌, Some}
use Rattle.sqlite.specs.Effect.{Database}
use Rattle.keep_office.specs.Office.{Office, IsSound}
use Rattle.keep_tables.specs.Stands.{StandsForOffice}
use Rattle.keep_tables.specs.Told.{office_in}

-- what is told of a database is exactly what it stands for
abbrev pub ToldLaw : Type 0
ToldLaw = (db : Database) (o : Office) → (office_in db ≡ Some o) ↔ StandsForOffice db o

-- a database stands for one office at most
abbrev pub OneOfficeLaw : Type 0
OneOfficeLaw = (db : Database) (o p : Office) → StandsForOffice db o → StandsForOffice db p → o ≡ p

-- an office that a database stands for is sound
abbrev pub SoundLaw : Type 0
SoundLaw = (db : Database) (o : Office) → StandsForOffice db o → IsSound o
