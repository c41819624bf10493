-- Each command with its places and its options.

use Rattle.std.specs.Prelude.{List, [], ◌∷◌, ◌++◌, codes}
use Rattle.office_words.specs.Grammar.{Form, Text}

-- a row of the table that has flags
abbrev pub flagged_form : Text → List Text → List Text → List Text → Form
flagged_form name places options flags = record { name = name; places = places; options = options; flags = flags }

-- a row of the table
abbrev pub stated_form : Text → List Text → List Text → Form
stated_form name places options = flagged_form name places options []

-- the options of the commands that generate traffic
abbrev pub sizes : List Text
sizes = codes "vehicles" ∷ codes "minutes" ∷ codes "xways" ∷ codes "crashes" ∷ []

-- the options of the commands that run a day
abbrev pub runs : List Text
runs = codes "late" ∷ codes "workers" ∷ codes "turns" ∷ codes "backlog" ∷ []

-- the options of the command that recomputes a day in bulk
abbrev pub audits : List Text
audits = codes "late" ∷ codes "shards" ∷ codes "workers" ∷ codes "show" ∷ []

-- its flag, by which notices of one second may stand in any order
abbrev pub audit_flags : List Text
audit_flags = codes "any-order" ∷ []

-- what is built: each command with its places and its options
abbrev pub forms : List Form
forms = stated_form (codes "answers") (codes "day" ∷ []) runs
    ∷ stated_form (codes "import") (codes "day" ∷ []) runs
    ∷ stated_form (codes "validate") (codes "day" ∷ []) (codes "late" ∷ [])
    ∷ flagged_form (codes "audit") (codes "day" ∷ []) audits audit_flags
    ∷ stated_form (codes "past") (codes "base" ∷ []) []
    ∷ stated_form (codes "day") (codes "day" ∷ []) []
    ∷ stated_form (codes "vehicle") (codes "vid" ∷ codes "from" ∷ codes "to" ∷ []) []
    ∷ stated_form (codes "accidents") [] (codes "late" ∷ [])
    ∷ stated_form (codes "export") (codes "day" ∷ []) []
    ∷ stated_form (codes "tariff") (codes "xway" ∷ codes "crowd" ∷ codes "speed" ∷ codes "factor" ∷ []) []
    ∷ stated_form (codes "tariffs") [] []
    ∷ stated_form (codes "generate") (codes "seed" ∷ []) sizes
    ∷ stated_form (codes "rehearse") (codes "seed" ∷ []) (sizes ++ runs)
    ∷ stated_form (codes "days") [] []
    ∷ stated_form (codes "charges") (codes "from" ∷ codes "to" ∷ []) []
    ∷ stated_form (codes "check") (codes "day" ∷ []) (codes "late" ∷ [])
    ∷ []
