-- The texts of all statements, as they are sent to the database.
use Rattle.std.specs.Prelude.{ℕ, List, ◌++◌, codes}

-- makes the table of days
abbrev pub make_days : List ℕ
make_days =
    codes "CREATE TABLE days (day INTEGER PRIMARY KEY, digest BLOB NOT NULL, bytes INTEGER NOT NULL,\n"
    ++ (codes "  tuples INTEGER NOT NULL, notices INTEGER NOT NULL, notices_digest BLOB NOT NULL,\n"
    ++ codes "  total INTEGER NOT NULL) STRICT")

-- makes the table of amounts
abbrev pub make_spent : List ℕ
make_spent =
    codes "CREATE TABLE spent (day INTEGER NOT NULL, vid INTEGER NOT NULL, xway INTEGER NOT NULL,\n"
    ++ codes "  tolls INTEGER NOT NULL, PRIMARY KEY (day, vid, xway)) STRICT"

-- makes the table of the history
abbrev pub make_past : List ℕ
make_past =
    codes "CREATE TABLE past (one INTEGER PRIMARY KEY CHECK (one = 1), base INTEGER NOT NULL,\n"
    ++ codes "  digest BLOB NOT NULL, bytes INTEGER NOT NULL, rows_kept INTEGER NOT NULL) STRICT"

-- makes the table of the days' seals
abbrev pub make_day_tariffs : List ℕ
make_day_tariffs = codes "CREATE TABLE day_tariffs (day INTEGER PRIMARY KEY, digest BLOB NOT NULL) STRICT"

-- makes the table of tariffs
abbrev pub make_tariffs : List ℕ
make_tariffs =
    codes "CREATE TABLE tariffs (xway INTEGER PRIMARY KEY, crowd INTEGER NOT NULL,\n"
    ++ codes "  speed INTEGER NOT NULL, factor INTEGER NOT NULL) STRICT"

-- makes the table of the version
abbrev pub make_form : List ℕ
make_form = codes "CREATE TABLE form (one INTEGER PRIMARY KEY CHECK (one = 1), version INTEGER NOT NULL) STRICT"

-- asks for an amount
abbrev pub find_spent : List ℕ
find_spent = codes "SELECT tolls FROM spent WHERE day = ?1 AND vid = ?2 AND xway = ?3"

-- asks for all tariffs
abbrev pub find_tariffs : List ℕ
find_tariffs = codes "SELECT xway, crowd, speed, factor FROM tariffs ORDER BY xway"

-- asks for the amounts of some days
abbrev pub list_spent : List ℕ
list_spent = codes "SELECT day, vid, xway, tolls FROM spent WHERE day >= ?1 AND day <= ?2 ORDER BY day, vid, xway"

-- asks for the amounts of a vehicle on some days
abbrev pub list_vehicle : List ℕ
list_vehicle =
    codes "SELECT day, vid, xway, tolls FROM spent WHERE vid = ?1 AND day >= ?2 AND day <= ?3 ORDER BY day, vid, xway"

-- asks for the last day
abbrev pub find_last : List ℕ
find_last = codes "SELECT day FROM days ORDER BY day DESC LIMIT 1"

-- asks for a day
abbrev pub find_day : List ℕ
find_day = codes "SELECT digest, bytes, tuples, notices, notices_digest, total FROM days WHERE day = ?1"

-- asks for the seal of a day
abbrev pub find_seal : List ℕ
find_seal = codes "SELECT digest FROM day_tariffs WHERE day = ?1"

-- asks for the history
abbrev pub find_past : List ℕ
find_past = codes "SELECT base, digest, bytes, rows_kept FROM past WHERE one = 1"

-- asks for all days
abbrev pub list_days : List ℕ
list_days = codes "SELECT day FROM days ORDER BY day"

-- asks for the version
abbrev pub find_version : List ℕ
find_version = codes "SELECT version FROM form WHERE one = 1"

-- takes the tariff of an expressway away
abbrev pub drop_tariff : List ℕ
drop_tariff = codes "DELETE FROM tariffs WHERE xway = ?1"

-- puts the tariff of an expressway
abbrev pub put_tariff : List ℕ
put_tariff = codes "INSERT INTO tariffs VALUES (?1, ?2, ?3, ?4)"

-- puts an amount
abbrev pub put_spent : List ℕ
put_spent = codes "INSERT INTO spent VALUES (?1, ?2, ?3, ?4)"

-- puts a day
abbrev pub put_day : List ℕ
put_day = codes "INSERT INTO days VALUES (?1, ?2, ?3, ?4, ?5, ?6, ?7)"

-- puts the seal of a day
abbrev pub put_seal : List ℕ
put_seal = codes "INSERT INTO day_tariffs VALUES (?1, ?2)"

-- puts the history
abbrev pub put_past : List ℕ
put_past = codes "INSERT INTO past VALUES (1, ?1, ?2, ?3, ?4)"

-- puts the version
abbrev pub put_version : List ℕ
put_version = codes "INSERT INTO form VALUES (1, 2)"

-- ends a transaction that someone left
abbrev pub undo : List ℕ
undo = codes "ROLLBACK"
