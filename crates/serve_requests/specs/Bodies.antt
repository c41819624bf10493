-- The JSON bodies of answers that have no list, byte for byte.

use Rattle.std.specs.Prelude.{ℕ, List, ◌++◌, codes, decimal}
use Rattle.hex.specs.Hex.{encode_lower}
use Rattle.road_digest.specs.declared.digest.Digest.{Digest}
use Rattle.keep_office.specs.declared.kept.DayRecord.{DayRecord}
use Rattle.tuples_text.specs.declared.cause.Cause.{Cause}
use Rattle.tuples_text.specs.Causes.{cause_text}

-- a digest as a body writes it
abbrev pub digest_text : Digest → List ℕ
digest_text d = encode_lower d.bytes

-- why a request is refused
abbrev pub error_body : List ℕ → List ℕ
error_body word = codes "{\"error\":\"" ++ (word ++ codes "\"}")

-- the first members of a kept day, up to the digest of its notices
abbrev pub day_front : DayRecord → List ℕ → List ℕ
day_front r rest =
    codes "{\"bytes\":" ++ (decimal r.bytes
    ++ (codes ",\"day\":" ++ (decimal r.day
    ++ (codes ",\"digest\":\"" ++ (digest_text r.digest
    ++ (codes "\",\"notices\":" ++ (decimal r.notices
    ++ (codes ",\"notices_digest\":\"" ++ (digest_text r.notices_digest ++ rest)))))))))

-- the last members of a kept day
abbrev pub day_end : DayRecord → List ℕ
day_end r =
    codes "\",\"tariffs\":\"" ++ (digest_text r.tariffs
    ++ (codes "\",\"total\":" ++ (decimal r.total
    ++ (codes ",\"tuples\":" ++ (decimal r.tuples ++ codes "}")))))

-- a kept day
abbrev pub day_body : DayRecord → List ℕ
day_body r = day_front r (day_end r)

-- a day that was imported, with what came of it
abbrev pub imported_body : DayRecord → List ℕ → List ℕ
imported_body r outcome = day_front r (codes "\",\"outcome\":\"" ++ (outcome ++ day_end r))

-- a day that is passed
abbrev pub passed_body : ℕ → List ℕ
passed_body last = codes "{\"error\":\"passed\",\"last\":" ++ (decimal last ++ codes "}")

-- a day that is kept of other bytes
abbrev pub differs_body : Digest → Digest → List ℕ
differs_body kept found =
    codes "{\"error\":\"differs\",\"found\":\""
    ++ (digest_text found ++ (codes "\",\"kept\":\"" ++ (digest_text kept ++ codes "\"}")))

-- a line that is refused
abbrev pub refused_body : ℕ → Cause → List ℕ
refused_body line cause =
    codes "{\"cause\":\"" ++ (cause_text cause ++ (codes "\",\"error\":\"refused\",\"line\":"
    ++ (decimal line ++ codes "}")))

-- what a vehicle was charged
abbrev pub spent_body : ℕ → List ℕ
spent_body amount = codes "{\"spent\":" ++ (decimal amount ++ codes "}")

-- the last day that is kept, of a keeper that answers
abbrev pub health_body : ℕ → List ℕ
health_body last = codes "{\"last_day\":" ++ (decimal last ++ codes "}")

-- a vehicle's account on the live board
abbrev pub live_body : ℕ → ℕ → ℕ → List ℕ
live_body as_of balance day =
    codes "{\"as_of\":"
    ++ (decimal as_of
    ++ (codes ",\"balance\":" ++ (decimal balance ++ (codes ",\"day\":" ++ (decimal day ++ codes "}")))))

-- the total of the live board
abbrev pub total_body : ℕ → ℕ → ℕ → List ℕ
total_body as_of day total =
    codes "{\"as_of\":"
    ++ (decimal as_of
    ++ (codes ",\"day\":" ++ (decimal day ++ (codes ",\"total\":" ++ (decimal total ++ codes "}")))))
