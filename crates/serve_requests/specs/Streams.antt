-- The bytes of an answer that streams the notices of a day, but for the notices.
use Rattle.std.specs.Prelude.{ℕ, List, ◌++◌, codes, decimal}
use Rattle.tuples_text.specs.declared.cause.Cause.{Cause}
use Rattle.tuples_text.specs.Causes.{cause_text}
use Rattle.serve_requests.specs.Replies.{status_line}

-- its head: a status line, two fields and an empty line
abbrev pub stream_head : List ℕ
stream_head = status_line 200 ++ codes "\r\nContent-Type: text/plain\r\nConnection: close\r\n\r\n"

-- the last line of a day that was read to its end
abbrev pub answered_line : ℕ → ℕ → ℕ → List ℕ
answered_line day tuples notices =
    codes "# answered day "
    ++ (decimal day ++ (codes " tuples " ++ (decimal tuples ++ (codes " notices " ++ (decimal notices ++ codes "\n")))))

-- that of a day with a line that is refused
abbrev pub refused_line : ℕ → Cause → List ℕ
refused_line line cause =
    codes "# refused line " ++ (decimal line ++ (codes " " ++ (cause_text cause ++ codes "\n")))

-- that of a day whose bytes end too early, or cannot be read
abbrev pub read_fault_line : List ℕ
read_fault_line = codes "# read fault\n"

-- that where the keeper failed
abbrev pub keeper_fault_line : List ℕ
keeper_fault_line = codes "# keeper fault\n"

-- that where memory ran out
abbrev pub memory_line : List ℕ
memory_line = codes "# no memory\n"
