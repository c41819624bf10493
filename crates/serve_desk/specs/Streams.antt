-- The notices of a day that is sent, streamed as they are settled.
use Rattle.std.specs.Prelude.{◌≡◌, ◌⊎◌, ℕ, ◌<◌, Bool, true, List, length, take, Option, Some}
use Rattle.std.specs.Io.KnownBytes.{Appends}
use Rattle.road_time.specs.declared.day.Limits.{Limits}
use Rattle.keep_office.specs.Calls.{WhenRefused}
use Rattle.keep_office.specs.Office.{Office}
use Rattle.day_import.specs.declared.outcomes.Outcome.{Outcome}
use Rattle.day_import.specs.declared.outcomes.Outcome.TheVariants.{Stored, Already, Answered, Refused, DayPassed}
use Rattle.day_import.specs.declared.outcomes.Outcome.TheVariants.{Differs, ReadFault, WriteFault, KeeperFault}
use Rattle.day_import.specs.declared.outcomes.Outcome.TheVariants.{NoMemory}
use Rattle.day_import.specs.Imports.{answers_answer, Does}
use Rattle.serve_requests.specs.Replies.{no_memory_reply}
use Rattle.serve_requests.specs.Streams.{stream_head, answered_line, refused_line, read_fault_line, keeper_fault_line}
use Rattle.serve_requests.specs.Streams.{memory_line}
use Rattle.serve_requests.specs.AskedBodies.{filled}
use Rattle.serve_requests.specs.Sends.{SendsReply}
use Rattle.serve_requests.specs.declared.session_end.SessionEnd.{SessionEnd}
use Rattle.serve_requests.specs.declared.session_end.SessionEnd.TheVariants as ends
use Rattle.serve_desk.specs.Answers.{Wire}
use Rattle.serve_desk.specs.Reading.{ReadsBody}

-- fewer of the first bytes of a text than all were written
abbrev pub WritesPart : List ℕ → Option (List ℕ) → Option (List ℕ) → Type 0
WritesPart text old new = (k : ℕ) × (k < length text) × Appends old new (take k text)

-- the head was sent, and behind it what the answering of a day writes, which keeps nothing; or the link failed in it
abbrev pub Streams : WhenRefused → ℕ → Limits → List ℕ → Office → Option (List ℕ) → Option (List ℕ) → Outcome → Type 0
Streams w day limits bytes o old new outcome =
    ((mid : Option (List ℕ)) × Appends old mid stream_head
    × Does w (answers_answer day 0 limits bytes o) o mid new (Some o) outcome)
    ⊎ ((outcome ≡ WriteFault) × WritesPart stream_head old new)

-- the closing line of a day that was answered: that of the command `answers`
abbrev pub closing_of : ℕ → Outcome → List ℕ
closing_of day (Answered r) = answered_line day r.tuples r.notices
closing_of day (Refused line cause) = refused_line line cause
closing_of day ReadFault = read_fault_line
closing_of day KeeperFault = keeper_fault_line
closing_of day NoMemory = memory_line
closing_of day WriteFault = memory_line
closing_of day (Stored r) = memory_line
closing_of day (Already r) = memory_line
closing_of day (DayPassed last) = memory_line
closing_of day (Differs kept found) = memory_line

-- how a session ends whose closing line was written: cut, where the keeper failed
abbrev pub end_of : Outcome → SessionEnd
end_of (Answered r) = ends.Answered 200
end_of (Refused line cause) = ends.Answered 200
end_of ReadFault = ends.Answered 200
end_of KeeperFault = ends.Cut
end_of NoMemory = ends.Answered 200
end_of WriteFault = ends.LinkFault
end_of (Stored r) = ends.Answered 200
end_of (Already r) = ends.Answered 200
end_of (DayPassed last) = ends.Answered 200
end_of (Differs kept found) = ends.Answered 200

-- a last line was written, and the session ends so; or the link failed in it
abbrev pub WritesLast : List ℕ → SessionEnd → Option (List ℕ) → Option (List ℕ) → SessionEnd → Type 0
WritesLast line wanted old new end =
    ((end ≡ wanted) × Appends old new line) ⊎ ((end ≡ ends.LinkFault) × WritesPart line old new)

-- a closing line was written, or that of want of memory; or nothing, where the link had failed
abbrev pub Closes : ℕ → Outcome → Option (List ℕ) → Option (List ℕ) → SessionEnd → Type 0
Closes day outcome old new end =
    ((outcome ≡ WriteFault) × (end ≡ ends.LinkFault) × (new ≡ old))
    ⊎ (WritesLast (closing_of day outcome) (end_of outcome) old new end
    ⊎ WritesLast memory_line (end_of outcome) old new end)

-- the notices of a day of so many bytes are written: over an exact crew the head, what the command `answers` writes of
-- the body, and its closing line; one that is cut or failed in counts as one that goes on with zeros
abbrev pub WritesDay : WhenRefused → Bool → ℕ → Limits → ℕ → List ℕ → Office → Option (List ℕ) → Option (List ℕ) →
    SessionEnd → Type 0
WritesDay w exact day limits count all o old new end =
    (outcome : Outcome) × (mid : Option (List ℕ))
    × (exact ≡ true → Streams w day limits (filled count all) o old mid outcome) × Closes day outcome mid new end

-- there was no second handle of the connection, which is answered as want of memory is: nothing is read
abbrev pub HasNoHandle : Wire → Wire → SessionEnd → Type 0
HasNoHandle old new end = SendsReply no_memory_reply old.written new.written end × (new.left ≡ old.left)

-- they are, and the body is read to its end; or there was no second handle
abbrev pub AnswersDay : WhenRefused → Bool → ℕ → Limits → ℕ → List ℕ → Office → Wire → Wire → SessionEnd → Type 0
AnswersDay w exact day limits count all o old new end =
    (WritesDay w exact day limits count all o old.written new.written end × ReadsBody count all old new)
    ⊎ HasNoHandle old new end
