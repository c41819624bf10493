-- What a shared desk does for a connection.
use Rattle.std.specs.Prelude.{◌≡◌, ℕ, Bool, List, Option, Some}
use Rattle.road_io.specs.Faults.{Rose}
use Rattle.road_time.specs.declared.day.Limits.{Limits}
use Rattle.keep_office.specs.Calls.{WhenRefused}
use Rattle.keep_office.specs.Office.{Office}
use Rattle.serve_requests.specs.declared.session_end.SessionEnd.{SessionEnd}
use Rattle.serve_requests.specs.declared.session_end.SessionEnd.TheVariants.{LinkFault}
use Rattle.serve_desk.specs.Answers.{wire_of}
use Rattle.serve_desk.specs.Answers.{Wire as DeskWire}
use Rattle.serve_desk.specs.Shared.{AnswersShared}
use Rattle.serve_desk.specs.Clerks.{Shares}
use Rattle.serve_desk.specs.Seats.{Seated}
use Rattle.serve_loops.specs.Wires.{Wire}

-- a connection in the words of a desk
abbrev pub desk_wire : Wire → DeskWire
desk_wire w = wire_of w.left w.plan w.written w.room

-- one session over the connection, whose bytes are these where it tells them: a request is read and refused; or it is
-- of the live board, and answered by the reader; or it is answered of the keeper that the desk shares, and where it is a
-- POST it is imported over an office that is no older than any that was seen, what it kept comes next in the history, and
-- the reader knows then all that is published; where it ends as one whose link failed, the count of the connection rose
abbrev pub Attends : {K : Type 0} → (K → Option Office) → (K → ℕ) → WhenRefused → Bool → Limits → Seated K →
    Seated K → Wire → Wire → Type 0
Attends told faults w exact limits p q old new =
    (bytes : List ℕ) → old.left ≡ Some bytes
    → (end : SessionEnd) × Shares (AnswersShared told faults w exact limits) bytes p q (desk_wire old)
    (desk_wire new) end × (end ≡ LinkFault → Rose old.faults new.faults)
