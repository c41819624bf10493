-- A session: one request is read, and answered of what is kept or of the live board, or ended at once.

use Rattle.std.specs.Prelude.{◌≡◌, ◌⊎◌, ℕ, Bool, List, Ok, Err}
use Rattle.road_io.specs.Plans.{NeverFails}
use Rattle.road_time.specs.declared.day.Limits.{Limits}
use Rattle.day_floor.specs.Operations.{Operation, Posted}
use Rattle.keep_office.specs.Calls.{WhenRefused}
use Rattle.keep_office.specs.Office.{Office}
use Rattle.serve_board.specs.Passes.{Pass, StartsWith, WasPosted}
use Rattle.serve_requests.specs.ReadRequests.{ReadsHeadAsked}
use Rattle.serve_requests.specs.declared.asked.Asked.{Asked}
use Rattle.serve_requests.specs.declared.session_end.SessionEnd.{SessionEnd}
use Rattle.serve_desk.specs.Answers.{Wire}
use Rattle.serve_desk.specs.Imports.{DeskState}
use Rattle.serve_desk.specs.Desk.{AnswersKept, IsOfKept}
use Rattle.serve_desk.specs.Live.{asked_of, IsOfLive, AnswersLive}

-- the session ends where the request is read: it is refused, or cut, or the link failed
abbrev pub EndsAtOnce : List ℕ → Wire → Wire → SessionEnd → Type 0
EndsAtOnce bytes old new end = ReadsHeadAsked bytes new.left old.written new.written (Err end)

-- the request is read, and is of this; nothing is written, and reads that do not fail go on so
abbrev pub Asks : List ℕ → Asked → Wire → Wire → Type 0
Asks bytes asked old mid =
    ReadsHeadAsked bytes mid.left old.written mid.written (Ok asked) × (mid.room ≡ old.room)
    × (NeverFails old.plan → NeverFails mid.plan)

-- a request of what is kept is answered, and the reader knows then all that is published
abbrev pub ServesKept : WhenRefused → Bool → List ℕ → Limits → Office → DeskState → DeskState → Pass → Wire → Wire →
    SessionEnd
    → Type 0
ServesKept w exact bytes limits o was now q old new end =
    (asked : Asked) × (mid : Wire) × Asks bytes asked old mid × IsOfKept asked
    × AnswersKept w exact asked limits o was now mid new end × StartsWith q.seen now.posted.published

-- a request of the live board is answered
abbrev pub ServesLive : List ℕ → Pass → Pass → Wire → Wire → SessionEnd → Type 0
ServesLive bytes p q old new end =
    (asked : Asked) × (mid : Wire) × Asks bytes asked old mid × IsOfLive asked
    × AnswersLive (asked_of asked) p q mid new end

-- a reader is told all that is published: it knows that, and forgets nothing that it saw
pub record Learns (all : List Operation) (old new : Pass) : Type 0 where
  pub board : new.board ≡ old.board
  pub had : StartsWith new.seen old.seen
  pub told : StartsWith new.seen all
  pub one : (new.seen ≡ old.seen) ⊎ (new.seen ≡ all)

-- a reader is told all that is published, and knows nothing that was not published and is not queued
abbrev pub IsTaught : Posted → Pass → Pass → Type 0
IsTaught posted p q = Learns posted.published p q × WasPosted posted q

-- a session over a link with these bytes, a desk that keeps this office and a reader of its board, which is told all that
-- is published: it ends at once; or what is asked is answered of what is kept; or of the live board
abbrev pub Serves : WhenRefused → Bool → List ℕ → Limits → Office → DeskState → DeskState → Pass → Pass → Wire → Wire →
    SessionEnd → Type 0
Serves w exact bytes limits o was now p q old new end =
    (EndsAtOnce bytes old new end × (now ≡ was) × Learns was.posted.published p q)
    ⊎ (ServesKept w exact bytes limits o was now q old new end
    ⊎ ((r : Pass) × Learns was.posted.published p r × ServesLive bytes r q old new end × (now ≡ was)))
