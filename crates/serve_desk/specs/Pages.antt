-- What a desk sends of the page to watch the day by.
use Rattle.std.specs.Prelude.{◌≢◌, List, ℕ, Option}
use Rattle.road_io.specs.Rooms.{Room}
use Rattle.serve_requests.specs.Sends.{SendsPage, HasRoomForPage}
use Rattle.serve_requests.specs.declared.session_end.SessionEnd.{SessionEnd}
use Rattle.serve_requests.specs.declared.session_end.SessionEnd.TheVariants.{LinkFault}

-- the page was sent, or the reply for want of memory; or the link failed, but not where it had room for both
abbrev pub AnswersPage : Room → Option (List ℕ) → Option (List ℕ) → SessionEnd → Type 0
AnswersPage room old new end = SendsPage old new end × (HasRoomForPage room → end ≢ LinkFault)
