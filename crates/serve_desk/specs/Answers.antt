-- Which reply each request of what is kept is given, and that it is sent, or that for want of memory.

use Rattle.std.specs.Prelude.{◌≡◌, ◌≢◌, ◌⊎◌, ℕ, Bool, List, length, Option, Some, None, codes}
use Rattle.road_io.specs.Faults.{Rose}
use Rattle.road_io.specs.Rooms.{Room}
use Rattle.keep_office.specs.declared.kept.DayRecord.{DayRecord}
use Rattle.road_time.specs.History.{paid}
use Rattle.keep_office.specs.Office.{Office, last_day, vehicle_rows_between}
use Rattle.day_import.specs.declared.outcomes.Outcome.{Outcome}
use Rattle.day_import.specs.declared.outcomes.Outcome.TheVariants.{Stored, Already, Answered, Refused, DayPassed}
use Rattle.day_import.specs.declared.outcomes.Outcome.TheVariants.{Differs, ReadFault, WriteFault, KeeperFault}
use Rattle.day_import.specs.declared.outcomes.Outcome.TheVariants.{NoMemory}
use Rattle.serve_requests.specs.Bodies.{day_body, imported_body, refused_body, passed_body, differs_body, spent_body}
use Rattle.serve_requests.specs.Bodies.{health_body}
use Rattle.serve_requests.specs.Lists.{days_body, vehicle_body}
use Rattle.serve_requests.specs.Replies.{Reply, reply_bytes, error_reply, no_memory_reply}
use Rattle.serve_requests.specs.Sends.{SendsReply, Replies, HasRoom, HasRoomFor}
use Rattle.serve_requests.specs.declared.session_end.SessionEnd.{SessionEnd}
use Rattle.serve_requests.specs.declared.session_end.SessionEnd.TheVariants.{Answered, Cut, LinkFault}

-- what a link tells: what is left to be read and which reads to come fail, what was written and how much more it takes
pub record Wire : Type 0 where
  pub left : Option (List ℕ)
  pub plan : Option (ℕ → Bool)
  pub written : Option (List ℕ)
  pub room : Room

-- it, as it is
abbrev pub wire_of : Option (List ℕ) → Option (ℕ → Bool) → Option (List ℕ) → Room → Wire
wire_of left plan written room = record { left = left; plan = plan; written = written; room = room }

-- a reply was sent, or the one for want of memory; or the link failed, but not where it had room for both
abbrev pub AnswersReply : Reply → Room → Option (List ℕ) → Option (List ℕ) → SessionEnd → Type 0
AnswersReply r room old new end = Replies r old new end × (HasRoomFor room r → end ≢ LinkFault)

-- a reply was sent, and no other; or the link failed, but not where it had room for it
abbrev pub AnswersExactly : Reply → Room → Option (List ℕ) → Option (List ℕ) → SessionEnd → Type 0
AnswersExactly r room old new end =
    SendsReply r old new end × (HasRoom room (length (reply_bytes r)) → end ≢ LinkFault)

-- an answer of status 200
abbrev pub good : List ℕ → Reply
good body = record { status = 200; body = body }

-- the keeper failed
abbrev pub keeper_reply : Reply
keeper_reply = error_reply 503 (codes "keeper")

-- a day, if it is kept
abbrev pub day_reply : Option DayRecord → Reply
day_reply None = error_reply 404 (codes "no day")
day_reply (Some r) = good (day_body r)

-- what a vehicle was charged on an expressway on a day
abbrev pub spent_reply : Office → ℕ → ℕ → ℕ → Reply
spent_reply o day xway vid = good (spent_body (paid o.rows day vid xway))

-- all kept days
abbrev pub days_reply : Office → Reply
days_reply o = good (days_body o.days)

-- what a vehicle was charged on the days from one to another
abbrev pub vehicle_reply : Office → ℕ → ℕ → ℕ → Reply
vehicle_reply o vid from to = good (vehicle_body vid from to (vehicle_rows_between o vid from to))

-- the last day, of a keeper that answers
abbrev pub health_reply : Office → Reply
health_reply o = good (health_body (last_day o))

-- how an import ended; the last three do not come
abbrev pub outcome_reply : Outcome → Reply
outcome_reply (Stored r) = good (imported_body r (codes "stored"))
outcome_reply (Already r) = good (imported_body r (codes "already"))
outcome_reply (Refused line cause) = record { status = 422; body = refused_body line cause }
outcome_reply (DayPassed last) = record { status = 409; body = passed_body last }
outcome_reply (Differs kept found) = record { status = 409; body = differs_body kept found }
outcome_reply KeeperFault = keeper_reply
outcome_reply NoMemory = no_memory_reply
outcome_reply (Answered r) = no_memory_reply
outcome_reply ReadFault = no_memory_reply
outcome_reply WriteFault = no_memory_reply

-- how an import ended was answered: exactly, where the keeper failed or memory ran out
abbrev pub AnswersOutcome : Outcome → Room → Option (List ℕ) → Option (List ℕ) → SessionEnd → Type 0
AnswersOutcome KeeperFault room old new end = AnswersExactly keeper_reply room old new end
AnswersOutcome NoMemory room old new end = AnswersExactly no_memory_reply room old new end
AnswersOutcome outcome room old new end = AnswersReply (outcome_reply outcome) room old new end

-- a reply of what is kept, where the keeper counted no fault; where its count rose, exactly that it failed
abbrev pub AnswersUnlessFailed : Reply → ℕ → ℕ → Room → Option (List ℕ) → Option (List ℕ) → SessionEnd → Type 0
AnswersUnlessFailed r before now room old new end =
    ((now ≡ before) × AnswersReply r room old new end)
    ⊎ (Rose before now × AnswersExactly keeper_reply room old new end)

-- an end that answers nothing but that the keeper failed
abbrev pub TellsFault : SessionEnd → Type 0
TellsFault (Answered status) = status ≡ 503
TellsFault Cut = Unit {0}
TellsFault LinkFault = Unit {0}
