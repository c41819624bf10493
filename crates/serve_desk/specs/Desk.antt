-- What the desk answers of what is kept.
use Rattle.std.specs.Prelude.{◌≡◌, ℕ, Bool, List, Some}
use Rattle.std.specs.Io.KnownBytes.{prepend_known}
use Rattle.road_time.specs.declared.day.Limits.{Limits}
use Rattle.keep_office.specs.Calls.{WhenRefused}
use Rattle.keep_office.specs.Office.{Office, record_of}
use Rattle.serve_requests.specs.declared.asked.Asked.{Asked}
use Rattle.serve_requests.specs.declared.asked.Asked.TheVariants.{Day, Import, Spent, Live, LiveTotal, Vehicle, Days}
use Rattle.serve_requests.specs.declared.asked.Asked.TheVariants.{Page}
use Rattle.serve_requests.specs.declared.asked.Asked.TheVariants.{Answers, Health}
use Rattle.serve_requests.specs.declared.session_end.SessionEnd.{SessionEnd}
use Rattle.serve_desk.specs.Answers.{Wire, day_reply, spent_reply, days_reply, vehicle_reply, health_reply}
use Rattle.serve_desk.specs.Answers.{AnswersUnlessFailed}
use Rattle.serve_desk.specs.Pages.{AnswersPage}
use Rattle.serve_desk.specs.Imports.{DeskState, ImportsDay}
use Rattle.serve_desk.specs.Streams.{AnswersDay}

-- what is kept is told as it was, nothing is published, and nothing is read
abbrev pub LeavesAll : Office → DeskState → DeskState → Wire → Wire → Type 0
LeavesAll o was now old new = (now.told ≡ Some o) × (now.posted ≡ was.posted) × (new.left ≡ old.left)

-- a session's end of what is asked of what is kept: the reply of a day, of an amount, of all days, of a vehicle or
-- of the last day, or the page, which leave all as it is; or that of an import; or the notices of a day, of which nothing is kept
abbrev pub AnswersKept : WhenRefused → Bool → Asked → Limits → Office → DeskState → DeskState → Wire → Wire →
    SessionEnd → Type 0
AnswersKept w exact (Day day) limits o was now old new end =
    LeavesAll o was now old new
    × AnswersUnlessFailed (day_reply (record_of o day)) was.faults now.faults old.room old.written new.written end
AnswersKept w exact (Spent day xway vid) limits o was now old new end =
    LeavesAll o was now old new
    × AnswersUnlessFailed (spent_reply o day xway vid) was.faults now.faults old.room old.written new.written end
AnswersKept w exact (Import day count early) limits o was now old new end =
    (all : List ℕ) → prepend_known early old.left ≡ Some all
    → ImportsDay w exact day limits count all o was now old new end
AnswersKept w exact (Vehicle vid from to) limits o was now old new end =
    LeavesAll o was now old new
    × AnswersUnlessFailed (vehicle_reply o vid from to) was.faults now.faults old.room old.written new.written end
AnswersKept w exact Days limits o was now old new end =
    LeavesAll o was now old new
    × AnswersUnlessFailed (days_reply o) was.faults now.faults old.room old.written new.written end
AnswersKept w exact Health limits o was now old new end =
    LeavesAll o was now old new
    × AnswersUnlessFailed (health_reply o) was.faults now.faults old.room old.written new.written end
AnswersKept w exact Page limits o was now old new end =
    LeavesAll o was now old new × (now.faults ≡ was.faults) × AnswersPage old.room old.written new.written end
AnswersKept w exact (Answers day count early) limits o was now old new end =
    (all : List ℕ) → prepend_known early old.left ≡ Some all
    → (now.told ≡ Some o) × (now.posted ≡ was.posted)
    × AnswersDay w exact day limits count all o old new end
AnswersKept w exact (Live vid) limits o was now old new end = Unit {0}
AnswersKept w exact LiveTotal limits o was now old new end = Unit {0}

-- a request asks for what is kept or for the page, and not for the live board
abbrev pub IsOfKept : Asked → Type 0
IsOfKept (Day day) = Unit {0}
IsOfKept (Spent day xway vid) = Unit {0}
IsOfKept (Import day count early) = Unit {0}
IsOfKept (Vehicle vid from to) = Unit {0}
IsOfKept Days = Unit {0}
IsOfKept Page = Unit {0}
IsOfKept Health = Unit {0}
IsOfKept (Answers day count early) = Unit {0}
IsOfKept (Live vid) = ⊥
IsOfKept LiveTotal = ⊥
