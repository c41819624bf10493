-- What a desk answers of a keeper that others may call between.
use Rattle.std.specs.Prelude.{◌≡◌, ◌⊎◌, ℕ, ◌≤◌, ◌+◌, ◌-◌, zero, suc, Bool, List, [], ◌++◌, length, Option, Some}
use Rattle.std.specs.Io.KnownBytes.{prepend_known}
use Rattle.road_io.specs.Faults.{Rose}
use Rattle.road_time.specs.declared.day.Limits.{Limits}
use Rattle.road_time.specs.declared.day.SpentRow.{SpentRow}
use Rattle.keep_office.specs.Calls.{WhenRefused}
use Rattle.keep_office.specs.declared.kept.DayRecord.{DayRecord}
use Rattle.keep_office.specs.Office.{Office, record_of, last_day}
use Rattle.day_import.specs.declared.outcomes.Outcome.{Outcome}
use Rattle.serve_requests.specs.Bodies.{spent_body, health_body}
use Rattle.serve_requests.specs.Lists.{days_body, vehicle_body}
use Rattle.serve_requests.specs.Replies.{Reply, no_memory_reply}
use Rattle.serve_requests.specs.declared.asked.Asked.{Asked}
use Rattle.serve_requests.specs.declared.asked.Asked.TheVariants.{Day, Import, Spent, Live, LiveTotal, Vehicle, Days}
use Rattle.serve_requests.specs.declared.asked.Asked.TheVariants.{Page}
use Rattle.serve_requests.specs.declared.asked.Asked.TheVariants.{Answers, Health}
use Rattle.serve_requests.specs.declared.session_end.SessionEnd.{SessionEnd}
use Rattle.serve_desk.specs.Answers.{Wire, AnswersReply, AnswersExactly, AnswersUnlessFailed, keeper_reply, good}
use Rattle.serve_desk.specs.Answers.{day_reply, spent_reply, vehicle_reply, health_reply}
use Rattle.serve_desk.specs.Days.{first_day, as_list}
use Rattle.serve_desk.specs.Pages.{AnswersPage}
use Rattle.serve_desk.specs.Imports.{AnswersBody, IsCutShort, FailsInBody, DeskState, ImportsDay}
use Rattle.serve_desk.specs.Reading.{ReadsOn}
use Rattle.serve_desk.specs.History.{GoesOn, told_at, told_last}
use Rattle.serve_desk.specs.Seats.{Seated}
use Rattle.serve_desk.specs.Sessions.{IsTaught}
use Rattle.serve_desk.specs.Streams.{WritesDay, HasNoHandle}

-- the keeper was asked once: the reply is that of the office which it kept then, in one of its states, and which it
-- keeps in the next; or its count of faults rose, and exactly that it failed is answered
pub record AnswersOf {K : Type 0} (told : K → Option Office) (faults : K → ℕ) (reply : Office → Reply)
    (old new : Wire) (end : SessionEnd) : Type 0 where
  pub was : K
  pub now : K
  pub answers : (o : Office) → told was ≡ Some o → (told now ≡ Some o)
      × AnswersUnlessFailed (reply o) (faults was) (faults now) old.room old.written new.written end

-- the count of the keeper rose between two of its states, and exactly that it failed is sent
abbrev pub AnswersFailed : {K : Type 0} → (K → ℕ) → Wire → Wire → SessionEnd → Type 0
AnswersFailed {K} faults old new end =
    (was : K) × (now : K) × Rose (faults was) (faults now)
    × AnswersExactly keeper_reply old.room old.written new.written end

-- whatever the keeper tells, one of these replies is sent, or that the keeper failed, where its count rose
abbrev pub AnswersSome : {K T : Type 0} → (K → ℕ) → (T → Reply) → Wire → Wire → SessionEnd → Type 0
AnswersSome {K} {T} faults reply old new end =
    (x : T) × (AnswersReply (reply x) old.room old.written new.written end ⊎ AnswersFailed faults old new end)

-- a day was posted with a body of so many of these bytes, and its import had an outcome: that is answered behind the
-- whole body; or the body was cut, or the link failed in it, and nothing is answered
abbrev pub AnswersPost : ℕ → List ℕ → Wire → Wire → SessionEnd → Type 0
AnswersPost count early old new end =
    (all : List ℕ) → prepend_known early old.left ≡ Some all
    → (outcome : Outcome) × (AnswersBody count all outcome old new end
    ⊎ (IsCutShort count all outcome old new end ⊎ FailsInBody old new end))

-- so many days from one on were looked for, each in a state of the keeper, and listed are those that it kept then
abbrev pub ListsFrom : {K : Type 0} → (K → Option Office) → ℕ → ℕ → List DayRecord → Type 0
ListsFrom {K} told first zero days = days ≡ []
ListsFrom {K} told first (suc n) days =
    (k : K) × (kept : Option DayRecord) × (before : List DayRecord) × (days ≡ before ++ as_list kept)
    × ((o : Office) → told k ≡ Some o → kept ≡ record_of o (first + n)) × ListsFrom told first n before

-- all days were looked for, from the first that may be kept in a state of the keeper to the last that was kept in one,
-- and listed are those that it kept when they were
pub record ListsDays {K : Type 0} (told : K → Option Office) (days : List DayRecord) : Type 0 where
  pub first : ℕ
  pub last : ℕ
  pub at_first : K
  pub at_last : K
  pub is_first : (o : Office) → told at_first ≡ Some o → first ≡ first_day o.past
  pub is_last : (o : Office) → told at_last ≡ Some o → last ≡ last_day o
  pub lists : ListsFrom told first ((last + 1) - first) days

-- the days that are listed are answered; or that the keeper failed, where its count rose; or want of memory
abbrev pub AnswersListed : {K : Type 0} → (K → Option Office) → (K → ℕ) → Wire → Wire → SessionEnd → Type 0
AnswersListed told faults old new end =
    ((days : List DayRecord) × ListsDays told days
    × AnswersReply (good (days_body days)) old.room old.written new.written end)
    ⊎ (AnswersFailed faults old new end ⊎ AnswersReply no_memory_reply old.room old.written new.written end)

-- a day is imported exactly, over the office at a place in the history of the keeper that is no earlier than any which was
-- seen before; what is kept then comes next in that history, or nothing was put and it ends with that place; and the
-- reader is told all that is published then, and knows nothing else but what may be queued
pub record ImportsShared {K : Type 0} (told : K → Option Office) (w : WhenRefused) (exact : Bool) (limits : Limits)
    (day count : ℕ) (early : List ℕ) (p q : Seated K) (old new : Wire) (end : SessionEnd) : Type 0 where
  pub at : ℕ
  pub before : DeskState
  pub after : DeskState
  pub from : length p.log ≤ at + 1
  pub had : GoesOn p.log q.log
  pub told_before : before.told ≡ told_at told q.log at
  pub told_after : after.told ≡ told_last told q.log
  pub next : ((length q.log ≡ at + 1) × (after.told ≡ before.told)) ⊎ (length q.log ≡ at + 2)
  pub imports : (all : List ℕ) (o : Office) → prepend_known early old.left ≡ Some all → before.told ≡ Some o
      → ImportsDay w exact day limits count all o before after old new end
  pub taught : IsTaught after.posted p.reader q.reader

-- the notices of a day are streamed exactly, of an office that the keeper told in one of its states, and which it told
-- in one behind them
pub record StreamsShared {K : Type 0} (told : K → Option Office) (w : WhenRefused) (exact : Bool) (limits : Limits)
    (day count : ℕ) (early : List ℕ) (old new : Wire) (end : SessionEnd) : Type 0 where
  pub was : K
  pub now : K
  pub kept : told now ≡ told was
  pub answers : (all : List ℕ) (o : Office) → prepend_known early old.left ≡ Some all → told was ≡ Some o
      → WritesDay w exact day limits count all o old.written new.written end

-- so they are, and the body is read to its end; or there was no second handle of the connection
abbrev pub AnswersNotices : {K : Type 0} → (K → Option Office) → WhenRefused → Bool → Limits → ℕ → ℕ → List ℕ → Wire →
    Wire → SessionEnd → Type 0
AnswersNotices told w exact limits day count early old new end =
    (StreamsShared told w exact limits day count early old new end × ReadsOn count early old new)
    ⊎ HasNoHandle old new end

-- what is asked is answered of a keeper that others may call between: a day, an amount, a vehicle's bill and the last
-- day of one of its states, all days day by day of its states, the page, a POST behind its body and exactly of one of its
-- states, and the notices of a day exactly of one too; a POST teaches the reader, and its seat goes on to what it kept,
-- and all else leaves both as they were
abbrev pub AnswersShared : {K : Type 0} → (K → Option Office) → (K → ℕ) → WhenRefused → Bool → Limits → Asked →
    Seated K → Seated K → Wire → Wire → SessionEnd → Type 0
AnswersShared told faults w exact limits (Day day) p q old new end =
    AnswersOf told faults (λ o. day_reply (record_of o day)) old new end × AnswersSome faults day_reply old new end
    × (new.left ≡ old.left) × (q ≡ p)
AnswersShared told faults w exact limits (Spent day xway vid) p q old new end =
    AnswersOf told faults (λ o. spent_reply o day xway vid) old new end
    × AnswersSome {T = ℕ} faults (λ n. good (spent_body n)) old new end × (new.left ≡ old.left) × (q ≡ p)
AnswersShared told faults w exact limits (Import day count early) p q old new end =
    AnswersPost count early old new end × ImportsShared told w exact limits day count early p q old new end
AnswersShared told faults w exact limits (Vehicle vid from to) p q old new end =
    AnswersOf told faults (λ o. vehicle_reply o vid from to) old new end
    × AnswersSome {T = List SpentRow} faults (λ rows. good (vehicle_body vid from to rows)) old new end
    × (new.left ≡ old.left) × (q ≡ p)
AnswersShared told faults w exact limits Days p q old new end =
    AnswersListed told faults old new end
    × AnswersSome {T = List DayRecord} faults (λ days. good (days_body days)) old new end
    × (new.left ≡ old.left) × (q ≡ p)
AnswersShared told faults w exact limits Health p q old new end =
    AnswersOf told faults health_reply old new end
    × AnswersSome {T = ℕ} faults (λ n. good (health_body n)) old new end × (new.left ≡ old.left) × (q ≡ p)
AnswersShared told faults w exact limits Page p q old new end =
    AnswersPage old.room old.written new.written end × (new.left ≡ old.left) × (q ≡ p)
AnswersShared told faults w exact limits (Answers day count early) p q old new end =
    AnswersNotices told w exact limits day count early old new end × (q ≡ p)
AnswersShared told faults w exact limits (Live vid) p q old new end = Unit {0}
AnswersShared told faults w exact limits LiveTotal p q old new end = Unit {0}
