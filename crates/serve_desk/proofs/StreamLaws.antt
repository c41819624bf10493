-- Laws of the notices of a day that is sent.
use Rattle.std.proofs.Common.{◌≡◌, ◌≢◌, ◌∙◌, ℕ, List, Option, inl, inr, refl, sym, subst, arith}
use Rattle.road_io.specs.Rooms.{Room, Untold, Bound, Endless, Takes, Refuses}
use Rattle.road_time.specs.declared.day.Limits.{Limits}
use Rattle.road_time.specs.Reads.{reads}
use Rattle.keep_office.specs.Calls.{WhenRefused}
use Rattle.keep_office.specs.Office.{Office}
use Rattle.day_import.specs.Imports.{answers_answer, answers_read, Does}
use Rattle.day_import.specs.declared.outcomes.Outcome.{Outcome}
use Rattle.day_import.specs.declared.outcomes.Outcome.TheVariants.{Stored, Already, Answered, Refused, DayPassed}
use Rattle.day_import.specs.declared.outcomes.Outcome.TheVariants.{Differs, ReadFault, WriteFault, KeeperFault}
use Rattle.day_import.specs.declared.outcomes.Outcome.TheVariants.{NoMemory}
use Rattle.serve_requests.specs.declared.session_end.SessionEnd.{SessionEnd}
use Rattle.serve_requests.specs.declared.session_end.SessionEnd.TheVariants as ends
use Rattle.serve_desk.specs.Answers.{TellsFault}
use Rattle.serve_desk.specs.Streams.{end_of, WritesLast}

-- a day is answered alike under limits by which it is read alike
pub same_answer : (w : WhenRefused) (day : ℕ) (l m : Limits) (bytes : List ℕ) (o : Office) (old new : Option (List ℕ))
    (now : Option Office) (outcome : Outcome) → reads bytes l 0 ≡ reads bytes m 0 →
    Does w (answers_answer day 0 l bytes o) o old new now outcome →
    Does w (answers_answer day 0 m bytes o) o old new now outcome
same_answer w day l m bytes o old new now outcome e h =
    subst (λ r. Does w (answers_read day bytes r.tuples r.refused o) o old new now outcome) e h

-- a sink with endless room does not refuse
pub endless_takes : (room after : Room) (n : ℕ) → room ≡ Endless → Refuses room after n → ⊥
endless_takes room after n e h = subst (λ r. Refuses r after n) e h

-- and keeps it
pub endless_stays : (room after : Room) (n : ℕ) → room ≡ Endless → Takes room after n → after ≡ Endless
endless_stays room after n e h = by after (subst (λ r. Takes r after n) e h)
  where
    by : (a : Room) → Takes Endless a n → a ≡ Endless
    by Untold t = absurd t
    by (Bound k) t = absurd t
    by Endless t = refl

-- a session whose link did not fail does not end so
pub ends_well : (outcome : Outcome) → outcome ≢ WriteFault → end_of outcome ≢ ends.LinkFault
ends_well (Answered r) h = λ e. cc e
ends_well (Refused line cause) h = λ e. cc e
ends_well ReadFault h = λ e. cc e
ends_well KeeperFault h = λ e. cc e
ends_well NoMemory h = λ e. cc e
ends_well WriteFault h = λ e. h refl
ends_well (Stored r) h = λ e. cc e
ends_well (Already r) h = λ e. cc e
ends_well (DayPassed last) h = λ e. cc e
ends_well (Differs kept found) h = λ e. cc e

-- a status is one
status_is : (m n : ℕ) → ends.Answered m ≡ ends.Answered n → m ≡ n
status_is m n e = cc e

-- 200 is not 503
good_end : ends.Answered 200 ≢ ends.Answered 503
good_end e = (let same = status_is 200 503 e in omega (arith, same))

-- how a session ends is never as unavailable
pub available : (outcome : Outcome) → end_of outcome ≢ ends.Answered 503
available (Answered r) = good_end
available (Refused line cause) = good_end
available ReadFault = good_end
available KeeperFault = λ e. cc e
available NoMemory = good_end
available WriteFault = λ e. cc e
available (Stored r) = good_end
available (Already r) = good_end
available (DayPassed last) = good_end
available (Differs kept found) = good_end

-- nor behind a last line
pub last_available : (line : List ℕ) (wanted end : SessionEnd) (old new : Option (List ℕ)) →
    wanted ≢ ends.Answered 503 → WritesLast line wanted old new end → end ≢ ends.Answered 503
last_available line wanted end old new other (inl (is, wrote)) = λ e. other (sym is ∙ e)
last_available line wanted end old new other (inr (is, part)) = λ e. cc (sym is ∙ e)

-- a last line behind a failed keeper tells of it
pub last_told : (line : List ℕ) (wanted end : SessionEnd) (old new : Option (List ℕ)) →
    TellsFault wanted → WritesLast line wanted old new end → TellsFault end
last_told line wanted end old new tells (inl (is, wrote)) = subst TellsFault (sym is) tells
last_told line wanted end old new tells (inr (is, part)) = subst TellsFault (sym is) tt

-- where the keeper failed the session's end tells of it
pub end_told : (outcome : Outcome) → outcome ≡ KeeperFault → TellsFault (end_of outcome)
end_told outcome is = subst (λ o. TellsFault (end_of o)) (sym is) tt
