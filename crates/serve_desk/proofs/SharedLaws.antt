-- Laws of what is answered of a keeper that others may call between.
use Rattle.std.proofs.Common.{◌≡◌, ◌≤◌, ◌+◌, ◌-◌, ◌<◌, ◌⊎◌, ◌++◌, ℕ, suc, inl, inr, List, [], Option, Some, None}
use Rattle.std.proofs.Common.{Result, Ok, Err, IfOk, IfErr, OnOk, refl, ap, subst, ◌∙◌, arith}
use Rattle.std.specs.Global.{Vec}
use Rattle.keep_office.specs.declared.kept.DayRecord.{DayRecord}
use Rattle.keep_office.specs.declared.kept.KeepFault.{KeepFault}
use Rattle.keep_office.specs.declared.kept.KeepFault.TheVariants.{Failed, NoMemory}
use Rattle.keep_office.specs.Calls.{Reads}
use Rattle.keep_office.specs.Office.{Office, record_of, last_day}
use Rattle.serve_desk.specs.Calls.{ReadsShared, FailsShared}
use Rattle.road_io.specs.Faults.{Rose}
use Rattle.serve_requests.specs.Replies.{Reply, no_memory_reply}
use Rattle.serve_requests.specs.declared.session_end.SessionEnd.{SessionEnd}
use Rattle.serve_desk.specs.Answers.{Wire, AnswersReply, AnswersUnlessFailed}
use Rattle.serve_desk.specs.Days.{first_day, as_list}
use Rattle.serve_desk.specs.Shared.{AnswersOf, AnswersFailed, AnswersSome, AnswersListed, ListsFrom, ListsDays}
use Rattle.serve_desk.proofs.SendLaws.{kept_is, office_is, failed_rose}
use Rattle.serve_desk.proofs.DayLaws.{memory_still}

-- a keeper that tells its office tells the same after a call that reads
kept_same : {T : Type 0} (told after : Option Office) (o : Office) (r : Result T KeepFault)
    (P : Office → T → Type 0) → told ≡ Some o → Reads told after r P → after ≡ Some o
kept_same None after o r P e h = absurd (cc e)
kept_same (Some p) None o r P e h = absurd h
kept_same (Some p) (Some q) o r P e h = ap Some (h.0 ∙ office_is p o e)

-- a call that was answered is answered as the office stood that the keeper told
pub read_of : {K T : Type 0} {P : Office → T → Type 0} (told : K → Option Office) (faults : K → ℕ) (x : T) →
    ReadsShared told faults (Ok x) P → (reply : T → Reply) (answer : Office → Reply) (old new : Wire)
    (end : SessionEnd) → ((o : Office) → P o x → reply x ≡ answer o) →
    AnswersReply (reply x) old.room old.written new.written end → AnswersOf told faults answer old new end
read_of {K} {T} {P} told faults x s reply answer old new end is sent =
    record {
      was = s.was;
      now = s.now;
      answers = λ o tells. (
        kept_same (told s.was) (told s.now) o (Ok x) P tells s.reads,
        inl (
          s.counts.still refl,
          subst (λ r. AnswersReply r old.room old.written new.written end)
              (is o (kept_is (told s.was) (told s.now) o x P tells s.reads)) sent,
        ),
      );
    }

-- a call that was refused is answered so
pub refused_of : {K T : Type 0} {P : Office → T → Type 0} (told : K → Option Office) (faults : K → ℕ)
    (fault : KeepFault) → ReadsShared {T = T} told faults (Err fault) P → (answer : Office → Reply) (old new : Wire)
    (end : SessionEnd) →
    ((reply : Reply) (before now : ℕ) → (fault ≡ Failed → Rose before now) → (fault ≡ NoMemory → now ≡ before) →
    AnswersUnlessFailed reply before now old.room old.written new.written end) →
    AnswersOf told faults answer old new end
refused_of {K} {T} {P} told faults fault s answer old new end sent =
    record {
      was = s.was;
      now = s.now;
      answers = λ o tells. (
        kept_same {T = T} (told s.was) (told s.now) o (Err fault) P tells s.reads,
        sent (answer o) (faults s.was) (faults s.now)
            (failed_rose {T = T} (faults s.was) (faults s.now) fault s.counts)
            (memory_still {T = T} (faults s.was) (faults s.now) fault s.counts),
      );
    }

-- a call that was refused tells where it failed
pub fails_of : {K T : Type 0} {P : Office → T → Type 0} (told : K → Option Office) (faults : K → ℕ)
    (fault : KeepFault) → ReadsShared {T = T} told faults (Err fault) P → FailsShared faults fault
fails_of {K} {T} {P} told faults fault s e =
    (s.was, s.now, failed_rose {T = T} (faults s.was) (faults s.now) fault s.counts e)

-- one that never fails tells that too
pub fails_never : {K T : Type 0} (faults : K → ℕ) (r : Result T KeepFault) → (r ≡ Err Failed → ⊥) →
    IfErr r (FailsShared faults)
fails_never faults (Ok x) never = tt
fails_never faults (Err Failed) never = absurd (never refl)
fails_never faults (Err NoMemory) never = λ e. absurd (cc e)

-- what is sent unless the keeper failed, whose count rose then
unless_failed : {K : Type 0} (faults : K → ℕ) (was now : K) (reply : Reply) (old new : Wire) (end : SessionEnd) →
    AnswersUnlessFailed reply (faults was) (faults now) old.room old.written new.written end →
    AnswersReply reply old.room old.written new.written end ⊎ AnswersFailed faults old new end
unless_failed faults was now reply old new end (inl sent) = inl sent.1
unless_failed faults was now reply old new end (inr failed) = inr (was, now, failed.0, failed.1)

-- where no count rose, the keeper did not fail
unfailed : (reply : Reply) (old new : Wire) (end : SessionEnd) →
    AnswersUnlessFailed reply 0 0 old.room old.written new.written end →
    AnswersReply reply old.room old.written new.written end
unfailed reply old new end (inl sent) = sent.1
unfailed reply old new end (inr failed) = absurd (omega (arith, failed.0))

-- how a call that was refused is answered, of whatever reply
pub refused_so : {K : Type 0} (faults : K → ℕ) (fault : KeepFault) → FailsShared faults fault → (reply : Reply)
    (old new : Wire) (end : SessionEnd) →
    ((before now : ℕ) → (fault ≡ Failed → Rose before now) → (fault ≡ NoMemory → now ≡ before) →
    AnswersUnlessFailed reply before now old.room old.written new.written end) →
    AnswersReply reply old.room old.written new.written end ⊎ AnswersFailed faults old new end
refused_so faults Failed fails reply old new end sent =
    let (was, now, rose) = fails refl in
    unless_failed faults was now reply old new end
    (sent (faults was) (faults now) (λ _. rose) (λ e. absurd (cc e)))
refused_so faults NoMemory fails reply old new end sent =
    inl (unfailed reply old new end (sent 0 0 (λ e. absurd (cc e)) (λ _. refl)))

-- so is one of the replies of its kind, or that the keeper failed
pub some_of : {K T : Type 0} (faults : K → ℕ) (reply : T → Reply) (x : T) (fault : KeepFault) →
    FailsShared faults fault → (old new : Wire) (end : SessionEnd) →
    ((before now : ℕ) → (fault ≡ Failed → Rose before now) → (fault ≡ NoMemory → now ≡ before) →
    AnswersUnlessFailed (reply x) before now old.room old.written new.written end) →
    AnswersSome faults reply old new end
some_of faults reply x fault fails old new end sent =
    (x, refused_so faults fault fails (reply x) old new end sent)

-- of all days it is that the keeper failed, or want of memory
listed_so : {K : Type 0} (told : K → Option Office) (faults : K → ℕ) (old new : Wire) (end : SessionEnd) →
    AnswersReply no_memory_reply old.room old.written new.written end ⊎ AnswersFailed faults old new end →
    AnswersListed told faults old new end
listed_so told faults old new end (inl sent) = inr (inr sent)
listed_so told faults old new end (inr failed) = inr (inl failed)

pub refused_list : {K : Type 0} (told : K → Option Office) (faults : K → ℕ) (fault : KeepFault) →
    FailsShared faults fault → (old new : Wire) (end : SessionEnd) →
    ((before now : ℕ) → (fault ≡ Failed → Rose before now) → (fault ≡ NoMemory → now ≡ before) →
    AnswersUnlessFailed no_memory_reply before now old.room old.written new.written end) →
    AnswersListed told faults old new end
refused_list told faults fault fails old new end sent =
    listed_so told faults old new end (refused_so faults fault fails no_memory_reply old new end sent)

-- what was added of a day is what a state of the keeper kept of it
pub added_of : {K : Type 0} (told : K → Option Office) (k : K) (kept : Option DayRecord) (day : ℕ)
    (old new : List DayRecord) (r : Result (Unit {0}) KeepFault) → OnOk r (new ≡ old ++ as_list kept) →
    ((o : Office) → told k ≡ Some o → kept ≡ record_of o day) →
    OnOk r ((k : K) × (kept : Option DayRecord) × (new ≡ old ++ as_list kept)
    × ((o : Office) → told k ≡ Some o → kept ≡ record_of o day))
added_of told k kept day old new (Ok u) added is = (k, kept, added, is)
added_of told k kept day old new (Err e) added is = tt

-- before any day none is listed
pub lists_none : {K : Type 0} (told : K → Option Office) (first at : ℕ) (days : List DayRecord) → at ≡ first →
    days ≡ [] → ListsFrom told first (at - first) days
lists_none told first at days same none =
    let nothing : 0 ≡ at - first = omega (arith, same) in subst (λ n. ListsFrom told first n days) nothing none

-- one day more
pub lists_more : {K : Type 0} (told : K → Option Office) (k : K) (kept : Option DayRecord) (first at : ℕ)
    (before days : List DayRecord) → first ≤ at → days ≡ before ++ as_list kept →
    ((o : Office) → told k ≡ Some o → kept ≡ record_of o at) → ListsFrom told first (at - first) before →
    ListsFrom told first ((at + 1) - first) days
lists_more told k kept first at before days from added is lists =
    let more : suc (at - first) ≡ (at + 1) - first = omega (arith, from) in
    let here : at ≡ first + (at - first) = omega (arith, from) in
    subst (λ n. ListsFrom told first n days) more
    (k, kept, before, added, (λ o tells. subst (λ d. kept ≡ record_of o d) here (is o tells)), lists)

-- where the last day was passed, all to it are listed
pub lists_all : {K : Type 0} (told : K → Option Office) (first last at : ℕ) (days : List DayRecord) → first ≤ at →
    (at ≤ first) ⊎ (at ≤ last + 1) → last < at → ListsFrom told first (at - first) days →
    ListsFrom told first ((last + 1) - first) days
lists_all told first last at days from (inl same) passed lists =
    let all : at - first ≡ (last + 1) - first = omega (arith, from, same, passed) in
    subst (λ n. ListsFrom told first n days) all lists
lists_all told first last at days from (inr to) passed lists =
    let all : at - first ≡ (last + 1) - first = omega (arith, from, to, passed) in
    subst (λ n. ListsFrom told first n days) all lists

-- so all days are
pub lists_days : {K : Type 0} (told : K → Option Office) (first last : ℕ) (at_first at_last : K) →
    ((o : Office) → told at_first ≡ Some o → first ≡ first_day o.past) →
    ((o : Office) → told at_last ≡ Some o → last ≡ last_day o) → (r : Result (Vec DayRecord) KeepFault) →
    IfOk r (λ days. ListsFrom told first ((last + 1) - first) days.items) → IfOk r (λ days. ListsDays told days.items)
lists_days told first last at_first at_last is_first is_last (Ok days) lists = record {
  first = first;
  last = last;
  at_first = at_first;
  at_last = at_last;
  is_first = is_first;
  is_last = is_last;
  lists = lists;
}
lists_days told first last at_first at_last is_first is_last (Err e) lists = tt
