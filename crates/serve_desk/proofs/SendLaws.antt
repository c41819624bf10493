-- Laws of what is sent.
use Rattle.std.proofs.Common.{◌≡◌, ◌≢◌, ◌<◌, ℕ, inr, List, Option, Some, None, Ok, sym, subst, Err, refl, arith}
use Rattle.road_io.specs.Rooms.{Room, Endless}
use Rattle.keep_office.specs.declared.kept.KeepFault.{KeepFault}
use Rattle.keep_office.specs.Calls.{Reads, CountsFaults}
use Rattle.keep_office.specs.Office.{Office}
use Rattle.serve_requests.specs.Replies.{Reply, no_memory_reply}
use Rattle.serve_requests.specs.Sends.{Sends, SendsReply, HasRoom, HasRoomFor, HasRoomForPage}
use Rattle.serve_requests.specs.declared.session_end.SessionEnd.{SessionEnd}
use Rattle.serve_requests.specs.declared.session_end.SessionEnd.TheVariants.{Answered, Cut, LinkFault}
use Rattle.serve_desk.specs.Answers.{AnswersReply, TellsFault}
use Rattle.road_io.specs.Faults.{Rose}
use Rattle.keep_office.specs.declared.kept.KeepFault.TheVariants.{Failed}

-- a link with endless room has room for so many bytes
pub endless_room : (room : Room) (n : ℕ) → room ≡ Endless → HasRoom room n
endless_room room n e = subst (λ o. HasRoom o n) (sym e) tt

-- what was sent with status 503 tells of a failed keeper
pub fault_told : (text : List ℕ) (old new : Option (List ℕ)) (end : SessionEnd) → Sends 503 text old new end →
    TellsFault end
fault_told text old new (Answered status) sent = sent.0
fault_told text old new Cut sent = absurd sent
fault_told text old new LinkFault sent = tt

-- a count that stands did not rise
pub not_risen : {P : Type 0} (before now : ℕ) → now ≡ before → before < now → P
not_risen before now same less = absurd (omega (arith, same, less))

-- a link with endless room has room for each answer
pub endless_has : (room : Room) (r : Reply) → room ≡ Endless → HasRoomFor room r
endless_has room r e = subst (λ o. HasRoomFor o r) (sym e) (tt, tt)

-- and for the page
pub endless_page : (room : Room) → room ≡ Endless → HasRoomForPage room
endless_page room e = subst (λ o. HasRoomForPage o) (sym e) (tt, tt)

-- want of memory answers in place of each reply
pub memory_answers : (r : Reply) (room : Room) (old new : Option (List ℕ)) (end : SessionEnd) →
    SendsReply no_memory_reply old new end → (HasRoomFor room no_memory_reply → end ≢ LinkFault) →
    AnswersReply r room old new end
memory_answers r room old new end sent sure = (inr sent, λ has. sure (has.1, has.1))

-- an office that is told is one
pub office_is : (p o : Office) → Some p ≡ Some o → p ≡ o
office_is p o e = cc e

-- what a keeper that tells its office answers
pub kept_is : {T : Type 0} (told after : Option Office) (o : Office) (x : T) (P : Office → T → Type 0) → told ≡ Some o →
    Reads told after (Ok x) P → P o x
kept_is None after o x P e h = absurd (cc e)
kept_is (Some p) None o x P e h = absurd h
kept_is (Some p) (Some q) o x P e h = subst (λ y. P y x) (office_is p o e) h.1

-- a keeper that failed counted it
pub failed_rose : {T : Type 0} (before now : ℕ) (fault : KeepFault) → CountsFaults {T = T} before now (Err fault) →
    fault ≡ Failed → Rose before now
failed_rose {T} before now fault h e = (subst (λ k. CountsFaults {T = T} before now (Err k)) e h).failed refl
