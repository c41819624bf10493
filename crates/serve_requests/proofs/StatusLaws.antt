-- Laws of the status that is answered.
use Rattle.std.proofs.Common.{◌≡◌, ◌≢◌, ◌<◌, ℕ, inl, inr, List, Option, sym, subst, arith}
use Rattle.serve_requests.specs.declared.wanted.Refusal.{Refusal}
use Rattle.serve_requests.specs.declared.wanted.Refusal.TheVariants.{BadHead, BadOrigin, NoPath, BadMethod, BadLength}
use Rattle.serve_requests.specs.declared.wanted.Refusal.TheVariants.{LengthNeeded, TooLong}
use Rattle.serve_requests.specs.Replies.{Reply, no_memory_reply}
use Rattle.serve_requests.specs.Pages.{page_bytes}
use Rattle.serve_requests.specs.Sends.{Sends, SendsReply, SendsPage, Replies, refusal_reply}
use Rattle.serve_requests.specs.declared.session_end.SessionEnd.{SessionEnd}
use Rattle.serve_requests.specs.declared.session_end.SessionEnd.TheVariants.{Answered}

reply_503 : (r : Reply) (old new : Option (List ℕ)) → Replies r old new (Answered 503) → r.status ≢ 503 → ⊥
reply_503 r old new (inl sent) other = other (sym sent.0)
reply_503 r old new (inr sent) other = (let is : 503 ≡ 500 = sent.0 in omega (arith, is))

-- a reply of another status, or want of memory, is not answered as unavailable
pub not_unavailable : (r : Reply) (old new : Option (List ℕ)) (end : SessionEnd) → Replies r old new end →
    r.status ≢ 503 → end ≡ Answered 503 → ⊥
not_unavailable r old new end sent other is = reply_503 r old new (subst (λ e. Replies r old new e) is sent) other

-- nor is want of memory
pub memory_is_available : (old new : Option (List ℕ)) (end : SessionEnd) → SendsReply no_memory_reply old new end →
    end ≡ Answered 503 → ⊥
memory_is_available old new end sent is =
    not_unavailable no_memory_reply old new end (inr sent) (λ e. (let same : 500 ≡ 503 = e in omega (arith, same))) is

-- nor is what was sent with another status
pub not_sent_503 : (status : ℕ) (text : List ℕ) (old new : Option (List ℕ)) (end : SessionEnd) →
    Sends status text old new end → status ≢ 503 → end ≡ Answered 503 → ⊥
not_sent_503 status text old new end sent other is = at_503 (subst (λ e. Sends status text old new e) is sent)
  where
    at_503 : Sends status text old new (Answered 503) → ⊥
    at_503 answered = other (sym answered.0)

-- nor is the page
pub page_is_available : (old new : Option (List ℕ)) (end : SessionEnd) → SendsPage old new end →
    end ≡ Answered 503 → ⊥
page_is_available old new end (inl sent) is =
    not_sent_503 200 page_bytes old new end sent (λ e. (let same : 200 ≡ 503 = e in omega (arith, same))) is
page_is_available old new end (inr sent) is = memory_is_available old new end sent is

refusal_low : (r : Refusal) → (refusal_reply r).status < 500
refusal_low BadHead = omega arith
refusal_low BadOrigin = omega arith
refusal_low NoPath = omega arith
refusal_low BadMethod = omega arith
refusal_low BadLength = omega arith
refusal_low LengthNeeded = omega arith
refusal_low TooLong = omega arith

-- nor is a refusal
pub refusal_is_available : (r : Refusal) (old new : Option (List ℕ)) (end : SessionEnd) →
    SendsReply (refusal_reply r) old new end → end ≡ Answered 503 → ⊥
refusal_is_available r old new end sent is =
    not_unavailable (refusal_reply r) old new end (inl sent) (λ e. omega (arith, refusal_low r, e)) is
