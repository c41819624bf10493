use Rattle.std.proofs.Common.{sym, ap}
use Rattle.std.specs.Fmt.{digits}
use Rattle.serve_requests.specs.Replies.{reply_bytes}
use Rattle.serve_requests.specs.Sends.{refusal_reply}
use Rattle.serve_requests.proofs.refusing.refusal_text.Goals as goal

pub returns-in-BadHead : goal.returns-in-BadHead
unfolding digits
returns-in-BadHead c = sym (ap (λ r. reply_bytes (refusal_reply r)) c.in-BadHead.is)

pub returns-in-BadOrigin : goal.returns-in-BadOrigin
unfolding digits
returns-in-BadOrigin c = sym (ap (λ r. reply_bytes (refusal_reply r)) c.in-BadOrigin.is)

pub returns-in-NoPath : goal.returns-in-NoPath
unfolding digits
returns-in-NoPath c = sym (ap (λ r. reply_bytes (refusal_reply r)) c.in-NoPath.is)

pub returns-in-BadMethod : goal.returns-in-BadMethod
unfolding digits
returns-in-BadMethod c = sym (ap (λ r. reply_bytes (refusal_reply r)) c.in-BadMethod.is)

pub returns-in-BadLength : goal.returns-in-BadLength
unfolding digits
returns-in-BadLength c = sym (ap (λ r. reply_bytes (refusal_reply r)) c.in-BadLength.is)

pub returns-in-LengthNeeded : goal.returns-in-LengthNeeded
unfolding digits
returns-in-LengthNeeded c = sym (ap (λ r. reply_bytes (refusal_reply r)) c.in-LengthNeeded.is)

pub returns-in-TooLong : goal.returns-in-TooLong
unfolding digits
returns-in-TooLong c = sym (ap (λ r. reply_bytes (refusal_reply r)) c.in-TooLong.is)
