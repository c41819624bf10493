use Rattle.std.proofs.Common.{sym, ap}
use Rattle.serve_requests.specs.Sends.{refusal_reply}
use Rattle.serve_requests.proofs.refusing.refusal_status.Goals as goal

pub returns-in-BadHead : goal.returns-in-BadHead
returns-in-BadHead c = sym (ap (λ r. (refusal_reply r).status) c.in-BadHead.is)

pub returns-in-BadOrigin : goal.returns-in-BadOrigin
returns-in-BadOrigin c = sym (ap (λ r. (refusal_reply r).status) c.in-BadOrigin.is)

pub returns-in-NoPath : goal.returns-in-NoPath
returns-in-NoPath c = sym (ap (λ r. (refusal_reply r).status) c.in-NoPath.is)

pub returns-in-BadMethod : goal.returns-in-BadMethod
returns-in-BadMethod c = sym (ap (λ r. (refusal_reply r).status) c.in-BadMethod.is)

pub returns-in-BadLength : goal.returns-in-BadLength
returns-in-BadLength c = sym (ap (λ r. (refusal_reply r).status) c.in-BadLength.is)

pub returns-in-LengthNeeded : goal.returns-in-LengthNeeded
returns-in-LengthNeeded c = sym (ap (λ r. (refusal_reply r).status) c.in-LengthNeeded.is)

pub returns-in-TooLong : goal.returns-in-TooLong
returns-in-TooLong c = sym (ap (λ r. (refusal_reply r).status) c.in-TooLong.is)
