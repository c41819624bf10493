use Rattle.std.proofs.Common.{◌≡◌, IfOk, string_bytes, ap, subst, ◌∙◌}
use Rattle.serve_requests.specs.Pages.{page_reply, page_bytes}
use Rattle.serve_requests.proofs.page.page_text.Goals as goal

pub returns : goal.returns
unfolding page_bytes
returns c =
    subst (λ t. IfOk c.page_reply.result (λ s. string_bytes s ≡ t))
    (ap page_reply (c.as_str.ensures.value ∙ c.in_ok-page.ensures)) c.page_reply.ensures
