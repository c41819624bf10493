use Rattle.serve_requests.specs.Pages.{page_front}
use Rattle.serve_requests.proofs.page.page_front.Goals as goal

pub returns : goal.returns
unfolding page_front
returns c = c.in_ok-format.ensures.ok
