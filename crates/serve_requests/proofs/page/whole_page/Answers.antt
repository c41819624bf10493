use Rattle.std.proofs.Common.{◌≡◌, ◌++◌, string_bytes, ap, ◌∙◌}
use Rattle.serve_requests.specs.declared.page.asking.TheConstants.{ASKING}
use Rattle.serve_requests.specs.declared.page.markup.TheConstants.{END}
use Rattle.serve_requests.specs.declared.page.showing.TheConstants.{SHOWING}
use Rattle.serve_requests.specs.Pages.{whole_page}
use Rattle.serve_requests.proofs.page.whole_page.Goals as goal

pub returns : goal.returns
unfolding whole_page
returns c =
    let rest = ASKING.now ++ (SHOWING.now ++ END.now) in
    let text : string_bytes c.in_ok-format.field-0 ≡ string_bytes c.in_ok-front.front ++ rest =
    c.in_ok-format.ensures.ok in
    text ∙ ap (λ l. l ++ rest) c.in_ok-front.ensures
