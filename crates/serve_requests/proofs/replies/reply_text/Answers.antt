use Rattle.std.proofs.Common.{◌∙◌, ◌≡◌, ◌++◌, codes, string_bytes, ap}
use Rattle.serve_requests.specs.Replies.{status_line}
use Rattle.serve_requests.proofs.replies.reply_text.Goals as goal

pub returns : goal.returns
returns c =
    let rest = codes "\r\nContent-Type: application/json\r\nConnection: close\r\n\r\n" ++ c.args.body.now in
    let text : string_bytes c.in_ok-format.field-0 ≡ string_bytes c.in_ok-line.line
    ++ (codes "\r\n" ++ (string_bytes c.in_ok-length.length ++ rest)) = c.in_ok-format.ensures.ok in
    text
    ∙ ap (λ l. l ++ (codes "\r\n" ++ (string_bytes c.in_ok-length.length ++ rest))) c.in_ok-line.ensures
    ∙ ap (λ l. status_line c.args.status ++ (codes "\r\n" ++ (l ++ rest))) c.in_ok-length.ensures
