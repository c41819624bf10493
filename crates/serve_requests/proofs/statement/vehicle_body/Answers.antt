use Rattle.std.proofs.Common.{◌≡◌, ◌++◌, codes, decimal, string_bytes, ap, ◌∙◌}
use Rattle.serve_requests.specs.Lists.{statement_front}
use Rattle.serve_requests.proofs.statement.vehicle_body.Goals as goal

pub returns : goal.returns
returns c =
    let front = string_bytes c.in_ok-front.front in
    let made = statement_front c.args.rows.now c.args.from c.args.to in
    let vid = codes ",\"vid\":" ++ (decimal c.args.vid ++ codes "}") in
    let text : string_bytes c.in_ok-format.field-0 ≡ front ++ (codes ",\"total\":" ++ (decimal c.sum_of-sum.result ++ vid)) =
    c.in_ok-format.ensures.ok in
    text
    ∙ ap (λ l. l ++ (codes ",\"total\":" ++ (decimal c.sum_of-sum.result ++ vid))) c.in_ok-front.ensures
    ∙ ap (λ n. made ++ (codes ",\"total\":" ++ (decimal n ++ vid))) c.sum_of-sum.ensures
