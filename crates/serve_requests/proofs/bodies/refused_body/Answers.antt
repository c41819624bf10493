use Rattle.std.proofs.Common.{ap, ◌∙◌, ◌≡◌, string_bytes, ◌++◌, codes, decimal, rules}
use Rattle.serde_json.specs.Data.{string, number, unsigned, object, member, no_members}
use Rattle.serde_json.specs.View.{view}
use Rattle.serde_json.specs.Written.{compact_text, has_float}
use Rattle.serve_requests.proofs.BodyLaws.{refused_shape}
use Rattle.serve_requests.proofs.bodies.refused_body.Goals as goal

pub returns : goal.returns
returns c =
    let w = string_bytes c.in_ok-cause.cause in
    let n = c.args.line in
    let is : view c.in_ok-value.value ≡ object
    (member (codes "cause") (string w)
    (member (codes "error") (string (codes "refused")) (member (codes "line") (number (unsigned n)) no_members))) =
    search rules in
    c.in_ok-to_string.ensures.text (ap has_float is) ∙ ap compact_text is
    ∙ refused_shape w n c.in_ok-cause.ensures.plain
    ∙ ap (λ l. codes "{\"cause\":\"" ++ (l ++ (codes "\",\"error\":\"refused\",\"line\":" ++ (decimal n ++ codes "}"))))
    c.in_ok-cause.ensures.text
