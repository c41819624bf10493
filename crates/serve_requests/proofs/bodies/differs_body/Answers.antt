use Rattle.std.proofs.Common.{ap, ◌∙◌, ◌≡◌, string_bytes, ◌++◌, codes, rules}
use Rattle.serde_json.specs.Data.{string, object, member, no_members}
use Rattle.serde_json.specs.View.{view}
use Rattle.serde_json.specs.Written.{compact_text, has_float}
use Rattle.serve_requests.specs.Bodies.{digest_text}
use Rattle.serve_requests.proofs.BodyLaws.{differs_shape}
use Rattle.serve_requests.proofs.bodies.differs_body.Goals as goal

pub returns : goal.returns
returns c =
    let f = string_bytes c.in_ok-found.found in
    let k = string_bytes c.in_ok-kept.kept in
    let is : view c.in_ok-value.value ≡ object
    (member (codes "error") (string (codes "differs"))
    (member (codes "found") (string f) (member (codes "kept") (string k) no_members))) = search rules in
    c.in_ok-to_string.ensures.text (ap has_float is) ∙ ap compact_text is
    ∙ differs_shape f k c.in_ok-found.ensures.plain c.in_ok-kept.ensures.plain
    ∙ ap (λ l. codes "{\"error\":\"differs\",\"found\":\"" ++ (l ++ (codes "\",\"kept\":\"" ++ (k ++ codes "\"}"))))
    c.in_ok-found.ensures.text
    ∙ ap (λ l.
    codes "{\"error\":\"differs\",\"found\":\""
    ++ (digest_text c.args.found.now ++ (codes "\",\"kept\":\"" ++ (l ++ codes "\"}")))) c.in_ok-kept.ensures.text
