use Rattle.std.proofs.Common.{ap, ◌∙◌, ◌≡◌, string_bytes, ◌++◌, codes, decimal, rules}
use Rattle.serde_json.specs.Data.{string, number, unsigned, object, member, no_members}
use Rattle.serde_json.specs.View.{view}
use Rattle.serde_json.specs.Written.{compact_text, has_float}
use Rattle.serve_requests.specs.Bodies.{digest_text}
use Rattle.serve_requests.proofs.BodyLaws.{day_shape}
use Rattle.serve_requests.proofs.bodies.day_body.Goals as goal

pub returns : goal.returns
returns c =
    let r = c.args.r.now in
    let d = string_bytes c.in_ok-digest.digest in
    let t = string_bytes c.in_ok-notices_digest.notices_digest in
    let f = string_bytes c.in_ok-tariffs.tariffs in
    let is : view c.in_ok-value.value ≡ object
    (member (codes "bytes") (number (unsigned r.bytes))
    (member (codes "day") (number (unsigned r.day))
    (member (codes "digest") (string d)
    (member (codes "notices") (number (unsigned r.notices))
    (member (codes "notices_digest") (string t)
    (member (codes "tariffs") (string f)
    (member (codes "total") (number (unsigned r.total))
    (member (codes "tuples") (number (unsigned r.tuples)) (no_members))))))))) = search rules in
    c.in_ok-to_string.ensures.text (ap has_float is) ∙ ap compact_text is
    ∙ day_shape r.bytes r.day r.notices r.total r.tuples d t f c.in_ok-digest.ensures.plain
    c.in_ok-notices_digest.ensures.plain c.in_ok-tariffs.ensures.plain
    ∙ ap (λ l. codes "{\"bytes\":"
    ++ (decimal r.bytes
    ++ (codes ",\"day\":"
    ++ (decimal r.day
    ++ (codes ",\"digest\":\"" ++ (l ++ (codes "\",\"notices\":"
    ++ (decimal r.notices
    ++ (codes ",\"notices_digest\":\"" ++ (t ++ ((codes "\",\"tariffs\":\"" ++ (f ++ (codes "\",\"total\":"
    ++ (decimal r.total ++ (codes ",\"tuples\":" ++ (decimal r.tuples ++ codes "}")))))))))))))))))
    c.in_ok-digest.ensures.text
    ∙ ap (λ l. codes "{\"bytes\":"
    ++ (decimal r.bytes
    ++ (codes ",\"day\":"
    ++ (decimal r.day
    ++ (codes ",\"digest\":\"" ++ (digest_text r.digest ++ (codes "\",\"notices\":"
    ++ (decimal r.notices
    ++ (codes ",\"notices_digest\":\"" ++ (l ++ ((codes "\",\"tariffs\":\"" ++ (f ++ (codes "\",\"total\":"
    ++ (decimal r.total ++ (codes ",\"tuples\":" ++ (decimal r.tuples ++ codes "}")))))))))))))))))
    c.in_ok-notices_digest.ensures.text
    ∙ ap (λ l. codes "{\"bytes\":"
    ++ (decimal r.bytes
    ++ (codes ",\"day\":"
    ++ (decimal r.day
    ++ (codes ",\"digest\":\"" ++ (digest_text r.digest ++ (codes "\",\"notices\":"
    ++ (decimal r.notices
    ++ (codes
    ",\"notices_digest\":\""
    ++ (digest_text r.notices_digest
    ++ ((codes "\",\"tariffs\":\""
    ++ (l ++ (codes "\",\"total\":"
    ++ (decimal r.total ++ (codes ",\"tuples\":" ++ (decimal r.tuples ++ codes "}")))))))))))))))))
    c.in_ok-tariffs.ensures.text
