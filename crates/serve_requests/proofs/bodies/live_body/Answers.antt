use Rattle.std.proofs.Common.{ap, ◌∙◌}
use Rattle.serde_json.specs.Written.{compact_text, has_float}
use Rattle.serve_requests.proofs.BodyLaws.{live_shape}
use Rattle.serve_requests.proofs.bodies.live_body.Goals as goal

pub returns : goal.returns
returns c =
    let is = c.in_ok-value.ensures in
    c.in_ok-to_string.ensures.text (ap has_float is) ∙ ap compact_text is
    ∙ live_shape c.args.as_of c.args.balance c.args.day
