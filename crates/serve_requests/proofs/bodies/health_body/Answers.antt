use Rattle.std.proofs.Common.{ap, ◌∙◌}
use Rattle.serde_json.specs.Written.{compact_text, has_float}
use Rattle.serve_requests.proofs.BodyLaws.{health_shape}
use Rattle.serve_requests.proofs.bodies.health_body.Goals as goal

pub returns : goal.returns
returns c =
    let is = c.in_ok-value.ensures in
    c.in_ok-to_string.ensures.text (ap has_float is) ∙ ap compact_text is ∙ health_shape c.args.last
