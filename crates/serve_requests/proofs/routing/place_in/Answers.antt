use Rattle.std.proofs.Common.{ap, ◌∙◌}
use Rattle.matchit.specs.Seek.{first}
use Rattle.serve_requests.specs.Rows.{desk_rows}
use Rattle.serve_requests.proofs.PlaceLaws.{no_route, by_route}
use Rattle.serve_requests.proofs.AsciiLaws.{no_text}
use Rattle.serve_requests.proofs.routing.place_in.Goals as goal

pub returns-in_default-clause-place : goal.returns-in_default-clause-place
returns-in_default-clause-place c = no_text c.args.path.now c.in_default.ensures.cases.0

pub returns-in-Some-clause-place : goal.returns-in-Some-clause-place
returns-in-Some-clause-place c =
    c.place_by.ensures.place
    ∙ by_route c.args.path.now c.in-Some.route (c.in-Some.ensures ∙ ap (first desk_rows) c.in-Ok.ensures.cases.0)

pub returns-in-None-clause-place : goal.returns-in-None-clause-place
returns-in-None-clause-place c =
    no_route c.args.path.now (c.in-None.ensures ∙ ap (first desk_rows) c.in-Ok.ensures.cases.0)
