use Rattle.std.proofs.Common.{sym, ap, ◌∙◌}
use Rattle.matchit.specs.Seek.{first}
use Rattle.matchit.specs.Router.{map_key}
use Rattle.matchit.proofs.RenameLemmas.{first-rename}
use Rattle.serve_requests.specs.Rows.{key_at}
use Rattle.serve_requests.proofs.routing.find_route.Goals as goal

pub returns-in-Ok : goal.returns-in-Ok
returns-in-Ok c =
    let path = c.args.path.now in
    sym (ap (λ rs. first rs path) (sym c.requires) ∙ first-rename key_at c.args.router.now path
    ∙ ap (map_key key_at) c.in-Ok.ensures.found)

pub returns-in-Err : goal.returns-in-Err
returns-in-Err c =
    let path = c.args.path.now in
    sym (ap (λ rs. first rs path) (sym c.requires) ∙ first-rename key_at c.args.router.now path
    ∙ ap (map_key key_at) c.in-Err.ensures.missing)
