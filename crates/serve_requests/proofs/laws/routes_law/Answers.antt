use Rattle.serve_requests.proofs.RouteLaws.{find_routes}
use Rattle.serve_requests.proofs.laws.routes_law.Goals as goal

pub returns : goal.returns
returns c = find_routes
