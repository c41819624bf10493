use Rattle.serve_requests.proofs.PlaceLaws.{places_have_routes, routes_have_places}
use Rattle.serve_requests.proofs.AsciiLaws.{places_are_ascii}
use Rattle.serve_requests.proofs.laws.places_law.Goals as goal

pub returns-clause-found : goal.returns-clause-found
returns-clause-found c = places_have_routes

pub returns-clause-named : goal.returns-clause-named
returns-clause-named c = routes_have_places

pub returns-clause-ascii : goal.returns-clause-ascii
returns-clause-ascii c = places_are_ascii
