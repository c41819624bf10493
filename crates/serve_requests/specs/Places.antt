-- Places and the routes that find them.
use Rattle.std.specs.Prelude.{◌≡◌, ℕ, List, Option, Some}
use Rattle.std.specs.Str.{IsAscii}
use Rattle.matchit.specs.Seek.{first}
use Rattle.serve_requests.specs.Paths.{path_place, day_at, live_at, total_at, spent_at, vehicle_at, days_at, page_at}
use Rattle.serve_requests.specs.Paths.{answers_at, health_at}
use Rattle.serve_requests.specs.Rows.{desk_rows, key_of}
use Rattle.serve_requests.specs.declared.place.DeskPlace.{DeskPlace}
use Rattle.serve_requests.specs.declared.place.DeskPlace.TheVariants.{DayPlace, SpentPlace, LivePlace, TotalPlace}
use Rattle.serve_requests.specs.declared.place.DeskPlace.TheVariants.{VehiclePlace, DaysPlace, PagePlace, AnswersPlace}
use Rattle.serve_requests.specs.declared.place.DeskPlace.TheVariants.{HealthPlace}
use Rattle.serve_requests.specs.declared.route.Route.{Route}
use Rattle.serve_requests.specs.declared.route.Route.TheVariants.{OfDay, OfLive, OfTotal, OfSpent, OfDays, OfVehicle}
use Rattle.serve_requests.specs.declared.route.Route.TheVariants.{OfPage}
use Rattle.serve_requests.specs.declared.route.Route.TheVariants.{OfAnswers, OfHealth}

-- a place's route
abbrev pub route_of : DeskPlace → Route
route_of (DayPlace day) = OfDay
route_of (LivePlace vid) = OfLive
route_of TotalPlace = OfTotal
route_of (SpentPlace day xway vid) = OfSpent
route_of (VehiclePlace vid from to) = OfVehicle
route_of DaysPlace = OfDays
route_of PagePlace = OfPage
route_of (AnswersPlace day) = OfAnswers
route_of HealthPlace = OfHealth

-- the place that a path of a route names
abbrev pub place_by : Route → List ℕ → Option DeskPlace
place_by OfDay path = day_at path
place_by OfLive path = live_at path
place_by OfTotal path = total_at path
place_by OfSpent path = spent_at path
place_by OfVehicle path = vehicle_at path
place_by OfDays path = days_at path
place_by OfPage path = page_at path
place_by OfAnswers path = answers_at path
place_by OfHealth path = health_at path

-- a path that names a place finds its route
abbrev pub PlacesHaveRoutes : Type 0
PlacesHaveRoutes =
    (path : List ℕ) (p : DeskPlace) → path_place path ≡ Some p → first desk_rows path ≡ Some (key_of (route_of p))

-- a path that finds a route names what it names by that route
abbrev pub RoutesHavePlaces : Type 0
RoutesHavePlaces =
    (path : List ℕ) (r : Route) → first desk_rows path ≡ Some (key_of r) → path_place path ≡ place_by r path

-- a path that names a place is ASCII
abbrev pub PlacesAreAscii : Type 0
PlacesAreAscii = (path : List ℕ) (p : DeskPlace) → path_place path ≡ Some p → IsAscii path
