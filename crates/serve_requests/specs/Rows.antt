-- The routes of the desk as rows of tokens: 256 stands for a parameter.
use Rattle.std.specs.Prelude.{◌≡◌, ℕ, ◌<◌, false, List, [], ◌∷◌, ◌++◌, codes, length, Some}
use Rattle.matchit.specs.Rows.{Rows}
use Rattle.matchit.specs.Seek.{has_slash, first}
use Rattle.matchit.specs.Router.{RouteOf}
use Rattle.matchit.specs.Level.{IsText}
use Rattle.serve_requests.specs.declared.route.Route.{Route}
use Rattle.serve_requests.specs.declared.route.Route.TheVariants.{OfDay, OfLive, OfTotal, OfSpent, OfDays, OfVehicle}
use Rattle.serve_requests.specs.declared.route.Route.TheVariants.{OfPage}
use Rattle.serve_requests.specs.declared.route.Route.TheVariants.{OfAnswers, OfHealth}

-- the rows of `/answers/{day}`, `/days/{day}`, `/days`, `/live/{vid}`, `/live`, `/spent/{day}/{xway}/{vid}`,
-- `/vehicles/{vid}/{from}/{to}`, `/health` and `/`, in the router's order
abbrev pub desk_rows : Rows
desk_rows =
    (codes "/answers/" ++ 256 ∷ [], 7)
    ∷ (codes "/days/" ++ 256 ∷ [], 0)
    ∷ (codes "/days", 4)
    ∷ (codes "/health", 8)
    ∷ (codes "/live/" ++ 256 ∷ [], 1)
    ∷ (codes "/live", 2)
    ∷ (codes "/spent/" ++ 256 ∷ 47 ∷ 256 ∷ 47 ∷ 256 ∷ [], 3)
    ∷ (codes "/vehicles/" ++ 256 ∷ 47 ∷ 256 ∷ 47 ∷ 256 ∷ [], 5)
    ∷ (codes "/", 6) ∷ []

-- the number of a route's row
abbrev pub key_of : Route → ℕ
key_of OfDay = 0
key_of OfLive = 1
key_of OfTotal = 2
key_of OfSpent = 3
key_of OfDays = 4
key_of OfVehicle = 5
key_of OfPage = 6
key_of OfAnswers = 7
key_of OfHealth = 8

-- the number of what the router keeps
abbrev pub key_at : RouteOf Route → ℕ
key_at r = key_of r.value

-- a part of a path: some bytes, and no slash
pub record IsPart (part : List ℕ) : Type 0 where
  pub some : 0 < length part
  pub text : IsText part
  pub whole : has_slash part ≡ false

-- each path of a route's form finds that route
abbrev pub FindRoutes : Type 0
FindRoutes =
    (first desk_rows (codes "/live") ≡ Some 2)
    × ((day : List ℕ) → IsPart day → first desk_rows (codes "/days/" ++ day) ≡ Some 0)
    × ((vid : List ℕ) → IsPart vid → first desk_rows (codes "/live/" ++ vid) ≡ Some 1)
    × ((day xway vid : List ℕ) → IsPart day → IsPart xway → IsPart vid
    → first desk_rows (codes "/spent/" ++ (day ++ 47 ∷ (xway ++ 47 ∷ vid))) ≡ Some 3)
    × (first desk_rows (codes "/days") ≡ Some 4)
    × ((vid from to : List ℕ) → IsPart vid → IsPart from → IsPart to
    → first desk_rows (codes "/vehicles/" ++ (vid ++ 47 ∷ (from ++ 47 ∷ to))) ≡ Some 5)
    × (first desk_rows (codes "/") ≡ Some 6)
    × ((day : List ℕ) → IsPart day → first desk_rows (codes "/answers/" ++ day) ≡ Some 7)
    × (first desk_rows (codes "/health") ≡ Some 8)
