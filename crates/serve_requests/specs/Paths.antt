-- Which place of the desk a path names.
use Rattle.std.specs.Prelude.{ℕ, ◌≡◌, ◌==◌, ◌≤◌, List, [], ◌∷◌, length, take, drop, Option, Some, None, if◌then◌else◌}
use Rattle.std.specs.Prelude.{codes, Bool, nat_le}
use Rattle.std.specs.List.{slice_split}
use Rattle.std.specs.Str.{bytes_eq}
use Rattle.serve_requests.specs.Numbers.{number_in}
use Rattle.serve_requests.specs.declared.place.DeskPlace.{DeskPlace}
use Rattle.serve_requests.specs.declared.place.DeskPlace.TheVariants.{DayPlace, SpentPlace, LivePlace, TotalPlace}
use Rattle.serve_requests.specs.declared.place.DeskPlace.TheVariants.{VehiclePlace, DaysPlace, PagePlace, AnswersPlace}
use Rattle.serve_requests.specs.declared.place.DeskPlace.TheVariants.{HealthPlace}

-- the parts of a text, with a byte between two
abbrev pub parts_at : ℕ → List ℕ → List (List ℕ)
parts_at byte text = slice_split (λ b. b == byte) text

-- the first of the parts
abbrev pub first_part : List (List ℕ) → List ℕ
first_part [] = []
first_part (part ∷ parts) = part

-- the path of a target: what stands before its first question mark
abbrev pub path_of : List ℕ → List ℕ
path_of target = first_part (parts_at 63 target)

-- the parts of a path
abbrev pub parts_of : List ℕ → List (List ℕ)
parts_of text = parts_at 47 text

-- a part and what comes behind the byte that ends it, if one does
abbrev pub CutsAt : ℕ → List ℕ → List ℕ → Option (List ℕ) → Type 0
CutsAt byte text part None = parts_at byte text ≡ part ∷ []
CutsAt byte text part (Some rest) = parts_at byte text ≡ part ∷ parts_at byte rest

-- the place of a day, if its number is one
abbrev pub day_place : Option ℕ → Option DeskPlace
day_place None = None
day_place (Some day) = Some (DayPlace day)

-- the place of the notices of a day, if its number is one
abbrev pub answers_place : Option ℕ → Option DeskPlace
answers_place None = None
answers_place (Some day) = Some (AnswersPlace day)

-- the place of a vehicle's account, if its number is one
abbrev pub live_place : Option ℕ → Option DeskPlace
live_place None = None
live_place (Some vid) = Some (LivePlace vid)

-- the place of a charge, if its three numbers are numbers
abbrev pub spent_place : Option ℕ → Option ℕ → Option ℕ → Option DeskPlace
spent_place (Some day) (Some xway) (Some vid) = Some (SpentPlace day xway vid)
spent_place None xway vid = None
spent_place (Some day) None vid = None
spent_place (Some day) (Some xway) None = None

-- a day, an expressway and a vehicle, with a slash between two
abbrev pub spent_path : List (List ℕ) → Option DeskPlace
spent_path [] = None
spent_path (day ∷ []) = None
spent_path (day ∷ xway ∷ []) = None
spent_path (day ∷ xway ∷ vid ∷ []) =
    spent_place (number_in 1 1000000 day) (number_in 0 255 xway) (number_in 0 2147483647 vid)
spent_path (day ∷ xway ∷ vid ∷ more ∷ rest) = None

-- the place of a vehicle's statement, if its three numbers are numbers and its first day is not after its last
abbrev pub vehicle_place : Option ℕ → Option ℕ → Option ℕ → Option DeskPlace
vehicle_place (Some vid) (Some from) (Some to) = if nat_le from to then Some (VehiclePlace vid from to) else None
vehicle_place None from to = None
vehicle_place (Some vid) None to = None
vehicle_place (Some vid) (Some from) None = None

-- a vehicle, a first and a last day, with a slash between two
abbrev pub vehicle_path : List (List ℕ) → Option DeskPlace
vehicle_path [] = None
vehicle_path (vid ∷ []) = None
vehicle_path (vid ∷ from ∷ []) = None
vehicle_path (vid ∷ from ∷ to ∷ []) =
    vehicle_place (number_in 0 2147483647 vid) (number_in 1 1000000 from) (number_in 1 1000000 to)
vehicle_path (vid ∷ from ∷ to ∷ more ∷ rest) = None

-- the numbers of a place are in their ranges
abbrev pub IsPlace : DeskPlace → Type 0
IsPlace (DayPlace day) = (70 ≤ day) × (day ≤ 1000000)
IsPlace (SpentPlace day xway vid) = (1 ≤ day) × (day ≤ 1000000) × (vid ≤ 2147483647)
IsPlace (LivePlace vid) = vid ≤ 2147483647
IsPlace TotalPlace = Unit {0}
IsPlace (VehiclePlace vid from to) = (vid ≤ 2147483647) × (1 ≤ from) × (from ≤ to) × (to ≤ 1000000)
IsPlace DaysPlace = Unit {0}
IsPlace PagePlace = Unit {0}
IsPlace (AnswersPlace day) = (70 ≤ day) × (day ≤ 1000000)
IsPlace HealthPlace = Unit {0}

-- a text begins with a front
abbrev pub begins_with : List ℕ → List ℕ → Bool
begins_with text front = bytes_eq (take (length front) text) front

-- the place of a day that a path names
abbrev pub day_at : List ℕ → Option DeskPlace
day_at path = if begins_with path (codes "/days/") then day_place (number_in 70 1000000 (drop 6 path)) else None

-- the place of a vehicle on the live board that a path names
abbrev pub live_at : List ℕ → Option DeskPlace
live_at path = if begins_with path (codes "/live/") then live_place (number_in 0 2147483647 (drop 6 path)) else None

-- the place of the live board's total, if a path is its
abbrev pub total_at : List ℕ → Option DeskPlace
total_at path = if bytes_eq path (codes "/live") then Some TotalPlace else None

-- the place of an amount that a path names
abbrev pub spent_at : List ℕ → Option DeskPlace
spent_at path = if begins_with path (codes "/spent/") then spent_path (parts_of (drop 7 path)) else None

-- the place of a vehicle's statement that a path names
abbrev pub vehicle_at : List ℕ → Option DeskPlace
vehicle_at path = if begins_with path (codes "/vehicles/") then vehicle_path (parts_of (drop 10 path)) else None

-- the place of all kept days, if a path is its
abbrev pub days_at : List ℕ → Option DeskPlace
days_at path = if bytes_eq path (codes "/days") then Some DaysPlace else None

-- the place of the page, if a path is its
abbrev pub page_at : List ℕ → Option DeskPlace
page_at path = if bytes_eq path (codes "/") then Some PagePlace else None

-- the place of the keeper's health, if a path is its
abbrev pub health_at : List ℕ → Option DeskPlace
health_at path = if bytes_eq path (codes "/health") then Some HealthPlace else None

-- the place of the notices of a day that a path names
abbrev pub answers_at : List ℕ → Option DeskPlace
answers_at path =
    if begins_with path (codes "/answers/") then answers_place (number_in 70 1000000 (drop 9 path)) else None

-- the place that a path names: `/live`, `/days`, `/`, `/health`, or one of five fronts with numbers behind it
abbrev pub path_place : List ℕ → Option DeskPlace
path_place path =
    if bytes_eq path (codes "/live") then Some TotalPlace
    else if begins_with path (codes "/days/") then day_place (number_in 70 1000000 (drop 6 path))
    else if begins_with path (codes "/live/") then live_place (number_in 0 2147483647 (drop 6 path))
    else if begins_with path (codes "/spent/") then spent_path (parts_of (drop 7 path))
    else if begins_with path (codes "/vehicles/") then vehicle_path (parts_of (drop 10 path))
    else if bytes_eq path (codes "/days") then Some DaysPlace
    else if bytes_eq path (codes "/") then Some PagePlace
    else if begins_with path (codes "/answers/") then answers_place (number_in 70 1000000 (drop 9 path))
    else if bytes_eq path (codes "/health") then Some HealthPlace
    else None
