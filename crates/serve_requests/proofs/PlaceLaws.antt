-- A path that names a place of the desk finds its route, and the other way round.
use Rattle.std.proofs.Common.{◌≡◌, ℕ, nat_le, zero, suc, Bool, true, false, cond, List, ◌∷◌, ◌++◌, codes, length, drop}
use Rattle.std.proofs.Common.{Option, Some, None, refl, sym, ap, subst, ◌∙◌, []}
use Rattle.std.specs.Str.{bytes_eq}
use Rattle.std.proofs.lemmas.Bool.{cond-true}
use Rattle.matchit.specs.Seek.{first}
use Rattle.serve_requests.specs.Numbers.{number_in}
use Rattle.serve_requests.specs.Paths.{parts_of, begins_with, path_place, day_place, live_place, spent_place}
use Rattle.serve_requests.specs.Paths.{spent_path}
use Rattle.serve_requests.specs.Paths.{vehicle_place, vehicle_path, answers_place}
use Rattle.serve_requests.specs.declared.place.DeskPlace.{DeskPlace}
use Rattle.serve_requests.specs.declared.place.DeskPlace.TheVariants.{TotalPlace, VehiclePlace, DaysPlace, PagePlace}
use Rattle.serve_requests.specs.declared.place.DeskPlace.TheVariants.{HealthPlace}
use Rattle.serve_requests.specs.declared.route.Route.{Route}
use Rattle.serve_requests.specs.declared.route.Route.TheVariants.{OfDay, OfLive, OfTotal, OfSpent, OfDays, OfVehicle}
use Rattle.serve_requests.specs.declared.route.Route.TheVariants.{OfPage}
use Rattle.serve_requests.specs.declared.route.Route.TheVariants.{OfAnswers, OfHealth}
use Rattle.serve_requests.specs.Rows.{desk_rows, key_of}
use Rattle.serve_requests.specs.Places.{route_of, place_by, PlacesHaveRoutes, RoutesHavePlaces}
use Rattle.serve_requests.proofs.RouteLaws.{find_routes}
use Rattle.serve_requests.proofs.PartLaws.{IsNumber, number_part, glued, glue_parts, bytes_same, front_is}

-- a place that is there is one
place_inj : (p q : DeskPlace) → Some p ≡ Some q → p ≡ q
place_inj p q e = cc e

-- and so a number
some_inj : (m n : ℕ) → Some m ≡ Some n → m ≡ n
some_inj m n e = cc e

-- three parts that name a charge
pub spent_parts : (ls : List (List ℕ)) (p : DeskPlace) → spent_path ls ≡ Some p
    → (a : List ℕ) × (b : List ℕ) × (c : List ℕ) × (ls ≡ a ∷ b ∷ c ∷ []) × IsNumber a × IsNumber b × IsNumber c
    × (route_of p ≡ OfSpent)
spent_parts [] p e = absurd (cc e)
spent_parts (a ∷ []) p e = absurd (cc e)
spent_parts (a ∷ b ∷ []) p e = absurd (cc e)
spent_parts (a ∷ b ∷ c ∷ d ∷ ls) p e = absurd (cc e)
spent_parts (a ∷ b ∷ c ∷ []) p e =
    by (number_in 1 1000000 a) (number_in 0 255 b) (number_in 0 2147483647 c) refl refl refl e
  where
    by : (x y z : Option ℕ) → number_in 1 1000000 a ≡ x → number_in 0 255 b ≡ y → number_in 0 2147483647 c ≡ z →
        spent_place x y z ≡ Some p
        → (a' : List ℕ) × (b' : List ℕ) × (c' : List ℕ) × (a ∷ b ∷ c ∷ [] ≡ a' ∷ b' ∷ c' ∷ []) × IsNumber a'
        × IsNumber b' × IsNumber c' × (route_of p ≡ OfSpent)
    by None y z f g h e = absurd (cc e)
    by (Some d) None z f g h e = absurd (cc e)
    by (Some d) (Some x) None f g h e = absurd (cc e)
    by (Some d) (Some x) (Some v) f g h e = (
      a,
      b,
      c,
      refl,
      number_part 1 1000000 a d f,
      number_part 0 255 b x g,
      number_part 0 2147483647 c v h,
      ap route_of (sym (place_inj _ _ e)),
    )

-- three parts that name a vehicle's statement
pub vehicle_parts : (ls : List (List ℕ)) (p : DeskPlace) → vehicle_path ls ≡ Some p
    → (a : List ℕ) × (b : List ℕ) × (c : List ℕ) × (ls ≡ a ∷ b ∷ c ∷ []) × IsNumber a × IsNumber b × IsNumber c
    × (route_of p ≡ OfVehicle)
vehicle_parts [] p e = absurd (cc e)
vehicle_parts (a ∷ []) p e = absurd (cc e)
vehicle_parts (a ∷ b ∷ []) p e = absurd (cc e)
vehicle_parts (a ∷ b ∷ c ∷ d ∷ ls) p e = absurd (cc e)
vehicle_parts (a ∷ b ∷ c ∷ []) p e =
    by (number_in 0 2147483647 a) (number_in 1 1000000 b) (number_in 1 1000000 c) refl refl refl e
  where
    order : (v f t : ℕ) (w : Bool) → cond w (Some (VehiclePlace v f t)) None ≡ Some p → route_of p ≡ OfVehicle
    order v f t true h = ap route_of (sym (place_inj _ _ h))
    order v f t false h = absurd (cc h)

    by : (x y z : Option ℕ) → number_in 0 2147483647 a ≡ x → number_in 1 1000000 b ≡ y → number_in 1 1000000 c ≡ z →
        vehicle_place x y z ≡ Some p
        → (a' : List ℕ) × (b' : List ℕ) × (c' : List ℕ) × (a ∷ b ∷ c ∷ [] ≡ a' ∷ b' ∷ c' ∷ []) × IsNumber a'
        × IsNumber b' × IsNumber c' × (route_of p ≡ OfVehicle)
    by None y z f g h e = absurd (cc e)
    by (Some v) None z f g h e = absurd (cc e)
    by (Some v) (Some x) None f g h e = absurd (cc e)
    by (Some v) (Some x) (Some y) f g h e = (
      a,
      b,
      c,
      refl,
      number_part 0 2147483647 a v f,
      number_part 1 1000000 b x g,
      number_part 1 1000000 c y h,
      order v x y (nat_le x y) e,
    )

-- a path of a charge finds the route of charges
spent_found : (text : List ℕ) (p : DeskPlace) → spent_path (parts_of text) ≡ Some p →
    first desk_rows (codes "/spent/" ++ text) ≡ Some (key_of (route_of p))
spent_found text p e =
    let s = spent_parts (parts_of text) p e in
    let joined : text ≡ s.0 ++ 47 ∷ (s.1 ++ 47 ∷ s.2) = sym (glue_parts text) ∙ ap glued s.3 in
    ap (λ l. first desk_rows (codes "/spent/" ++ l)) joined ∙ find_routes.3 s.0 s.1 s.2 s.4.0 s.5.0 s.6.0
    ∙ ap (λ r. Some (key_of r)) (sym s.7)

-- one of a vehicle's statement that of statements
vehicle_found : (text : List ℕ) (p : DeskPlace) → vehicle_path (parts_of text) ≡ Some p →
    first desk_rows (codes "/vehicles/" ++ text) ≡ Some (key_of (route_of p))
vehicle_found text p e =
    let s = vehicle_parts (parts_of text) p e in
    let joined : text ≡ s.0 ++ 47 ∷ (s.1 ++ 47 ∷ s.2) = sym (glue_parts text) ∙ ap glued s.3 in
    ap (λ l. first desk_rows (codes "/vehicles/" ++ l)) joined ∙ find_routes.5 s.0 s.1 s.2 s.4.0 s.5.0 s.6.0
    ∙ ap (λ r. Some (key_of r)) (sym s.7)

-- one of a day that of days
day_found : (text : List ℕ) (p : DeskPlace) (n : Option ℕ) → number_in 70 1000000 text ≡ n → day_place n ≡ Some p →
    first desk_rows (codes "/days/" ++ text) ≡ Some (key_of (route_of p))
day_found text p None is e = absurd (cc e)
day_found text p (Some n) is e = find_routes.1 text (number_part 70 1000000 text n is).0
    ∙ ap (λ q. Some (key_of (route_of q))) (place_inj _ _ e)

-- and one of a vehicle's account that of accounts
live_found : (text : List ℕ) (p : DeskPlace) (n : Option ℕ) → number_in 0 2147483647 text ≡ n → live_place n ≡ Some p →
    first desk_rows (codes "/live/" ++ text) ≡ Some (key_of (route_of p))
live_found text p None is e = absurd (cc e)
live_found text p (Some n) is e = find_routes.2 text (number_part 0 2147483647 text n is).0
    ∙ ap (λ q. Some (key_of (route_of q))) (place_inj _ _ e)

-- and one of a day's notices that of notices
answers_found : (text : List ℕ) (p : DeskPlace) (n : Option ℕ) → number_in 70 1000000 text ≡ n →
    answers_place n ≡ Some p → first desk_rows (codes "/answers/" ++ text) ≡ Some (key_of (route_of p))
answers_found text p None is e = absurd (cc e)
answers_found text p (Some n) is e = find_routes.7 text (number_part 70 1000000 text n is).0
    ∙ ap (λ q. Some (key_of (route_of q))) (place_inj _ _ e)

-- the place that a path names, by what it is and what it begins with
abbrev pub place_cases : List ℕ → Bool → Bool → Bool → Bool → Bool → Bool → Bool → Bool → Bool → Option DeskPlace
place_cases path u v w x y z t s m =
    cond u (Some TotalPlace)
    (cond v (day_place (number_in 70 1000000 (drop 6 path)))
    (cond w (live_place (number_in 0 2147483647 (drop 6 path)))
    (cond x (spent_path (parts_of (drop 7 path)))
    (cond y (vehicle_path (parts_of (drop 10 path)))
    (cond z (Some DaysPlace)
    (cond t (Some PagePlace) (cond s (answers_place (number_in 70 1000000 (drop 9 path))) (cond m (Some HealthPlace) None))))))))

-- a path that names a place finds the route of that place
pub places_have_routes : PlacesHaveRoutes
places_have_routes path p is = by (bytes_eq path (codes "/live")) refl (begins_with path (codes "/days/")) refl
    (begins_with path (codes "/live/")) refl (begins_with path (codes "/spent/")) refl
    (begins_with path (codes "/vehicles/")) refl (bytes_eq path (codes "/days")) refl
    (bytes_eq path (codes "/")) refl (begins_with path (codes "/answers/")) refl
    (bytes_eq path (codes "/health")) refl is
  where
    by : (u : Bool) → bytes_eq path (codes "/live") ≡ u → (v : Bool) → begins_with path (codes "/days/") ≡ v →
        (w : Bool) → begins_with path (codes "/live/") ≡ w → (x : Bool) → begins_with path (codes "/spent/") ≡ x →
        (y : Bool) → begins_with path (codes "/vehicles/") ≡ y → (z : Bool) → bytes_eq path (codes "/days") ≡ z →
        (t : Bool) → bytes_eq path (codes "/") ≡ t → (s : Bool) → begins_with path (codes "/answers/") ≡ s →
        (m : Bool) → bytes_eq path (codes "/health") ≡ m →
        place_cases path u v w x y z t s m ≡ Some p
        → first desk_rows path ≡ Some (key_of (route_of p))
    by true a v b w c x d y f z g t h s i m j e =
        ap (first desk_rows) (bytes_same path (codes "/live") a) ∙ find_routes.0
        ∙ ap (λ q. Some (key_of (route_of q))) (place_inj _ _ e)
    by false a true b w c x d y f z g t h s i m j e =
        ap (first desk_rows) (front_is path (codes "/days/") b) ∙ day_found (drop 6 path) p _ refl e
    by false a false b true c x d y f z g t h s i m j e =
        ap (first desk_rows) (front_is path (codes "/live/") c) ∙ live_found (drop 6 path) p _ refl e
    by false a false b false c true d y f z g t h s i m j e =
        ap (first desk_rows) (front_is path (codes "/spent/") d) ∙ spent_found (drop 7 path) p e
    by false a false b false c false d true f z g t h s i m j e =
        ap (first desk_rows) (front_is path (codes "/vehicles/") f) ∙ vehicle_found (drop 10 path) p e
    by false a false b false c false d false f true g t h s i m j e =
        ap (first desk_rows) (bytes_same path (codes "/days") g) ∙ find_routes.4
        ∙ ap (λ q. Some (key_of (route_of q))) (place_inj _ _ e)
    by false a false b false c false d false f false g true h s i m j e =
        ap (first desk_rows) (bytes_same path (codes "/") h) ∙ find_routes.6
        ∙ ap (λ q. Some (key_of (route_of q))) (place_inj _ _ e)
    by false a false b false c false d false f false g false h true i m j e =
        ap (first desk_rows) (front_is path (codes "/answers/") i) ∙ answers_found (drop 9 path) p _ refl e
    by false a false b false c false d false f false g false h false i true j e =
        ap (first desk_rows) (bytes_same path (codes "/health") j) ∙ find_routes.8
        ∙ ap (λ q. Some (key_of (route_of q))) (place_inj _ _ e)
    by false a false b false c false d false f false g false h false i false j e =
        absurd (cc e)

-- a path that finds no route names no place
pub no_route : (path : List ℕ) → None ≡ first desk_rows path → None ≡ path_place path
no_route path none = by (path_place path) refl
  where
    by : (o : Option DeskPlace) → path_place path ≡ o → None ≡ o
    by None e = refl
    by (Some p) e = absurd (cc (none ∙ places_have_routes path p e))

-- the routes of places
day_route : (p : DeskPlace) (n : Option ℕ) → day_place n ≡ Some p → route_of p ≡ OfDay
day_route p None e = absurd (cc e)
day_route p (Some n) e = ap route_of (sym (place_inj _ _ e))

-- of an account
live_route : (p : DeskPlace) (n : Option ℕ) → live_place n ≡ Some p → route_of p ≡ OfLive
live_route p None e = absurd (cc e)
live_route p (Some n) e = ap route_of (sym (place_inj _ _ e))

-- of a charge
spent_route : (p : DeskPlace) (ls : List (List ℕ)) → spent_path ls ≡ Some p → route_of p ≡ OfSpent
spent_route p ls e = (spent_parts ls p e).7

-- of a vehicle's statement
vehicle_route : (p : DeskPlace) (ls : List (List ℕ)) → vehicle_path ls ≡ Some p → route_of p ≡ OfVehicle
vehicle_route p ls e = (vehicle_parts ls p e).7

-- of the notices of a day
answers_route : (p : DeskPlace) (n : Option ℕ) → answers_place n ≡ Some p → route_of p ≡ OfAnswers
answers_route p None e = absurd (cc e)
answers_route p (Some n) e = ap route_of (sym (place_inj _ _ e))

-- a place that a path names is named by its route
named_by_route : (path : List ℕ) (p : DeskPlace) → path_place path ≡ Some p → place_by (route_of p) path ≡ Some p
named_by_route path p is = by (bytes_eq path (codes "/live")) refl (begins_with path (codes "/days/")) refl
    (begins_with path (codes "/live/")) refl (begins_with path (codes "/spent/")) refl
    (begins_with path (codes "/vehicles/")) refl (bytes_eq path (codes "/days")) refl
    (bytes_eq path (codes "/")) refl (begins_with path (codes "/answers/")) refl
    (bytes_eq path (codes "/health")) refl is
  where
    by : (u : Bool) → bytes_eq path (codes "/live") ≡ u → (v : Bool) → begins_with path (codes "/days/") ≡ v →
        (w : Bool) → begins_with path (codes "/live/") ≡ w → (x : Bool) → begins_with path (codes "/spent/") ≡ x →
        (y : Bool) → begins_with path (codes "/vehicles/") ≡ y → (z : Bool) → bytes_eq path (codes "/days") ≡ z →
        (t : Bool) → bytes_eq path (codes "/") ≡ t → (s : Bool) → begins_with path (codes "/answers/") ≡ s →
        (m : Bool) → bytes_eq path (codes "/health") ≡ m →
        place_cases path u v w x y z t s m ≡ Some p
        → place_by (route_of p) path ≡ Some p
    by true a v b w c x d y f z g t h s i m j e =
        subst (λ q. place_by (route_of q) path ≡ Some q) (place_inj _ _ e)
        (cond-true (bytes_eq path (codes "/live")) (Some TotalPlace) None a)
    by false a true b w c x d y f z g t h s i m j e =
        subst (λ r. place_by r path ≡ Some p) (sym (day_route p (number_in 70 1000000 (drop 6 path)) e))
        (cond-true (begins_with path (codes "/days/")) (day_place (number_in 70 1000000 (drop 6 path))) None b ∙ e)
    by false a false b true c x d y f z g t h s i m j e =
        subst (λ r. place_by r path ≡ Some p) (sym (live_route p (number_in 0 2147483647 (drop 6 path)) e))
        (cond-true (begins_with path (codes "/live/")) (live_place (number_in 0 2147483647 (drop 6 path))) None c ∙ e)
    by false a false b false c true d y f z g t h s i m j e =
        subst (λ r. place_by r path ≡ Some p) (sym (spent_route p (parts_of (drop 7 path)) e))
        (cond-true (begins_with path (codes "/spent/")) (spent_path (parts_of (drop 7 path))) None d ∙ e)
    by false a false b false c false d true f z g t h s i m j e =
        subst (λ r. place_by r path ≡ Some p) (sym (vehicle_route p (parts_of (drop 10 path)) e))
        (cond-true (begins_with path (codes "/vehicles/")) (vehicle_path (parts_of (drop 10 path))) None f ∙ e)
    by false a false b false c false d false f true g t h s i m j e =
        subst (λ q. place_by (route_of q) path ≡ Some q) (place_inj _ _ e)
        (cond-true (bytes_eq path (codes "/days")) (Some DaysPlace) None g)
    by false a false b false c false d false f false g true h s i m j e =
        subst (λ q. place_by (route_of q) path ≡ Some q) (place_inj _ _ e)
        (cond-true (bytes_eq path (codes "/")) (Some PagePlace) None h)
    by false a false b false c false d false f false g false h true i m j e =
        subst (λ r. place_by r path ≡ Some p) (sym (answers_route p (number_in 70 1000000 (drop 9 path)) e))
        (cond-true (begins_with path (codes "/answers/")) (answers_place (number_in 70 1000000 (drop 9 path))) None i
        ∙ e)
    by false a false b false c false d false f false g false h false i true j e =
        subst (λ q. place_by (route_of q) path ≡ Some q) (place_inj _ _ e)
        (cond-true (bytes_eq path (codes "/health")) (Some HealthPlace) None j)
    by false a false b false c false d false f false g false h false i false j e =
        absurd (cc e)

-- what is found behind a test is found where the test holds
held : {A : Type 0} (b : Bool) (x : Option A) (a : A) → cond b x None ≡ Some a → (b ≡ true) × (x ≡ Some a)
held true x a e = (refl, e)
held false x a e = absurd (cc e)

-- a place behind a front
by_front : (front path : List ℕ) (x : Option DeskPlace) (p : DeskPlace) →
    path_place (front ++ drop (length front) path) ≡ x → cond (begins_with path front) x None ≡ Some p →
    path_place path ≡ Some p
by_front front path x p at e =
    let h = held (begins_with path front) x p e in
    ap path_place (front_is path front h.0) ∙ at ∙ h.1

-- a place of one path
by_path : (one path : List ℕ) (q p : DeskPlace) → path_place one ≡ Some q →
    cond (bytes_eq path one) (Some q) None ≡ Some p → path_place path ≡ Some p
by_path one path q p at e =
    let h = held (bytes_eq path one) (Some q) p e in
    ap path_place (bytes_same path one h.0) ∙ at ∙ h.1

-- a place that a path names by a route it names
named_at_all : (r : Route) (path : List ℕ) (p : DeskPlace) → place_by r path ≡ Some p → path_place path ≡ Some p
named_at_all OfDay path p e = by_front (codes "/days/") path _ p refl e
named_at_all OfLive path p e = by_front (codes "/live/") path _ p refl e
named_at_all OfTotal path p e = by_path (codes "/live") path _ p refl e
named_at_all OfSpent path p e = by_front (codes "/spent/") path _ p refl e
named_at_all OfVehicle path p e = by_front (codes "/vehicles/") path _ p refl e
named_at_all OfDays path p e = by_path (codes "/days") path _ p refl e
named_at_all OfPage path p e = by_path (codes "/") path _ p refl e
named_at_all OfAnswers path p e = by_front (codes "/answers/") path _ p refl e
named_at_all OfHealth path p e = by_path (codes "/health") path _ p refl e

-- the route of a number
abbrev route_at : ℕ → Route
route_at zero = OfDay
route_at (suc zero) = OfLive
route_at (suc (suc zero)) = OfTotal
route_at (suc (suc (suc zero))) = OfSpent
route_at (suc (suc (suc (suc zero)))) = OfDays
route_at (suc (suc (suc (suc (suc zero))))) = OfVehicle
route_at (suc (suc (suc (suc (suc (suc zero)))))) = OfPage
route_at (suc (suc (suc (suc (suc (suc (suc zero))))))) = OfAnswers
route_at (suc (suc (suc (suc (suc (suc (suc (suc n)))))))) = OfHealth

-- the route of its number
route_again : (r : Route) → route_at (key_of r) ≡ r
route_again OfDay = refl
route_again OfLive = refl
route_again OfTotal = refl
route_again OfSpent = refl
route_again OfDays = refl
route_again OfVehicle = refl
route_again OfPage = refl
route_again OfAnswers = refl
route_again OfHealth = refl

-- routes of one number are one
one_route : (q r : Route) → key_of q ≡ key_of r → q ≡ r
one_route q r e = sym (route_again q) ∙ ap route_at e ∙ route_again r

-- what a path names by the route that it finds is what it names
pub routes_have_places : RoutesHavePlaces
routes_have_places path r found = by (path_place path) refl (place_by r path) refl
  where
    by : (o : Option DeskPlace) → path_place path ≡ o → (n : Option DeskPlace) → place_by r path ≡ n → o ≡ n
    by None is None at = refl
    by None is (Some q) at = absurd (cc (sym is ∙ named_at_all r path q at))
    by (Some p) is n at =
        let same : route_of p ≡ r =
        one_route (route_of p) r (some_inj _ _ (sym (places_have_routes path p is) ∙ found)) in
        sym (subst (λ q. place_by q path ≡ Some p) same (named_by_route path p is)) ∙ at

-- a path that finds a route names what it names by that route
pub by_route : (path : List ℕ) (r : Route) → Some (key_of r) ≡ first desk_rows path → place_by r path ≡ path_place path
by_route path r found = sym (routes_have_places path r (sym found))
