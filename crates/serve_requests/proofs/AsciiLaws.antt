-- A path that names a place of the desk is ASCII.
use Rattle.std.proofs.Common.{◌≡◌, ℕ, nat_le, suc, Bool, true, false, List, ◌∷◌, ◌++◌, codes, length, drop, Option}
use Rattle.std.proofs.Common.{Some, None, refl, sym, ap, subst, ◌∙◌, arith, []}
use Rattle.std.specs.List.{list_all}
use Rattle.std.specs.Str.{bytes_eq, IsAscii, IsUtf8}
use Rattle.std.proofs.lemmas.Bool.{and_parts, leb-true}
use Rattle.std.proofs.lemmas.Str.{IsUtf8-from_ascii}
use Rattle.std.proofs.lemmas.Str.Ascii.{IsAscii-nil, IsAscii-cons}
use Rattle.serve_requests.specs.Numbers.{number_in}
use Rattle.serve_requests.specs.Paths.{parts_of, begins_with, path_place, day_place, live_place, spent_path}
use Rattle.serve_requests.specs.Paths.{vehicle_path, answers_place}
use Rattle.serve_requests.specs.declared.place.DeskPlace.{DeskPlace}
use Rattle.serve_requests.specs.Places.{PlacesAreAscii}
use Rattle.serve_requests.proofs.PlaceLaws.{spent_parts, vehicle_parts, place_cases}
use Rattle.serve_requests.proofs.PartLaws.{number_part, glued, glue_parts, bytes_same, front_is}

-- text in two parts
ascii_append : (xs ys : List ℕ) → IsAscii xs → IsAscii ys → IsAscii (xs ++ ys)
ascii_append [] ys a b = b
ascii_append (x ∷ xs) ys a b = IsAscii-cons x (xs ++ ys) (a 0) (ascii_append xs ys (λ i. a (suc i)) b)

-- bytes up to 127
ascii_bytes : (bs : List ℕ) → list_all (λ b. nat_le b 127) bs ≡ true → IsAscii bs
ascii_bytes [] e = IsAscii-nil
ascii_bytes (b ∷ bs) e =
    let p = and_parts _ _ e in
    let low = leb-true b 127 p.0 in
    IsAscii-cons b bs (omega (arith, low)) (ascii_bytes bs p.1)

-- a day
day_ascii : (text : List ℕ) (p : DeskPlace) (n : Option ℕ) → number_in 70 1000000 text ≡ n → day_place n ≡ Some p →
    IsAscii text
day_ascii text p None is e = absurd (cc e)
day_ascii text p (Some n) is e = (number_part 70 1000000 text n is).1

-- the day of some notices
answers_ascii : (text : List ℕ) (p : DeskPlace) (n : Option ℕ) → number_in 70 1000000 text ≡ n →
    answers_place n ≡ Some p → IsAscii text
answers_ascii text p None is e = absurd (cc e)
answers_ascii text p (Some n) is e = (number_part 70 1000000 text n is).1

-- a vehicle
live_ascii : (text : List ℕ) (p : DeskPlace) (n : Option ℕ) → number_in 0 2147483647 text ≡ n → live_place n ≡ Some p →
    IsAscii text
live_ascii text p None is e = absurd (cc e)
live_ascii text p (Some n) is e = (number_part 0 2147483647 text n is).1

-- three numbers with slashes between them
three_ascii : (text a b c : List ℕ) → parts_of text ≡ a ∷ b ∷ c ∷ [] → IsAscii a → IsAscii b → IsAscii c →
    IsAscii text
three_ascii text a b c e x y z =
    let joined : text ≡ a ++ 47 ∷ (b ++ 47 ∷ c) = sym (glue_parts text) ∙ ap glued e in
    let last = IsAscii-cons 47 c (omega arith) z in
    subst IsAscii (sym joined)
    (ascii_append a _ x (IsAscii-cons 47 _ (omega arith) (ascii_append b _ y last)))

-- a charge
spent_ascii : (text : List ℕ) (p : DeskPlace) → spent_path (parts_of text) ≡ Some p → IsAscii text
spent_ascii text p e =
    let s = spent_parts (parts_of text) p e in
    three_ascii text s.0 s.1 s.2 s.3 s.4.1 s.5.1 s.6.1

-- a vehicle's statement
vehicle_ascii : (text : List ℕ) (p : DeskPlace) → vehicle_path (parts_of text) ≡ Some p → IsAscii text
vehicle_ascii text p e =
    let s = vehicle_parts (parts_of text) p e in
    three_ascii text s.0 s.1 s.2 s.3 s.4.1 s.5.1 s.6.1

-- a path that names a place is ASCII
pub places_are_ascii : PlacesAreAscii
places_are_ascii path p is = by (bytes_eq path (codes "/live")) refl (begins_with path (codes "/days/")) refl
    (begins_with path (codes "/live/")) refl (begins_with path (codes "/spent/")) refl
    (begins_with path (codes "/vehicles/")) refl (bytes_eq path (codes "/days")) refl
    (bytes_eq path (codes "/")) refl (begins_with path (codes "/answers/")) refl
    (bytes_eq path (codes "/health")) refl is
  where
    behind : (front : List ℕ) → begins_with path front ≡ true → list_all (λ b. nat_le b 127) front ≡ true →
        IsAscii (drop (length front) path) → IsAscii path
    behind front b e rest =
        subst IsAscii (sym (front_is path front b)) (ascii_append front _ (ascii_bytes front e) rest)

    by : (u : Bool) → bytes_eq path (codes "/live") ≡ u → (v : Bool) → begins_with path (codes "/days/") ≡ v →
        (w : Bool) → begins_with path (codes "/live/") ≡ w → (x : Bool) → begins_with path (codes "/spent/") ≡ x →
        (y : Bool) → begins_with path (codes "/vehicles/") ≡ y → (z : Bool) → bytes_eq path (codes "/days") ≡ z →
        (t : Bool) → bytes_eq path (codes "/") ≡ t → (s : Bool) → begins_with path (codes "/answers/") ≡ s →
        (m : Bool) → bytes_eq path (codes "/health") ≡ m →
        place_cases path u v w x y z t s m ≡ Some p
        → IsAscii path
    by true a v b w c x d y f z g t h s i m j e =
        subst IsAscii (sym (bytes_same path (codes "/live") a)) (ascii_bytes (codes "/live") refl)
    by false a true b w c x d y f z g t h s i m j e =
        behind (codes "/days/") b refl (day_ascii (drop 6 path) p _ refl e)
    by false a false b true c x d y f z g t h s i m j e =
        behind (codes "/live/") c refl (live_ascii (drop 6 path) p _ refl e)
    by false a false b false c true d y f z g t h s i m j e =
        behind (codes "/spent/") d refl (spent_ascii (drop 7 path) p e)
    by false a false b false c false d true f z g t h s i m j e =
        behind (codes "/vehicles/") f refl (vehicle_ascii (drop 10 path) p e)
    by false a false b false c false d false f true g t h s i m j e =
        subst IsAscii (sym (bytes_same path (codes "/days") g)) (ascii_bytes (codes "/days") refl)
    by false a false b false c false d false f false g true h s i m j e =
        subst IsAscii (sym (bytes_same path (codes "/") h)) (ascii_bytes (codes "/") refl)
    by false a false b false c false d false f false g false h true i m j e =
        behind (codes "/answers/") i refl (answers_ascii (drop 9 path) p _ refl e)
    by false a false b false c false d false f false g false h false i true j e =
        subst IsAscii (sym (bytes_same path (codes "/health") j)) (ascii_bytes (codes "/health") refl)
    by false a false b false c false d false f false g false h false i false j e =
        absurd (cc e)

-- bytes that are no text name no place
pub no_text : (path : List ℕ) → (IsUtf8 path → ⊥) → None ≡ path_place path
no_text path bad = by (path_place path) refl
  where
    by : (o : Option DeskPlace) → path_place path ≡ o → None ≡ o
    by None e = refl
    by (Some p) e = absurd (bad (IsUtf8-from_ascii path (places_are_ascii path p e)))
