-- What a request's head asks for, or why it is refused at once.
use Rattle.std.specs.Prelude.{ℕ, Bool, true, false, nat_le, List, [], ◌∷◌, map, Option, Some, None, Result, Ok, Err}
use Rattle.std.specs.Prelude.{if◌then◌else◌, codes}
use Rattle.std.specs.Str.{bytes_eq, str_eq_ignore_ascii_case}
use Rattle.httparse.specs.Grammar.{RequestHead}
use Rattle.httparse.specs.Spans.{name_and_value}
use Rattle.serve_requests.specs.Numbers.{short_number}
use Rattle.serve_requests.specs.Paths.{path_of, path_place}
use Rattle.serve_requests.specs.Origins.{is_foreign}
use Rattle.serve_requests.specs.declared.place.DeskPlace.{DeskPlace}
use Rattle.serve_requests.specs.declared.place.DeskPlace.TheVariants.{DayPlace, SpentPlace, LivePlace, TotalPlace}
use Rattle.serve_requests.specs.declared.place.DeskPlace.TheVariants.{VehiclePlace, DaysPlace, PagePlace, AnswersPlace}
use Rattle.serve_requests.specs.declared.place.DeskPlace.TheVariants.{HealthPlace}
use Rattle.serve_requests.specs.declared.wanted.Wanted.{Wanted}
use Rattle.serve_requests.specs.declared.wanted.Wanted.TheVariants.{Day, Import, Spent, Live, LiveTotal, Vehicle}
use Rattle.serve_requests.specs.declared.wanted.Wanted.TheVariants.{Days, Page}
use Rattle.serve_requests.specs.declared.wanted.Wanted.TheVariants.{Answers, Health}
use Rattle.serve_requests.specs.declared.wanted.Refusal.{Refusal}
use Rattle.serve_requests.specs.declared.wanted.Refusal.TheVariants.{BadOrigin, NoPath, BadMethod, BadLength}
use Rattle.serve_requests.specs.declared.wanted.Refusal.TheVariants.{LengthNeeded, TooLong}

-- a value behind others, if its field has the name, whatever the case of its letters
abbrev pub value_if : List ℕ → List ℕ × List ℕ → List (List ℕ) → List (List ℕ)
value_if name field rest = if str_eq_ignore_ascii_case field.0 name then field.1 ∷ rest else rest

-- the values of the fields with a name
abbrev pub values_of : List ℕ → List (List ℕ × List ℕ) → List (List ℕ)
values_of name [] = []
values_of name (field ∷ rest) = value_if name field (values_of name rest)

-- the length of a body, by the number that its one field gives and whether the body is coded
abbrev pub length_by : Option ℕ → Bool → Result ℕ Refusal
length_by None coded = Err BadLength
length_by (Some n) true = Err LengthNeeded
length_by (Some n) false = if nat_le n 4000000000 then Ok n else Err TooLong

-- the length of a body, by the values of the fields that give it and of those that name a coding
abbrev pub length_of : List (List ℕ) → List (List ℕ) → Result ℕ Refusal
length_of [] codings = Err LengthNeeded
length_of (one ∷ []) [] = length_by (short_number one) false
length_of (one ∷ []) (coding ∷ codings) = length_by (short_number one) true
length_of (one ∷ two ∷ rest) codings = Err BadLength

-- the length of a body, by the fields of its head
abbrev pub body_length : List (List ℕ × List ℕ) → Result ℕ Refusal
body_length fields =
    length_of (values_of (codes "Content-Length") fields) (values_of (codes "Transfer-Encoding") fields)

-- a day that is to be imported, where the length of its body is stated well
abbrev pub import_of : ℕ → Result ℕ Refusal → Result Wanted Refusal
import_of day (Ok n) = Ok (Import day n)
import_of day (Err e) = Err e

-- the notices of a day, where the length of its body is stated well
abbrev pub answers_of : ℕ → Result ℕ Refusal → Result Wanted Refusal
answers_of day (Ok n) = Ok (Answers day n)
answers_of day (Err e) = Err e

-- what only a POST asks for
abbrev pub only_post : List ℕ → Result Wanted Refusal → Result Wanted Refusal
only_post method wanted = if bytes_eq method (codes "POST") then wanted else Err BadMethod

-- what only a GET asks for
abbrev pub only_get : List ℕ → Wanted → Result Wanted Refusal
only_get method wanted = if bytes_eq method (codes "GET") then Ok wanted else Err BadMethod

-- what is asked for at a place by a method, with fields
abbrev pub asked_at : Option DeskPlace → List ℕ → List (List ℕ × List ℕ) → Result Wanted Refusal
asked_at None method fields = Err NoPath
asked_at (Some (DayPlace day)) method fields =
    if bytes_eq method (codes "POST") then import_of day (body_length fields) else only_get method (Day day)
asked_at (Some (SpentPlace day xway vid)) method fields = only_get method (Spent day xway vid)
asked_at (Some (LivePlace vid)) method fields = only_get method (Live vid)
asked_at (Some TotalPlace) method fields = only_get method LiveTotal
asked_at (Some (VehiclePlace vid from to)) method fields = only_get method (Vehicle vid from to)
asked_at (Some DaysPlace) method fields = only_get method Days
asked_at (Some PagePlace) method fields = only_get method Page
asked_at (Some HealthPlace) method fields = only_get method Health
asked_at (Some (AnswersPlace day)) method fields = only_post method (answers_of day (body_length fields))

-- what a target, a method and fields ask for: nothing where a page of the web may have sent them
abbrev pub asked_by : List ℕ → List ℕ → List (List ℕ × List ℕ) → Result Wanted Refusal
asked_by target method fields =
    if is_foreign fields then Err BadOrigin else asked_at (path_place (path_of target)) method fields

-- what a head asks for
abbrev pub wanted_of : RequestHead → Result Wanted Refusal
wanted_of h = asked_by h.target h.method (map name_and_value h.fields)
