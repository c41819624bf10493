-- Which connection leaves the room first, and which gives its seat.
use Rattle.std.specs.Prelude.{◌≡◌, ◌≢◌, ◌≤◌, ◌<◌, ◌+◌, ℕ, ◌==◌, eqb, Bool, true, false, ◌||◌, List, [], ◌∷◌, length}
use Rattle.std.specs.Prelude.{slice_get}
use Rattle.std.specs.Prelude.{if◌then◌else◌, Option, Some, None}
use Rattle.std.specs.List.{starts_with}
use Rattle.std.specs.Time.{instant_nanos}
use Rattle.std.specs.declared.time.Instant.{Instant}
use Rattle.serve_room.specs.declared.posts.Kind.{Kind}
use Rattle.serve_room.specs.declared.posts.Kind.TheVariants.{Post, Read, Free}
use Rattle.serve_room.specs.declared.posts.Who.{Who}
use Rattle.serve_room.specs.declared.seat.Seat.{Seat}

-- a byte ends a line
abbrev pub ends_line : ℕ → Bool
ends_line byte = byte == 13 || byte == 10

-- "POST /days/"
abbrev pub post_of_day : List ℕ
post_of_day = 80 ∷ 79 ∷ 83 ∷ 84 ∷ 32 ∷ 47 ∷ 100 ∷ 97 ∷ 121 ∷ 115 ∷ 47 ∷ []

-- "POST /answers/"
abbrev pub post_of_answers : List ℕ
post_of_answers = 80 ∷ 79 ∷ 83 ∷ 84 ∷ 32 ∷ 47 ∷ 97 ∷ 110 ∷ 115 ∷ 119 ∷ 101 ∷ 114 ∷ 115 ∷ 47 ∷ []

-- "GET /days"
abbrev pub get_of_days : List ℕ
get_of_days = 71 ∷ 69 ∷ 84 ∷ 32 ∷ 47 ∷ 100 ∷ 97 ∷ 121 ∷ 115 ∷ []

-- "GET /spent/"
abbrev pub get_of_spent : List ℕ
get_of_spent = 71 ∷ 69 ∷ 84 ∷ 32 ∷ 47 ∷ 115 ∷ 112 ∷ 101 ∷ 110 ∷ 116 ∷ 47 ∷ []

-- "GET /vehicles/"
abbrev pub get_of_vehicles : List ℕ
get_of_vehicles = 71 ∷ 69 ∷ 84 ∷ 32 ∷ 47 ∷ 118 ∷ 101 ∷ 104 ∷ 105 ∷ 99 ∷ 108 ∷ 101 ∷ 115 ∷ 47 ∷ []

-- "GET /health"
abbrev pub get_of_health : List ℕ
get_of_health = 71 ∷ 69 ∷ 84 ∷ 32 ∷ 47 ∷ 104 ∷ 101 ∷ 97 ∷ 108 ∷ 116 ∷ 104 ∷ []

-- some bytes begin as the POST of a day, to be imported or for its notices
abbrev pub begins_post : List ℕ → Bool
begins_post bytes = starts_with eqb bytes post_of_day || starts_with eqb bytes post_of_answers

-- some bytes begin as a GET of what is kept, for which the keeper is asked
abbrev pub begins_read : List ℕ → Bool
begins_read bytes =
    starts_with eqb bytes get_of_days
    || (starts_with eqb bytes get_of_spent
    || (starts_with eqb bytes get_of_vehicles || starts_with eqb bytes get_of_health))

-- what was sent, from the first byte on that ends no line
abbrev pub line_of : List ℕ → List ℕ
line_of [] = []
line_of (byte ∷ bytes) = if ends_line byte then line_of bytes else byte ∷ bytes

-- what a request line asks for
abbrev pub kind_of_line : List ℕ → Kind
kind_of_line line = if begins_post line then Post else (if begins_read line then Read else Free)

-- what a connection asks for, by what it sent
abbrev pub kind_of : List ℕ → Kind
kind_of bytes = kind_of_line (line_of bytes)

-- whether a connection of a kind that is to wait no more is among those that are meant
abbrev pub of_kind : Who → Kind → Bool
of_kind who Post = who.posts
of_kind who Read = who.reads
of_kind who Free = who.free

-- a connection is among those that are meant: of those that are to wait no more by its kind, and of the others where
-- they are
abbrev pub is_meant : Who → Seat → Bool
is_meant who seat = if seat.called then of_kind who (kind_of seat.held.items) else who.waiting

-- a moment does not come behind another: it is not after it, or, from the last on, not before it
abbrev pub Precedes : Bool → Instant → Instant → Type 0
Precedes false one other = instant_nanos one ≤ instant_nanos other
Precedes true one other = instant_nanos other ≤ instant_nanos one

-- below a place nobody is meant who goes before one of a moment
abbrev pub NoneBefore : Who → List (Option Seat) → ℕ → Instant → Type 0
NoneBefore who seats below since =
    (k : ℕ) (other : Seat) → k < below → slice_get seats k ≡ Some (Some other) → is_meant who other ≡ true →
    Precedes who.last since other.since

-- below a place nobody is meant
abbrev pub NoneBelow : Who → List (Option Seat) → ℕ → Type 0
NoneBelow who seats below =
    (k : ℕ) (other : Seat) → k < below → slice_get seats k ≡ Some (Some other) → is_meant who other ≡ false

-- in a place sits a connection that is meant, and nobody below another place is who goes before it
pub record Leaves (who : Who) (seats : List (Option Seat)) (below at : ℕ) (seat : Seat) : Type 0 where
  pub sits : slice_get seats at ≡ Some (Some seat)
  pub leaves : is_meant who seat ≡ true
  pub oldest : NoneBefore who seats below seat.since

-- of those below a place this one is the first, if one is
abbrev pub IsFirstBelow : Who → List (Option Seat) → ℕ → Option (ℕ × Instant) → Type 0
IsFirstBelow who seats below None = NoneBelow who seats below
IsFirstBelow who seats below (Some first) =
    (seat : Seat) × (first.1 ≡ seat.since) × Leaves who seats below first.0 seat

-- in a place sits a connection that is meant, and nobody is who goes before it: the first accepted, or the last
abbrev pub IsFirst : Who → List (Option Seat) → ℕ → Seat → Type 0
IsFirst who seats at seat = Leaves who seats (length seats) at seat

-- one, if a connection that is meant sits in a place
abbrev pub one_of : Who → Option Seat → ℕ
one_of who None = 0
one_of who (Some seat) = if is_meant who seat then 1 else 0

-- how many that are meant sit in places
abbrev pub meant_in : Who → List (Option Seat) → ℕ
meant_in who [] = 0
meant_in who (place ∷ seats) = one_of who place + meant_in who seats

-- nobody is meant
abbrev pub HasNone : Who → List (Option Seat) → Type 0
HasNone who seats = NoneBelow who seats (length seats)

-- of those that are meant this one, the first, has given its seat, and nobody else
abbrev pub GivesSeat : Who → List (Option Seat) → List (Option Seat) → Seat → Type 0
GivesSeat who old new seat =
    (at : ℕ) × IsFirst who old at seat × (slice_get new at ≡ Some None)
    × ((k : ℕ) → k ≢ at → slice_get new k ≡ slice_get old k)

-- of those that are to wait no more, only who posts a day or asks for what is kept still sits
abbrev pub OnlyOthersWait : List (Option Seat) → Type 0
OnlyOthersWait seats =
    (k : ℕ) (seat : Seat) → k < length seats → slice_get seats k ≡ Some (Some seat) → seat.called ≡ true →
    kind_of seat.held.items ≢ Free
