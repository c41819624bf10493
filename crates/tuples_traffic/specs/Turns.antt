-- The order of a file's lines: by Time, then by vehicle, then by type.
use Rattle.std.specs.Prelude.{◌≡◌, ℕ, ◌<◌, ◌⊎◌, List, [], ◌∷◌}
use Rattle.std.specs.List.{AllByRecursion}
use Rattle.road_time.specs.declared.road.Tuple.{Tuple}
use Rattle.road_time.specs.declared.road.Tuple.TheVariants.{Report as ReportTuple, Balance, Spent, Travel}
use Rattle.road_time.specs.Tuples.{time_of}

-- the vehicle of a tuple, 0 for none
abbrev pub vid_of : Tuple → ℕ
vid_of (ReportTuple r) = r.vid
vid_of (Balance time vid qid) = vid
vid_of (Spent time vid xway qid day) = vid
vid_of (Travel time) = 0

-- the first field of a tuple's line
abbrev pub type_of : Tuple → ℕ
type_of (ReportTuple r) = 0
type_of (Balance time vid qid) = 2
type_of (Spent time vid xway qid day) = 3
type_of (Travel time) = 4

-- of two tuples of one second the first is of a lower vehicle, or of the same one and a lower type
abbrev pub IsLower : Tuple → Tuple → Type 0
IsLower x y = (vid_of x < vid_of y) ⊎ ((vid_of x ≡ vid_of y) × (type_of x < type_of y))

-- the order of lines: by Time, then by vehicle, then by type
abbrev pub ComesBefore : Tuple → Tuple → Type 0
ComesBefore x y = (time_of x < time_of y) ⊎ ((time_of x ≡ time_of y) × IsLower x y)

-- each tuple comes before all that follow it
abbrev pub InLineOrder : List Tuple → Type 0
InLineOrder [] = Unit {0}
InLineOrder (x ∷ xs) = AllByRecursion (ComesBefore x) xs × InLineOrder xs
