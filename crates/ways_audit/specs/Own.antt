-- The vehicles of a shard, and what tuples tell to it.
use Rattle.std.specs.Prelude.{◌≡◌, ℕ, suc, ◌%◌, ◌==◌, Bool, true, false, List, [], ◌∷◌, Option, Some, None, slice_get}
use Rattle.std.specs.Prelude.{if◌then◌else◌}
use Rattle.std.specs.List.{filter, filter_map}
use Rattle.road_time.specs.declared.road.Tuple.{Tuple}
use Rattle.road_time.specs.declared.road.Tuple.TheVariants.{Report as ReportTuple, Balance, Spent, Travel}
use Rattle.road_time.specs.declared.road.Report.{Report}
use Rattle.road_time.specs.Sights.{Moment, moments_after}
use Rattle.day_floor.specs.declared.tracked.Tracked.{Tracked}
use Rattle.ways_audit.specs.Seen.{tracked_of}
use Rattle.ways_audit.specs.declared.splitting.OwnPlaces.{OwnPlaces}

-- whether a report is of a vehicle of the shard, of so many
abbrev pub belongs : ℕ → ℕ → Report → Bool
belongs shard shards r = r.vid % shards == shard

-- the reports of a shard's vehicles, of so many shards
abbrev pub own_of : ℕ → ℕ → List Report → List Report
own_of shard shards rs = filter (belongs shard shards) rs

-- what a report tells, if it is the shard's
abbrev pub tracked_own : Bool → List Tuple → Report → Option Tracked
tracked_own true before r = Some (tracked_of before r)
tracked_own false before r = None

-- what a moment tells to a shard, of so many: what a report of one of its vehicles does
abbrev pub own_tracked : ℕ → ℕ → Moment → Option Tracked
own_tracked shard shards (before, ReportTuple r) = tracked_own (belongs shard shards r) before r
own_tracked shard shards (before, Balance time vid qid) = None
own_tracked shard shards (before, Spent time vid xway qid day) = None
own_tracked shard shards (before, Travel time) = None

-- what tuples tell to a shard, of so many, after earlier ones
abbrev pub told_after : ℕ → ℕ → List Tuple → List Tuple → List Tracked
told_after shard shards before tuples = filter_map (own_tracked shard shards) (moments_after before tuples)

-- whether a tuple is a report of a vehicle of the shard, of so many
abbrev pub is_own : ℕ → ℕ → Tuple → Bool
is_own shard shards (ReportTuple r) = belongs shard shards r
is_own shard shards (Balance time vid qid) = false
is_own shard shards (Spent time vid xway qid day) = false
is_own shard shards (Travel time) = false

-- the positions of a shard's reports, of so many shards, among tuples of which the first stands at this position
abbrev pub places_from : ℕ → ℕ → ℕ → List Tuple → List ℕ
places_from shard shards at [] = []
places_from shard shards at (x ∷ xs) =
    if is_own shard shards x then at ∷ places_from shard shards (suc at) xs else places_from shard shards (suc at) xs

-- the shard with this number, if there is one, has these positions
abbrev pub HasPlaces : List OwnPlaces → ℕ → List ℕ → Type 0
HasPlaces lists shard ps = (d : OwnPlaces) → slice_get lists shard ≡ Some d → d.places.items ≡ ps

-- each shard has the positions of its reports among tuples
abbrev pub HavePlaces : List OwnPlaces → List Tuple → ℕ → Type 0
HavePlaces lists tuples shards = (shard : ℕ) → HasPlaces lists shard (places_from shard shards 0 tuples)
