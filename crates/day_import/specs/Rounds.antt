-- What a round leaves once it is settled: its tuples fed, its jobs back, its text written, its charges published.

use Rattle.std.specs.Prelude.{◌≡◌, ℕ, ◌++◌, List, length, Option}
use Rattle.road_time.specs.declared.road.Tuple.{Tuple}
use Rattle.day_floor.specs.Operations.{Posted}
use Rattle.day_floor.specs.Shares.{State}
use Rattle.day_floor.specs.Floors.{Setting}
use Rattle.road_time.specs.Tolls.{StretchTold}
use Rattle.day_import.specs.Published.{HasStepped}
use Rattle.day_import.specs.RoundRuns.{AllComeInOrder, after_feeds, given_all, after_backs, settled_all}
use Rattle.day_import.specs.Fronts.{HasText}

-- some tuples were fed and all that was fed is settled, after the jobs came back in the order of their starts; the text
-- and the steps go on from what was written and published
pub record IsSettled (width backlog : ℕ) (e : Setting) (s : State) (xs : List Tuple) (old new : Option (List ℕ))
    (was posted : Option Posted) (now : State) : Type 0 where
  pub fed : now.fed ≡ s.fed ++ xs
  pub settled : now.settled ≡ length now.fed
  pub text : (first : Option (List ℕ)) → HasText e s first old → HasText e now first new
  pub steps : (before : Option Posted) → HasStepped backlog s before was → HasStepped backlog now before posted
  pub backs : List (ℕ × List (ℕ × StretchTold))
  pub is : now ≡ settled_all width (after_backs (given_all (after_feeds width s xs) width) backs)
  pub come : AllComeInOrder (given_all (after_feeds width s xs) width) backs
