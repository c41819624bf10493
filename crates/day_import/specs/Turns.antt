-- What is given and finished in a turn.
use Rattle.std.specs.Prelude.{◌≡◌, ℕ, ◌+◌, ◌*◌, ◌++◌, List, [], length, Option}
use Rattle.day_floor.specs.Operations.{Posted}
use Rattle.road_time.specs.declared.road.Tuple.{Tuple}
use Rattle.day_floor.specs.Floors.{Setting}
use Rattle.day_floor.specs.Shares.{State, ahead_of, mark}
use Rattle.day_floor.specs.Written.{settled_text, settled_charges}
use Rattle.day_import.specs.Tasks.{out_at}
use Rattle.day_import.specs.Published.{settled_between, HasStepped}
use Rattle.day_import.specs.Fronts.{HasText}

-- so many jobs were given or came back: giving counts two for the number and one less for the job that is out, coming
-- back one for the job that is out no more
abbrev pub HasWorked : ℕ → ℕ → State → State → Type 0
HasWorked width k s now = 2 * s.given + (out_at now.share width + k) ≡ 2 * now.given + out_at s.share width

-- some jobs were given, and nothing else happened
pub record IsGiven (width k : ℕ) (s now : State) : Type 0 where
  pub fed : now.fed ≡ s.fed
  pub settled : now.settled ≡ s.settled
  pub found : now.found ≡ s.found
  pub ahead : (worker : ℕ) → ahead_of now worker ≡ ahead_of s worker
  pub worked : HasWorked width k s now

-- some were given or came back
pub record IsMoved (width k : ℕ) (s now : State) : Type 0 where
  pub fed : now.fed ≡ s.fed
  pub settled : now.settled ≡ s.settled
  pub text : (day : ℕ) (kept : ℕ → ℕ → ℕ → ℕ) → settled_text day kept now ≡ settled_text day kept s
  pub charges : settled_charges now ≡ settled_charges s
  pub between : (a b : ℕ) → settled_between now a b ≡ settled_between s a b
  pub worked : HasWorked width k s now

-- a turn: some tuples were fed, so many jobs were given or came back, and what could be was settled; the text and the
-- steps go on from what was written and published;
-- where no job was given or came back, and no tuple fed, all was done before
pub record IsTurned (width backlog k : ℕ) (e : Setting) (s : State) (xs : List Tuple) (old new : Option (List ℕ))
    (was posted : Option Posted) (now : State) : Type 0 where
  pub fed : now.fed ≡ s.fed ++ xs
  pub marked : now.settled ≡ mark width now
  pub text : (first : Option (List ℕ)) → HasText e s first old → HasText e now first new
  pub steps : (before : Option Posted) → HasStepped backlog s before was → HasStepped backlog now before posted
  pub worked : HasWorked width k s now
  pub idle : k ≡ 0 → xs ≡ [] → mark width s ≡ length s.fed
