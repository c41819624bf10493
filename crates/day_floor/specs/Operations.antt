-- What is published of a day, and what waits to be published.
use Rattle.std.specs.Prelude.{◌≡◌, ℕ, ◌⊎◌, List, [], ◌∷◌, ◌++◌, Option}
use Rattle.std.specs.Option.{option_map}
use Rattle.road_time.specs.Day.{ChargedToll}
use Rattle.day_floor.specs.declared.publisher.Charged.{Charged}

-- what is published: that a day begins, or charges up to a mark
pub data Operation : Type 0 where
  Begin : ℕ → Operation
  Step : List ChargedToll → ℕ → Operation

-- a charge of the code, as the definitions have it
abbrev pub charge_of : Charged → ChargedToll
charge_of c = record { vid = c.vid; xway = c.xway; toll = c.toll }

-- the operations that are published, and those that wait for the next one
pub record Posted : Type 0 where
  pub published : List Operation
  pub queued : List Operation

-- after one operation more that is published: what waited is published first
abbrev pub posted_with : Operation → Posted → Posted
posted_with o p = record { published = p.published ++ (p.queued ++ o ∷ []); queued = [] }

-- after one operation more that waits
abbrev pub queued_with : Operation → Posted → Posted
queued_with o p = record { published = p.published; queued = p.queued ++ o ∷ [] }

-- nothing is published, and the operation waits or is dropped
abbrev pub IsRefused : Operation → Option Posted → Option Posted → Type 0
IsRefused o before after = (after ≡ before) ⊎ (after ≡ option_map (queued_with o) before)
