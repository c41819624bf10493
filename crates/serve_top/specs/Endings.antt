-- How a run of the server ends.
use Rattle.std.specs.Prelude.{ℕ, ◌≡◌, ◌⊎◌, Option, Some, None}
use Rattle.road_io.specs.Faults.{Rose}
use Rattle.serve_top.specs.declared.served_words.Serving.{Serving}
use Rattle.serve_top.specs.declared.ending.ServerEnd.{ServerEnd}
use Rattle.serve_top.specs.declared.ending.ServerEnd.TheVariants.{Served, Words, Refused, EarFault, NoMemory}

-- the exit status of a run, by how it ended
abbrev pub status_of : ServerEnd → ℕ
status_of Served = 0
status_of Words = 1
status_of Refused = 2
status_of EarFault = 4
status_of NoMemory = 8

-- What a door counted: openings that were refused, closings of ears of which one had failed, and connections.
pub record Counts : Type 0 where
  pub refused : ℕ
  pub faults : ℕ
  pub accepted : ℕ

-- it, as it is
abbrev pub counts_of : ℕ → ℕ → ℕ → Counts
counts_of refused faults accepted = record { refused = refused; faults = faults; accepted = accepted }

-- How serving ends, by what its door counted before and after: all sessions were accepted, or memory ran out, and no
-- count of faults rose; or the count that the end names rose, and not the other.
abbrev pub EndsServing : Serving → Counts → Counts → ServerEnd → Type 0
EndsServing serving old new Served =
    (new.accepted ≡ serving.sessions) × (new.refused ≡ old.refused) × (new.faults ≡ old.faults)
EndsServing serving old new Words = ⊥
EndsServing serving old new Refused = Rose old.refused new.refused × (new.faults ≡ old.faults)
EndsServing serving old new EarFault = Rose old.faults new.faults × (new.refused ≡ old.refused)
EndsServing serving old new NoMemory = (new.refused ≡ old.refused) × (new.faults ≡ old.faults)

-- How a run ends, by what its words mean: words that mean nothing touch no door.
abbrev pub EndsRun : Option Serving → Counts → Counts → ServerEnd → Type 0
EndsRun None old new end = ((end ≡ Words) ⊎ (end ≡ NoMemory)) × (new ≡ old)
EndsRun (Some serving) old new end = EndsServing serving old new end

-- a run of this status ends so
abbrev pub EndsWith : Option Serving → Counts → Counts → ℕ → Type 0
EndsWith meant old new status = (end : ServerEnd) × (status ≡ status_of end) × EndsRun meant old new end

-- the words' sessions were accepted
abbrev pub HasServed : Option Serving → Counts → Type 0
HasServed None new = ⊥
HasServed (Some serving) new = new.accepted ≡ serving.sessions
