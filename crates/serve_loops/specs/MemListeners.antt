-- What a listener in memory stands for.
use Rattle.std.specs.Prelude.{◌≡◌, ◌∷◌, ℕ, Bool, List, reverse}
use Rattle.road_io.specs.Plans.{planned}
use Rattle.road_io.specs.declared.memory.MemLink.{MemLink}
use Rattle.serve_loops.specs.declared.mem_listener.MemListener.{MemListener}

-- the links that it has left, in the order in which it gives them
abbrev pub links_of : MemListener → List MemLink
links_of l = reverse l.links.items

-- which of its calls to come are to fail, though a link is left
abbrev pub plan_of : MemListener → ℕ → Bool
plan_of l = planned l.fails.items l.calls

-- how many links it gave
abbrev pub accepted_by : MemListener → ℕ
accepted_by l = l.accepted

-- the calls that failed
abbrev pub faults_of : MemListener → ℕ
faults_of l = l.faults

-- it gives the first of its links, and has the others left
abbrev pub GivesLink : MemListener → MemListener → MemLink → Type 0
GivesLink old new line = links_of old ≡ line ∷ links_of new

-- a link that it takes back is let go: it has those left that it had
abbrev pub TakesLink : MemListener → MemListener → MemLink → Type 0
TakesLink old new line = links_of new ≡ links_of old
