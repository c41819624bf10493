-- What a door in memory stands for.
use Rattle.std.specs.Prelude.{ℕ, ◌<◌, Bool, ◌||◌, List, length, nat_lt}
use Rattle.serve_loops.specs.declared.mem_listener.MemListener.{MemListener}
use Rattle.serve_top.specs.declared.mem_door.MemDoor.{MemDoor}

-- the listeners that it has left, in the order in which it gives them
abbrev pub ears_of : MemDoor → List MemListener
ears_of d = d.ears.items

-- it refuses each opening
abbrev pub refuses_of : MemDoor → Bool
refuses_of d = d.refuses

-- the openings that it refused
abbrev pub refused_by : MemDoor → ℕ
refused_by d = d.refused

-- the closings of ears of which one had failed
abbrev pub faults_at : MemDoor → ℕ
faults_at d = d.faults

-- the connections that its ears accepted
abbrev pub accepted_at : MemDoor → ℕ
accepted_at d = d.accepted

-- an opening of so many ears is refused
abbrev pub is_refused : MemDoor → ℕ → Bool
is_refused d count = refuses_of d || nat_lt (length (ears_of d)) count
