-- Turns as a generator draws them.
use Rattle.std.specs.Prelude.{◌≡◌, ℕ, zero, suc, ◌+◌, ◌-◌, ◌≤◌, ◌<◌, ◌++◌, Bool, true, false, List, [], ◌∷◌, length}
use Rattle.rand_pcg.specs.Lcg.{Lcg}
use Rattle.day_plan.specs.Draws.{drawn, after_draws}
use Rattle.road_time.specs.declared.road.Tuple.{Tuple}
use Rattle.road_time.specs.Tolls.{StretchTold}
use Rattle.day_floor.specs.Shares.{State, start}
use Rattle.day_import.specs.RoundRuns.{ComesBack, given_if, after_feeds, after_backs, settled_all}
use Rattle.day_import.specs.Tasks.{out_at}

-- how many tuples may be fed
abbrev pub room_left : ℕ → State → ℕ
room_left backlog s = (s.settled + backlog) - length s.fed

-- how many tuples a turn asks for: from one to the room, as is drawn; none where there is no room or no tuple is left
abbrev pub turn_size : ℕ → Bool → Lcg → ℕ
turn_size zero more g = 0
turn_size (suc room) false g = 0
turn_size (suc room) true g = 1 + (drawn (suc room) g).0

-- and the generator after that
abbrev pub after_size : ℕ → Bool → Lcg → Lcg
after_size zero more g = g
after_size (suc room) false g = g
after_size (suc room) true g = (drawn (suc room) g).1

-- the generator after some of so many jobs were finished: how many was drawn, and then each
abbrev pub after_finishing : ℕ → Lcg → Lcg
after_finishing zero g = g
after_finishing (suc held) g = after_draws (2 + (drawn (suc held) g).0) g

-- a turn fed as many tuples as it drew, or all that were left
pub record DrawsTurn (backlog : ℕ) (s : State) (g : Lcg) (xs : List Tuple) (more still : Bool) : Type 0 where
  pub few : length xs ≤ turn_size (room_left backlog s) more g
  pub full : length xs < turn_size (room_left backlog s) more g → still ≡ false

-- so many times a worker is drawn and given its next job, if there is one
abbrev pub given_drawn : ℕ → ℕ → Lcg → State → State
given_drawn zero width g s = s
given_drawn (suc n) width g s = given_if (given_drawn n width g s) (drawn width (after_draws n g)).0

-- where so many jobs are out, and none is, a worker is given its next job, if there is one
abbrev pub given_where : ℕ → State → ℕ → State
given_where zero s worker = given_if s worker
given_where (suc held) s worker = s

-- the first so many workers, one after another, each where no job is out
abbrev pub given_least : ℕ → ℕ → State → State
given_least width zero s = s
given_least width (suc worker) s =
    given_where (out_at (given_least width worker s).share width) (given_least width worker s) worker

-- the jobs of a turn were given: as often as there are workers one is drawn, and then the least has its job, where none
-- is out
abbrev pub after_giving : ℕ → Lcg → State → State
after_giving width g s = given_least width width (given_drawn width width g s)

-- how many of the jobs that are out a turn finishes, as is drawn: one or more, where any is
abbrev pub finish_count : ℕ → Lcg → ℕ
finish_count zero g = 0
finish_count (suc held) g = 1 + (drawn (suc held) g).0

-- jobs came back, the last one first: each from the place that was drawn among those that were still out, after one
-- draw before them
abbrev pub ComeAsDrawn : Lcg → State → List (ℕ × List (ℕ × StretchTold)) → Type 0
ComeAsDrawn g s [] = Unit {0}
ComeAsDrawn g s (b ∷ bs) =
    ComesBack (drawn (length (after_backs s bs).outs) (after_draws (1 + length bs) g)).0 (after_backs s bs) b
    × ComeAsDrawn g s bs

-- as many of the jobs that were out came back as was drawn, each as it was drawn, and a generator is left
pub record AreFinished (s : State) (g left : Lcg) (backs : List (ℕ × List (ℕ × StretchTold))) : Type 0 where
  pub count : length backs ≡ finish_count (length s.outs) g
  pub each : ComeAsDrawn g s backs
  pub left_is : left ≡ after_finishing (length s.outs) g

-- a turn that was made: the state before it, its generator, whether a tuple was left, what it fed, and the jobs that
-- came back
pub record TurnMade : Type 0 where
  pub before : State
  pub generator : Lcg
  pub more : Bool
  pub xs : List Tuple
  pub backs : List (ℕ × List (ℕ × StretchTold))

-- its generator after it asked for tuples
abbrev pub after_asking : ℕ → TurnMade → Lcg
after_asking backlog t = after_size (room_left backlog t.before) t.more t.generator

-- the state after its tuples were fed and its jobs given
abbrev pub given_in : ℕ → ℕ → TurnMade → State
given_in width backlog t = after_giving width (after_asking backlog t) (after_feeds width t.before t.xs)

-- the state after it
abbrev pub after_turn : ℕ → ℕ → TurnMade → State
after_turn width backlog t = settled_all width (after_backs (given_in width backlog t) t.backs)

-- a state is that after it, and as many of the jobs that were out were finished as it drew, each as it was drawn
pub record HasMade (width backlog : ℕ) (t : TurnMade) (now : State) (left : Lcg) : Type 0 where
  pub is : now ≡ after_turn width backlog t
  pub finished : AreFinished (given_in width backlog t) (after_draws width (after_asking backlog t)) left t.backs

-- the turns of a day since its start and a first generator, the last one first: each draws from what the one before
-- left, feeds what comes next, and gives and finishes the jobs that are drawn
abbrev pub AreTurns : ℕ → ℕ → Lcg → List TurnMade → State → Lcg → Bool → Type 0
AreTurns width backlog first [] s g more = (s ≡ start) × (g ≡ first)
AreTurns width backlog first (t ∷ turns) s g more =
    DrawsTurn backlog t.before t.generator t.xs t.more more × (s.fed ≡ t.before.fed ++ t.xs)
    × HasMade width backlog t s g × AreTurns width backlog first turns t.before t.generator t.more
