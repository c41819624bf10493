-- What each step tells: of the seat before, the word found, and the seat after.
use Rattle.std.specs.Prelude.{◌≡◌, ◌≢◌, ℕ, true, ◌∷◌, Option, Some, None}
use Rattle.atomic_table.specs.Table.{Step, rest}
use Rattle.ways_expressway.specs.declared.job.Job.{Job}
use Rattle.ways_expressway.specs.declared.job.Done.{Done}
use Rattle.ways_expressway.specs.Results.{IsResultOf}
use Rattle.ways_crews.specs.declared.cells.Parcel.{Parcel}
use Rattle.ways_crews.specs.declared.cells.Parcel.TheVariants.{Waiting, Finished}
use Rattle.ways_crews.specs.Views.{Sat, input_of, with_input, with_taken, with_stop, CanBeRun, job_in}

-- what lies in a slot: a parcel, or nothing
abbrev S : Type 0
S = Option Parcel

-- who finds a cell free has its turn
abbrev pub opens : Step S → Sat → ℕ → Sat → Type 0
opens st m found n = (found ≡ 0 → n ≡ (m.0, (st.word, None) ∷ m.1)) × (found ≢ 0 → n ≡ m)

-- the crew gives the turn back with the job in the slot, which is now its input for the cell
abbrev pub announces : Step S → Sat → ℕ → Sat → Type 0
announces st m found n = n ≡ (with_input m.0 st.word (job_in m.1), rest m.1)

-- a seat has the turn of a cell, in whose slot it finds a job
abbrev pub took : Step S → Sat → Job → Sat
took st m job = (with_taken m.0 (Some (st.word, job)), (st.word, Some (Waiting job)) ∷ m.1)

-- who finds a cell ready has its turn, and its job as input
abbrev pub takes_job : Step S → Sat → ℕ → Sat → Type 0
takes_job st m found n =
    (found ≡ 1 → (job : Job) × CanBeRun job × (n ≡ took st m job)) × (found ≢ 1 → n ≡ m)

-- the taker gives the turn back
abbrev pub gives_back : Step S → Sat → ℕ → Sat → Type 0
gives_back st m found n = n ≡ (with_taken m.0 None, rest m.1)

-- what was done is the result of a cell's input
abbrev pub IsOfInput : Option Job → Done → Type 0
IsOfInput input done = (job : Job) → input ≡ Some job → IsResultOf job done

-- the crew has the turn of a cell, in whose slot it finds what was done, and its input no more
abbrev pub collected : Step S → Sat → Done → Sat
collected st m done = (with_input m.0 st.word None, (st.word, Some (Finished done)) ∷ m.1)

-- where the cell is done the crew has its turn, and what lies there is the result of its input
abbrev pub collects : Step S → Sat → ℕ → Sat → Type 0
collects st m found n =
    (found ≡ 3 → (done : Done) × IsOfInput (input_of m.0 st.word) done × (n ≡ collected st m done))
    × (found ≢ 3 → n ≡ m)

-- the crew gives the turn back, and the cell is free
abbrev pub shuts : Step S → Sat → ℕ → Sat → Type 0
shuts st m found n = n ≡ (m.0, rest m.1)

-- the stop is raised
abbrev pub raises_stop : Step S → Sat → ℕ → Sat → Type 0
raises_stop st m found n = n ≡ (with_stop m.0, m.1)

-- the stop was seen, or was not there; it never falls
abbrev pub looks : Step S → Sat → ℕ → Sat → Type 0
looks st m found n = (m.0.stopped ≡ true → found ≡ 1) × (found ≡ 1 → n ≡ (with_stop m.0, m.1)) × (found ≢ 1 → n ≡ m)

-- nothing is told, of the words behind the stop
abbrev pub rings : Step S → Sat → ℕ → Sat → Type 0
rings st m found n = n ≡ m
