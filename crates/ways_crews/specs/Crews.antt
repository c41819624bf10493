-- What a standing crew keeps of the jobs that are out.
use Rattle.std.specs.Prelude.{◌≡◌, ◌≢◌, ℕ, ◌<◌, Bool, true, false, not, List, Option, Some, None, slice_get, is_err}
use Rattle.ways_expressway.specs.declared.job.Job.{Job}
use Rattle.ways_expressway.specs.declared.job.Done.{Done}
use Rattle.ways_expressway.specs.Results.{IsResultOf}
use Rattle.ways_crews.specs.Places.{IsPut, IsTaken}
use Rattle.ways_crews.specs.declared.place.TicketPlace.{TicketPlace}
use Rattle.ways_crews.specs.declared.place.TicketPlace.TheVariants.{Cell, Ran, Unlisted}
use Rattle.ways_crews.specs.declared.cells.View.{View}
use Rattle.ways_crews.specs.Views.{Sat, after_announce, after_collect, input_of}

-- the places of the tickets, by their numbers
abbrev pub TicketPlaces : Type 0
TicketPlaces = List (Option TicketPlace)

-- a job is held in a place: it is the input of the cell of that number, or what was done of it lies there, or
-- it was not listed and lies there itself
abbrev pub IsHeldIn : Option Job → TicketPlace → Job → Type 0
IsHeldIn input Cell job = input ≡ Some job
IsHeldIn input (Ran done) job = IsResultOf job done
IsHeldIn input (Unlisted own) job = own ≡ job

-- whether the job of a place is not listed
abbrev pub is_unlisted : TicketPlace → Bool
is_unlisted Cell = false
is_unlisted (Ran done) = false
is_unlisted (Unlisted job) = true

-- the crew holds a job under a number
abbrev pub HoldsJob : TicketPlaces → View → ℕ → Job → Type 0
HoldsJob places v n job = (place : TicketPlace) × (slice_get places n ≡ Some (Some place))
    × IsHeldIn (input_of v n) place job

-- a cell of whose number no job is out has no input, and a place of a cell is one of the cells
pub record AreFree (places : TicketPlaces) (v : View) (count : ℕ) : Type 0 where
  pub free : (n : ℕ) → slice_get places n ≢ Some (Some Cell) → input_of v n ≡ None
  pub cell : (n : ℕ) → slice_get places n ≡ Some (Some Cell) → n < count

-- a job was begun at a number: it was announced in the cell of that number, or it was run, or it was not
-- listed
abbrev pub IsBegun : ℕ → ℕ → Job → TicketPlace → Sat → Sat → Type 0
IsBegun count n job Cell before after = (n < count) × (after ≡ after_announce before n job)
IsBegun count n job (Ran done) before after = IsResultOf job done × (after ≡ before)
IsBegun count n job (Unlisted own) before after = (own ≡ job) × (after ≡ before)

-- the job of a number was answered: its cell was collected, or it lay in its place
abbrev pub IsJobAnswered : ℕ → TicketPlace → Sat → Sat → Type 0
IsJobAnswered n Cell before after = after ≡ after_collect before n
IsJobAnswered n (Ran done) before after = after ≡ before
IsJobAnswered n (Unlisted own) before after = after ≡ before

-- a job was started under a number, of a crew of so many cells: it was put there and begun, and where it is
-- not listed the place says so
pub record IsStarted (count n : ℕ) (job : Job) (listed : Bool) (was now : TicketPlaces)
    (before after : Sat) : Type 0 where
  pub place : TicketPlace
  pub put : IsPut n place was now
  pub begun : IsBegun count n job place before after
  pub says : is_unlisted place ≡ not listed

-- the job of a number was finished: it was taken out of its place and answered, and where it was not listed
-- the answer is that memory ran out
pub record IsFinished (n : ℕ) (done : Done) (was now : TicketPlaces) (before after : Sat) : Type 0 where
  pub place : TicketPlace
  pub taken : IsTaken n place was now
  pub answered : IsJobAnswered n place before after
  pub refused : is_unlisted place ≡ true → is_err done.result ≡ true
