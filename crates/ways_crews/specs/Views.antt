-- What a seat knows, and how its steps change that.
use Rattle.std.specs.Prelude.{ℕ, true, false, List, [], ◌∷◌, Option, Some, None, slice_index_or, slice_set, replicate}
use Rattle.atomic_table.specs.Table.{Me}
use Rattle.ways_expressway.specs.declared.job.Job.{Job}
use Rattle.ways_expressway.specs.Ready.{IsReady}
use Rattle.ways_expressway.specs.declared.lane_event.LaneEvent.{LaneEvent}
use Rattle.ways_crews.specs.declared.cells.Parcel.{Parcel}
use Rattle.ways_crews.specs.declared.cells.Parcel.TheVariants.{Waiting, Finished}
use Rattle.ways_crews.specs.declared.cells.View.{View}

-- a view, and the slots whose turn the seat has, the one taken last first
abbrev pub Sat : Type 0
Sat = Me (Option Parcel) View

-- the crew's input for a cell: the job announced there and not collected
abbrev pub input_of : View → ℕ → Option Job
input_of v cell = slice_index_or v.given cell None

-- the crew at the start: nothing is announced in any of its cells
abbrev pub new_crew : ℕ → View
new_crew count = record { given = replicate count None; taken = None; stopped = false }

-- a helper at the start, and a seat that is spent
abbrev pub new_helper : View
new_helper = record { given = []; taken = None; stopped = false }

-- a view with another input for a cell
abbrev pub with_input : View → ℕ → Option Job → View
with_input v cell input = record { given = slice_set v.given cell input; taken = v.taken; stopped = v.stopped }

-- a view with another cell taken
abbrev pub with_taken : View → Option (ℕ × Job) → View
with_taken v taken = record { given = v.given; taken = taken; stopped = v.stopped }

-- a view that knows of the stop
abbrev pub with_stop : View → View
with_stop v = record { given = v.given; taken = v.taken; stopped = true }

-- a seat once it announced a job in a cell
abbrev pub after_announce : Sat → ℕ → Job → Sat
after_announce me cell job = (with_input me.0 cell (Some job), me.1)

-- a seat once it took a cell and the job out of its slot
abbrev pub after_take : Sat → ℕ → Job → Sat
after_take me cell job = (with_taken me.0 (Some (cell, job)), (cell, None) ∷ me.1)

-- a seat once it collected what was done of a cell's job
abbrev pub after_collect : Sat → ℕ → Sat
after_collect me cell = (with_input me.0 cell None, me.1)

-- a seat once it knows of the stop
abbrev pub after_stop : Sat → Sat
after_stop me = (with_stop me.0, me.1)

-- a job can be run on its carriage
abbrev pub CanBeRun : Job → Type 0
CanBeRun job = (before : List LaneEvent) × IsReady job.carriage before job.events

-- the job that waits in a slot
abbrev pub job_of : Option Parcel → Option Job
job_of None = None
job_of (Some (Waiting job)) = Some job
job_of (Some (Finished done)) = None

-- the job in the slot that a seat took last
abbrev pub job_in : List (ℕ × Option Parcel) → Option Job
job_in [] = None
job_in (slot ∷ slots) = job_of slot.1
