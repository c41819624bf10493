-- What is kept of a job that is out: the job itself, or what was done of it.
use Rattle.std.specs.Prelude.{◌≡◌, Bool, true, false, List}
use Rattle.ways_expressway.specs.declared.lane_event.LaneEvent.{LaneEvent}
use Rattle.ways_expressway.specs.Ready.{IsReady}
use Rattle.ways_expressway.specs.declared.job.Job.{Job}
use Rattle.ways_expressway.specs.Results.{IsResultOf, IsResultShaped}
use Rattle.ways_crews.specs.declared.places.TicketEntry.{TicketEntry}
use Rattle.ways_crews.specs.declared.places.TicketEntry.TheVariants.{Ran, Waits, Unlisted}

-- an entry is of a job: what was done of the job is its result, or it is the job itself
abbrev pub IsOf : TicketEntry → Job → Type 0
IsOf (Ran done) job = IsResultOf job done
IsOf (Waits own) job = own ≡ job
IsOf (Unlisted own) job = own ≡ job

-- the same, but that what was done of the job may only have the shape of its result
abbrev pub IsShapedFor : TicketEntry → Job → Type 0
IsShapedFor (Ran done) job = IsResultShaped job done
IsShapedFor (Waits own) job = own ≡ job
IsShapedFor (Unlisted own) job = own ≡ job

-- whether the job of an entry is not listed
abbrev pub is_unlisted : TicketEntry → Bool
is_unlisted (Ran done) = false
is_unlisted (Waits job) = false
is_unlisted (Unlisted job) = true

-- the job of an entry has run, if it is listed
abbrev pub HasRun : TicketEntry → Type 0
HasRun (Ran done) = Unit {0}
HasRun (Waits job) = ⊥
HasRun (Unlisted job) = Unit {0}

-- the job of an entry has not run; if it is listed it can be run
abbrev pub IsYetToRun : TicketEntry → Type 0
IsYetToRun (Ran done) = ⊥
IsYetToRun (Waits job) = (before : List LaneEvent) × IsReady job.carriage before job.events
IsYetToRun (Unlisted job) = Unit {0}
