-- What a thread promises of a job.
use Rattle.std.specs.Prelude.{◌≡◌, List}
use Rattle.ways_expressway.specs.declared.lane_event.LaneEvent.{LaneEvent}
use Rattle.ways_expressway.specs.declared.job.Job.{Job}
use Rattle.ways_expressway.specs.Ready.{IsReady}
use Rattle.std.specs.declared.snapshot.Snapshot.{Snapshot}
use Rattle.ways_expressway.specs.Results.{IsResultOf}
use Rattle.ways_crews.specs.declared.held.Held.{Held}
use Rattle.ways_crews.specs.declared.held.Held.TheVariants.{Here, Waits, There}

-- what will be answered is of the job: what was done of it is its result, it is the job itself and can be run, or a
-- thread promised its result
abbrev pub WillFit : Held → Job → Type 0
WillFit (Here done) job = IsResultOf job done
WillFit (Waits own) job = (own ≡ job) × ((before : List LaneEvent) × IsReady job.carriage before job.events)
WillFit (There child) job = child.promise.0.value ≡ job

-- a snapshot remembers the job
abbrev pub Remembers : Snapshot Job → Job → Type 0
Remembers memory job = memory.value ≡ job
