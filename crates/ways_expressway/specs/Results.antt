-- What is the result of a job, and what has only the shape of one.
use Rattle.std.specs.Prelude.{◌≡◌, ℕ, ◌≤◌, true, List, ◌++◌, map, All, IfSome, OnOk, OnErr}
use Rattle.road_time.specs.declared.tariff.TheConstants.{GREATEST_TOLL}
use Rattle.road_time.specs.Text.{is_lav}
use Rattle.ways_expressway.specs.declared.lane_event.LaneEvent.{LaneEvent}
use Rattle.ways_expressway.specs.declared.finding.Finding.{Finding}
use Rattle.ways_expressway.specs.declared.job.Job.{Job}
use Rattle.ways_expressway.specs.declared.job.Done.{Done}
use Rattle.ways_expressway.specs.Findings.{shown, findings}
use Rattle.ways_expressway.specs.Stands.{StandsFor}
use Rattle.ways_expressway.specs.Ready.{IsReady}

-- some items are the first of all
abbrev pub AreFirst : {X : Type 0} → List X → List X → Type 0
AreFirst {X} some all = (rest : List X) × (all ≡ some ++ rest)

-- worker and number are the job's, and where all events were run the carriage stands for them after the earlier ones,
-- under the same tariffs
pub record IsBack (job : Job) (done : Done) : Type 0 where
  pub worker : done.worker ≡ job.worker
  pub number : done.number ≡ job.number
  pub tariffs : OnOk done.result (done.carriage.tariffs ≡ job.carriage.tariffs)
  pub carried : OnOk done.result ((before : List LaneEvent) → IsReady job.carriage before job.events →
      StandsFor done.carriage (before ++ job.events))

-- what is done of a job is its result: for all earlier events, its findings are those of the job's events after them,
-- or where memory ran out the first of those
pub record IsResultOf (job : Job) (done : Done) : Type 0 where
  pub back : IsBack job done
  pub found : OnOk done.result ((before : List LaneEvent) → IsReady job.carriage before job.events →
      map shown done.findings ≡ findings before job.events job.carriage.tariffs)
  pub first : OnErr done.result ((before : List LaneEvent) → IsReady job.carriage before job.events →
      AreFirst (map shown done.findings) (findings before job.events job.carriage.tariffs))

-- a finding that could be: its average is one that a notice may have, its toll at most the greatest, and its alert
-- none or a segment's
pub record IsPossible (f : Finding) : Type 0 where
  pub lav : is_lav f.lav ≡ true
  pub toll : f.toll ≤ GREATEST_TOLL
  pub alert : IfSome f.alert (λ s. s ≤ 99)

-- the positions of findings
abbrev pub positions : List Finding → List ℕ
positions fs = map (λ f. f.position) fs

-- the positions of what is found for the job's events, after earlier ones
abbrev pub positions_for : List LaneEvent → Job → List ℕ
positions_for before job = map (λ f. f.0) (findings before job.events job.carriage.tariffs)

-- what is done of a job has the shape of its result: the same, but for what each finding tells, which may be anything
-- that could be
pub record IsResultShaped (job : Job) (done : Done) : Type 0 where
  pub back : IsBack job done
  pub found : OnOk done.result ((before : List LaneEvent) → IsReady job.carriage before job.events →
      positions done.findings ≡ positions_for before job)
  pub first : OnErr done.result ((before : List LaneEvent) → IsReady job.carriage before job.events →
      AreFirst (positions done.findings) (positions_for before job))
  pub possible : (before : List LaneEvent) → IsReady job.carriage before job.events → All IsPossible done.findings
