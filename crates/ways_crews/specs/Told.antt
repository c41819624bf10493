-- What a crew tells of the jobs that were started on it, and of its answers.
use Rattle.std.specs.Prelude.{◌≡◌, ◌≢◌, ℕ, Bool, true, false, List, [], ◌∷◌, ◌++◌, Option, Some, None, OnOk, OnErr}
use Rattle.std.specs.Prelude.{is_err, Contains}
use Rattle.ways_expressway.specs.declared.finding.Finding.{Finding}
use Rattle.ways_expressway.specs.declared.job.Job.{Job}
use Rattle.ways_expressway.specs.declared.job.Done.{Done}
use Rattle.ways_crews.specs.declared.job_list.Started.{Started}
use Rattle.ways_crews.specs.Lists.{listing_of}

-- what a crew tells of its jobs: those that it lists, in the order of their starts; whether it still lists; and which
-- numbers are of jobs that are out and not listed
pub record CrewTold : Type 0 where
  pub listed : List Started
  pub lists : Bool
  pub unlisted : ℕ → Bool

-- a crew that told something tells it afterwards, and the one has to do with the other; one that tells nothing tells
-- nothing afterwards
abbrev pub WhereTold : {X : Type 0} → (X → X → Type 0) → Option X → Option X → Type 0
WhereTold R None None = Unit {0}
WhereTold R None (Some now) = ⊥
WhereTold R (Some was) None = ⊥
WhereTold R (Some was) (Some now) = R was now

-- a job was started under a number: it is listed, where jobs were listed before, or it is not listed, and from then on
-- none is
pub record ListsJob (n : ℕ) (job : Job) (was now : CrewTold) : Type 0 where
  pub appended : now.lists ≡ true → (was.lists ≡ true) × (now.listed ≡ was.listed ++ listing_of job ∷ [])
      × (now.unlisted n ≡ false)
  pub left : now.lists ≡ false → (now.listed ≡ was.listed) × (now.unlisted n ≡ true)
  pub others : (m : ℕ) → m ≢ n → now.unlisted m ≡ was.unlisted m

-- the job of a number was answered: where it was not listed the answer is that memory ran out, and the number is of
-- none that is out any more
pub record ForgetsJob (n : ℕ) (done : Done) (was now : CrewTold) : Type 0 where
  pub listed : now.listed ≡ was.listed
  pub lists : now.lists ≡ was.lists
  pub refused : was.unlisted n ≡ true → is_err done.result ≡ true
  pub back : now.unlisted n ≡ false
  pub others : (m : ℕ) → m ≢ n → now.unlisted m ≡ was.unlisted m

-- the findings of an answer come behind those answered before, unless memory ran out
abbrev pub AnswersFindings : Done → List Finding → List Finding → Type 0
AnswersFindings done was now = OnOk done.result (now ≡ was ++ done.findings) × OnErr done.result (now ≡ was)

-- a crew that tells its jobs has listed none yet, or it does not tell them
abbrev pub TellsNone : Bool → Option CrewTold → Type 0
TellsNone tell None = tell ≡ false
TellsNone tell (Some told) = (tell ≡ true) × (told.listed ≡ []) × (told.lists ≡ true)
    × ((n : ℕ) → told.unlisted n ≡ false)

-- where a crew tells its jobs, the number of one that is not listed is out
abbrev pub IsOutWhereTold : List ℕ → ℕ → Option CrewTold → Type 0
IsOutWhereTold out n None = Unit {0}
IsOutWhereTold out n (Some told) = told.unlisted n ≡ true → Contains out n
