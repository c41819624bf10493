-- What was served behind a door.
use Rattle.std.specs.Prelude.{◌≡◌, ◌⊎◌, ◌+◌, ℕ, List, Option, Some, None}
use Rattle.std.specs.List.{All, AllZip}
use Rattle.road_io.specs.Faults.{Rose}
use Rattle.road_time.specs.declared.day.Limits.{Limits}
use Rattle.day_plan.specs.declared.work.Plan.{Plan}
use Rattle.serve_loops.specs.Acceptors.{TakesTurns}
use Rattle.serve_top.specs.Doors.{accepted_in}
use Rattle.serve_top.specs.declared.served_words.Serving.{Serving}

-- an ear served, with what its loop has of its own: as many turns as it accepted connections, one after another; only an ear that
-- failed is another behind them
pub record EarServed {N Q : Type 0} (faults accepted : N → ℕ) (turn : N → Q → N → Q → Type 0) (old new : N) :
    Type 0 where
  pub count : ℕ
  pub last : N
  pub first : Q
  pub behind : Q
  pub counted : accepted new ≡ accepted old + count
  pub turns : TakesTurns turn count old first last behind
  pub over : (new ≡ last) ⊎ Rose (faults old) (faults new)

-- ears served by turns of one desk, which works a day over four workers in no drawn order, and within these limits
pub record ServedBy {N S Q : Type 0} (faults accepted : N → ℕ) (turn : S → N → Q → N → Q → Type 0)
    (works : S → Plan) (bounds : S → Limits) (limits : Limits) (old new : List N) : Type 0 where
  pub desk : S
  pub four : works desk ≡ record { width = 4; turns = None }
  pub within : bounds desk ≡ limits
  pub served : AllZip (EarServed faults accepted (turn desk)) old new

-- ears that heard at a port served so, and accepted so many connections in all
pub record ServedAt {N S Q : Type 0} (hears : N → ℕ → Type 0) (faults accepted : N → ℕ)
    (turn : S → N → Q → N → Q → Type 0) (works : S → Plan) (bounds : S → Limits) (limits : Limits)
    (serving : Serving) : Type 0 where
  pub opened : List N
  pub closed : List N
  pub heard : All (λ ear. hears ear serving.port) opened
  pub done : ServedBy faults accepted turn works bounds limits opened closed
  pub all : accepted_in accepted closed ≡ serving.sessions

-- what the words say was served so
abbrev pub ServedAsSaid : {N S Q : Type 0} → (N → ℕ → Type 0) → (N → ℕ) → (N → ℕ) →
    (S → N → Q → N → Q → Type 0) → (S → Plan) → (S → Limits) → Limits → Option Serving → Type 0
ServedAsSaid hears faults accepted turn works bounds limits None = ⊥
ServedAsSaid hears faults accepted turn works bounds limits (Some serving) =
    ServedAt hears faults accepted turn works bounds limits serving

-- by which plan a desk works a day, and within which limits
pub record Working : Type 0 where
  pub plan : Plan
  pub limits : Limits

-- it, of these
abbrev pub working : Plan → Limits → Working
working plan limits = record { plan = plan; limits = limits }
