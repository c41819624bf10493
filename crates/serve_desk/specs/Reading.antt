-- How far the body of a request was read, and what is left to do of it.
use Rattle.std.specs.Prelude.{◌≡◌, ◌⊎◌, ◌≤◌, ◌<◌, ◌-◌, ℕ, Bool, List, length, drop, Option, Some}
use Rattle.std.specs.Io.KnownBytes.{prepend_known}
use Rattle.road_io.specs.Faults.{Rose}
use Rattle.road_io.specs.Plans.{NeverFails}
use Rattle.day_import.specs.declared.outcomes.Outcome.{Outcome}
use Rattle.serve_requests.specs.AskedBodies.{IsBehind, IsSure}
use Rattle.serve_requests.specs.declared.session_end.SessionEnd.{SessionEnd}
use Rattle.serve_requests.specs.declared.session_end.SessionEnd.TheVariants as ends
use Rattle.serve_desk.specs.declared.imported.ReadTo.{ReadTo}
use Rattle.serve_desk.specs.declared.imported.ReadTo.TheVariants.{Open, Cut, LinkFault}
use Rattle.serve_desk.specs.Answers.{Wire, AnswersOutcome}
use Rattle.serve_desk.specs.Imports.{FailsInBody}

-- a body of so many of these bytes was read so far: what came early and what the link has begin with what is left of
-- it; or the bytes ended before it did; or the link failed
abbrev pub IsReadTo : ℕ → Option (List ℕ) → List ℕ → Option (List ℕ) → ReadTo → Type 0
IsReadTo count bytes early known (Open left) =
    (length early ≤ left) × (left ≤ count) × IsBehind (count - left) bytes early known
IsReadTo count bytes early known Cut = (all : List ℕ) → bytes ≡ Some all → length all < count
IsReadTo count bytes early known LinkFault = Unit {0}

-- the causes of that
abbrev pub HasReadCause : Option (ℕ → Bool) → ℕ → ℕ → ReadTo → Type 0
HasReadCause plan before now (Open left) = Unit {0}
HasReadCause plan before now Cut = Unit {0}
HasReadCause plan before now LinkFault = Rose before now × (IsSure plan → ⊥)

-- a body cannot be read on
abbrev pub IsStopped : ReadTo → Type 0
IsStopped (Open left) = ⊥
IsStopped Cut = Unit {0}
IsStopped LinkFault = Unit {0}

-- nothing is left of a body, which was neither cut nor failed in
abbrev pub HasNoneLeft : ReadTo → Type 0
HasNoneLeft (Open left) = left ≡ 0
HasNoneLeft Cut = ⊥
HasNoneLeft LinkFault = ⊥

-- what came early is no more than what is left
abbrev pub FitsRead : List ℕ → ReadTo → Type 0
FitsRead early (Open left) = length early ≤ left
FitsRead early Cut = Unit {0}
FitsRead early LinkFault = Unit {0}

-- so much that was left of a body was there and was read to its end and no further, and how its import ended is
-- answered
abbrev pub AnswersRest : ℕ → List ℕ → Outcome → Wire → Wire → SessionEnd → Type 0
AnswersRest left rest outcome old new end =
    (left ≤ length rest) × (new.left ≡ Some (drop left rest))
    × AnswersOutcome outcome old.room old.written new.written end

-- the bytes end before what was left of a body: nothing is answered
abbrev pub CutsRest : ℕ → List ℕ → Wire → Wire → SessionEnd → Type 0
CutsRest left rest old new end = (end ≡ ends.Cut) × (length rest < left) × (new.written ≡ old.written)

-- the link failed in what was left of a body, which was something: nothing is answered
abbrev pub FailsInRest : ℕ → Wire → Wire → SessionEnd → Type 0
FailsInRest left old new end = (0 < left) × FailsInBody old new end

-- so much is left of a body, of these bytes: the answer is written behind it, or nothing is
abbrev pub FinishesBody : ℕ → List ℕ → Outcome → Wire → Wire → SessionEnd → Type 0
FinishesBody left rest outcome old new end =
    AnswersRest left rest outcome old new end ⊎ (CutsRest left rest old new end ⊎ FailsInRest left old new end)

-- what is left to do of a request whose day was imported: the rest of its body is read, and the outcome is answered;
-- where the body was cut or failed in, nothing is
abbrev pub Finishes : List ℕ → Outcome → Wire → Wire → ReadTo → SessionEnd → Type 0
Finishes early outcome old new (Open left) end =
    (rest : List ℕ) → prepend_known early old.left ≡ Some rest → FinishesBody left rest outcome old new end
Finishes early outcome old new Cut end = (end ≡ ends.Cut) × (new.written ≡ old.written)
Finishes early outcome old new LinkFault end = (end ≡ ends.LinkFault) × (new.written ≡ old.written)

-- a body of so many of these bytes was read to its end and no further; or the bytes end before it; or the link failed in
-- it, which never comes where no read fails
abbrev pub ReadsBody : ℕ → List ℕ → Wire → Wire → Type 0
ReadsBody count all old new =
    ((count ≤ length all) × (new.left ≡ Some (drop count all)))
    ⊎ ((length all < count) ⊎ (NeverFails old.plan → ⊥))

-- so is the body of a POST, of which these bytes came with its head
abbrev pub ReadsOn : ℕ → List ℕ → Wire → Wire → Type 0
ReadsOn count early old new =
    (all : List ℕ) → prepend_known early old.left ≡ Some all → ReadsBody count all old new

-- what is left of a body that was read so far is read; of one that was cut or failed in nothing more is
abbrev pub Skips : List ℕ → Wire → Wire → ReadTo → Type 0
Skips early old new (Open left) = ReadsOn left early old new
Skips early old new Cut = new.left ≡ old.left
Skips early old new LinkFault = new.left ≡ old.left
