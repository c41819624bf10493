-- What an acceptor did: it drew a ticket for each connection that it accepted, until none was left or it failed.

use Rattle.std.specs.Prelude.{◌≡◌, ◌≤◌, ◌<◌, ◌+◌, ℕ, zero, suc, List, true, false, Any, sum_by, zip, length}
use Rattle.std.specs.List.{AllZip, list_any}
use Rattle.road_io.specs.Faults.{Rose}
use Rattle.serve_loops.specs.Wires.{Wire}
use Rattle.serve_loops.specs.declared.acceptor.Acceptor.{Acceptor}

-- an acceptor served: its listener's faults rose where it failed, and stand where it did not; its reader goes on from what
-- it was
pub record AcceptorServes {N Q : Type 0} (faults : N → ℕ) (follows : Q → Q → Type 0) (old new : Acceptor N Q) :
    Type 0 where
  pub later : faults old.listener ≤ faults new.listener
  pub cause : new.failed ≡ true → Rose (faults old.listener) (faults new.listener)
  pub still : new.failed ≡ false → faults new.listener ≡ faults old.listener
  pub went : follows old.reader new.reader

-- one turn of an acceptor, by its listener and its reader before and after it: the listener gave a connection, that was
-- served, and the listener took back what it then was
pub record TurnOf {N L Q : Type 0} (gives takes : N → N → L → Type 0) (wire : L → Wire)
    (attends : Q → Q → Wire → Wire → Type 0) (old : N) (p : Q) (new : N) (q : Q) : Type 0 where
  pub mid : N
  pub came : L
  pub went : L
  pub gave : gives old mid came
  pub served : attends p q (wire came) (wire went)
  pub took : takes mid new went

-- so many turns, one after another
abbrev pub TakesTurns : {N Q : Type 0} → (N → Q → N → Q → Type 0) → ℕ → N → Q → N → Q → Type 0
TakesTurns {N} {Q} turn zero old p new q = (new ≡ old) × (q ≡ p)
TakesTurns {N} {Q} turn (suc n) old p new q = (mid : N) × (r : Q) × TakesTurns turn n old p mid r × turn mid r new q

-- the turns of an acceptor: as many as its listener accepted connections; only a listener that failed is another behind them
pub record AcceptorTurned {N Q : Type 0} (accepted : N → ℕ) (turn : N → Q → N → Q → Type 0) (old new : Acceptor N Q) :
    Type 0 where
  pub count : ℕ
  pub last : N
  pub counted : accepted new.listener ≡ accepted old.listener + count
  pub turns : TakesTurns turn count old.listener old.reader last new.reader
  pub over : new.failed ≡ false → new.listener ≡ last

-- an acceptor failed
abbrev pub HasFailedAcceptor : {N Q : Type 0} → List (Acceptor N Q) → Type 0
HasFailedAcceptor acceptors = Any (λ acceptor. acceptor.failed ≡ true) acceptors

-- the count of an acceptor's listener rose
abbrev pub AnyRose : {N Q : Type 0} → (N → ℕ) → List (Acceptor N Q) → List (Acceptor N Q) → Type 0
AnyRose faults old new = Any (λ p. Rose (faults p.0.listener) (faults p.1.listener)) (zip old new)

-- the connections that acceptors accepted in all
abbrev pub accepted_in_all : {N Q : Type 0} → (N → ℕ) → List (Acceptor N Q) → ℕ
accepted_in_all accepted acceptors = sum_by (λ acceptor. accepted acceptor.listener) acceptors

-- an acceptor ran: it drew as many tickets as its listener accepted connections, and one more where it failed; where it did
-- not fail it found none left
pub record AcceptorRan {N Q : Type 0} (faults accepted : N → ℕ) (follows : Q → Q → Type 0)
    (turn : N → Q → N → Q → Type 0) (old new : Acceptor N Q) (drawn ends : ℕ) : Type 0 where
  pub serves : AcceptorServes faults follows old new
  pub turned : AcceptorTurned accepted turn old new
  pub served : new.failed ≡ false → accepted new.listener ≡ drawn
  pub over : new.failed ≡ false → 0 < ends
  pub failed : new.failed ≡ true → accepted new.listener + 1 ≡ drawn

-- acceptors ran: so many tickets were drawn in all
pub record RanAll {N Q : Type 0} (faults accepted : N → ℕ) (follows : Q → Q → Type 0)
    (turn : N → Q → N → Q → Type 0) (old new : List (Acceptor N Q)) (drawn ends : ℕ) : Type 0 where
  pub serves : AllZip (AcceptorServes faults follows) old new
  pub turned : AllZip (AcceptorTurned accepted turn) old new
  pub within : accepted_in_all accepted new ≤ drawn
  pub served : list_any (λ acceptor. acceptor.failed) new ≡ false → accepted_in_all accepted new ≡ drawn
  pub over : list_any (λ acceptor. acceptor.failed) new ≡ false → 0 < length new → 0 < ends
