-- A session that passes on what is asked of what is kept.
use Rattle.std.specs.Prelude.{◌≡◌, ◌⊎◌, ℕ, List}
use Rattle.serve_requests.specs.declared.asked.Asked.{Asked}
use Rattle.serve_requests.specs.declared.session_end.SessionEnd.{SessionEnd}
use Rattle.serve_desk.specs.Answers.{Wire}
use Rattle.serve_desk.specs.Desk.{IsOfKept}
use Rattle.serve_desk.specs.Seats.{Seated}
use Rattle.serve_desk.specs.Sessions.{EndsAtOnce, Asks, ServesLive}

-- a request of what is kept is passed on as it was read, with nothing written before, and with what was seen as it was;
-- its clerk answers it so, and the clerk's end is the session's
abbrev pub PassesOn : {K : Type 0} → (Asked → Seated K → Seated K → Wire → Wire → SessionEnd → Type 0) → List ℕ →
    Seated K → Seated K → Wire → Wire → SessionEnd → Type 0
PassesOn answers bytes p q old new end =
    (asked : Asked) × (mid : Wire) × Asks bytes asked old mid × IsOfKept asked × answers asked p q mid new end

-- a session that passes on what is asked of what is kept, to a clerk that answers so; all else is answered, and the place
-- in the history stays
abbrev pub Shares : {K : Type 0} → (Asked → Seated K → Seated K → Wire → Wire → SessionEnd → Type 0) → List ℕ →
    Seated K → Seated K → Wire → Wire → SessionEnd → Type 0
Shares answers bytes p q old new end =
    (EndsAtOnce bytes old new end × (q ≡ p))
    ⊎ (PassesOn answers bytes p q old new end
    ⊎ (ServesLive bytes p.reader q.reader old new end × (q.log ≡ p.log)))
