-- What each step makes of a floor's state.
use Rattle.std.specs.Prelude.{ℕ, ◌+◌, ◌==◌, List, [], ◌∷◌, ◌++◌, if◌then◌else◌}
use Rattle.road_time.specs.declared.road.Tuple.{Tuple}
use Rattle.road_time.specs.Tolls.{StretchTold}
use Rattle.ways_expressway.specs.Events.{events_at, told_to}
use Rattle.day_floor.specs.Shares.{Share, State}

-- the shares with one worker's changed
abbrev pub at_worker : ℕ → (Share → Share) → (ℕ → Share) → ℕ → Share
at_worker worker change share w = if w == worker then change (share w) else share w

-- a worker's share, after its events of one tuple more have come to wait
abbrev pub fed_to : ℕ → ℕ → List Tuple → Tuple → Share → Share
fed_to worker width fed x share =
    record {
      back = share.back;
      out = share.out;
      waiting =
          share.waiting ++ told_to worker width (events_at (fed, x));
      number = share.number;
    }

-- after all that waited went out as a job with this number
abbrev pub given_out : ℕ → Share → Share
given_out number share = record { back = share.back; out = share.waiting; waiting = []; number = number }

-- after the job that was out came back
abbrev pub taken_back : Share → Share
taken_back share = record { back = share.back ++ share.out; out = []; waiting = share.waiting; number = share.number }

-- workers without one of them, where it stands first
abbrev pub without_one : ℕ → List ℕ → List ℕ
without_one worker [] = []
without_one worker (w ∷ ws) = if w == worker then ws else w ∷ without_one worker ws

-- a floor of so many workers, after a tuple was fed: its events wait at their workers
abbrev pub after_feed : ℕ → State → Tuple → State
after_feed width s x =
    record {
      fed = s.fed ++ x ∷ [];
      found = s.found;
      share = λ w. fed_to w width s.fed x (s.share w);
      given =
          s.given;
      settled = s.settled;
      starts = s.starts;
      outs = s.outs;
    }

-- after all that waits at a worker was given to it as a job
abbrev pub after_give : State → ℕ → State
after_give s worker =
    record {
      fed = s.fed;
      found = s.found;
      share = at_worker worker (given_out s.given) s.share;
      given =
          s.given + 1;
      settled = s.settled;
      starts = s.starts ++ record { worker = worker; number = s.given; events = (s.share worker).waiting } ∷ [];
      outs = s.outs ++ worker ∷ [];
    }

-- after a worker's job came back with its findings
abbrev pub after_back : State → ℕ → List (ℕ × StretchTold) → State
after_back s worker findings =
    record {
      fed = s.fed;
      found = s.found ++ findings;
      share = at_worker worker taken_back s.share;
      given =
          s.given;
      settled = s.settled;
      starts = s.starts;
      outs = without_one worker s.outs;
    }

-- after the positions below n were settled
abbrev pub after_settle : State → ℕ → State
after_settle s n =
    record {
      fed = s.fed;
      found = s.found;
      share = s.share;
      given = s.given;
      settled = n;
      starts = s.starts;
      outs = s.outs;
    }
