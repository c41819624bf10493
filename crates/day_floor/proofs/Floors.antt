-- what a floor that stands for a state has
use Rattle.std.proofs.Common.{◌≡◌, ℕ, ◌+◌, ◌≤◌, ◌<◌, List, [], ◌∷◌, ◌++◌, length, map, take, drop, sym, ap, ◌∙◌, arith}
use Rattle.std.proofs.Common.{subst}
use Rattle.std.specs.List.{AllByRecursion}
use Rattle.std.proofs.lemmas.List.{take-append-drop}
use Rattle.std.specs.VecDeque.{deque_len}
use Rattle.road_time.specs.Tolls.{StretchTold}
use Rattle.road_time.proofs.EachLaws.{weakened}
use Rattle.ways_expressway.specs.declared.finding.Finding.{Finding as CodeFinding}
use Rattle.ways_expressway.specs.Findings.{shown}
use Rattle.day_floor.specs.declared.floor.Floor.{Floor}
use Rattle.day_floor.specs.Shares.{State}
use Rattle.day_floor.specs.Sound.{ReportAt, IsAwaited}
use Rattle.day_floor.specs.Floors.{Setting, StandsFor}
use Rattle.day_floor.proofs.Filled.{waiting_count}

module _ (g : Setting) (f : Floor) (s : State) (st : StandsFor g f s)
    (held : deque_len f.slots ≡ length f.slots.items) where
  -- so many slots as tuples that wait
  pub count : s.settled + deque_len f.slots ≡ length s.fed
  count = ap (λ n. s.settled + n) (held ∙ ap length st.slots) ∙ waiting_count s st.sound.settled

  -- a backlog at most
  pub few : deque_len f.slots ≤ f.limits.backlog
  few = omega (arith, count, st.sound.pending)

  pub small : f.limits.backlog ≤ 65536
  small = st.terms.backlog

  -- and tuples of a day
  pub fed_small : length s.fed ≤ 16000000
  fed_small = omega (arith, st.sound.fit.lines, lines)
    where
      lines : f.limits.lines ≤ 16000000
      lines = st.terms.lines

  -- fewer jobs than two a tuple
  pub given_small : f.given ≤ 32000000
  given_small = omega (arith, st.given_is, st.sound.jobs, fed_small)

-- findings of the code that are awaited lie among the slots
pub awaited_within : (s : State) (settled count : ℕ) (fs : List CodeFinding) → settled ≡ s.settled →
    s.settled + count ≡ length s.fed → AllByRecursion (IsAwaited s) (map shown fs) →
    AllByRecursion (λ f. (settled ≤ f.position) × (f.position < settled + count)) fs
awaited_within s settled count [] e g h = tt
awaited_within s settled count (f ∷ fs) e g h =
    ((omega (arith, e, h.0.low), omega (arith, e, g, h.0.high)), awaited_within s settled count fs e g h.1)

-- and they are for reports
pub awaited_reports : (s : State) (fs : List (ℕ × StretchTold)) → AllByRecursion (IsAwaited s) fs →
    AllByRecursion (λ f. ReportAt (take s.settled s.fed ++ drop s.settled s.fed) f.0) fs
awaited_reports s fs h =
    weakened (IsAwaited s) (λ f. ReportAt (take s.settled s.fed ++ drop s.settled s.fed) f.0)
    (λ f a. subst (λ d. ReportAt d f.0) (sym (take-append-drop s.settled s.fed)) a.report) fs h
