-- Where the output of a day is stopped.
use Rattle.std.proofs.Common.{◌≡◌, ℕ, ◌+◌, ◌-◌, ◌≤◌, drop, Some, List, [], ◌∷◌, ◌++◌, length, take, ap, ◌∙◌, arith}
use Rattle.std.proofs.Common.{subst, length-append}
use Rattle.std.proofs.Math.Seq.{take-length, take-append_seam}
use Rattle.road_io.proofs.SinkLaws.{appends_none, takes_none}
use Rattle.road_time.specs.declared.road.Tuple.{Tuple}
use Rattle.road_time.specs.declared.road.Notice.{Notice}
use Rattle.road_time.specs.Rates.{Tariffs}
use Rattle.road_time.specs.Sights.{moments, moments_after}
use Rattle.road_time.specs.Day.{given, notices, merged}
use Rattle.road_time.specs.Text.{out}
use Rattle.day_floor.specs.declared.fault.SettleFault.{SettleFault}
use Rattle.day_floor.specs.declared.fault.SettleFault.TheVariants.{KeeperFault, WriteFault, NoMemory}
use Rattle.day_floor.specs.Answers.{PaidHistory, AreNotices}
use Rattle.road_io.specs.Levels.{Level, AddsFront, AddsPieces, FillsUp, Adds}
use Rattle.day_floor.specs.Asking.{AskingPlan, requests_of}
use Rattle.day_floor.specs.SettlingRuns.{TakesRun, StopsRun}
use Rattle.day_floor.proofs.AnswerLaws.{notices_exact}
use Rattle.day_floor.proofs.AskLaws.{passes_none, up_to_all}
use Rattle.day_floor.proofs.LevelLaws.{front_whole}
use Rattle.day_floor.specs.Shares.{State, mark}
use Rattle.day_floor.specs.Floors.{Setting, TakesSettled, StopsSettling}
use Rattle.example_day.specs.Turns.{AreAnswered}
use Rattle.example_day.specs.Stops.{TakesDay, StopsDay}

-- nothing was written yet
pub not_begun : (day : List Tuple) (tariffs : Tariffs) (number : ℕ) (kept : ℕ → ℕ → ℕ → ℕ) (w : Level)
    (plan : AskingPlan) → StopsDay NoMemory day tariffs number kept w w plan plan
not_begun day tariffs number kept w plan =
    ((0, omega arith, appends_none w.0, takes_none w.1), (0, omega arith, passes_none plan))

-- all was written, and then no memory was left
pub all_taken : (day : List Tuple) (tariffs : Tariffs) (number : ℕ) (kept : ℕ → ℕ → ℕ → ℕ) (old now : Level)
    (plan left : AskingPlan) → TakesDay day tariffs number kept old now plan left →
    StopsDay NoMemory day tariffs number kept old now plan left
all_taken day tariffs number kept old now plan left h =
    (front_whole old now (out (notices day tariffs number kept)) h.0, up_to_all plan left (requests_of day) h.1)

-- the first tuples of a day
first_part : (done later day : List Tuple) → day ≡ done ++ later → (take (length done) day ≡ done)
    × (length done ≤ length day)
first_part done later day e =
    let size : length day ≡ length done + length later = ap length e ∙ length-append done later in
    (ap (take (length done)) e ∙ take-append_seam done later, omega arith)

module _ (e : Setting) (s t : State) (width n : ℕ) (kept : ℕ → ℕ → ℕ → ℕ) (are : AreAnswered e.tariffs width s.fed t)
    (none : t.settled ≡ 0) (is : n ≡ mark width t) (known : e.history ≡ Some kept) where
  before_is : take t.settled t.fed ≡ []
  before_is = ap (λ k. take k t.fed) none

  run_is : take (n - t.settled) (drop t.settled t.fed) ≡ s.fed
  run_is =
      let all : n - 0 ≡ length s.fed = (let to = is ∙ are.mark_is in omega arith) in
      ap (λ k. take (n - k) (drop k t.fed)) none
      ∙ (ap (λ k. take k t.fed) all ∙ (ap (take (length s.fed)) are.same ∙ take-length s.fed))

  -- what is said of the whole run is said of the day
  on_day : (P : PaidHistory → List Tuple → List Tuple → Type 0) →
      P e.history (take t.settled t.fed) (take (n - t.settled) (drop t.settled t.fed)) → P (Some kept) [] s.fed
  on_day P h =
      subst (λ d. P (Some kept) [] d) run_is
      (subst (λ b. P (Some kept) b (take (n - t.settled) (drop t.settled t.fed))) before_is
      (subst (λ k. P k (take t.settled t.fed) (take (n - t.settled) (drop t.settled t.fed))) known h))

  -- what is told of the day is the output of the rules
  day_told : (told : List Notice) → AreNotices (given t.found) e.number (Some kept) (moments_after [] s.fed) told →
      told ≡ notices s.fed e.tariffs e.number kept
  day_told told h = notices_exact (given t.found) e.number kept (moments s.fed) told h ∙ are.exact e.number kept

  -- and what is told of its first tuples is theirs
  front_told : (done later : List Tuple) (told : List Notice) → s.fed ≡ done ++ later →
      AreNotices (given t.found) e.number (Some kept) (moments_after [] done) told →
      told ≡ notices done e.tariffs e.number kept
  front_told done later told day h =
      let part = first_part done later s.fed day in
      notices_exact (given t.found) e.number kept (moments done) told h
      ∙ subst (λ d. merged d t.found e.number kept ≡ notices d e.tariffs e.number kept) part.0
      (are.fronts (length done) part.1 e.number kept)

  -- a day that was taken whole
  pub day_took : (old now : Level) (plan left : AskingPlan) → TakesSettled e t n old now plan left →
      TakesDay s.fed e.tariffs e.number kept old now plan left
  day_took old now plan left h =
      let run : TakesRun (given t.found) e.number (Some kept) [] s.fed old now plan left =
      on_day (λ k b r. TakesRun (given t.found) e.number k b r old now plan left) h in
      (subst (λ ns. Adds old now (out ns)) (day_told run.0 run.1) run.2, run.3)

  -- a run of the day that was stopped
  stopped_by : (fault : SettleFault) (old now : Level) (plan left : AskingPlan) →
      StopsRun fault (given t.found) e.number (Some kept) [] s.fed old now plan left →
      StopsDay fault s.fed e.tariffs e.number kept old now plan left
  stopped_by KeeperFault old now plan left h = record {
    done = h.done;
    request = h.request;
    later = h.later;
    day_is = h.run_is;
    asks = h.asks;
    wrote = subst (λ ns. AddsPieces (out ns) old now)
        (front_told h.done (h.request ∷ h.later) h.told h.run_is h.told_are) h.wrote;
    failed = h.failed;
  }
  stopped_by WriteFault old now plan left h = (subst (λ ns. FillsUp (out ns) old now) (day_told h.0 h.1) h.2, h.3)
  stopped_by NoMemory old now plan left h = (subst (λ ns. AddsFront (out ns) old now) (day_told h.0 h.1) h.2, h.3)

  -- a day that was stopped
  pub day_stopped : (fault : SettleFault) (old now : Level) (plan left : AskingPlan) →
      StopsSettling fault e t n old now plan left → StopsDay fault s.fed e.tariffs e.number kept old now plan left
  day_stopped fault old now plan left h =
      stopped_by fault old now plan left
      (on_day (λ k b r. StopsRun fault (given t.found) e.number k b r old now plan left) h)
