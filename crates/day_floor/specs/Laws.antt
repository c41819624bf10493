-- Laws of a floor's state and of its turns, which no code runs.
use Rattle.std.specs.Prelude.{◌≡◌, ℕ, ◌+◌, ◌≤◌, ◌<◌, ◌==◌, true, false, IsOk, List, [], ◌∷◌, ◌++◌, length, take}
use Rattle.std.specs.Prelude.{slice_get, Some, if◌then◌else◌}
use Rattle.std.specs.List.{filter_map, AllByRecursion}
use Rattle.road_time.specs.declared.tariff.TheConstants.{GREATEST_TOLL}
use Rattle.road_time.specs.declared.road.Tuple.{Tuple}
use Rattle.road_time.specs.declared.day.Limits.{Limits}
use Rattle.road_time.specs.Rates.{Tariffs}
use Rattle.road_time.specs.Sights.{Sight, moments}
use Rattle.road_time.specs.Tolls.{StretchTold}
use Rattle.road_time.specs.Day.{rules, given, no_finding, told_sight, told_by, answer_by, owed_by, merged, notices}
use Rattle.road_time.specs.Day.{charges, charges_by, charges_between}
use Rattle.road_time.specs.Text.{out}
use Rattle.ways_expressway.specs.declared.job.Job.{Job}
use Rattle.ways_expressway.specs.declared.job.Done.{Done}
use Rattle.ways_expressway.specs.Events.{events_for}
use Rattle.ways_expressway.specs.Findings.{findings, found_at}
use Rattle.ways_expressway.specs.Ready.{IsReady}
use Rattle.ways_expressway.specs.Results.{AreFirst, IsResultOf, IsResultShaped}
use Rattle.ways_expressway.specs.Laws.{IsFrom}
use Rattle.day_floor.specs.Terms.{AreTerms}
use Rattle.day_floor.specs.Shares.{JobStart, State, start, ahead_of, is_empty, can_give, mark}
use Rattle.day_floor.specs.Steps.{after_feed, after_give, after_back, after_settle}
use Rattle.day_floor.specs.Sound.{HasOne, AreFresh, IsAwaited, CanFeed, CanBack, SoundState, IsTrue}
use Rattle.day_floor.specs.Jobs.{IsNext, IsOut, MayComeBack, HasTrueFindings}
use Rattle.day_floor.specs.Starts.{next_start, started_for, HaveStarted}
use Rattle.day_floor.specs.Written.{written_to, settled_text, charged_to, settled_charges}
use Rattle.day_floor.specs.Turns.FloorTurn.{Settle}
use Rattle.day_floor.specs.Turns.{FloorTurn, AreLawful, AreRight, after_all, written_all, charged_all, started_all}
use Rattle.day_floor.specs.Turns.{fed_all, answered_all}

-- Each step leads from a sound state to a sound state.

-- the state at the start is sound
abbrev pub StartLaw : Type 0
StartLaw = (width : ℕ) (limits : Limits) → SoundState width limits start

-- a tuple that may be fed leads to a sound state
abbrev pub FloorFeedLaw : Type 0
FloorFeedLaw = (width : ℕ) (limits : Limits) (s : State) (x : Tuple) → SoundState width limits s → CanFeed limits s x →
    SoundState width limits (after_feed width s x)

-- a job that may be given leads to a sound state
abbrev pub GiveLaw : Type 0
GiveLaw =
    (width : ℕ) (limits : Limits) (s : State) (worker : ℕ) → SoundState width limits s → worker < width →
    can_give (s.share worker) ≡ true → SoundState width limits (after_give s worker)

-- findings that may come back lead to a sound state
abbrev pub BackLaw : Type 0
BackLaw =
    (width : ℕ) (limits : Limits) (s : State) (worker number : ℕ) (findings : List (ℕ × StretchTold)) →
    SoundState width limits s → CanBack width s worker number findings →
    SoundState width limits (after_back s worker findings)

-- settling up to a position at most the mark leads to a sound state
abbrev pub FloorSettleLaw : Type 0
FloorSettleLaw =
    (width : ℕ) (limits : Limits) (s : State) (n : ℕ) → SoundState width limits s → s.settled ≤ n → n ≤ mark width s →
    SoundState width limits (after_settle s n)

-- The mark.

-- a number is the mark: no event that is not back is below it, and it is the greatest such number that is not above
-- the number fed
pub record IsMark (width : ℕ) (s : State) (n : ℕ) : Type 0 where
  pub within : n ≤ length s.fed
  pub next : (worker : ℕ) → worker < width → IsFrom n (ahead_of s worker)
  pub greatest : (m : ℕ) → m ≤ length s.fed → ((worker : ℕ) → worker < width → IsFrom m (ahead_of s worker)) → m ≤ n

-- the mark of a state is such a number
abbrev pub MarkLaw : Type 0
MarkLaw = (width : ℕ) (s : State) → IsMark width s (mark width s)

-- what is settled is at most the mark, which is above it by a backlog at most
abbrev pub SettledLaw : Type 0
SettledLaw = (width : ℕ) (limits : Limits) (s : State) → SoundState width limits s → (s.settled ≤ mark width s)
    × (mark width s ≤ s.settled + limits.backlog)

-- where all events are back, the mark is the number fed
abbrev pub AllBackLaw : Type 0
AllBackLaw = (width : ℕ) (s : State) → ((worker : ℕ) → worker < width → ahead_of s worker ≡ []) →
    mark width s ≡ length s.fed

-- What was written stays.

-- the text and the charges of the settled positions are the same when tuples are fed, jobs are given, and findings
-- come back
abbrev pub StayLaw : Type 0
StayLaw =
    (width : ℕ) (limits : Limits) (s : State) → SoundState width limits s → (number : ℕ) (kept : ℕ → ℕ → ℕ → ℕ) →
    ((x : Tuple) → (settled_text number kept (after_feed width s x) ≡ settled_text number kept s)
    × (settled_charges (after_feed width s x) ≡ settled_charges s))
    × ((worker : ℕ) → (settled_text number kept (after_give s worker) ≡ settled_text number kept s)
    × (settled_charges (after_give s worker) ≡ settled_charges s))
    × ((worker job : ℕ) (findings : List (ℕ × StretchTold)) → CanBack width s worker job findings →
    (settled_text number kept (after_back s worker findings) ≡ settled_text number kept s)
    × (settled_charges (after_back s worker findings) ≡ settled_charges s))

-- when positions are settled, what is written and charged goes on from what was
abbrev pub GoOnLaw : Type 0
GoOnLaw =
    (s : State) (n : ℕ) → s.settled ≤ n → n ≤ length s.fed → (number : ℕ) (kept : ℕ → ℕ → ℕ → ℕ) →
    (settled_text number kept (after_settle s n) ≡ settled_text number kept s ++ written_to number kept s n)
    × (settled_charges (after_settle s n) ≡ settled_charges s ++ charged_to s n)

-- for one position that is what its tuple is told, answered and charged
abbrev pub OneStepLaw : Type 0
OneStepLaw =
    (s : State) (x : Tuple) → slice_get s.fed s.settled ≡ Some x → (number : ℕ) (kept : ℕ → ℕ → ℕ → ℕ) →
    (written_to number kept s (s.settled + 1)
    ≡ out (told_by (given s.found) (take s.settled s.fed, x) ++ answer_by (given s.found) number kept
    (take s.settled s.fed, x)))
    × (charged_to s (s.settled + 1) ≡ owed_by (given s.found) (take s.settled s.fed, x))

-- The findings.

-- at each position below the mark that is told there is exactly one finding, and it could be
abbrev pub OneFindingLaw : Type 0
OneFindingLaw = (width : ℕ) (limits : Limits) (s : State) → 1 ≤ width → SoundState width limits s → (n : ℕ) →
    n ≤ mark width s → HasOne (take n s.fed) s.found

-- no position has more than one, and none has one whose tuple was not fed; and the toll of each could be
abbrev pub OneAtMostLaw : Type 0
OneAtMostLaw =
    (width : ℕ) (limits : Limits) (s : State) → SoundState width limits s →
    ((position : ℕ) → length (found_at position s.found) ≤ 1)
    × ((t : Sight) → length s.fed ≤ t.0 → given s.found t ≡ no_finding)
    × ((t : Sight) → (given s.found t).toll ≤ GREATEST_TOLL)

-- findings that come back are for reports that were fed and are not settled, each for one that has none before it; of
-- what is settled they change nothing
abbrev pub FreshLaw : Type 0
FreshLaw =
    (width : ℕ) (limits : Limits) (s : State) (worker number : ℕ) (findings : List (ℕ × StretchTold)) →
    SoundState width limits s → CanBack width s worker number findings → AllByRecursion (IsAwaited s) findings
    × AreFresh s.found findings
    × AllByRecursion (λ t. given s.found t ≡ given (s.found ++ findings) t)
    (filter_map told_sight (moments (take s.settled s.fed)))

-- one finding more, for a position that has none, is given there, and nothing else changes
abbrev pub GivenLaw : Type 0
GivenLaw = (found : List (ℕ × StretchTold)) (f : ℕ × StretchTold) (t : Sight) → found_at f.0 found ≡ [] →
    given (found ++ f ∷ []) t ≡ (if f.0 == t.0 then f.1 else given found t)

-- each step keeps findings true, where those that come back are those of the events that were out
abbrev pub TrueLaw : Type 0
TrueLaw =
    (tariffs : Tariffs) (width : ℕ) (limits : Limits) → IsTrue tariffs width start
    × ((s : State) → SoundState width limits s → IsTrue tariffs width s →
    ((x : Tuple) → IsTrue tariffs width (after_feed width s x))
    × ((worker : ℕ) → IsTrue tariffs width (after_give s worker))
    × ((n : ℕ) → IsTrue tariffs width (after_settle s n))
    × ((worker number : ℕ) → CanBack width s worker number (findings (s.share worker).back (s.share worker).out tariffs)
    → IsTrue tariffs width (after_back s worker (findings (s.share worker).back (s.share worker).out tariffs))))

-- true findings make the notices and the charges of the rules up to the mark
abbrev pub FloorExactLaw : Type 0
FloorExactLaw =
    (tariffs : Tariffs) (width : ℕ) (limits : Limits) (s : State) → 1 ≤ width → SoundState width limits s →
    IsTrue tariffs width s → (n : ℕ) → n ≤ mark width s → ((number : ℕ) (kept : ℕ → ℕ → ℕ → ℕ) →
    merged (take n s.fed) s.found number kept ≡ notices (take n s.fed) tariffs number kept)
    × (charges_by (given s.found) (moments (take n s.fed)) ≡ charges (take n s.fed) tariffs (moments (take n s.fed)))
    × ((a b : ℕ) → b ≤ n → charges_between (given s.found) s.fed a b ≡ charges_between (rules s.fed tariffs) s.fed a b)

-- The jobs.

-- a job that is given can be run after all events of its worker that are back, and then it is out
abbrev pub NextLaw : Type 0
NextLaw =
    (tariffs : Tariffs) (width : ℕ) (limits : Limits) (s : State) (worker : ℕ) (job : Job) → AreTerms width limits →
    SoundState width limits s → worker < width →
    IsNext tariffs s worker job → IsReady job.carriage (s.share worker).back job.events
    × IsOut tariffs (after_give s worker) worker job

-- a job is out until it is back, whatever else is done
abbrev pub FloorOutLaw : Type 0
FloorOutLaw =
    (tariffs : Tariffs) (width : ℕ) (s : State) (worker : ℕ) (job : Job) → IsOut tariffs s worker job →
    ((x : Tuple) → IsOut tariffs (after_feed width s x) worker job)
    × ((other : ℕ) → (worker ≡ other → ⊥) → IsOut tariffs (after_give s other) worker job)
    × ((other : ℕ) (findings : List (ℕ × StretchTold)) → (worker ≡ other → ⊥) →
    IsOut tariffs (after_back s other findings) worker job)
    × ((n : ℕ) → IsOut tariffs (after_settle s n) worker job)

-- a job that is out can be run; what has the shape of its result may come back, and what is its result has its true
-- findings
abbrev pub ComeBackLaw : Type 0
ComeBackLaw =
    (tariffs : Tariffs) (width : ℕ) (limits : Limits) (s : State) (worker : ℕ) (job : Job) → AreTerms width limits →
    SoundState width limits s → worker < width → is_empty (s.share worker).out ≡ false → IsOut tariffs s worker job →
    IsReady job.carriage (s.share worker).back job.events
    × ((done : Done) → IsResultShaped job done → IsOk done.result → MayComeBack tariffs width s done)
    × ((done : Done) → IsResultOf job done → IsOk done.result → HasTrueFindings tariffs s done)

-- what was started for a worker are the first of its events, and all of them where none waits
abbrev pub StartedLaw : Type 0
StartedLaw =
    (width : ℕ) (limits : Limits) (s : State) (starts : List JobStart) → SoundState width limits s →
    HaveStarted width limits.backlog s starts → (worker : ℕ) → worker < width →
    AreFirst (started_for worker starts) (events_for s.fed worker width)
    × ((s.share worker).waiting ≡ [] → started_for worker starts ≡ events_for s.fed worker width)

-- each step keeps count of the jobs that were started
abbrev pub StartsLaw : Type 0
StartsLaw =
    (width : ℕ) (limits : Limits) → HaveStarted width limits.backlog start []
    × ((s : State) (starts : List JobStart) → SoundState width limits s → HaveStarted width limits.backlog s starts →
    ((x : Tuple) → HaveStarted width limits.backlog (after_feed width s x) starts)
    × ((worker : ℕ) → worker < width → can_give (s.share worker) ≡ true →
    HaveStarted width limits.backlog (after_give s worker) (starts ++ next_start s worker ∷ []))
    × ((worker : ℕ) (findings : List (ℕ × StretchTold)) →
    HaveStarted width limits.backlog (after_back s worker findings) starts)
    × ((n : ℕ) → HaveStarted width limits.backlog (after_settle s n) starts))

-- a worker's events of more tuples begin with those of the first
abbrev pub FloorGrowLaw : Type 0
FloorGrowLaw = (day later : List Tuple) (worker width : ℕ) →
    AreFirst (events_for day worker width) (events_for (day ++ later) worker width)

-- Turns.

-- after some turns: what they wrote and charged in all is what the tuples fed and the findings taken back make of the
-- settled positions, each of which that is told has its one finding, and which are at most the mark; no more tuples
-- wait than the backlog allows; and the jobs that they started are the workers' own
pub record AreKept (width : ℕ) (limits : Limits) (number : ℕ) (kept : ℕ → ℕ → ℕ → ℕ) (turns : List FloorTurn)
    (s : State) : Type 0 where
  pub sound : SoundState width limits s
  pub fed : s.fed ≡ fed_all turns
  pub found : s.found ≡ answered_all turns
  pub text : written_all width number kept start turns
      ≡ out (merged (take s.settled (fed_all turns)) (answered_all turns) number kept)
  pub charges : charged_all width start turns ≡ charges_by (given (answered_all turns))
      (moments (take s.settled (fed_all turns)))
  pub ones : HasOne (take s.settled (fed_all turns)) (answered_all turns)
  pub settled : s.settled ≤ mark width s
  pub pending : length s.fed ≤ s.settled + limits.backlog
  pub starts : HaveStarted width limits.backlog s (started_all width start turns)

-- after every lawful list of turns all of that is kept
abbrev pub TurnsLaw : Type 0
TurnsLaw =
    (width : ℕ) (limits : Limits) (turns : List FloorTurn) → 1 ≤ width → AreLawful width limits start turns →
    (number : ℕ) (kept : ℕ → ℕ → ℕ → ℕ) → AreKept width limits number kept turns (after_all width start turns)

-- where all findings that came back are those of the events, the turns write the output and make the charges of the
-- rules
abbrev pub RulesLaw : Type 0
RulesLaw =
    (tariffs : Tariffs) (width : ℕ) (limits : Limits) (turns : List FloorTurn) → 1 ≤ width →
    AreLawful width limits start turns → AreRight width tariffs start turns → (number : ℕ) (kept : ℕ → ℕ → ℕ → ℕ) →
    (written_all width number kept start turns
    ≡ out (notices (take (after_all width start turns).settled (fed_all turns)) tariffs number kept))
    × (charged_all width start turns
    ≡ charges (take (after_all width start turns).settled (fed_all turns)) tariffs
    (moments (take (after_all width start turns).settled (fed_all turns))))

-- when all is back and a last turn settles, all tuples are settled, and the jobs of each worker have all of its events
abbrev pub LastLaw : Type 0
LastLaw =
    (width : ℕ) (limits : Limits) (turns : List FloorTurn) → AreLawful width limits start turns →
    ((worker : ℕ) → worker < width → ahead_of (after_all width start turns) worker ≡ []) →
    (number : ℕ) (kept : ℕ → ℕ → ℕ → ℕ) → (written_all width number kept start (turns ++ Settle ∷ [])
    ≡ out (merged (fed_all turns) (answered_all turns) number kept))
    × (charged_all width start (turns ++ Settle ∷ []) ≡ charges_by (given (answered_all turns))
    (moments (fed_all turns)))
    × ((worker : ℕ) → worker < width →
    started_for worker (started_all width start turns) ≡ events_for (fed_all turns) worker width)
