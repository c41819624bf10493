-- some tuples are fed, one after another
use Rattle.std.proofs.Common.{◌≡◌, ℕ, ◌+◌, ◌<◌, ◌≤◌, Bool, List, [], ◌∷◌, ◌++◌, length, take, drop, map, refl, sym, ap}
use Rattle.std.proofs.Common.{◌∙◌, arith, subst, append_assoc, append-nil, length-append}
use Rattle.std.specs.Prelude.{Option, slice_index_or}
use Rattle.std.proofs.lemmas.List.{take_more, take-append-drop, take-append-le, length-take-le}
use Rattle.road_time.specs.declared.day.Limits.{Limits}
use Rattle.road_time.specs.declared.road.Tuple.{Tuple}
use Rattle.road_time.specs.declared.road.Tuple.TheVariants.{Report as ReportTuple}
use Rattle.road_time.specs.Fits.{Fit}
use Rattle.road_time.specs.Rates.{Tariffs}
use Rattle.road_time.proofs.AllowedLaws.{fit_left}
use Rattle.ways_expressway.specs.Results.{AreFirst}
use Rattle.ways_expressway.specs.declared.job.Job.{Job}
use Rattle.ways_expressway.specs.declared.finding.Finding.{Finding}
use Rattle.ways_crews.specs.Told.{CrewTold}
use Rattle.day_floor.specs.Shares.{JobStart, State}
use Rattle.day_floor.specs.Steps.{after_feed}
use Rattle.day_floor.specs.Sound.{CanFeed, IsTrue}
use Rattle.day_floor.specs.Starts.{HaveStarted}
use Rattle.day_floor.specs.Floors.{Setting, StandsFor}
use Rattle.day_import.specs.Tasks.{AreOpen}
use Rattle.day_import.specs.RoundRuns.{Runs, HasAnswered, CanFeedAll, after_feeds, start_of}
use Rattle.day_import.specs.declared.begun.Import.{Import}
use Rattle.day_import.proofs.OpenLaws.{open_feed}

-- the tuple that stands where there is none
abbrev pub no_tuple : Tuple
no_tuple = ReportTuple (record { time = 0; vid = 0; spd = 0; xway = 0; lane = 0; dir = 0; seg = 0; pos = 0 })

module _ (width : ℕ) where
  -- one tuple more, after some
  pub fed_push : (s : State) (xs : List Tuple) (x : Tuple) →
      after_feeds width s (xs ++ x ∷ []) ≡ after_feed width (after_feeds width s xs) x
  fed_push s [] x = refl
  fed_push s (y ∷ xs) x = fed_push (after_feed width s y) xs x

  -- what was fed, settled and found
  pub fed_are : (s : State) (xs : List Tuple) → (after_feeds width s xs).fed ≡ s.fed ++ xs
  fed_are s [] = sym (append-nil s.fed)
  fed_are s (x ∷ xs) = fed_are (after_feed width s x) xs ∙ append_assoc s.fed (x ∷ []) xs

  pub fed_settled : (s : State) (xs : List Tuple) → (after_feeds width s xs).settled ≡ s.settled
  fed_settled s [] = refl
  fed_settled s (x ∷ xs) = fed_settled (after_feed width s x) xs

  pub fed_found : (s : State) (xs : List Tuple) → (after_feeds width s xs).found ≡ s.found
  fed_found s [] = refl
  fed_found s (x ∷ xs) = fed_found (after_feed width s x) xs

  -- the same jobs are out
  pub fed_outs : (s : State) (xs : List Tuple) → (after_feeds width s xs).outs ≡ s.outs
  fed_outs s [] = refl
  fed_outs s (x ∷ xs) = fed_outs (after_feed width s x) xs

  -- no job is out that was not before
  pub fed_out : (s : State) (xs : List Tuple) (w : ℕ) → ((after_feeds width s xs).share w).out ≡ (s.share w).out
  fed_out s [] w = refl
  fed_out s (x ∷ xs) w = fed_out (after_feed width s x) xs w

  -- the tuples that are settled stay
  pub fed_first : (s : State) (xs : List Tuple) → s.settled ≤ length s.fed →
      take (after_feeds width s xs).settled (after_feeds width s xs).fed ≡ take s.settled s.fed
  fed_first s xs h = ap (λ n. take n (after_feeds width s xs).fed) (fed_settled s xs)
      ∙ (ap (take s.settled) (fed_are s xs) ∙ take-append-le s.settled s.fed xs h)

  open_fed : (tariffs : Tariffs) (of : ℕ) (s : State) (xs : List Tuple) (jobs : List Job) → AreOpen tariffs of s jobs →
      AreOpen tariffs of (after_feeds width s xs) jobs
  open_fed tariffs of s [] jobs h = h
  open_fed tariffs of s (x ∷ xs) jobs h =
      open_fed tariffs of (after_feed width s x) xs jobs (open_feed tariffs of width s x jobs h)

  starts_fed : (of backlog : ℕ) (s : State) (xs : List Tuple) (starts : List JobStart) →
      HaveStarted of backlog s starts → HaveStarted of backlog (after_feeds width s xs) starts
  starts_fed of backlog s [] starts h = h
  starts_fed of backlog s (x ∷ xs) starts h =
      starts_fed of backlog (after_feed width s x) xs starts
      (record { are = h.are; count = h.count; numbered = h.numbered; each = h.each; whole = h.whole })

  true_fed : (tariffs : Tariffs) (of : ℕ) (s : State) (xs : List Tuple) → IsTrue tariffs of s →
      IsTrue tariffs of (after_feeds width s xs)
  true_fed tariffs of s [] h = h
  true_fed tariffs of s (x ∷ xs) h = true_fed tariffs of (after_feed width s x) xs h

  -- the next one may be fed after the first ones
  pub can_next : (limits : Limits) (s : State) (xs : List Tuple) (i : ℕ) (d : Tuple) → CanFeedAll limits s xs →
      i < length xs → CanFeed limits (after_feeds width s (take i xs)) (slice_index_or xs i d)
  can_next limits s xs i d can h =
      let x = slice_index_or xs i d in
      let first = take i xs in
      let whole : s.fed ++ xs ≡ ((after_feeds width s first).fed ++ x ∷ []) ++ drop (i + 1) xs =
      ap (λ ys. s.fed ++ ys) (sym (take-append-drop (i + 1) xs) ∙ ap (λ ys. ys ++ drop (i + 1) xs) (take_more xs i d h))
      ∙
      (sym (append_assoc s.fed (first ++ x ∷ []) (drop (i + 1) xs))
      ∙ ap (λ ys. ys ++ drop (i + 1) xs)
      (sym (append_assoc s.fed first (x ∷ [])) ∙ ap (λ ys. ys ++ x ∷ []) (sym (fed_are s first)))) in
      let room = can.room in
      let long : length (after_feeds width s first).fed ≡ length s.fed + length first = ap length (fed_are s first)
      ∙ length-append s.fed first in
      let few : length first ≡ i = length-take-le i xs (omega (arith, h)) in
      let same = fed_settled s first in
      record {
        fit = fit_left ((after_feeds width s first).fed ++ x ∷ []) (drop (i + 1) xs) limits
            (subst (λ d. Fit d limits) whole can.fit);
        room = omega (arith, h, room, long, few, same);
      }

module _ {S T : Type 0} (out : S → List ℕ) (number : T → ℕ) (holds : S → ℕ → Job → Type 0) (gave : S → T → Type 0)
    (exact : Bool) (jobs : S → Option CrewTold) (answers : S → Option (List Finding))
    (e : Setting) (told : Option CrewTold) (answered : Option (List Finding)) (run : Import T) (crew : S) (s : State)
    (h : Runs out number holds gave exact jobs answers e told answered run crew s) where
  -- the import goes on
  pub fed_runs : (now : Import T) (xs : List Tuple) → now.tickets.items ≡ run.tickets.items →
      now.floor.inboxes.width ≡ run.floor.inboxes.width → now.floor.limits ≡ run.floor.limits →
      StandsFor e now.floor (after_feeds run.floor.inboxes.width s xs) →
      Runs out number holds gave exact jobs answers e told answered now crew (after_feeds run.floor.inboxes.width s xs)
  fed_runs now xs items width limits st =
      let w = run.floor.inboxes.width in
      let t = after_feeds w s xs in
      record {
        stands = st;
        tasks = h.tasks;
        tickets = h.tickets ∙ sym items;
        held = h.held;
        open' = subst (λ n. AreOpen e.tariffs n t (map (λ t. t.1) h.tasks)) (sym width)
            (open_fed w e.tariffs w s xs (map (λ t. t.1) h.tasks) h.open');
        outs_are = h.outs_are ∙ sym (fed_outs w s xs);
        right = λ x. subst (λ n. IsTrue e.tariffs n t) (sym width) (true_fed w e.tariffs w s xs (h.right x));
        since = h.since;
        starts = subst (λ n. HaveStarted n now.floor.limits.backlog t (map start_of h.since)) (sym width)
            (subst (λ l. HaveStarted w l.backlog t (map start_of h.since)) (sym limits)
            (starts_fed w w run.floor.limits.backlog s xs (map start_of h.since) h.starts));
        listing = h.listing;
        answers_are = subst (λ fs. HasAnswered answered fs (answers crew)) (sym (fed_found w s xs)) h.answers_are;
      }

-- what is first with more behind it is first
pub first_left : (xs ys day : List Tuple) → AreFirst (xs ++ ys) day → AreFirst xs day
first_left xs ys day h = (ys ++ h.0, h.1 ∙ append_assoc xs ys h.0)
