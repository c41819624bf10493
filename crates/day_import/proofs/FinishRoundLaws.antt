-- a job that is out is finished
use Rattle.std.proofs.Common.{◌≡◌, ℕ, zero, suc, ◌<◌, ◌⊎◌, inl, inr, ⊎_elim, Bool, true, false, cond, ◌||◌, List, []}
use Rattle.std.proofs.Common.{◌∷◌}
use Rattle.std.proofs.Common.{◌++◌, length, map, is_err, IsOk, Result, Ok, Err, refl, sym, ap, ◌∙◌, arith, subst}
use Rattle.std.proofs.Common.{append_assoc, slice_index_or}
use Rattle.std.specs.Prelude.{Option, Some, None, Contains, slice_get, ◌≢◌}
use Rattle.std.specs.List.{remove}
use Rattle.std.specs.Result.{OnOk}
use Rattle.std.proofs.lemmas.List.{map-append, length-map}
use Rattle.std.proofs.lemmas.Bool.{eq-eqb, ne_eqb}
use Rattle.ways_expressway.specs.declared.job.Job.{Job}
use Rattle.ways_expressway.specs.declared.job.Done.{Done}
use Rattle.ways_expressway.specs.declared.finding.Finding.{Finding}
use Rattle.ways_expressway.specs.Findings.{shown}
use Rattle.road_time.specs.declared.road.Tuple.{Tuple}
use Rattle.ways_expressway.specs.Results.{AreFirst, IsResultOf, IsResultShaped}
use Rattle.road_time.specs.Tolls.{StretchTold as RoadFinding}
use Rattle.ways_crews.specs.Numbers.{IsOneMore}
use Rattle.ways_crews.specs.Told.{CrewTold, WhereTold, ForgetsJob, AnswersFindings}
use Rattle.ways_crews.specs.Callers.{HasOut, IsListingWhereTold}
use Rattle.ways_crews.proofs.ListingLaws.{where_finished}
use Rattle.day_floor.specs.Shares.{State}
use Rattle.day_floor.specs.Steps.{after_back, without_one}
use Rattle.day_floor.specs.Sound.{IsTrue}
use Rattle.day_floor.specs.Jobs.{MayComeBack}
use Rattle.day_floor.specs.Starts.{HaveStarted}
use Rattle.day_floor.specs.Floors.{Setting, StandsFor}
use Rattle.day_floor.proofs.Jobs.{comes_back, true_result, ok_is}
use Rattle.day_floor.proofs.Starts.{starts_back}
use Rattle.day_floor.proofs.Truths.{true_back}
use Rattle.day_import.specs.Tasks.{IsOpen, AreOfEach, AreOpen}
use Rattle.day_import.specs.RoundRuns.{Runs, Stopped, CameBack, HasAnswered, start_of}
use Rattle.day_import.specs.declared.begun.Import.{Import}
use Rattle.day_import.proofs.OpenLaws.{at_middle, open_back}

-- a ticket among those that are out, with its job, those before it and those after it
split_at : {T : Type 0} (tasks : List (T × Job)) (place : ℕ) (ticket : T) → place < length (map (λ t. t.0) tasks) →
    ticket ≡ slice_index_or (map (λ t. t.0) tasks) place ticket →
    (before : List (T × Job)) × (job : Job) × (after : List (T × Job)) × (tasks ≡ before ++ (ticket, job) ∷ after)
    × (map (λ t. t.0) (before ++ after) ≡ remove (map (λ t. t.0) tasks) place)
    × (slice_get (map (λ t. t.1.worker) tasks) place ≡ Some job.worker)
split_at [] place ticket h e = absurd (omega (arith, h))
split_at ((t, job) ∷ tasks) zero ticket h e = ([], job, tasks, ap (λ u. (u, job) ∷ tasks) (sym e), refl, refl)
split_at ((t, job) ∷ tasks) (suc n) ticket h e =
    let (b, j, a, is, rest, here) = split_at tasks n ticket (omega (arith, h)) e in
    ((t, job) ∷ b, j, a, ap (λ ts. (t, job) ∷ ts) is, ap (λ ts. t ∷ ts) rest, here)

-- the worker of a job that came back is out no more
out_without : {T : Type 0} (before : List (T × Job)) (ticket : T) (job : Job) (after : List (T × Job)) (worker : ℕ) →
    job.worker ≡ worker → AreOfEach (map (λ t. t.1) before ++ job ∷ map (λ t. t.1) after) →
    without_one worker (map (λ t. t.1.worker) (before ++ (ticket, job) ∷ after))
    ≡ map (λ t. t.1.worker) (before ++ after)
out_without {T} [] ticket job after worker e h =
    let rest = map (λ (t : T × Job). t.1.worker) after in
    ap (λ b. cond b rest (job.worker ∷ without_one worker rest)) (eq-eqb job.worker worker e)
out_without {T} (b ∷ before) ticket job after worker e h =
    let rest = map (λ (t : T × Job). t.1.worker) (before ++ (ticket, job) ∷ after) in
    let other : b.1.worker ≢ worker = λ q.
    at_middle (λ k. k.worker ≢ b.1.worker) (map (λ (t : T × Job). t.1) before) job
    (map (λ (t : T × Job). t.1) after) h.0 (e ∙ sym q) in
    ap (λ x. cond x rest (b.1.worker ∷ without_one worker rest)) (ne_eqb b.1.worker worker other)
    ∙ ap (λ ws. b.1.worker ∷ ws) (out_without before ticket job after worker e h.1)

-- what is listed is so too where an answer was refused
pub listing_weaker : (told : Option CrewTold) (js : List Job) (out : List ℕ) (r : Bool) (now : Option CrewTold) →
    IsListingWhereTold told js out r now → IsListingWhereTold told js out true now
listing_weaker None js out r None h = tt
listing_weaker None js out r (Some now) h = absurd h
listing_weaker (Some was) js out r None h = absurd h
listing_weaker (Some was) js out r (Some now) h = record {
  listed = h.listed;
  left = h.left;
  is = h.is;
  split = h.split;
  whole = h.whole;
  lost = ⊎_elim (λ (a : h.left ≡ []). inl a)
      (λ (b : (r ≡ true) ⊎ ((n : ℕ) × Contains out n × (now.unlisted n ≡ true))). ⊎_elim
      (λ (x : r ≡ true). inr (inl refl)) (λ (y : (n : ℕ) × Contains out n × (now.unlisted n ≡ true)). inr (inr y)) b)
      h.lost;
}

-- what was not refused
pub no_err : {T E : Type 0} (r : Result T E) → IsOk r → (false || is_err r) ≡ false
no_err (Ok x) h = refl
no_err (Err e) h = cc

pub well : {T E : Type 0} (r : Result T E) → is_err r ≡ false → IsOk r
well (Ok x) e = refl
well (Err x) e = cc

-- findings that are answered come behind those that were
answered_more : (was : Option (List Finding)) (found : List (ℕ × RoadFinding)) (old now : Option (List Finding))
    (done : Done) → IsOk done.result → HasAnswered was found old → WhereTold (AnswersFindings done) old now →
    HasAnswered was (found ++ map shown done.findings) now
answered_more None found None None done ok h more = tt
answered_more None found None (Some now) done ok h more = absurd more
answered_more None found (Some old) now done ok h more = absurd h
answered_more (Some was) found None now done ok h more = absurd h
answered_more (Some was) found (Some old) None done ok h more = absurd more
answered_more (Some was) found (Some old) (Some now) done ok h more = (
  h.0 ++ done.findings,
  ok_is done.result ok more.0 ∙ (ap (λ fs. fs ++ done.findings) h.1 ∙ append_assoc was h.0 done.findings),
  map-append shown h.0 done.findings ∙ ap (λ fs. fs ++ map shown done.findings) h.2,
)

module _ {S T : Type 0} (out : S → List ℕ) (number : T → ℕ) (holds : S → ℕ → Job → Type 0) (gave : S → T → Type 0)
    (exact : Bool) (jobs : S → Option CrewTold) (answers : S → Option (List Finding))
    (e : Setting) (told : Option CrewTold) (answered : Option (List Finding)) (run : Import T) (crew : S) (s : State)
    (h : Runs out number holds gave exact jobs answers e told answered run crew s)
    (place : ℕ) (ticket : T) (within : place < length run.tickets.items)
    (value : ticket ≡ slice_index_or run.tickets.items place ticket) where
  parts : (before : List (T × Job)) × (job : Job) × (after : List (T × Job))
      × (h.tasks ≡ before ++ (ticket, job) ∷ after)
      × (map (λ t. t.0) (before ++ after) ≡ remove (map (λ t. t.0) h.tasks) place)
      × (slice_get (map (λ t. t.1.worker) h.tasks) place ≡ Some job.worker)
  parts = split_at h.tasks place ticket (subst (λ ts. place < length ts) (sym h.tickets) within)
      (subst (λ ts. ticket ≡ slice_index_or ts place ticket) (sym h.tickets) value)

  abbrev before : List (T × Job)
  before = parts.0

  abbrev job : Job
  job = parts.1

  abbrev after : List (T × Job)
  after = parts.2

  left : map (λ t. t.0) (before ++ after) ≡ remove run.tickets.items place
  left = parts.4 ∙ ap (λ ts. remove ts place) h.tickets

  held : HasOut out number holds gave crew (before ++ (ticket, job) ∷ after)
  held = subst (HasOut out number holds gave crew) parts.3 h.held

  -- the ticket is among those that are out
  pub finish_ready : (b : List (T × Job)) × (j : Job) × (a : List (T × Job))
      × HasOut out number holds gave crew (b ++ (ticket, j) ∷ a)
  finish_ready = (before, job, after, held)

  jobs_are : map (λ t. t.1) h.tasks ≡ map (λ t. t.1) before ++ job ∷ map (λ t. t.1) after
  jobs_are = ap (map (λ t. t.1)) parts.3 ∙ map-append (λ (t : T × Job). t.1) before ((ticket, job) ∷ after)

  opened : AreOpen e.tariffs run.floor.inboxes.width s (map (λ t. t.1) before ++ job ∷ map (λ t. t.1) after)
  opened = subst (AreOpen e.tariffs run.floor.inboxes.width s) jobs_are h.open'

  mine : IsOpen e.tariffs run.floor.inboxes.width s job
  mine = at_middle (IsOpen e.tariffs run.floor.inboxes.width s) (map (λ t. t.1) before) job
      (map (λ t. t.1) after) opened.each

  module _ (crewed : S) (done : Done) (kept : (b : List (T × Job)) (j : Job) (a : List (T × Job)) →
      HasOut out number holds gave crew (b ++ (ticket, j) ∷ a) → HasOut out number holds gave crewed (b ++ a))
      (shape : (b : List (T × Job)) (j : Job) (a : List (T × Job)) →
      HasOut out number holds gave crew (b ++ (ticket, j) ∷ a) → IsResultShaped j done)
      (forgets : WhereTold (ForgetsJob (number ticket) done) (jobs crew) (jobs crewed))
      (more : IsOneMore (number ticket) (out crewed) (out crew)) where
    listed : IsListingWhereTold told h.since (out crewed) (false || is_err done.result) (jobs crewed)
    listed = where_finished told h.since (out crew) (out crewed) false (jobs crew) (jobs crewed)
        (number ticket) done h.listing forgets more

    -- what is left after a refusal
    pub finish_stopped : (now : Import T) → now.tickets.items ≡ remove run.tickets.items place → (day : List Tuple) →
        AreFirst s.fed day →
        Stopped out number holds gave jobs told run.floor.inboxes.width run.floor.limits day now crewed
    finish_stopped now items day first = record {
      state = s;
      sound = h.stands.sound;
      first = first;
      tasks = before ++ after;
      tickets = left ∙ sym items;
      held = kept before job after held;
      since = h.since;
      starts = h.starts;
      listing = listing_weaker told h.since (out crewed) (false || is_err done.result) (jobs crewed) listed;
    }

    module _ (ok : IsOk done.result) where
      -- what was done may come back
      pub finish_may : MayComeBack e.tariffs run.floor.inboxes.width s done
      finish_may =
          comes_back e.tariffs run.floor.inboxes.width run.floor.limits s job.worker job h.stands.terms h.stands.sound
          mine.within mine.some mine.out done ok (shape before job after held)

      pub finish_came : CameBack run.floor.inboxes.width place s (after_back s done.worker (map shown done.findings))
      finish_came =
          record {
            worker = done.worker;
            job = done.number;
            found = map shown done.findings;
            placed = subst (λ ws. slice_get ws place ≡ Some job.worker) h.outs_are parts.5
                ∙ ap (λ w. Some w) (sym (shape before job after held).back.worker);
            can = finish_may.can;
            is =
                refl;
          }

      -- and the import goes on
      pub finish_runs : (now : Import T) → now.tickets.items ≡ remove run.tickets.items place →
          now.floor.inboxes.width ≡ run.floor.inboxes.width → now.floor.limits ≡ run.floor.limits →
          StandsFor e now.floor (after_back s done.worker (map shown done.findings)) →
          (exact ≡ true → (b : List (T × Job)) (j : Job) (a : List (T × Job)) →
          HasOut out number holds gave crew (b ++ (ticket, j) ∷ a) → IsResultOf j done) →
          WhereTold (AnswersFindings done) (answers crew) (answers crewed) →
          Runs out number holds gave exact jobs answers e told answered now crewed
          (after_back s done.worker (map shown done.findings))
      finish_runs now items width limits st ran says =
          let fs = map shown done.findings in
          let s' = after_back s done.worker fs in
          let shaped = shape before job after held in
          record {
            stands = st;
            tasks = before ++ after;
            tickets = left ∙ sym items;
            held = kept before job after held;
            open' = subst (λ n. AreOpen e.tariffs n s' (map (λ t. t.1) (before ++ after))) (sym width)
                (subst (AreOpen e.tariffs run.floor.inboxes.width s')
                (sym (map-append (λ (t : T × Job). t.1) before after))
                (open_back e.tariffs run.floor.inboxes.width s done.worker finish_may.can.within fs
                (map (λ t. t.1) before) job (map (λ t. t.1) after) (sym shaped.back.worker) opened));
            outs_are = sym (ap (without_one done.worker) (sym h.outs_are ∙ ap (map (λ (t : T × Job). t.1.worker)) parts.3)
                ∙ out_without before ticket job after done.worker (sym shaped.back.worker) opened.apart);
            right = λ x. subst (λ n. IsTrue e.tariffs n s') (sym width)
                (subst (λ gs. IsTrue e.tariffs run.floor.inboxes.width (after_back s done.worker gs))
                (sym (true_result e.tariffs run.floor.inboxes.width run.floor.limits s job.worker job h.stands.terms
                h.stands.sound mine.within mine.some mine.out done ok (ran x before job after held)))
                (true_back e.tariffs run.floor.inboxes.width run.floor.limits s done.worker h.stands.sound
                finish_may.can.within (h.right x)));
            since = h.since;
            starts = subst (λ n. HaveStarted n now.floor.limits.backlog s' (map start_of h.since)) (sym width)
                (subst (λ l. HaveStarted run.floor.inboxes.width l.backlog s' (map start_of h.since)) (sym limits)
                (starts_back run.floor.inboxes.width run.floor.limits s (map start_of h.since) h.stands.sound h.starts
                done.worker fs));
            listing =
                subst (λ r. IsListingWhereTold told h.since (out crewed) r (jobs crewed))
                (no_err done.result ok) listed;
            answers_are = answered_more answered s.found (answers crew) (answers crewed) done ok h.answers_are says;
          }

-- as many workers as tickets
pub outs_count : {S T : Type 0} (out : S → List ℕ) (number : T → ℕ) (holds : S → ℕ → Job → Type 0)
    (gave : S → T → Type 0) (exact : Bool) (jobs : S → Option CrewTold) (answers : S → Option (List Finding))
    (e : Setting) (told : Option CrewTold) (answered : Option (List Finding)) (run : Import T) (crew : S) (s : State) →
    Runs out number holds gave exact jobs answers e told answered run crew s →
    length s.outs ≡ length run.tickets.items
outs_count {S} {T} out number holds gave exact jobs answers e told answered run crew s h =
    ap length (sym h.outs_are)
    ∙ (length-map h.tasks (λ (t : T × Job). t.1.worker)
    ∙ (sym (length-map h.tasks (λ (t : T × Job). t.0)) ∙ ap length h.tickets))

-- four things that hold where all went well
pub ok_four : {T E P Q R U Z : Type 0} (r : Result T E) → (P → Q → R → U → Z) → OnOk r P → OnOk r Q → OnOk r R →
    OnOk r U → OnOk r Z
ok_four (Ok x) f p q r u = f p q r u
ok_four (Err e) f p q r u = tt

pub some_items : {X : Type 0} (xs : List X) (P : Type 0) → (length xs ≡ 0 → ⊥) → xs ≡ [] → P
some_items [] P h e = absurd (h refl)
some_items (x ∷ xs) P h e = cc
