-- a job that is run at once
use Rattle.std.proofs.Common.{◌≡◌, ℕ, zero, suc, ◌-◌, ◌<◌, ◌≤◌, drop, Option, Some, ⊎_elim, Bool, true, false, cond}
use Rattle.std.proofs.Common.{List, [], ◌∷◌, ◌++◌, length, take, map, Result, Ok, Err, IsOk, is_err, refl, sym, ap, ◌∙◌}
use Rattle.std.proofs.Common.{arith, subst}
use Rattle.std.proofs.Math.Seq.{take-length}
use Rattle.std.specs.Prelude.{IfErr}
use Rattle.std.specs.Result.{OnOk, IfOk}
use Rattle.std.proofs.lemmas.Bool.{cond-true, cond-false, cases_eq}
use Rattle.road_time.specs.declared.day.Limits.{Limits}
use Rattle.std.specs.Io.KnownBytes.{Appends}
use Rattle.road_time.specs.Sights.{moments, moments_after}
use Rattle.road_time.specs.Day.{given, notices, merged}
use Rattle.road_time.specs.Text.{out}
use Rattle.day_floor.specs.Answers.{AreNotices}
use Rattle.day_floor.proofs.AnswerLaws.{notices_exact}
use Rattle.day_floor.specs.Written.{settled_charges}
use Rattle.day_floor.proofs.Texts.{charged_same, not_settled, long_first}
use Rattle.ways_expressway.specs.declared.lane_event.LaneEvent.{LaneEvent}
use Rattle.road_time.specs.Rates.{Tariffs}
use Rattle.road_time.specs.declared.road.Tuple.{Tuple}
use Rattle.ways_expressway.specs.declared.job.Job.{Job}
use Rattle.ways_expressway.specs.declared.job.Done.{Done}
use Rattle.ways_expressway.specs.Findings.{shown, findings}
use Rattle.ways_expressway.specs.Ready.{IsReady}
use Rattle.ways_expressway.specs.Results.{IsResultOf}
use Rattle.ways_expressway.proofs.ShapeLaws.{shaped}
use Rattle.day_floor.specs.declared.floor.Floor.{Floor}
use Rattle.day_floor.specs.Shares.{State, events_ahead, ahead_of, can_give, mark}
use Rattle.day_floor.specs.Steps.{given_out, taken_back, after_give, after_back}
use Rattle.day_floor.specs.Sound.{SoundState, IsTrue}
use Rattle.day_floor.specs.Jobs.{IsNext, MayComeBack}
use Rattle.day_floor.specs.Floors.{Setting, StandsFor, StandsForSome, WritesText}
use Rattle.day_floor.proofs.Jobs.{next_ready, goes_out, some_out, comes_back, ok_is}
use Rattle.day_floor.proofs.Workers.{at_own, at_other}
use Rattle.day_floor.proofs.Marks.{all_back}
use Rattle.day_floor.proofs.Truths.{exact_notices, true_give, true_back}
use Rattle.example_day.specs.Turns.{after_run, after_runs, AllHome, AreAnswered}

-- what is no error is well
pub well : {T E : Type 0} (r : Result T E) → is_err r ≡ false → IsOk r
well (Ok x) e = refl
well (Err x) e = cc

module _ (e : Setting) (f g : Floor) (s : State) (worker : ℕ) (job : Job) (st : StandsFor e f s)
    (next : IsNext e.tariffs s worker job) (within : worker < f.inboxes.width) where
  pub ready : IsReady job.carriage (s.share worker).back job.events
  ready = next_ready e.tariffs f.inboxes.width f.limits s worker job st.terms st.sound within next

  module _ (given : StandsFor e g (after_give s worker)) (width : g.inboxes.width ≡ f.inboxes.width) (done : Done)
      (ok : IsOk done.result) (result : IsResultOf job done) where
    -- it may come back
    pub may_come : MayComeBack e.tariffs g.inboxes.width (after_give s worker) done
    may_come =
        comes_back e.tariffs g.inboxes.width g.limits (after_give s worker) worker job given.terms given.sound
        (subst (λ n. worker < n) (sym width) within) (some_out s worker next.may)
        (goes_out e.tariffs s worker job next) done ok
        (shaped job done result)

    -- its findings are those of the events that waited
    found_is : map shown done.findings ≡ findings (s.share worker).back (s.share worker).waiting e.tariffs
    found_is =
        ok_is done.result ok result.found (s.share worker).back ready
        ∙ ap (λ es. findings (s.share worker).back es job.carriage.tariffs) next.events
        ∙ ap (findings (s.share worker).back (s.share worker).waiting) next.tariffs_are

    -- and then the worker's next job was run
    pub run_is : after_back (after_give s worker) done.worker (map shown done.findings) ≡ after_run e.tariffs s worker
    run_is =
        ap (λ w. after_back (after_give s worker) w (map shown done.findings)) (result.back.worker ∙ next.worker_is)
        ∙ ap (after_back (after_give s worker) worker) found_is
        ∙ sym (cond-true (can_give (s.share worker))
        (after_back (after_give s worker) worker
        (findings (s.share worker).back (s.share worker).waiting e.tariffs)) s next.may)

    -- the charges of what is settled stay
    pub charged_is : settled_charges (after_run e.tariffs s worker) ≡ settled_charges s
    charged_is =
        let s' = after_give s worker in
        let fs = map shown done.findings in
        ap settled_charges (sym run_is)
        ∙ charged_same s.found fs s.settled
        (not_settled g.inboxes.width g.limits s' done.worker done.number fs given.sound may_come.can)
        (take s.settled s.fed) (long_first g.inboxes.width g.limits s' given.sound)

-- none was run
pub none_run : (tariffs : Tariffs) (s : State) (worker : ℕ) → can_give (s.share worker) ≡ false →
    after_run tariffs s worker ≡ s
none_run tariffs s worker h =
    cond-false (can_give (s.share worker))
    (after_back (after_give s worker) worker (findings (s.share worker).back (s.share worker).waiting tariffs)) s h

-- a run by whether the job may be given
abbrev ran_if : Bool → Tariffs → State → ℕ → State
ran_if b tariffs s worker =
    cond b (after_back (after_give s worker) worker (findings (s.share worker).back (s.share worker).waiting tariffs)) s

run_fed : (b : Bool) (tariffs : Tariffs) (s : State) (worker : ℕ) → (ran_if b tariffs s worker).fed ≡ s.fed
run_fed true tariffs s worker = refl
run_fed false tariffs s worker = refl

-- another worker's share stays
run_other : (b : Bool) (tariffs : Tariffs) (s : State) (worker w : ℕ) → (w ≡ worker → ⊥) →
    (ran_if b tariffs s worker).share w ≡ s.share w
run_other true tariffs s worker w ne = at_other worker w taken_back (after_give s worker).share ne
    ∙ at_other worker w (given_out s.given) s.share ne
run_other false tariffs s worker w ne = refl

-- the worker's own has nothing that is not back
run_own : (b : Bool) (tariffs : Tariffs) (s : State) (worker : ℕ) → can_give (s.share worker) ≡ b →
    (s.share worker).out ≡ [] →
    ((ran_if b tariffs s worker).share worker).out ++ ((ran_if b tariffs s worker).share worker).waiting ≡ []
run_own true tariffs s worker e none =
    ap (λ sh. sh.out ++ sh.waiting) (at_own worker taken_back (after_give s worker).share)
    ∙ ap (λ sh. sh.waiting) (at_own worker (given_out s.given) s.share)
run_own false tariffs s worker e none = rw none (nothing (s.share worker).out (s.share worker).waiting none e)
  where
    nothing : (xs ys : List LaneEvent) → xs ≡ [] → can_give (record { back = []; out = xs; waiting = ys; number = 0 })
        ≡ false → ys ≡ []
    nothing [] [] h q = refl
    nothing [] (y ∷ ys) h q = cc
    nothing (x ∷ xs) ys h q = cc

run_home : (b : Bool) (tariffs : Tariffs) (s : State) (worker : ℕ) → AllHome s → AllHome (ran_if b tariffs s worker)
run_home false tariffs s worker home w = home w
run_home true tariffs s worker home w =
    ⊎_elim
    (λ e. ap (λ v. ((ran_if true tariffs s worker).share v).out) e
    ∙ ap (λ sh. sh.out) (at_own worker taken_back (after_give s worker).share))
    (λ ne. ap (λ sh. sh.out) (run_other true tariffs s worker w ne) ∙ home w)
    (cases_eq w worker)

-- several runs leave the tuples
pub runs_fed : (tariffs : Tariffs) (s : State) (n : ℕ) → (after_runs tariffs s n).fed ≡ s.fed
runs_fed tariffs s zero = refl
runs_fed tariffs s (suc n) = run_fed (can_give ((after_runs tariffs s n).share n)) tariffs (after_runs tariffs s n) n
    ∙ runs_fed tariffs s n

pub runs_home : (tariffs : Tariffs) (s : State) (n : ℕ) → AllHome s → AllHome (after_runs tariffs s n)
runs_home tariffs s zero home = home
runs_home tariffs s (suc n) home =
    run_home (can_give ((after_runs tariffs s n).share n)) tariffs (after_runs tariffs s n) n
    (runs_home tariffs s n home)

-- and nothing is ahead of the workers whose jobs were run
pub runs_back : (tariffs : Tariffs) (s : State) (n : ℕ) → AllHome s → (w : ℕ) → w < n →
    ahead_of (after_runs tariffs s n) w ≡ []
runs_back tariffs s zero home w k = absurd (omega (arith, k))
runs_back tariffs s (suc n) home w k =
    let t = after_runs tariffs s n in
    ⊎_elim
    (λ e. ap (λ v. ahead_of (after_run tariffs t n) v) e
    ∙ run_own (can_give (t.share n)) tariffs t n refl (runs_home tariffs s n home n))
    (λ ne. ap events_ahead (run_other (can_give (t.share n)) tariffs t n w ne) ∙ runs_back tariffs s n home w
    (below w n k ne))
    (cases_eq w n)
  where
    below : (a b : ℕ) → a < suc b → (a ≡ b → ⊥) → a < b
    below a b k ne = omega (arith, k, ne)

-- the findings stay true
pub run_true : (tariffs : Tariffs) (width : ℕ) (limits : Limits) (s : State) (worker : ℕ) → worker < width →
    can_give (s.share worker) ≡ true → SoundState width limits (after_give s worker) → IsTrue tariffs width s →
    IsTrue tariffs width (after_run tariffs s worker)
run_true tariffs width limits s worker within can sound are =
    let given = after_give s worker in
    let own = at_own worker (given_out s.given) s.share in
    subst (IsTrue tariffs width)
    (ap (λ sh. after_back given worker (findings sh.back sh.out tariffs)) own
    ∙ sym (cond-true (can_give (s.share worker))
    (after_back given worker (findings (s.share worker).back (s.share worker).waiting tariffs)) s can))
    (true_back tariffs width limits given worker sound within (true_give tariffs width s worker are))

-- what is settled stays
pub runs_settled : (tariffs : Tariffs) (s : State) (n : ℕ) → (after_runs tariffs s n).settled ≡ s.settled
runs_settled tariffs s zero = refl
runs_settled tariffs s (suc n) =
    run_settled (can_give ((after_runs tariffs s n).share n)) tariffs (after_runs tariffs s n) n
    ∙ runs_settled tariffs s n
  where
    run_settled : (b : Bool) (tariffs : Tariffs) (s : State) (worker : ℕ) →
        (ran_if b tariffs s worker).settled ≡ s.settled
    run_settled true tariffs s worker = refl
    run_settled false tariffs s worker = refl

-- what is written of the whole day, where all is answered, is the output of the rules
pub all_written : (e : Setting) (s t : State) (width n : ℕ) (kept : ℕ → ℕ → ℕ → ℕ) (old now : Option (List ℕ)) →
    AreAnswered e.tariffs width s.fed t → t.settled ≡ 0 → n ≡ mark width t → e.history ≡ Some kept →
    WritesText e t n old now → (n ≡ length s.fed) × Appends old now (out (notices s.fed e.tariffs e.number kept))
all_written e s t width n kept old now are none is history wrote =
    let all : n ≡ length s.fed = is ∙ are.mark_is in
    let told = wrote.0 in
    let run : moments_after (take t.settled t.fed) (take (n - t.settled) (drop t.settled t.fed)) ≡ moments s.fed =
    ap (λ k. moments_after (take k t.fed) (take (n - k) (drop k t.fed))) none
    ∙ ap (λ k. moments_after [] (take k t.fed)) (zero_less n ∙ all)
    ∙ ap (λ d. moments_after [] (take (length s.fed) d)) are.same ∙ ap (moments_after []) (take-length s.fed) in
    let told_are : AreNotices (given t.found) e.number (Some kept) (moments s.fed) told =
    subst (λ ms. AreNotices (given t.found) e.number (Some kept) ms told) run
    (subst (λ h. AreNotices (given t.found) e.number h
    (moments_after (take t.settled t.fed) (take (n - t.settled) (drop t.settled t.fed))) told) history wrote.1) in (
      all,
      subst (λ ns. Appends old now (out ns))
          (notices_exact (given t.found) e.number kept (moments s.fed) told told_are ∙ are.exact e.number kept) wrote.2,
    )
  where
    zero_less : (n : ℕ) → n - 0 ≡ n
    zero_less n = omega arith

-- so all is answered
pub answered : (tariffs : Tariffs) (width : ℕ) (limits : Limits) (s : State) → 1 ≤ width → AllHome s →
    SoundState width limits (after_runs tariffs s width) → IsTrue tariffs width (after_runs tariffs s width) →
    AreAnswered tariffs width s.fed (after_runs tariffs s width)
answered tariffs width limits s some home sound are =
    let t = after_runs tariffs s width in
    let same = runs_fed tariffs s width in
    let all : mark width t ≡ length s.fed = all_back width t (runs_back tariffs s width home) ∙ ap length same in
    let whole : take (length s.fed) t.fed ≡ s.fed = ap (take (length s.fed)) same ∙ take-length s.fed in
    record {
      same = same;
      mark_is = all;
      home = runs_home tariffs s width home;
      true_found = are;
      exact = λ number kept. subst (λ d. merged d t.found number kept ≡ notices d tariffs number kept) whole
          (exact_notices width limits t some sound (length s.fed) (omega (arith, all)) tariffs are number kept);
      fronts = λ n le number kept. subst
          (λ (d : List Tuple). merged (take n d) t.found number kept ≡ notices (take n d) tariffs number kept) same
          (exact_notices width limits t some sound n (omega (arith, all, le)) tariffs are number kept);
    }

-- what follows where a call went well
pub on_ok : {T E P R : Type 0} (r : Result T E) → (P → R) → OnOk r P → OnOk r R
on_ok (Ok x) h p = h p
on_ok (Err e) h p = tt

-- the same of where a call was stopped
pub if_stopped : {T E : Type 0} {P R : E → Type 0} (r : Result T E) → ((x : E) → P x → R x) → IfErr r P → IfErr r R
if_stopped (Ok x) h p = tt
if_stopped (Err e) h p = h e p

-- and from two things
pub when_both : {T E R : Type 0} {P Q : T → Type 0} (r : Result T E) → ((x : T) → P x → Q x → R) → IfOk r P → IfOk r Q →
    OnOk r R
when_both (Ok x) h p q = h x p q
when_both (Err e) h p q = tt

-- a floor that stands for a state serves
pub serves : {g : Setting} {f : Floor} {s : State} → StandsFor g f s → StandsForSome f
serves {g} {f} {s} st = record { setting = g; state = s; stands = st }
