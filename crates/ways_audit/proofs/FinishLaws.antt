-- jobs that are out come home, and what their answers make
use Rattle.std.proofs.Common.{◌≡◌, ℕ, ◌||◌, ◌&&◌, arith, Bool, true, false, List, [], ◌∷◌, ◌++◌, map, All, Option, Some}
use Rattle.std.proofs.Common.{None, refl, sym, ap, subst, ◌∙◌}
use Rattle.std.specs.Prelude.{Result, OnOk, is_err, Ok, Err}
use Rattle.std.specs.List.{AllByRecursion, flat_map}
use Rattle.std.proofs.lemmas.List.{append-nil, append_assoc, map-append}
use Rattle.std.proofs.lemmas.List.Elements.{All-append}
use Rattle.std.proofs.lemmas.List.Concat.{flat_map-append}
use Rattle.road_time.specs.declared.day.NoMemory.{NoMemory}
use Rattle.road_time.specs.Rates.{Tariffs}
use Rattle.road_time.specs.Tolls.{StretchTold as Told_}
use Rattle.ways_expressway.specs.declared.finding.Finding.{Finding}
use Rattle.ways_expressway.specs.declared.job.Job.{Job}
use Rattle.ways_expressway.specs.declared.job.Done.{Done}
use Rattle.ways_expressway.specs.Findings.{shown, findings}
use Rattle.ways_expressway.specs.Results.{IsPossible, IsResultOf, IsResultShaped}
use Rattle.ways_crews.specs.Numbers.{IsOneMore}
use Rattle.ways_crews.specs.Told.{CrewTold, WhereTold, ForgetsJob, AnswersFindings}
use Rattle.ways_crews.specs.Callers.{HasOut, IsListingWhereTold}
use Rattle.ways_crews.proofs.CallerLaws.{first_task, all_home}
use Rattle.ways_crews.proofs.ListingLaws.{where_finished}
use Rattle.ways_audit.specs.Jobs.{IsFresh, Running, HasFound, AddsFindings}

module _ {S T : Type 0} (out : S → List ℕ) (number : T → ℕ) (holds : S → ℕ → Job → Type 0) (gave : S → T → Type 0)
    (jobs : S → Option CrewTold) (told : Option CrewTold) (tariffs : Tariffs) where
  -- the job of the first ticket, and the others
  pub record First (crew : S) (ticket : T) (rest : List T) (todo : List Job) : Type 0 where
    pub job : Job
    pub after : List (T × Job)
    pub has : HasOut out number holds gave crew ((ticket, job) ∷ after)
    pub rest_are : map (λ t. t.0) after ≡ rest
    pub todo_are : todo ≡ job ∷ map (λ t. t.1) after
    pub fresh : IsFresh tariffs job
    pub later : AllByRecursion (IsFresh tariffs) (map (λ t. t.1) after)

  pub first_is : (crew : S) (ticket : T) (tickets rest : List T) (done todo : List Job) (refused : Bool) →
      tickets ≡ ticket ∷ rest → Running out number holds gave jobs told crew tariffs tickets done todo refused →
      First crew ticket rest todo
  first_is crew ticket tickets rest done todo refused e h =
      let f = first_task ticket rest h.tasks (h.tickets_are ∙ e) in
      let are : todo ≡ f.0 ∷ map (λ (t : T × Job). t.1) f.1 = sym h.jobs_are ∙ ap (map (λ (t : T × Job). t.1)) f.2 in
      let fresh = subst (AllByRecursion (IsFresh tariffs)) are h.fresh in
      record {
        job = f.0;
        after = f.1;
        has = subst (HasOut out number holds gave crew) f.2 h.has;
        rest_are =
            f.3;
        todo_are = are;
        fresh = fresh.0;
        later = fresh.1;
      }

  -- and when it is done
  pub one_finished : (was now : S) (ticket : T) (tickets rest : List T) (done todo : List Job) (refused : Bool)
      (answer : Done) → (h : Running out number holds gave jobs told was tariffs tickets done todo refused) →
      (f : First was ticket rest todo) → HasOut out number holds gave now f.after →
      IsOneMore (number ticket) (out now) (out was) →
      WhereTold (ForgetsJob (number ticket) answer) (jobs was) (jobs now) →
      Running out number holds gave jobs told now tariffs rest (done ++ f.job ∷ []) (map (λ t. t.1) f.after)
      (refused || is_err answer.result)
  one_finished was now ticket tickets rest done todo refused answer h f has numbers forgets =
      let all : done ++ todo ≡ (done ++ f.job ∷ []) ++ map (λ (t : T × Job). t.1) f.after =
      ap (λ js. done ++ js) f.todo_are
      ∙ sym (append_assoc done (f.job ∷ []) (map (λ (t : T × Job). t.1) f.after)) in
      record {
        tasks = f.after;
        tickets_are = f.rest_are;
        jobs_are = refl;
        has = has;
        fresh = f.later;
        listing = subst (λ js. IsListingWhereTold told js (out now) (refused || is_err answer.result) (jobs now)) all
            (where_finished told (done ++ todo) (out was) (out now) refused (jobs was) (jobs now)
            (number ticket) answer h.listing forgets numbers);
      }

  -- nothing is out where no ticket is kept
  pub none_left : (crew : S) (tickets : List T) (done todo : List Job) (refused : Bool) → tickets ≡ [] →
      Running out number holds gave jobs told crew tariffs tickets done todo refused → (todo ≡ [])
      × HasOut out number holds gave crew []
  none_left crew tickets done todo refused e h =
      let none : h.tasks ≡ [] = empty h.tasks (h.tickets_are ∙ e) in
      (sym h.jobs_are ∙ ap (map (λ (t : T × Job). t.1)) none, subst (HasOut out number holds gave crew) none h.has)
    where
      empty : (ts : List (T × Job)) → map (λ t. t.0) ts ≡ [] → ts ≡ []
      empty [] e = refl
      empty (t ∷ ts) e = absurd (cc e)

ok_part : (r : Result (Unit {0}) NoMemory) (P : Type 0) → is_err r ≡ false → OnOk r P → P
ok_part (Ok u) P e h = h
ok_part (Err x) P e h = let no : ⊥ = cc in absurd no

adds_more : (found more : List Finding) (answer : Done) (answered was now : Option (List Finding)) →
    is_err answer.result ≡ false → more ≡ found ++ answer.findings → WhereTold (AddsFindings found) answered was →
    WhereTold (AnswersFindings answer) was now → WhereTold (AddsFindings more) answered now
adds_more found more answer None None None e is h g = tt
adds_more found more answer None None (Some now) e is h g = absurd g
adds_more found more answer None (Some was) now e is h g = absurd h
adds_more found more answer (Some a) None now e is h g = absurd h
adds_more found more answer (Some a) (Some was) None e is h g = absurd g
adds_more found more answer (Some a) (Some was) (Some now) e is h g =
    ok_part answer.result (now ≡ was ++ answer.findings) e g.0 ∙ ap (λ xs. xs ++ answer.findings) h
    ∙ append_assoc a found answer.findings ∙ ap (λ xs. a ++ xs) (sym is)

-- of jobs that were started, those done were answered, and the others are out
pub record Finishing {S T : Type 0} (out : S → List ℕ) (number : T → ℕ) (holds : S → ℕ → Job → Type 0)
    (gave : S → T → Type 0) (jobs : S → Option CrewTold) (exact : Bool) (answers : S → Option (List Finding))
    (answered : Option (List Finding)) (told : Option CrewTold) (tariffs : Tariffs) (all_jobs : List Job) (crew : S)
    (tickets : List T) (whole : Bool) (found : List Finding) : Type 0 where
  pub done : List Job
  pub todo : List Job
  pub all : done ++ todo ≡ all_jobs
  pub refused : Bool
  pub runs : Running out number holds gave jobs told crew tariffs tickets done todo refused
  pub kept : whole ≡ true → refused ≡ false
  pub found_is : whole ≡ true → HasFound exact answers answered crew tariffs done found

adds_none : (answered : Option (List Finding)) → WhereTold (AddsFindings []) answered answered
adds_none None = tt
adds_none (Some a) = sym (append-nil a)

both_true : (a b : Bool) → (a && b) ≡ true → (a ≡ true) × (b ≡ true)
both_true true b e = (refl, e)
both_true false b e = let no : ⊥ = cc in absurd no

none_true : (a b : Bool) → a ≡ false → b ≡ false → (a || b) ≡ false
none_true a b e h = ap (λ x. x || b) e ∙ h

module _ {S T : Type 0} (out : S → List ℕ) (number : T → ℕ) (holds : S → ℕ → Job → Type 0) (gave : S → T → Type 0)
    (jobs : S → Option CrewTold) (exact : Bool) (answers : S → Option (List Finding)) (answered : Option (List Finding))
    (told : Option CrewTold) (tariffs : Tariffs) (all_jobs : List Job) where
  pub finishing_none : (crew : S) (tickets : List T) (found : List Finding) → answers crew ≡ answered → found ≡ [] →
      Running out number holds gave jobs told crew tariffs tickets [] all_jobs false →
      Finishing out number holds gave jobs exact answers answered told tariffs all_jobs crew tickets true found
  finishing_none crew tickets found same none h = record {
    done = [];
    todo = all_jobs;
    all = refl;
    refused = false;
    runs = h;
    kept = λ w. refl;
    found_is = λ w. subst (HasFound exact answers answered crew tariffs []) (sym none)
        (record {
          possible = λ k d less. absurd (omega (arith, less));
          right = λ e. refl;
          told =
              subst (WhereTold (AddsFindings []) answered) (sym same) (adds_none answered);
        });
  }

  -- the findings of a job done more
  found_more : (was now : S) (done : List Job) (job : Job) (answer : Done) (found more : List Finding) →
      IsFresh tariffs job → HasFound exact answers answered was tariffs done found →
      IsResultShaped job answer → (exact ≡ true → IsResultOf job answer) →
      WhereTold (AnswersFindings answer) (answers was) (answers now) → is_err answer.result ≡ false →
      more ≡ found ++ answer.findings → HasFound exact answers answered now tariffs (done ++ job ∷ []) more
  found_more was now done job answer found more fresh h shape run tells ok grown =
      let per : Job → List (ℕ × Told_) = λ j. findings [] j.events tariffs in
      record {
        possible =
            subst (All IsPossible) (sym grown)
            (All-append IsPossible found answer.findings h.possible (shape.possible [] fresh.ready));
        right = λ e.
            ap (map shown) grown ∙ map-append shown found answer.findings
            ∙ ap (λ a. a ++ map shown answer.findings) (h.right e)
            ∙ ap (λ b. flat_map per done ++ b) (ok_part answer.result _ ok (run e).found [] fresh.ready
            ∙ ap (findings [] job.events) fresh.tariffs_are ∙ sym (append-nil (per job)))
            ∙ sym (flat_map-append per done (job ∷ []));
        told = adds_more found more answer answered (answers was) (answers now) ok grown h.told tells;
      }

  pub finishing_more : (was now : S) (ticket : T) (tickets rest : List T) (whole kept whole' : Bool)
      (found found' : List Finding) (answer : Done) →
      Finishing out number holds gave jobs exact answers answered told tariffs all_jobs was tickets whole found →
      tickets ≡ ticket ∷ rest → ((before : List (T × Job)) (job : Job) (after : List (T × Job)) →
      HasOut out number holds gave was (before ++ (ticket, job) ∷ after) →
      HasOut out number holds gave now (before ++ after)) →
      ((before : List (T × Job)) (job : Job) (after : List (T × Job)) →
      HasOut out number holds gave was (before ++ (ticket, job) ∷ after) → IsResultShaped job answer) →
      (exact ≡ true → (before : List (T × Job)) (job : Job) (after : List (T × Job)) →
      HasOut out number holds gave was (before ++ (ticket, job) ∷ after) → IsResultOf job answer) →
      IsOneMore (number ticket) (out now) (out was) →
      WhereTold (ForgetsJob (number ticket) answer) (jobs was) (jobs now) →
      WhereTold (AnswersFindings answer) (answers was) (answers now) →
      (kept ≡ true → (is_err answer.result ≡ false) × (found' ≡ found ++ answer.findings)) → whole' ≡ (whole && kept) →
      Finishing out number holds gave jobs exact answers answered told tariffs all_jobs now rest whole' found'
  finishing_more was now ticket tickets rest whole kept whole' found found' answer s e has shape run numbers forgets
      tells keeps is =
      let f = first_is out number holds gave jobs told tariffs was ticket tickets rest s.done s.todo s.refused e
      s.runs in
      record {
        done = s.done ++ f.job ∷ [];
        todo = map (λ t. t.1) f.after;
        all = append_assoc s.done (f.job ∷ []) (map (λ (t : T × Job). t.1) f.after)
            ∙ ap (λ js. s.done ++ js) (sym f.todo_are) ∙ s.all;
        refused = s.refused || is_err answer.result;
        runs = one_finished out number holds gave jobs told tariffs was now ticket tickets rest s.done s.todo s.refused
            answer s.runs f (has [] f.job f.after f.has) numbers forgets;
        kept = λ w. (let both = both_true whole kept (sym is ∙ w) in
            none_true s.refused (is_err answer.result) (s.kept both.0) (keeps both.1).0);
        found_is = λ w. (let both = both_true whole kept (sym is ∙ w) in
            found_more was now s.done f.job answer found found' f.fresh (s.found_is both.0)
            (shape [] f.job f.after f.has) (λ x. run x [] f.job f.after f.has) tells (keeps both.1).0
            (keeps both.1).1);
      }

  -- all are done where no ticket is kept
  pub finishing_done : (crew : S) (tickets : List T) (whole : Bool) (found : List Finding) → tickets ≡ [] →
      (s : Finishing out number holds gave jobs exact answers answered told tariffs all_jobs crew tickets whole found) →
      (s.done ≡ all_jobs) × (out crew ≡ [])
  finishing_done crew tickets whole found e s =
      let none = none_left out number holds gave jobs told tariffs crew tickets s.done s.todo s.refused e s.runs in (
        sym (append-nil s.done) ∙ ap (λ js. s.done ++ js) (sym none.0)
            ∙ s.all,
        all_home out number holds gave crew none.1,
      )

  -- then all are listed, or some answer was refused
  pub finished_told : (crew : S) (tickets : List T) (whole : Bool) (found : List Finding) → tickets ≡ [] →
      Finishing out number holds gave jobs exact answers answered told tariffs all_jobs crew tickets whole found →
      (refused : Bool) × (whole ≡ true → refused ≡ false) × IsListingWhereTold told all_jobs [] refused (jobs crew)
  finished_told crew tickets whole found e s =
      let none = none_left out number holds gave jobs told tariffs crew tickets s.done s.todo s.refused e s.runs in (
        s.refused,
        s.kept,
        subst (λ o. IsListingWhereTold told all_jobs o s.refused (jobs crew))
            (all_home out number holds gave crew none.1)
            (subst (λ js. IsListingWhereTold told js (out crew) s.refused (jobs crew)) s.all s.runs.listing),
      )

  pub finished_found : (crew : S) (tickets : List T) (whole : Bool) (found : List Finding) → tickets ≡ [] →
      Finishing out number holds gave jobs exact answers answered told tariffs all_jobs crew tickets whole found →
      whole ≡ true → HasFound exact answers answered crew tariffs all_jobs found
  finished_found crew tickets whole found e s w =
      subst (λ js. HasFound exact answers answered crew tariffs js found)
      (finishing_done crew tickets whole found e s).0 (s.found_is w)
