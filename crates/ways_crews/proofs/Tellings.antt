-- What a crew tells of a start and of an answer, by its list and its places.
use Rattle.std.proofs.Common.{◌≡◌, ℕ, zero, suc, ◌+◌, cond, Bool, true, false, not, List, [], ◌∷◌, sym, ◌∙◌, ap, subst}
use Rattle.std.proofs.Common.{refl, arith}
use Rattle.std.proofs.lemmas.Bool.{both_ways}
use Rattle.std.proofs.lemmas.Option.{none-some, same_Some}
use Rattle.std.proofs.lemmas.List.Elements.{Contains-append_right}
use Rattle.std.specs.Prelude.{Option, Some, None, slice_get, is_err, Contains}
use Rattle.ways_expressway.specs.declared.job.Job.{Job}
use Rattle.ways_expressway.specs.declared.job.Done.{Done}
use Rattle.ways_crews.specs.declared.job_list.Started.{Started}
use Rattle.ways_crews.specs.declared.job_list.JobList.{JobList}
use Rattle.ways_crews.specs.Places.{IsPut, IsTaken, out_of, out_from}
use Rattle.ways_crews.specs.Tellings.{is_unlisted_at, crew_told, told_by_list}
use Rattle.ways_crews.specs.Lists.{Lists, IsListed, IsNewList, jobs_of}
use Rattle.ways_crews.specs.Told.{WhereTold, ListsJob, ForgetsJob, TellsNone, IsOutWhereTold}
use Rattle.ways_crews.proofs.HeldJobs.{put_there, put_leaves, take_leaves, take_frees}

-- a job was listed or not, and its entry says so: then the start is told as it should be
tells : {X : Type 0} (test : X → Bool) (job : Job) (listed : Bool) (jobs : Option (List Started)) (before : Bool)
    (jobs' : Option (List Started)) (lists : Bool) (n : ℕ) (entry : X) (was now : List (Option X)) →
    Lists job listed jobs before jobs' lists → IsPut n entry was now → test entry ≡ not listed →
    WhereTold (ListsJob n job) (crew_told test jobs before was) (crew_told test jobs' lists now)
tells test job listed None before jobs' lists n entry was now list put says =
    subst (λ js. WhereTold (ListsJob n job) None (crew_told test js lists now)) (sym list.1) tt
tells test job true (Some jobs) before jobs' lists n entry was now list put says =
    let grown = list.1 refl in
    subst (λ js. WhereTold (ListsJob n job) (crew_told test (Some jobs) before was) (crew_told test js lists now))
    (sym grown.1)
    (record {
      appended = λ on. (grown.0, refl, ap (is_unlisted_at test) (put_there n entry was now put) ∙ says);
      left = λ off. absurd (both_ways lists off list.0);
      others = λ m apart. ap (is_unlisted_at test) (put_leaves n m entry was now put apart);
    })
tells test job false (Some jobs) before jobs' lists n entry was now list put says =
    subst (λ js. WhereTold (ListsJob n job) (crew_told test (Some jobs) before was) (crew_told test js lists now))
    (sym (list.2 refl))
    (record {
      appended = λ on. absurd (both_ways lists list.0 on);
      left = λ off. (refl, ap (is_unlisted_at test) (put_there n entry was now put) ∙ says);
      others = λ m apart. ap (is_unlisted_at test) (put_leaves n m entry was now put apart);
    })

pub start_tells : {X : Type 0} (test : X → Bool) (job : Job) (listed : Bool) (l l' : JobList) (n : ℕ) (entry : X)
    (was now : List (Option X)) → IsListed job listed l l' → IsPut n entry was now →
    test entry ≡ not listed → WhereTold (ListsJob n job) (told_by_list test l was) (told_by_list test l' now)
start_tells test job listed l l' n entry was now list put says =
    tells test job listed (jobs_of l) l.lists (jobs_of l') l'.lists n entry was now list put says

-- an entry was taken, and where its job was not listed the answer is that memory ran out: then the finish is told as
-- it should be
forgets : {X : Type 0} (test : X → Bool) (done : Done) (jobs : Option (List Started)) (lists : Bool) (n : ℕ) (entry : X)
    (was now : List (Option X)) → IsTaken n entry was now → (test entry ≡ true → is_err done.result ≡ true) →
    WhereTold (ForgetsJob n done) (crew_told test jobs lists was) (crew_told test jobs lists now)
forgets test done None lists n entry was now taken err = tt
forgets test done (Some jobs) lists n entry was now taken err = record {
  listed = refl;
  lists = refl;
  refused = λ un. err (sym (ap (is_unlisted_at test) taken.there) ∙ un);
  back = ap (is_unlisted_at test) (take_frees n entry was now taken);
  others = λ m apart. ap (is_unlisted_at test) (take_leaves n m entry was now taken apart);
}

pub finish_tells : {X : Type 0} (test : X → Bool) (done : Done) (l : JobList) (n : ℕ) (entry : X)
    (was now : List (Option X)) → IsTaken n entry was now → (test entry ≡ true → is_err done.result ≡ true) →
    WhereTold (ForgetsJob n done) (told_by_list test l was) (told_by_list test l now)
finish_tells test done l n entry was now taken err = forgets test done (jobs_of l) l.lists n entry was now taken err

-- where no number is out none is of a job that is not listed
none_unlisted : {X : Type 0} (test : X → Bool) (k n : ℕ) (places : List (Option X)) → out_from k places ≡ [] →
    is_unlisted_at test (slice_get places n) ≡ false
none_unlisted test k n [] none = refl
none_unlisted test k zero (None ∷ places) none = refl
none_unlisted test k (suc n) (None ∷ places) none = none_unlisted test (k + 1) n places none
none_unlisted test k n (Some e ∷ places) none = absurd (cc none)

-- a new list and free places tell that nothing was started
tells_none : {X : Type 0} (test : X → Bool) (tell lists : Bool) (jobs : Option (List Started))
    (places : List (Option X)) → lists ≡ true → jobs ≡ cond tell (Some []) None → out_of places ≡ [] →
    TellsNone tell (crew_told test jobs lists places)
tells_none test false lists jobs places on is none =
    subst (λ js. TellsNone false (crew_told test js lists places)) (sym is) refl
tells_none test true lists jobs places on is none =
    subst (λ js. TellsNone true (crew_told test js lists places)) (sym is)
    (refl, refl, on, λ n. none_unlisted test 0 n places none)

pub new_tells : {X : Type 0} (test : X → Bool) (tell : Bool) (l : JobList) (places : List (Option X)) → IsNewList tell l
    → out_of places ≡ [] → TellsNone tell (told_by_list test l places)
new_tells test tell l places new none = tells_none test tell l.lists (jobs_of l) places new.lists new.jobs none

-- the number of a place that is taken is out
taken_out : {X : Type 0} (k n : ℕ) (places : List (Option X)) (entry : X) → slice_get places n ≡ Some (Some entry) →
    Contains (out_from k places) (k + n)
taken_out k n [] entry is = absurd (none-some _ is)
taken_out k zero (None ∷ places) entry is = absurd (none-some entry (same_Some _ _ is))
taken_out k zero (Some e ∷ places) entry is = let same : k ≡ k + 0 = omega arith in
    subst (λ m. Contains (k ∷ out_from (k + 1) places) m) same (zero, omega arith, refl)
taken_out k (suc n) (None ∷ places) entry is =
    let same : (k + 1) + n ≡ k + suc n = omega arith in
    subst (λ m. Contains (out_from (k + 1) places) m) same (taken_out (k + 1) n places entry is)
taken_out k (suc n) (Some e ∷ places) entry is =
    let same : (k + 1) + n ≡ k + suc n = omega arith in
    Contains-append_right (k ∷ []) (out_from (k + 1) places) (k + suc n)
    (subst (λ m. Contains (out_from (k + 1) places) m) same (taken_out (k + 1) n places entry is))

unlisted_out : {X : Type 0} (test : X → Bool) (place : Option (Option X)) (n : ℕ) (places : List (Option X)) →
    slice_get places n ≡ place → is_unlisted_at test place ≡ true → Contains (out_of places) n
unlisted_out test None n places at un = absurd (cc un)
unlisted_out test (Some None) n places at un = absurd (cc un)
unlisted_out test (Some (Some entry)) n places at un = let same : 0 + n ≡ n = omega arith in
    subst (λ m. Contains (out_of places) m) same (taken_out 0 n places entry at)

are_out : {X : Type 0} (test : X → Bool) (jobs : Option (List Started)) (lists : Bool) (places : List (Option X))
    (n : ℕ) → IsOutWhereTold (out_of places) n (crew_told test jobs lists places)
are_out test None lists places n = tt
are_out test (Some jobs) lists places n = unlisted_out test (slice_get places n) n places refl

-- the job of a number that is not listed is out
pub told_are_out : {X : Type 0} (test : X → Bool) (l : JobList) (places : List (Option X)) (n : ℕ) →
    IsOutWhereTold (out_of places) n (told_by_list test l places)
told_are_out test l places n = are_out test (jobs_of l) l.lists places n
