-- What a caller knows of the list that a crew tells, from start to start and from answer to answer.
use Rattle.std.proofs.Common.{◌≡◌, ◌≢◌, ◌⊎◌, ℕ, Bool, true, false, ◌||◌, List, [], ◌∷◌, ◌++◌, map, refl, sym, ◌∙◌, ap}
use Rattle.std.proofs.Common.{subst, inl, inr, ⊎_elim, arith, append-nil, append_assoc}
use Rattle.std.specs.Prelude.{Option, Some, None, Contains, is_err}
use Rattle.std.proofs.lemmas.Bool.{both_ways, cases_Bool, cases_eq}
use Rattle.std.proofs.lemmas.List.{map-append}
use Rattle.ways_expressway.specs.declared.job.Job.{Job}
use Rattle.ways_expressway.specs.declared.job.Done.{Done}
use Rattle.ways_crews.specs.declared.job_list.Started.{Started}
use Rattle.ways_crews.specs.Numbers.{IsOneMore}
use Rattle.ways_crews.specs.Lists.{listing_of}
use Rattle.ways_crews.specs.Told.{CrewTold, WhereTold, ListsJob, ForgetsJob}
use Rattle.ways_crews.specs.Callers.{IsListing, IsListingWhereTold, ListsAll, ListsFirst}
use Rattle.ways_crews.proofs.CallerLaws.{stays_out, is_out}

-- or with true
or_true : (b : Bool) → (b || true) ≡ true
or_true true = refl
or_true false = refl

-- before the first start
pub listing_none : (told : CrewTold) (out : List ℕ) (refused : Bool) → IsListing told.listed [] out refused told
listing_none told out refused =
    record {
      listed = [];
      left = [];
      is = sym (append-nil told.listed);
      split = refl;
      whole = λ on. refl;
      lost =
          inl refl;
    }

-- a start
pub listing_started : (before : List Started) (jobs : List Job) (out now_out : List ℕ) (refused : Bool)
    (was now : CrewTold)
    (n : ℕ) (job : Job) → IsListing before jobs out refused was → ListsJob n job was now → IsOneMore n out now_out →
    IsListing before (jobs ++ job ∷ []) now_out refused now
listing_started before jobs out now_out refused was now n job h lists more =
    let one = listing_of job ∷ [] in
    let both : map listing_of (jobs ++ job ∷ []) ≡ (h.listed ++ h.left) ++ one = map-append listing_of jobs (job ∷ [])
    ∙ ap (λ xs. xs ++ one) h.split in
    ⊎_elim
    (λ (on : now.lists ≡ true). (
    let a = lists.appended on in
    let none : h.left ≡ [] = h.whole a.0 in
    let grown : h.listed ++ h.left ≡ h.listed = ap (λ xs. h.listed ++ xs) none ∙ append-nil h.listed in
    let r : IsListing before (jobs ++ job ∷ []) now_out refused now = record {
      listed = h.listed ++ one;
      left = [];
      is = a.1 ∙ ap (λ xs. xs ++ one) h.is ∙ append_assoc before h.listed one;
      split = both ∙ ap (λ xs. xs ++ one) grown ∙ sym (append-nil (h.listed ++ one));
      whole = λ o. refl;
      lost = inl refl;
    } in
    r))
    (λ (off : now.lists ≡ false). (
    let l = lists.left off in
    let r : IsListing before (jobs ++ job ∷ []) now_out refused now = record {
      listed = h.listed;
      left = h.left ++ one;
      is = l.0 ∙ h.is;
      split = both ∙ append_assoc h.listed h.left one;
      whole = λ on. absurd (both_ways now.lists off on);
      lost = inr (inr (n, is_out n out now_out more, l.1));
    } in
    r))
    (cases_Bool now.lists)

-- a finish
pub listing_finished : (before : List Started) (jobs : List Job) (out now_out : List ℕ) (refused : Bool)
    (was now : CrewTold) (n : ℕ) (done : Done) →
    IsListing before jobs out refused was → ForgetsJob n done was now → IsOneMore n now_out out →
    IsListing before jobs now_out (refused || is_err done.result) now
listing_finished before jobs out now_out refused was now n done h forgets more = record {
  listed = h.listed;
  left = h.left;
  is = forgets.listed ∙ h.is;
  split = h.split;
  whole = λ on. h.whole (sym forgets.lists ∙ on);
  lost =
      ⊎_elim
      (λ (none : h.left ≡ []). inl none)
      (λ (rest : (refused ≡ true) ⊎ ((m : ℕ) × Contains out m × (was.unlisted m ≡ true))). inr
      (⊎_elim
      (λ (r : refused ≡ true). inl (ap (λ b. b || is_err done.result) r))
      (λ (u : (m : ℕ) × Contains out m × (was.unlisted m ≡ true)).
      ⊎_elim
      (λ (same : u.0 ≡ n). inl (ap (λ b. refused || b) (forgets.refused (subst (λ m. was.unlisted m ≡ true) same u.2))
      ∙ or_true refused))
      (λ (apart : u.0 ≢ n). inr (u.0, stays_out n u.0 now_out out more apart u.1, forgets.others u.0 apart ∙ u.2))
      (cases_eq u.0 n))
      rest))
      h.lost;
}

-- when no job is out, and none was refused, all were listed
pub all_listed : (before : List Started) (jobs : List Job) (told : CrewTold) → IsListing before jobs [] false told →
    told.listed ≡ before ++ map listing_of jobs
all_listed before jobs told h =
    ⊎_elim
    (λ (none : h.left ≡ []). h.is
    ∙ ap (λ xs. before ++ xs) (sym (h.split ∙ ap (λ xs. h.listed ++ xs) none ∙ append-nil h.listed)))
    (λ (rest : (false ≡ true) ⊎ ((m : ℕ) × Contains [] m × (told.unlisted m ≡ true))).
    ⊎_elim (λ (r : false ≡ true). absurd (cc r))
    (λ (u : (m : ℕ) × Contains [] m × (told.unlisted m ≡ true)). absurd (omega (arith, u.1.1))) rest)
    h.lost

-- and in any case the first were
pub first_listed : (before : List Started) (jobs : List Job) (out : List ℕ) (refused : Bool) (told : CrewTold) →
    IsListing before jobs out refused told →
    (listed : List Started) × (left : List Started) × (told.listed ≡ before ++ listed)
    × (map listing_of jobs ≡ listed ++ left)
first_listed before jobs out refused told h = (h.listed, h.left, h.is, h.split)

-- the same where jobs are told: before the first start
pub where_none : (told : Option CrewTold) (out : List ℕ) (refused : Bool) → IsListingWhereTold told [] out refused told
where_none None out refused = tt
where_none (Some told) out refused = listing_none told out refused

-- a start
pub where_started : (before : Option CrewTold) (jobs : List Job) (out now_out : List ℕ) (refused : Bool)
    (was now : Option CrewTold) (n : ℕ) (job : Job) →
    IsListingWhereTold before jobs out refused was → WhereTold (ListsJob n job) was now → IsOneMore n out now_out →
    IsListingWhereTold before (jobs ++ job ∷ []) now_out refused now
where_started None jobs out now_out refused None None n job h lists more = tt
where_started None jobs out now_out refused None (Some now) n job h lists more = absurd lists
where_started None jobs out now_out refused (Some was) now n job h lists more = absurd h
where_started (Some before) jobs out now_out refused None now n job h lists more = absurd h
where_started (Some before) jobs out now_out refused (Some was) None n job h lists more = absurd lists
where_started (Some before) jobs out now_out refused (Some was) (Some now) n job h lists more =
    listing_started before.listed jobs out now_out refused was now n job h lists more

-- a finish
pub where_finished : (before : Option CrewTold) (jobs : List Job) (out now_out : List ℕ) (refused : Bool)
    (was now : Option CrewTold) (n : ℕ) (done : Done) →
    IsListingWhereTold before jobs out refused was → WhereTold (ForgetsJob n done) was now → IsOneMore n now_out out →
    IsListingWhereTold before jobs now_out (refused || is_err done.result) now
where_finished None jobs out now_out refused None None n done h forgets more = tt
where_finished None jobs out now_out refused None (Some now) n done h forgets more = absurd forgets
where_finished None jobs out now_out refused (Some was) now n done h forgets more = absurd h
where_finished (Some before) jobs out now_out refused None now n done h forgets more = absurd h
where_finished (Some before) jobs out now_out refused (Some was) None n done h forgets more = absurd forgets
where_finished (Some before) jobs out now_out refused (Some was) (Some now) n done h forgets more =
    listing_finished before.listed jobs out now_out refused was now n done h forgets more

-- when no job is out and none was refused, all were listed
pub where_all : (before : Option CrewTold) (jobs : List Job) (now : Option CrewTold) →
    IsListingWhereTold before jobs [] false now → WhereTold (ListsAll jobs) before now
where_all None jobs None h = tt
where_all None jobs (Some now) h = absurd h
where_all (Some before) jobs None h = absurd h
where_all (Some before) jobs (Some now) h = all_listed before.listed jobs now h

-- and in any case the first were
pub where_first : (before : Option CrewTold) (jobs : List Job) (out : List ℕ) (refused : Bool) (now : Option CrewTold) →
    IsListingWhereTold before jobs out refused now → WhereTold (ListsFirst jobs) before now
where_first None jobs out refused None h = tt
where_first None jobs out refused (Some now) h = absurd h
where_first (Some before) jobs out refused None h = absurd h
where_first (Some before) jobs out refused (Some now) h = first_listed before.listed jobs out refused now h

-- the same where the last two answers are looked at
pub where_both : (before : Option CrewTold) (jobs : List Job) (out : List ℕ) (a b : Bool) (now : Option CrewTold) →
    out ≡ [] → a ≡ false → b ≡ false →
    IsListingWhereTold before jobs out (a || b) now → WhereTold (ListsAll jobs) before now
where_both before jobs out a b now none no_a no_b h =
    let neither : (a || b) ≡ false = ap (λ x. x || b) no_a ∙ no_b in
    where_all before jobs now
    (subst (λ r. IsListingWhereTold before jobs [] r now) neither
    (subst (λ o. IsListingWhereTold before jobs o (a || b) now) none h))

-- and where none is looked at
pub where_unseen : (before : Option CrewTold) (jobs : List Job) (out : List ℕ) (refused : Bool)
    (now : Option CrewTold) → IsListingWhereTold before jobs out refused now →
    IsListingWhereTold before jobs out true now
where_unseen None jobs out refused None h = tt
where_unseen None jobs out refused (Some now) h = absurd h
where_unseen (Some before) jobs out refused None h = absurd h
where_unseen (Some before) jobs out refused (Some now) h = record {
  listed = h.listed;
  left = h.left;
  is = h.is;
  split = h.split;
  whole = h.whole;
  lost = inr (inl refl);
}
