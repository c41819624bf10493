-- What a caller knows of its jobs, as they are started and answered.
use Rattle.std.proofs.Common.{◌≡◌, ◌≢◌, ◌⊎◌, ℕ, zero, suc, ◌+◌, List, [], ◌∷◌, ◌++◌, length, map, refl, sym, ap, subst}
use Rattle.std.proofs.Common.{inl, inr, ⊎_elim, arith, length-append}
use Rattle.std.specs.Prelude.{Contains, slice_get, drop}
use Rattle.std.proofs.lemmas.Option.{same_Some}
use Rattle.std.specs.List.{AllByRecursion}
use Rattle.std.proofs.lemmas.List.Elements.{Contains-append_cases, Contains-append_right}
use Rattle.std.proofs.lemmas.List.Sorted.{IsPermutation-sym, length_permutation, Contains-permutation}
use Rattle.ways_expressway.specs.declared.job.Job.{Job}
use Rattle.ways_crews.specs.Numbers.{IsOneMore}
use Rattle.ways_crews.specs.Callers.{HaveOwnNumbers, IsTicketOut, HasOut}

-- what a list of one element has
pub in_one : {X : Type 0} (x y : X) → Contains (x ∷ []) y → x ≡ y
in_one x y (zero, lt, is) = is
in_one x y (suc k, lt, is) = absurd (omega arith)

-- what is in a list with one element more is that element or in the list
pub in_more : {X : Type 0} (x y : X) (xs : List X) → Contains (x ∷ xs) y → (x ≡ y) ⊎ Contains xs y
in_more x y xs h = ⊎_elim (λ (t : Contains (x ∷ []) y). inl (in_one x y t)) (λ (t : Contains xs y). inr t)
    (Contains-append_cases (x ∷ []) xs y h)

-- the first element is in the list
pub first_in : {X : Type 0} (x : X) (xs : List X) → Contains (x ∷ xs) x
first_in x xs = (zero, omega arith, refl)

-- a number that is out beside another stays out without that one
pub stays_out : (n m : ℕ) (without with_it : List ℕ) → IsOneMore n without with_it → m ≢ n → Contains with_it m →
    Contains without m
stays_out n m without with_it more apart h =
    ⊎_elim (λ (t : n ≡ m). absurd (apart (sym t))) (λ (t : Contains without m). t)
    (in_more n m without (Contains-permutation with_it (n ∷ without) m more.all h))

-- and one that is out is out beside another
pub comes_out : (n m : ℕ) (without with_it : List ℕ) → IsOneMore n without with_it → Contains without m →
    Contains with_it m
comes_out n m without with_it more h =
    Contains-permutation (n ∷ without) with_it m (IsPermutation-sym with_it (n ∷ without) more.all)
    (Contains-append_right (n ∷ []) without m h)

-- the one that came is out
pub is_out : (n : ℕ) (without with_it : List ℕ) → IsOneMore n without with_it → Contains with_it n
is_out n without with_it more =
    Contains-permutation (n ∷ without) with_it n (IsPermutation-sym with_it (n ∷ without) more.all) (first_in n without)

-- so many are out more
pub one_more_out : (n : ℕ) (without with_it : List ℕ) → IsOneMore n without with_it →
    length with_it ≡ length without + 1
one_more_out n without with_it more = let h = length_permutation with_it (n ∷ without) more.all in omega arith

-- what is left of a crew's tickets is no longer than none
none_left : (xs : List ℕ) → length xs ≡ 0 → xs ≡ []
none_left [] h = refl
none_left (x ∷ xs) h = absurd (omega (arith, h))

module _ {S T : Type 0} (out : S → List ℕ) (number : T → ℕ) (holds : S → ℕ → Job → Type 0) (gave : S → T → Type 0) where
  abbrev Open : S → List (T × Job) → Type 0
  Open = HasOut out number holds gave

  abbrev Is : S → T × Job → Type 0
  Is = IsTicketOut out number holds gave

  abbrev HoldsOthers : S → S → ℕ → Type 0
  HoldsOthers was now n = (m : ℕ) (j : Job) → m ≢ n → holds was m j → holds now m j

  abbrev GaveOthers : S → S → ℕ → Type 0
  GaveOthers was now n = (t : T) → number t ≢ n → gave was t → gave now t

  -- a crew with no job out
  pub idle : (s : S) → out s ≡ [] → Open s []
  idle s none = record { all = ap (λ ns. length ns) none; apart = tt; each = tt }

  -- and where no ticket is left, none is out
  pub all_home : (s : S) → Open s [] → out s ≡ []
  all_home s h = none_left (out s) h.all

  -- what is said of the tickets before and after a ticket, and of it
  each_at : (P : T × Job → Type 0) (before : List (T × Job)) (task : T × Job) (after : List (T × Job)) →
      AllByRecursion P (before ++ task ∷ after) → P task
  each_at P [] task after h = h.0
  each_at P (b ∷ before) task after h = each_at P before task after h.1

  each_without : (P : T × Job → Type 0) (before : List (T × Job)) (task : T × Job) (after : List (T × Job)) →
      AllByRecursion P (before ++ task ∷ after) → AllByRecursion P (before ++ after)
  each_without P [] task after h = h.1
  each_without P (b ∷ before) task after h = (h.0, each_without P before task after h.1)

  each_more : (P : T × Job → Type 0) (tasks : List (T × Job)) (task : T × Job) → AllByRecursion P tasks → P task →
      AllByRecursion P (tasks ++ task ∷ [])
  each_more P [] task h one = (one, tt)
  each_more P (b ∷ tasks) task h one = (h.0, each_more P tasks task h.1 one)

  each_weaker : (P Q : T × Job → Type 0) → ((t : T × Job) → P t → Q t) → (tasks : List (T × Job)) →
      AllByRecursion P tasks → AllByRecursion Q tasks
  each_weaker P Q f [] h = tt
  each_weaker P Q f (t ∷ tasks) h = (f t h.0, each_weaker P Q f tasks h.1)

  both_each : (P Q : T × Job → Type 0) (tasks : List (T × Job)) → AllByRecursion P tasks → AllByRecursion Q tasks →
      AllByRecursion (λ t. P t × Q t) tasks
  both_each P Q [] h k = tt
  both_each P Q (t ∷ tasks) h k = ((h.0, k.0), both_each P Q tasks h.1 k.1)

  apart_without : (before : List (T × Job)) (task : T × Job) (after : List (T × Job)) →
      HaveOwnNumbers number (before ++ task ∷ after) → HaveOwnNumbers number (before ++ after)
  apart_without [] task after h = h.1
  apart_without (b ∷ before) task after h =
      (each_without (λ u. number u.0 ≢ number b.0) before task after h.0, apart_without before task after h.1)

  apart_from : (before : List (T × Job)) (task : T × Job) (after : List (T × Job)) →
      HaveOwnNumbers number (before ++ task ∷ after) →
      AllByRecursion (λ u. number u.0 ≢ number task.0) (before ++ after)
  apart_from [] task after h = h.0
  apart_from (b ∷ before) task after h =
      (λ e. each_at (λ u. number u.0 ≢ number b.0) before task after h.0 (sym e), apart_from before task after h.1)

  apart_more : (tasks : List (T × Job)) (task : T × Job) → HaveOwnNumbers number tasks →
      AllByRecursion (λ u. number u.0 ≢ number task.0) tasks → HaveOwnNumbers number (tasks ++ task ∷ [])
  apart_more [] task h far = (tt, tt)
  apart_more (b ∷ tasks) task h far =
      (each_more (λ u. number u.0 ≢ number b.0) tasks task h.0 (λ e. far.0 (sym e)), apart_more tasks task h.1 far.1)

  -- a ticket among those that are out meets what `finish` asks, and its job is held
  pub task_is_out : (s : S) (before : List (T × Job)) (task : T × Job) (after : List (T × Job)) →
      Open s (before ++ task ∷ after) → Is s task
  task_is_out s before task after h = each_at (Is s) before task after h.each

  -- a start: one ticket more is out
  pub one_started : (was now : S) (ticket : T) (job : Job) (tasks : List (T × Job)) → Open was tasks →
      IsOneMore (number ticket) (out was) (out now) →
      holds now (number ticket) job → gave now ticket → HoldsOthers was now (number ticket) →
      GaveOthers was now (number ticket) → Open now (tasks ++ (ticket, job) ∷ [])
  one_started was now ticket job tasks h more held given keeps tickets =
      let far : AllByRecursion (λ u. number u.0 ≢ number ticket) tasks =
      each_weaker (Is was) (λ u. number u.0 ≢ number ticket)
      (λ u is e. more.free (subst (λ n. Contains (out was) n) e is.there)) tasks h.each in
      record {
        all = (let n = one_more_out (number ticket) (out was) (out now) more in let a = h.all in let l =
            length-append tasks ((ticket, job) ∷ []) in omega arith);
        apart = apart_more tasks (ticket, job) h.apart far;
        each = each_more (Is now) tasks (ticket, job)
            (each_weaker (λ u. Is was u × (number u.0 ≢ number ticket)) (Is now)
            (λ u p. record {
              there = comes_out (number ticket) (number u.0) (out was) (out now) more p.0.there;
              held =
                  keeps (number u.0) u.1 p.1 p.0.held;
              given = tickets u.0 p.1 p.0.given;
            })
            tasks (both_each (Is was) (λ u. number u.0 ≢ number ticket) tasks h.each far))
            (record { there = is_out (number ticket) (out was) (out now) more; held = held; given = given });
      }

  -- a finish: one ticket fewer is out
  pub one_finished : (was now : S) (before : List (T × Job)) (task : T × Job) (after : List (T × Job)) →
      Open was (before ++ task ∷ after) → IsOneMore (number task.0) (out now) (out was) →
      HoldsOthers was now (number task.0) → GaveOthers was now (number task.0) → Open now (before ++ after)
  one_finished was now before task after h more keeps tickets =
      let far = apart_from before task after h.apart in
      record {
        all = (let n = one_more_out (number task.0) (out now) (out was) more in let a = h.all in let l =
            length-append before (task ∷ after) in let m = length-append before after in omega arith);
        apart = apart_without before task after h.apart;
        each = each_weaker (λ u. Is was u × (number u.0 ≢ number task.0)) (Is now)
            (λ u p. record {
              there =
                  stays_out (number task.0) (number u.0) (out now) (out was) more p.1 p.0.there;
              held =
                  keeps (number u.0) u.1 p.1 p.0.held;
              given = tickets u.0 p.1 p.0.given;
            })
            (before ++ after)
            (both_each (Is was) (λ u. number u.0 ≢ number task.0) (before ++ after)
            (each_without (Is was) before task after h.each) far);
      }

-- the job of the first ticket, and those of the later ones
pub first_task : {T : Type 0} (ticket : T) (rest : List T) (tasks : List (T × Job)) →
    map (λ t. t.0) tasks ≡ ticket ∷ rest →
    (job : Job) × (after : List (T × Job)) × (tasks ≡ (ticket, job) ∷ after) × (map (λ t. t.0) after ≡ rest)
first_task ticket rest [] e = absurd (cc e)
first_task {T} ticket rest ((t, job) ∷ after) e =
    let same : t ≡ ticket = same_Some _ _ (ap (λ ts. slice_get ts 0) e) in
    let left : map (λ t. t.0) after ≡ rest = ap (λ ts. drop 1 ts) e in
    (job, after, ap (λ u. (u, job) ∷ after) same, left)
