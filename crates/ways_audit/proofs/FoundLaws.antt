-- the jobs of a day's workers, and what they find
use Rattle.std.proofs.Common.{◌≡◌, ℕ, zero, suc, ◌+◌, ◌-◌, ◌≤◌, Bool, false, List, [], ◌∷◌, ◌++◌, length}
use Rattle.std.proofs.Common.{map, Option, Some, None, refl, sym, ap, ◌∙◌, arith}
use Rattle.std.specs.Prelude.{Result, Ok, Err, OnOk, OnErr}
use Rattle.std.specs.List.{flat_map, range_with_len}
use Rattle.std.proofs.lemmas.List.{append-nil, append_assoc}
use Rattle.std.proofs.lemmas.List.Concat.{flat_map-append}
use Rattle.road_time.specs.declared.day.NoMemory.{NoMemory}
use Rattle.road_time.specs.declared.road.Tuple.{Tuple}
use Rattle.road_time.specs.Rates.{Tariffs}
use Rattle.road_time.specs.Tolls.{StretchTold as Told_}
use Rattle.ways_expressway.specs.declared.job.Job.{Job}
use Rattle.ways_expressway.specs.declared.lane_event.LaneEvent.{LaneEvent}
use Rattle.ways_expressway.specs.Events.{events_for}
use Rattle.ways_expressway.specs.Findings.{findings}
use Rattle.ways_expressway.specs.Laws.{all_findings}
use Rattle.ways_crews.specs.declared.job_list.Started.{Started}
use Rattle.ways_crews.specs.Lists.{listing_of}
use Rattle.ways_crews.specs.Told.{CrewTold, WhereTold}
use Rattle.ways_crews.specs.Callers.{IsListingWhereTold}
use Rattle.ways_crews.proofs.ListingLaws.{where_all, where_first}
use Rattle.ways_audit.specs.Jobs.{job_if, starts_of, StartsAll, StartsFirst}
use Rattle.road_time.proofs.PrefixLaws.{range_more}

module _ (day : List Tuple) (tariffs : Tariffs) (width : ℕ) where
  abbrev per : Started → List (ℕ × Told_)
  per s = findings [] s.events tariffs

  found_if : (es : List LaneEvent) (worker number : ℕ) → flat_map per (job_if es worker number) ≡ findings [] es tariffs
  found_if [] worker number = refl
  found_if (e ∷ es) worker number = append-nil (findings [] (e ∷ es) tariffs)

  abbrev of_worker : ℕ → List (ℕ × Told_)
  of_worker worker = findings [] (events_for day worker width) tariffs

  found_of : (w : ℕ) → flat_map per (starts_of day width w) ≡ flat_map of_worker (range_with_len 0 w)
  found_of zero = refl
  found_of (suc w) =
      flat_map-append per (starts_of day width w) (job_if (events_for day w width) w (length (starts_of day width w)))
      ∙ ap (λ a. a ++ flat_map per (job_if (events_for day w width) w (length (starts_of day width w)))) (found_of w)
      ∙ ap (λ b. flat_map of_worker (range_with_len 0 w) ++ b)
      (found_if (events_for day w width) w (length (starts_of day width w)) ∙ sym (append-nil (of_worker w))
      ∙ ap (λ k. of_worker k ++ []) (zero_more w))
      ∙ sym (flat_map-append of_worker (range_with_len 0 w) ((0 + w) ∷ []))
      ∙ ap (flat_map of_worker) (sym (range_more 0 w))
    where
      zero_more : (n : ℕ) → n ≡ 0 + n
      zero_more n = omega arith

  by_jobs : (jobs : List Job) → flat_map (λ j. findings [] j.events tariffs) jobs ≡ flat_map per (map listing_of jobs)
  by_jobs [] = refl
  by_jobs (j ∷ js) = ap (λ a. findings [] j.events tariffs ++ a) (by_jobs js)

  -- all that the jobs find
  pub all_found : (jobs : List Job) → map listing_of jobs ≡ starts_of day width width →
      flat_map (λ j. findings [] j.events tariffs) jobs ≡ all_findings day tariffs width
  all_found jobs are = by_jobs jobs ∙ ap (flat_map per) are ∙ found_of width

-- the jobs of the first workers are the first jobs
starts_grow : (day : List Tuple) (width w more n : ℕ) → n ≡ more + w → (rest : List Started)
    × (starts_of day width n ≡ starts_of day width w ++ rest)
starts_grow day width w zero n e =
    ([], ap (starts_of day width) (e ∙ none w) ∙ sym (append-nil (starts_of day width w)))
  where
    none : (w : ℕ) → 0 + w ≡ w
    none w = omega arith
starts_grow day width w (suc more) n e =
    let before = starts_grow day width w more (more + w) refl in
    let one = job_if (events_for day (more + w) width) (more + w) (length (starts_of day width (more + w))) in (
      before.0 ++ one,
      ap (starts_of day width) (e ∙ next more w) ∙ ap (λ xs. xs ++ one) before.1
          ∙ append_assoc (starts_of day width w) before.0 one,
    )
  where
    next : (m w : ℕ) → suc m + w ≡ suc (m + w)
    next m w = omega arith

pub starts_first : (day : List Tuple) (width w : ℕ) → w ≤ width → (rest : List Started)
    × (starts_of day width width ≡ starts_of day width w ++ rest)
starts_first day width w h = starts_grow day width w (width - w) width (whole width w h)
  where
    whole : (n m : ℕ) → m ≤ n → n ≡ (n - m) + m
    whole n m h = omega (arith, h)

-- all are told
pub told_all : (day : List Tuple) (width : ℕ) (jobs : List Job) (was now : Option CrewTold) →
    map listing_of jobs ≡ starts_of day width width → IsListingWhereTold was jobs [] false now →
    WhereTold (StartsAll day width) was now
told_all day width jobs None None are h = tt
told_all day width jobs None (Some now) are h = absurd h
told_all day width jobs (Some was) None are h = absurd h
told_all day width jobs (Some was) (Some now) are h = where_all (Some was) jobs (Some now) h
    ∙ ap (λ xs. was.listed ++ xs) are

-- the first of them are told
pub told_first : (day : List Tuple) (width w : ℕ) (jobs : List Job) (refused : Bool) (was now : Option CrewTold) →
    w ≤ width
    → map listing_of jobs ≡ starts_of day width w → IsListingWhereTold was jobs [] refused now →
    WhereTold (StartsFirst day width) was now
told_first day width w jobs refused None None less are h = tt
told_first day width w jobs refused None (Some now) less are h = absurd h
told_first day width w jobs refused (Some was) None less are h = absurd h
told_first day width w jobs refused (Some was) (Some now) less are h =
    let first = where_first (Some was) jobs [] refused (Some now) h in
    let grow = starts_first day width w less in (
      first.0,
      first.1 ++ grow.0,
      first.2,
      grow.1 ∙ ap (λ xs. xs ++ grow.0) (sym are ∙ first.3)
          ∙ append_assoc first.0 first.1 grow.0,
    )

-- some first workers' jobs were started, whether memory ran out or not
pub some_started : (r : Result (Unit {0}) NoMemory) (width : ℕ) (P : ℕ → Type 0) → OnOk r (P width) →
    OnErr r ((workers : ℕ) × (workers ≤ width) × P workers) → (workers : ℕ) × (workers ≤ width) × P workers
some_started (Ok u) width P h g = (width, omega arith, h)
some_started (Err e) width P h g = g

-- all of them are the first of them, and so is none
pub all_first : (day : List Tuple) (width : ℕ) (was now : Option CrewTold) → WhereTold (StartsAll day width) was now →
    WhereTold (StartsFirst day width) was now
all_first day width None None h = tt
all_first day width None (Some now) h = absurd h
all_first day width (Some was) None h = absurd h
all_first day width (Some was) (Some now) h =
    (starts_of day width width, [], h, sym (append-nil (starts_of day width width)))

pub none_first : (day : List Tuple) (width : ℕ) (was : Option CrewTold) → WhereTold (StartsFirst day width) was was
none_first day width None = tt
none_first day width (Some was) = ([], starts_of day width width, sym (append-nil was.listed), refl)
