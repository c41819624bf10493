-- What was given of a day stays its front, whatever lines follow.
use Rattle.std.proofs.Common.{◌≡◌, ℕ, ◌≤◌, List, [], ◌∷◌, ◌++◌, length, take, Option, Some, None, Result, Ok, Err, refl}
use Rattle.std.proofs.Common.{sym, ap, subst, ◌∙◌, arith}
use Rattle.std.specs.List.{cons_option}
use Rattle.std.proofs.lemmas.List.{append-nil, length_push}
use Rattle.road_time.specs.declared.road.Tuple.{Tuple}
use Rattle.road_time.specs.declared.day.Limits.{Limits}
use Rattle.road_time.specs.Lines.{without_cr}
use Rattle.road_time.specs.Form.{Fault, form}
use Rattle.road_time.specs.Order.{by_time}
use Rattle.road_time.specs.Reads.{line_fault, fault_of_form, formed, tuples_of, accepts_after, reading_at}
use Rattle.road_time.proofs.ReadLaws.{tuples_push, line_parts}
use Rattle.road_time.proofs.AllowedLaws.{admitted}
use Rattle.road_time.proofs.LateLaws.{Given, given_stay, given_push}

-- the front of n tuples, with those of one line more
abbrev pub Stays : ℕ → ℕ → List Tuple → List Tuple → Type 0
Stays late n before after = (take n (by_time after) ≡ take n (by_time before)) × Given late n after × (n ≤ length after)

stays_by : (limits : Limits) (late n : ℕ) (before : List Tuple) (r : Result (Option Tuple) Fault) → Given late n before
    → n ≤ length before → fault_of_form limits late before r ≡ None →
    Stays late n before (before ++ cons_option (formed r) [])
stays_by limits late n before (Err f) h few e = cc
stays_by limits late n before (Ok None) h few e =
    let same = sym (append-nil before) in (
      ap (λ ys. take n (by_time ys)) (append-nil before),
      subst (Given late n) same h,
      omega
          (arith, ap length same, few),
    )
stays_by limits late n before (Ok (Some x)) h few e =
    let soon = (admitted limits late before x e).0 in
    (given_stay late n before x h few soon, given_push late n before x h few soon, omega (arith, length_push before x))

-- a line that is let in comes behind the front
pub stays_line : (limits : Limits) (late n : ℕ) (before : List (List ℕ)) (l : List ℕ) → Given late n (tuples_of before)
    → n ≤ length (tuples_of before) → line_fault limits late before l ≡ None →
    Stays late n (tuples_of before) (tuples_of (before ++ l ∷ []))
stays_line limits late n before l h few e =
    subst (Stays late n (tuples_of before)) (sym (tuples_push before l))
    (stays_by limits late n (tuples_of before) (form (without_cr l)) h few (line_parts limits late before l e).1)

-- what may be given after some lines is the front of the day that the lines make with those that follow
pub kept_in_front : (limits : Limits) (late n : ℕ) (before lines : List (List ℕ)) → Given late n (tuples_of before) →
    n ≤ length (tuples_of before)
    → take n (by_time (accepts_after limits late before lines).tuples) ≡ take n (by_time (tuples_of before))
kept_in_front limits late n before [] h few = refl
kept_in_front limits late n before (l ∷ ls) h few =
    front_at (line_fault limits late before l) refl (λ g m. kept_in_front limits late n (before ++ l ∷ []) ls g m)
  where
    front_at : (o : Option Fault) → line_fault limits late before l ≡ o
        → (Given late n (tuples_of (before ++ l ∷ [])) → n ≤ length (tuples_of (before ++ l ∷ [])) →
        take n (by_time (accepts_after limits late (before ++ l ∷ []) ls).tuples) ≡ take n
        (by_time (tuples_of (before ++ l ∷ []))))
        → take n (by_time (accepts_after limits late before (l ∷ ls)).tuples) ≡ take n (by_time (tuples_of before))
    front_at (Some f) e later =
        ap (λ k. take n (by_time (reading_at before k (accepts_after limits late (before ++ l ∷ []) ls)).tuples)) e
    front_at None e later =
        let s = stays_line limits late n before l h few e in
        ap (λ k. take n (by_time (reading_at before k (accepts_after limits late (before ++ l ∷ []) ls)).tuples)) e
        ∙ later s.1 s.2 ∙ s.0
