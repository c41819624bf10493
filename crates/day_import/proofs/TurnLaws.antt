-- what is given and finished in a turn
use Rattle.std.proofs.Common.{◌≡◌, ℕ, ◌+◌, ◌*◌, ◌<◌, ⊎_elim, true, false, [], ◌++◌, length, take, refl, sym, ap, ◌∙◌}
use Rattle.std.proofs.Common.{arith, subst, append-nil}
use Rattle.std.proofs.lemmas.Bool.{cases_Bool, cases_eq}
use Rattle.road_time.specs.declared.day.Limits.{Limits}
use Rattle.day_floor.specs.Shares.{State, events_ahead, is_empty, can_give, mark}
use Rattle.day_floor.specs.Steps.{given_out, taken_back, after_give, after_back}
use Rattle.day_floor.specs.Sound.{SoundState}
use Rattle.day_floor.proofs.Workers.{for_worker, at_own, at_other, nothing_out}
use Rattle.day_floor.proofs.Jobs.{some_out}
use Rattle.day_floor.proofs.Marks.{all_back}
use Rattle.day_import.specs.Tasks.{one_if, one_out, out_at}
use Rattle.day_import.specs.RoundRuns.{CameBack, given_if}
use Rattle.day_import.specs.Turns.{HasWorked, IsGiven, IsMoved}
use Rattle.day_import.proofs.OpenLaws.{out_changed}
use Rattle.day_import.proofs.RunLaws.{if_given, if_none}
use Rattle.day_import.proofs.RoundLaws.{came_later, text_same, charges_same, between_same, by_other, by_own}

none_worked : (g o : ℕ) → 2 * g + (o + 0) ≡ 2 * g + o
none_worked g o = omega arith

worked_then : (a b c o p q k n : ℕ) → 2 * a + (p + k) ≡ 2 * b + o → 2 * b + (q + n) ≡ 2 * c + p →
    2 * a + (q + (k + n)) ≡ 2 * c + o
worked_then a b c o p q k n h i = omega (arith, h, i)

-- nothing was given, or some and then some
pub given_same : (width : ℕ) (s : State) → IsGiven width 0 s s
given_same width s =
    record {
      fed = refl;
      settled = refl;
      found = refl;
      ahead = λ w. refl;
      worked =
          none_worked s.given (out_at s.share width);
    }

pub given_then : (width k n : ℕ) (s mid now : State) → IsGiven width k s mid → IsGiven width n mid now →
    IsGiven width (k + n) s now
given_then width k n s mid now a b = record {
  fed = b.fed ∙ a.fed;
  settled = b.settled ∙ a.settled;
  found = b.found ∙ a.found;
  ahead = λ w. b.ahead w ∙ a.ahead w;
  worked = worked_then s.given mid.given now.given (out_at s.share width) (out_at mid.share width)
      (out_at now.share width) k n a.worked b.worked;
}

-- a job that is given
one_given : (width : ℕ) (s : State) (w : ℕ) → w < width → can_give (s.share w) ≡ true →
    IsGiven width 1 s (after_give s w)
one_given width s w within can =
    let now = after_give s w in
    let none = nothing_out (s.share w) can in
    let one : one_out (now.share w) ≡ 1 = ap one_if (some_out s w can) in
    let was : one_out (s.share w) ≡ 0 = ap (λ es. one_if (is_empty es)) none in
    let more =
    out_changed s.share now.share w width within
    (λ v ne. ap (λ sh. sh.out) (at_other w v (given_out s.given) s.share ne)) in
    record {
      fed = refl;
      settled = refl;
      found = refl;
      ahead = λ v.
          for_worker (λ sh. events_ahead sh ≡ events_ahead (s.share v)) w v (given_out s.given) s.share
          (λ e. append-nil (s.share v).waiting
          ∙ sym (ap (λ es. es ++ (s.share v).waiting) (ap (λ u. (s.share u).out) e ∙ none))) refl;
      worked = omega (arith, one, was, more);
    }

pub given_one : (width : ℕ) (s : State) (w : ℕ) → w < width → (k : ℕ) × IsGiven width k s (given_if s w)
given_one width s w within =
    ⊎_elim
    (λ (can : can_give (s.share w) ≡ true).
    (1, subst (IsGiven width 1 s) (if_given s w can) (one_given width s w within can)))
    (λ (not : can_give (s.share w) ≡ false). (0, subst (IsGiven width 0 s) (if_none s w not) (given_same width s)))
    (cases_Bool (can_give (s.share w)))

-- where none was out, none waits for one more worker
pub least_waits : (s : State) (w : ℕ) → (s.share w).out ≡ [] → ((v : ℕ) → v < w → (s.share v).waiting ≡ []) → (v : ℕ) →
    v < w + 1 → ((given_if s w).share v).waiting ≡ []
least_waits s w none before v h =
    ⊎_elim
    (λ (e : v ≡ w). subst (λ u. ((given_if s w).share u).waiting ≡ []) (sym e)
    (by_own (can_give (s.share w)) s w refl none))
    (λ ne. ap (λ sh. sh.waiting) (by_other (can_give (s.share w)) s w v ne) ∙ before v (less v w h ne))
    (cases_eq v w)
  where
    less : (v w : ℕ) → v < w + 1 → (v ≡ w → ⊥) → v < w
    less v w h ne = omega (arith, h, ne)

-- what was given was moved, and what came back too
pub moved_given : (width k : ℕ) (s now : State) → IsGiven width k s now → IsMoved width k s now
moved_given width k s now h =
    let first : take now.settled now.fed ≡ take s.settled s.fed = ap (λ n. take n now.fed) h.settled
    ∙ ap (take s.settled) h.fed in
    record {
      fed = h.fed;
      settled = h.settled;
      text = λ d p. text_same s now first h.found d p;
      charges =
          charges_same s now first h.found;
      between = between_same s now first h.found;
      worked = h.worked;
    }

pub moved_same : (width : ℕ) (s : State) → IsMoved width 0 s s
moved_same width s = moved_given width 0 s s (given_same width s)

pub moved_then : (width k n : ℕ) (s mid now : State) → IsMoved width k s mid → IsMoved width n mid now →
    IsMoved width (k + n) s now
moved_then width k n s mid now a b = record {
  fed = b.fed ∙ a.fed;
  settled = b.settled ∙ a.settled;
  text = λ d p. b.text d p ∙ a.text d p;
  charges = b.charges ∙ a.charges;
  between = λ n m. b.between n m ∙ a.between n m;
  worked = worked_then s.given mid.given now.given (out_at s.share width) (out_at mid.share width)
      (out_at now.share width) k n a.worked b.worked;
}

one_back : (width place : ℕ) (s now : State) → CameBack width place s now → HasWorked width 1 s now
one_back width place s now came =
    let w = came.worker in
    let after = after_back s w came.found in
    let was : one_out (s.share w) ≡ 1 = ap one_if came.can.out in
    let none : one_out (after.share w) ≡ 0 = ap (λ sh. one_out sh) (at_own w taken_back s.share) in
    let less =
    out_changed s.share after.share w width came.can.within
    (λ v ne. ap (λ sh. sh.out) (at_other w v taken_back s.share ne)) in
    subst (HasWorked width 1 s) (sym came.is) (omega (arith, was, none, less))

pub came_moved : (width place : ℕ) (limits : Limits) (s now : State) → SoundState width limits s →
    CameBack width place s now → IsMoved width 1 s now
came_moved width place limits s now sound came =
    let later = came_later width place limits s now sound came in
    record {
      fed = later.fed;
      settled = later.settled;
      text = later.text;
      charges = later.charges;
      between =
          later.between;
      worked = one_back width place s now came;
    }

-- where nothing waits and nothing is out after jobs were given, all that was fed was done before
pub none_ahead : (width k : ℕ) (s mid : State) → IsGiven width k s mid → ((v : ℕ) → v < width → (mid.share v).out ≡ [])
    → ((v : ℕ) → v < width → (mid.share v).waiting ≡ []) → mark width s ≡ length s.fed
none_ahead width k s mid given none waits =
    all_back width s (λ v h. sym (given.ahead v) ∙ (ap (λ es. es ++ (mid.share v).waiting) (none v h) ∙ waits v h))
