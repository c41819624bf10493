-- a turn
use Rattle.std.proofs.Common.{◌≡◌, ℕ, zero, suc, ◌+◌, ◌*◌, ◌-◌, ◌<◌, ◌≤◌, List, [], ◌∷◌, ◌++◌, length, refl, sym, ap}
use Rattle.std.proofs.Common.{◌∙◌, arith, subst, Bool, true, false}
use Rattle.std.specs.Prelude.{Option}
use Rattle.road_time.specs.declared.road.Tuple.{Tuple}
use Rattle.day_floor.specs.Shares.{State, Share, is_empty, mark, start}
use Rattle.day_floor.specs.Steps.{after_feed, after_settle}
use Rattle.day_floor.specs.Written.{settled_text, settled_charges}
use Rattle.day_floor.specs.Floors.{Setting}
use Rattle.day_floor.proofs.Marks.{is_mark}
use Rattle.std.specs.List.{AllByRecursion}
use Rattle.std.proofs.lemmas.List.{length-map}
use Rattle.ways_expressway.specs.declared.job.Job.{Job}
use Rattle.ways_expressway.specs.declared.finding.Finding.{Finding}
use Rattle.ways_expressway.specs.declared.lane_event.LaneEvent.{LaneEvent}
use Rattle.ways_expressway.specs.Events.{position_told}
use Rattle.ways_crews.specs.Told.{CrewTold}
use Rattle.day_floor.proofs.Events.{all_ahead, all_below}
use Rattle.day_import.specs.declared.begun.Import.{Import}
use Rattle.keep_office.proofs.ListFacts.{no_length}
use Rattle.day_import.specs.Tasks.{out_at, one_out, one_if}
use Rattle.day_import.specs.RoundRuns.{Runs, after_feeds}
use Rattle.day_floor.specs.Operations.{Posted}
use Rattle.day_import.specs.Fronts.{HasText}
use Rattle.day_import.specs.Published.{HasStepped, settled_between}
use Rattle.day_import.proofs.PublishLaws.{stepped_moved}
use Rattle.day_import.specs.Turns.{IsMoved, IsTurned}
use Rattle.day_import.proofs.OpenLaws.{out_same}
use Rattle.day_import.proofs.FeedLaws.{fed_are, fed_settled, fed_found, fed_first, fed_out}
use Rattle.day_import.proofs.RoundLaws.{text_same, charges_same, between_same}
use Rattle.day_import.proofs.SettleLaws.{text_kept}

-- feeding gives no job
fed_given : (width : ℕ) (s : State) (xs : List Tuple) → (after_feeds width s xs).given ≡ s.given
fed_given width s [] = refl
fed_given width s (x ∷ xs) = fed_given width (after_feed width s x) xs

from_fed : (a b c o p q k : ℕ) → b ≡ a → p ≡ o → 2 * b + (q + k) ≡ 2 * c + p → 2 * a + (q + k) ≡ 2 * c + o
from_fed a b c o p q k e f h = omega (arith, e, f, h)

-- the charges that were settled before stay
pub turn_charges : (width k : ℕ) (s mid : State) (xs : List Tuple) → s.settled ≤ length s.fed →
    IsMoved width k (after_feeds width s xs) mid → settled_charges mid ≡ settled_charges s
turn_charges width k s mid xs low moved = moved.charges ∙ charges_same s (after_feeds width s xs)
    (fed_first width s xs low)
    (fed_found width s xs)

pub turn_between : (width k : ℕ) (s mid : State) (xs : List Tuple) → s.settled ≤ length s.fed →
    IsMoved width k (after_feeds width s xs) mid → (a b : ℕ) → settled_between mid a b ≡ settled_between s a b
turn_between width k s mid xs low moved a b = moved.between a b
    ∙ between_same s (after_feeds width s xs) (fed_first width s xs low) (fed_found width s xs) a b

-- nor does the text
pub turn_text : (width k : ℕ) (s mid : State) (xs : List Tuple) → s.settled ≤ length s.fed →
    IsMoved width k (after_feeds width s xs) mid → (d : ℕ) (kept : ℕ → ℕ → ℕ → ℕ) →
    settled_text d kept mid ≡ settled_text d kept s
turn_text width k s mid xs low moved d kept = moved.text d kept
    ∙ text_same s (after_feeds width s xs) (fed_first width s xs low) (fed_found width s xs) d kept

pub turn_is : (width backlog : ℕ) (e : Setting) (s mid : State) (xs : List Tuple) (n k : ℕ) (old new : Option (List ℕ))
    (was posted : Option Posted) → s.settled ≤ length s.fed → IsMoved width k (after_feeds width s xs) mid →
    (k ≡ 0 → mark width (after_feeds width s xs) ≡ length (after_feeds width s xs).fed) → n ≡ mark width mid →
    ((first : Option (List ℕ)) → HasText e mid first old → HasText e (after_settle mid n) first new) →
    ((before : Option Posted) → HasStepped backlog mid before was →
    HasStepped backlog (after_settle mid n) before posted) →
    IsTurned width backlog k e s xs old new was posted (after_settle mid n)
turn_is width backlog e s mid xs n k old new was posted low moved idle is text steps =
    let fed = after_feeds width s xs in
    record {
      fed = moved.fed ∙ fed_are width s xs;
      marked = is;
      text = λ first had. text first (text_kept e s mid (turn_text width k s mid xs low moved) first old had);
      steps = λ before have. steps before
          (stepped_moved backlog s mid before was (moved.settled ∙ fed_settled width s xs)
          (turn_between width k s mid xs low moved) have);
      worked = from_fed s.given fed.given mid.given (out_at s.share width) (out_at fed.share width)
          (out_at mid.share width) k (fed_given width s xs)
          (out_same s.share fed.share width (λ v h. fed_out width s xs v)) moved.worked;
      idle = λ none no. subst (λ ys. mark width (after_feeds width s ys) ≡ length (after_feeds width s ys).fed) no
          (idle none);
    }

-- a turn does something
pub some_done : (P : Type 0) (count k : ℕ) (xs : List Tuple) → length xs ≡ count → (k ≡ 0 → xs ≡ [] → P) →
    (P → 1 ≤ count) → 1 ≤ count + k
some_done P zero zero xs l idle some = let h = some (idle refl (no_length xs l)) in omega (arith, h)
some_done P zero (suc k) xs l idle some = omega arith
some_done P (suc count) k xs l idle some = omega arith

-- so less is left
pub less_left : (all n c sg ng o p k : ℕ) → n + c ≤ all → sg ≤ 2 * all → ng ≤ 2 * all → 2 * sg + (p + k) ≡ 2 * ng + o →
    1 ≤ c + k → (all - (n + c)) + (2 * (2 * all - ng) + p) < (all - n) + (2 * (2 * all - sg) + o)
less_left all n c sg ng o p k within a b worked some = omega (arith, within, a, b, worked, some)

-- nothing is settled at the start
pub start_mark : (width : ℕ) → start.settled ≡ mark width start
start_mark width = let l = (is_mark width start).within in omega (arith, l)

-- where all is settled nothing waits, so something is left
pub must_more : (more : Bool) (pending settled fed : ℕ) → (more ≡ false → 1 ≤ pending) → settled ≡ fed →
    settled + pending ≡ fed → more ≡ true
must_more true pending settled fed some all waits = refl
must_more false pending settled fed some all waits = absurd (let n = some refl in omega (arith, n, all, waits))

-- the same of the numbers that the floor and the tickets have
pub less_by : (all n c sg ng f g o p t u k : ℕ) → f ≡ sg → g ≡ ng → t ≡ o → u ≡ p →
    (all - (n + c)) + (2 * (2 * all - ng) + p) < (all - n) + (2 * (2 * all - sg) + o) →
    (all - (n + c)) + (2 * (2 * all - g) + u) < (all - n) + (2 * (2 * all - f) + t)
less_by all n c sg ng f g o p t u k a b d e h = rw (a, b, d, e) h

-- no event is out where none is ahead
nothing_out : (share : ℕ → Share) (n : ℕ) → ((v : ℕ) → v < n → (share v).out ≡ []) → out_at share n ≡ 0
nothing_out share zero h = refl
nothing_out share (suc n) h =
    let rest = nothing_out share n (λ v k. h v (omega (arith, k))) in
    let one : one_out (share n) ≡ 0 = ap (λ es. one_if (is_empty es)) (h n (omega arith)) in
    omega (arith, rest, one)

empty_first : (n : ℕ) (xs ys : List LaneEvent) → AllByRecursion (λ e. n ≤ position_told e) (xs ++ ys) →
    AllByRecursion (λ e. position_told e < n) (xs ++ ys) → xs ≡ []
empty_first n [] ys a b = refl
empty_first n (e ∷ xs) ys a b = absurd (let x = a.0 in let y = b.0 in omega (arith, x, y))

module _ {S T : Type 0} (out : S → List ℕ) (number : T → ℕ) (holds : S → ℕ → Job → Type 0) (gave : S → T → Type 0)
    (exact : Bool) (jobs : S → Option CrewTold) (answers : S → Option (List Finding))
    (e : Setting) (told : Option CrewTold) (answered : Option (List Finding)) (run : Import T) (crew : S) (s : State)
    (h : Runs out number holds gave exact jobs answers e told answered run crew s) where
  -- as many tickets as jobs that are out
  pub tickets_are : length run.tickets.items ≡ out_at s.share run.floor.inboxes.width
  tickets_are =
      ap length (sym h.tickets)
      ∙ (length-map h.tasks (λ (t : T × Job). t.0)
      ∙ (sym (length-map h.tasks (λ (t : T × Job). t.1)) ∙ h.open'.count))

  -- no more were given than two for each tuple
  pub given_few : (all : ℕ) → length s.fed ≤ all → s.given ≤ 2 * all
  given_few all low = let j = h.stands.sound.jobs in omega (arith, j, low)

  -- without a tuple that waits, no ticket is held
  pub no_ticket : s.settled ≡ length s.fed → run.tickets.items ≡ []
  no_ticket all =
      let w = run.floor.inboxes.width in
      no_length run.tickets.items (tickets_are ∙ nothing_out s.share w (λ v k.
      empty_first s.settled (s.share v).out (s.share v).waiting (all_ahead w run.floor.limits s h.stands.sound v k)
      (subst (λ n. AllByRecursion (λ ev. position_told ev < n) ((s.share v).out ++ (s.share v).waiting)) (sym all)
      (all_below w run.floor.limits s h.stands.sound v k))))
