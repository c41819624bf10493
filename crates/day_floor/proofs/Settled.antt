-- positions up to the mark are settled
use Rattle.std.proofs.Common.{◌≡◌, ℕ, ◌+◌, ◌-◌, ◌≤◌, List, ◌++◌, length, take, drop, Result, Ok, Err, ap, ◌∙◌, arith}
use Rattle.std.proofs.Common.{subst}
use Rattle.std.specs.VecDeque.{deque_len}
use Rattle.std.specs.Result.{IfOk}
use Rattle.std.proofs.lemmas.List.{length-take-le, length-drop}
use Rattle.road_time.specs.declared.road.Tuple.{Tuple}
use Rattle.road_time.specs.Sights.{Sight, moments_after}
use Rattle.road_time.specs.Tolls.{StretchTold}
use Rattle.day_floor.specs.Sums.{total_in}
use Rattle.day_floor.proofs.SumLaws.{total_by}
use Rattle.day_floor.specs.Written.{settled_charges}
use Rattle.road_time.specs.Day.{ChargedToll, sum_of, given, charges_by, charges_between}
use Rattle.day_floor.specs.Answers.{PaidHistory}
use Rattle.day_floor.specs.SettlingRuns.{Waits, StandsFor as SettlerStandsFor}
use Rattle.day_floor.proofs.StayLaws.{up_to_run, run_between, behind_run}
use Rattle.day_floor.specs.declared.floor.Floor.{Floor}
use Rattle.day_floor.specs.Shares.{State, mark}
use Rattle.day_floor.specs.Floors.{Setting, StandsFor}
use Rattle.day_floor.proofs.Marks.{is_mark, settled_le}
use Rattle.day_floor.proofs.Ones.{few_tolls}
use Rattle.day_floor.proofs.Floors.{fed_small}

module _ (g : Setting) (f : Floor) (s : State) (st : StandsFor g f s)
    (held : deque_len f.slots ≡ length f.slots.items) where
  -- the mark, the tuples that are settled, those that wait, and how many are to be settled
  abbrev pub to : ℕ
  to = mark f.inboxes.width s

  abbrev pub before : List Tuple
  before = take s.settled s.fed

  abbrev pub rest : List Tuple
  rest = drop s.settled s.fed

  pub low : s.settled ≤ to
  low = settled_le f.inboxes.width f.limits s st.sound

  pub within : to ≤ length s.fed
  within = (is_mark f.inboxes.width s).within

  pub long : length before ≡ s.settled
  long = length-take-le s.settled s.fed st.sound.settled

  pub few_rest : to - s.settled ≤ length rest
  few_rest = omega (arith, low, within, length-drop s.settled s.fed)

  sum : s.settled + (to - s.settled) ≡ to
  sum = omega (arith, low)

  -- they are those up to the mark, and those behind it are left
  pub up : before ++ take (to - s.settled) rest ≡ take to s.fed
  up = up_to_run s.fed s.settled (to - s.settled) (omega (arith, low, within)) ∙ ap (λ n. take n s.fed) sum

  pub behind : drop (to - s.settled) rest ≡ drop to s.fed
  behind = behind_run s.settled (to - s.settled) s.fed ∙ ap (λ n. drop n s.fed) sum

  pub charges : (finding : Sight → StretchTold) → charges_by finding (moments_after before (take (to - s.settled) rest))
      ≡ charges_between finding s.fed s.settled to
  charges finding = ap (charges_by finding) (run_between s.fed s.settled (to - s.settled) (omega (arith, low, within)))
      ∙ ap (λ n. charges_between finding s.fed s.settled n) sum

  pub reached : length before + (to - s.settled) ≡ to
  reached = omega (arith, long, low)

  -- they wait
  pub waits : Waits f.slots.items (given s.found) before rest
  waits = record {
    slots_are = st.slots;
    few_tolls = few_tolls f.inboxes.width f.limits s st.sound;
    few =
        omega (arith, long, length-drop s.settled s.fed, st.sound.settled, fed_small g f s st held);
  }

  -- the book's total is that of the charges that are settled
  pub total_is : total_in f.settler.book.spent ≡ sum_of (settled_charges s)
  total_is = ap total_in st.settler.book.spent ∙ total_by (settled_charges s)

  -- what is said of the run is said of the positions up to the mark
  pub as_settled : (count : ℕ) → count ≡ to - s.settled → (P : List Tuple → List Tuple → Type 0) →
      P (before ++ take count rest) (drop count rest) → P (take to s.fed) (drop to s.fed)
  as_settled count e P h =
      subst (λ d. P (take to s.fed) d) behind
      (subst (λ d. P d (drop (to - s.settled) rest)) up (subst (λ k. P (before ++ take k rest) (drop k rest)) e h))

  pub as_published : (count : ℕ) → count ≡ to - s.settled → (P : ℕ → List ChargedToll → ℕ → Type 0) →
      P count (charges_by (given s.found) (moments_after before (take count rest))) (length before + count) →
      P (to - s.settled) (charges_between (given s.found) s.fed s.settled to) to
  as_published count e P h =
      subst (λ m. P (to - s.settled) (charges_between (given s.found) s.fed s.settled to) m) reached
      (subst (λ cs. P (to - s.settled) cs (length before + (to - s.settled))) (charges (given s.found))
      (subst (λ k. P k (charges_by (given s.found) (moments_after before (take k rest))) (length before + k)) e h))

  -- the settler stands for what is settled on this day
  pub on_day : (number : ℕ) (history : PaidHistory) → g.number ≡ number → g.history ≡ history →
      SettlerStandsFor f.settler (given s.found) number history before
  on_day number history e h =
      subst (λ k. SettlerStandsFor f.settler (given s.found) number k before) h
      (subst (λ k. SettlerStandsFor f.settler (given s.found) k g.history before) e st.settler)

-- what follows of an answer
pub if_ok : {T E : Type 0} {P Q : T → Type 0} (r : Result T E) → ((x : T) → P x → Q x) → IfOk r P → IfOk r Q
if_ok (Ok x) h p = h x p
if_ok (Err e) h p = tt
