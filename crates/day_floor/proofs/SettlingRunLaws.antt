-- A settler in the midst of a run.
use Rattle.std.proofs.Common.{◌≡◌, ℕ, ◌+◌, ◌^◌, ◌<◌, ◌≤◌, List, [], ◌∷◌, ◌++◌, length, take, drop, map, Ok, refl, sym}
use Rattle.std.proofs.Common.{ap, subst, ◌∙◌, arith, append_assoc, append-nil, length-append, get_or, add-one}
use Rattle.std.proofs.Common.{drop-cons}
use Rattle.std.proofs.lemmas.List.Concat.{flat_map-append}
use Rattle.std.proofs.lemmas.List.{take_more, length-take-le}
use Rattle.std.proofs.lemmas.List.Sums.{sum_by-append}
use Rattle.road_time.specs.declared.road.Tuple.TheVariants.{Travel}
use Rattle.road_time.specs.declared.road.Tuple.{Tuple}
use Rattle.road_time.specs.declared.road.Notice.{Notice}
use Rattle.road_time.specs.Sights.{moments, moments_after, Sight}
use Rattle.road_time.specs.Tolls.{StretchTold}
use Rattle.road_time.specs.Day.{owed_by, charges_by, sum_of, total_by, HasFewTolls}
use Rattle.road_time.proofs.BoundLaws.{total_few}
use Rattle.road_time.specs.Text.{out}
use Rattle.road_time.proofs.SightLaws.{moments-append, length-moments}
use Rattle.day_floor.specs.declared.publisher.Charged.{Charged}
use Rattle.day_floor.specs.Operations.{charge_of}
use Rattle.day_floor.specs.Sums.{total_in}
use Rattle.day_floor.specs.Books.{Accounts}
use Rattle.day_floor.specs.TextDigests.{TookText}
use Rattle.day_floor.specs.declared.due_slot.Slot.{Slot}
use Rattle.day_floor.specs.declared.settler.Settler.{Settler}
use Rattle.day_floor.specs.Slots.{slot_of, slots_of}
use Rattle.day_floor.specs.SettlingBooks.{IsBook, charges_in, book_after}
use Rattle.day_floor.specs.Answers.{PaidHistory, AreNotices, IsSaid}
use Rattle.road_io.specs.Levels.{Level}
use Rattle.day_floor.specs.Asking.{AskingPlan, PassesCalls, requests_of}
use Rattle.day_floor.specs.Printing.{HoldsPiece, HandsOn}
use Rattle.day_floor.specs.SettlingRuns.{StandsFor, InRun, HasSettled, Waits, WritesRun, SettlesSlot, TakesRun}
use Rattle.day_floor.proofs.LevelLaws.{adds_none}
use Rattle.day_floor.proofs.AskLaws.{passes_none, passes_on, asked_more, asked_slot}
use Rattle.day_floor.proofs.PrintLaws.{out_both}
use Rattle.day_floor.proofs.AnswerLaws.{said_is, notices_both, notices_one, notices_few}
use Rattle.day_floor.proofs.SettlingBookLaws.{charges_are, book_more, account_is, total_is}

-- the moments of a run with one tuple more
pub run_moments : (before run : List Tuple) (x : Tuple) →
    moments_after before (run ++ x ∷ []) ≡ moments_after before run ++ (before ++ run, x) ∷ []
run_moments before run x = moments-append before run (x ∷ [])

-- the tuples up to there
pub run_tuples : (before run : List Tuple) (x : Tuple) → (before ++ run) ++ x ∷ [] ≡ before ++ (run ++ x ∷ [])
run_tuples before run x = append_assoc before run (x ∷ [])

module _ (finding : Sight → StretchTold) (number : ℕ) (history : PaidHistory) where
  -- a run begins
  pub run_begins : (s : Settler) (before : List Tuple) (w : Level) (plan : AskingPlan) →
      StandsFor s finding number history before → InRun s finding number history before [] w w plan plan
  run_begins s before w plan h =
      let same : before ≡ before ++ [] = sym (append-nil before) in
      record {
        settled = h.settled ∙ ap length same;
        book = subst (IsBook s.book finding) same h.book;
        earlier = h.told;
        earlier_are = h.told_are;
        told = [];
        told_are = refl;
        count = let n = h.count in omega arith;
        holds = record {
          prints = record {
            handed = [];
            run_is = sym h.none_held;
            took =
                subst (TookText s.printer.digest) (sym (append-nil (out h.told))) h.took;
            wrote = adds_none w;
          };
          short = subst (λ t. length t < 65536) (sym h.none_held) (omega arith);
          none_yet = λ few. refl;
        };
        charged = ap (map charge_of) h.none_charged;
        passed = passes_none plan;
      }

  -- the notices of a run with one slot more
  pub told_more : (before run : List Tuple) (x : Tuple) (s : Settler) (told ns : List Notice) →
      IsBook s.book finding (before ++ run) → AreNotices finding number history (moments_after before run) told →
      IsSaid history number (slot_of finding (before ++ run, x)).due (slot_of finding (before ++ run, x)).found s.book
      ns → AreNotices finding number history (moments_after before (run ++ x ∷ [])) (told ++ ns)
  told_more before run x s told ns book are said =
      subst (λ ms. AreNotices finding number history ms (told ++ ns)) (sym (run_moments before run x))
      (notices_both finding number history (moments_after before run) ((before ++ run, x) ∷ []) told ns are
      (notices_one finding number history (before ++ run, x) ns
      (said_is finding number history (before ++ run) x s.book ns (account_is finding s.book (before ++ run) book)
      said)))

  -- a run goes on over one slot
  pub run_more : (s s' : Settler) (before run : List Tuple) (x : Tuple) (old now now' : Level)
      (plan left left' : AskingPlan)
      (ns : List Notice) → InRun s finding number history before run old now plan left → s'.settled ≡ s.settled + 1 →
      s'.book ≡ book_after (slot_of finding (before ++ run, x)).due (slot_of finding (before ++ run, x)).found.toll
      s.book → map charge_of s'.charges.items ≡ map charge_of s.charges.items ++ charges_in
      (slot_of finding (before ++ run, x)).due s.book →
      IsSaid history number (slot_of finding (before ++ run, x)).due (slot_of finding (before ++ run, x)).found s.book
      ns →
      SettlesSlot {T = Unit {0}} (Ok tt) (slot_of finding (before ++ run, x)).due s.printer s'.printer now now' left
      left' ns → InRun s' finding number history before (run ++ x ∷ []) old now' plan left'
  run_more s s' before run x old now now' plan left left' ns h count book charges said settles =
      let says = settles.0 in
      let size = length-append (before ++ run) (x ∷ []) in
      let shape = ap length (run_tuples before run x) in
      let was = h.settled in
      record {
        settled = omega arith;
        book = subst (IsBook s'.book finding) (run_tuples before run x)
            (subst (λ b. IsBook b finding ((before ++ run) ++ x ∷ [])) (sym book)
            (book_more finding s.book (before ++ run) h.book x));
        earlier = h.earlier;
        earlier_are = h.earlier_are;
        told = h.told ++ ns;
        told_are = told_more before run x s h.told ns h.book h.told_are said;
        count = let n = h.count in let m = says.0 in let l = length-append h.told ns in omega arith;
        holds = subst (λ t. HoldsPiece s'.printer (out h.earlier) t old now') (sym (out_both h.told ns))
            (says.1 (out h.earlier) (out h.told) old h.holds);
        passed = subst (λ n. PassesCalls n plan left')
            (ap (λ n. requests_of run + n) (asked_slot finding (before ++ run) x)
            ∙ sym (asked_more run x)) (passes_on plan left left' (requests_of run) _ h.passed settles.1);
        charged =
            charges ∙ (ap (λ cs. cs ++ charges_in (slot_of finding (before ++ run, x)).due s.book) h.charged
            ∙ (ap (λ cs. charges_by finding (moments_after before run) ++ cs)
            (charges_are finding s.book (before ++ run) h.book x
            ∙ sym (append-nil (owed_by finding (before ++ run, x))))
            ∙ (sym (flat_map-append (owed_by finding) (moments_after before run) ((before ++ run, x) ∷ []))
            ∙ ap (charges_by finding) (sym (run_moments before run x)))));
      }

  -- in a run few notices were written
  pub run_few : (s : Settler) (before run : List Tuple) (old now : Level) (plan left : AskingPlan) →
      InRun s finding number history before run old now plan left → length before + length run ≤ 16000000 →
      s.printer.notices ≤ 32000000
  run_few s before run old now plan left h few =
      let a = notices_few finding number history (moments before) h.earlier h.earlier_are in
      let b = notices_few finding number history (moments_after before run) h.told h.told_are in
      let m = length-moments [] before in
      let n = length-moments before run in
      let c = h.count in
      omega arith

  -- all of a run was written
  pub run_took : (s : Settler) (before run : List Tuple) (old now : Level) (plan left : AskingPlan) →
      HasSettled s finding number history before run old now plan left →
      TakesRun finding number history before run old now plan left
  run_took s before run old now plan left h = (h.told, h.told_are, h.wrote, h.passed)

  pub run_wrote : (before run : List Tuple) (old now : Level) (plan left : AskingPlan) →
      TakesRun finding number history before run old now plan left →
      WritesRun finding number history before run old.0 now.0
  run_wrote before run old now plan left h = (h.0, h.1, h.2.0)

  -- a run ends where its charges are listed no more
  pub run_ends : (s s' : Settler) (before run : List Tuple) (old now : Level) (plan left : AskingPlan) →
      HasSettled s finding number history before run old now plan left →
      s'.settled ≡ s.settled → s'.book ≡ s.book → s'.printer ≡ s.printer → s'.charges.items ≡ [] →
      StandsFor s' finding number history (before ++ run)
  run_ends s s' before run old now plan left h count book printer none =
      record {
        settled = count ∙ h.settled;
        book = subst (λ b. IsBook b finding (before ++ run)) (sym book) h.book;
        told = h.earlier ++ h.told;
        told_are =
            subst (λ ms. AreNotices finding number history ms (h.earlier ++ h.told))
            (sym (moments-append [] before run))
            (notices_both finding number history (moments before) (moments_after before run) h.earlier h.told
            h.earlier_are h.told_are);
        count = ap (λ p. p.notices) printer ∙ (h.count ∙ sym (length-append h.earlier h.told));
        took = subst (λ p. TookText p.digest (out (h.earlier ++ h.told))) (sym printer)
            (subst (TookText s.printer.digest) (sym (out_both h.earlier h.told)) h.took);
        none_held = ap (λ p. p.piece.items) printer ∙ h.none_held;
        none_charged = none;
      }

-- what is owed after a run is what was owed before it and the run's charges
pub run_total : (finding : Sight → StretchTold) (a b : Accounts) (before run : List Tuple) (cs : List Charged) →
    IsBook a finding before → IsBook b finding (before ++ run) →
    map charge_of cs ≡ charges_by finding (moments_after before run) →
    total_in a.spent + sum_of (map charge_of cs) ≡ total_in b.spent
run_total finding a b before run cs first last charged =
    let more : total_by finding (before ++ run) ≡ total_by finding before + sum_of
    (charges_by finding (moments_after before run)) =
    ap (λ ms. sum_of (charges_by finding ms)) (moments-append [] before run)
    ∙ (ap sum_of (flat_map-append (owed_by finding) (moments before) (moments_after before run))
    ∙ sum_by-append (λ c. c.toll) (charges_by finding (moments before))
    (charges_by finding (moments_after before run))) in
    ap (λ n. n + sum_of (map charge_of cs)) (total_is finding a before first)
    ∙ (ap (λ ds. total_by finding before + sum_of ds) charged
    ∙ (sym more ∙ sym (total_is finding b (before ++ run) last)))

-- what is owed fits 63 bits
pub run_fits : (finding : Sight → StretchTold) (b : Accounts) (tuples : List Tuple) → HasFewTolls finding →
    IsBook b finding tuples → length tuples ≤ 16000000 → total_in b.spent < 2 ^ 63
run_fits finding b tuples few book short =
    let is = total_is finding b tuples book in
    let most = total_few finding few tuples in
    omega arith

-- a run is as long as the slots that it takes
pub run_long : (before rest : List Tuple) (count : ℕ) → count ≤ length rest →
    length (before ++ take count rest) ≡ length before + count
run_long before rest count h = length-append before (take count rest)
    ∙ ap (λ n. length before + n) (length-take-le count rest h)

-- the first slot that waits, and those behind it
pub first_slot : (finding : Sight → StretchTold) (all later : List Slot) (slot : Slot) (before : List Tuple) (x : Tuple)
    (rest : List Tuple) → all ≡ slot ∷ later → all ≡ slots_of finding before (x ∷ rest) →
    (slot ≡ slot_of finding (before, x)) × (later ≡ slots_of finding (before ++ x ∷ []) rest)
first_slot finding all later slot before x rest e f =
    let g : slot ∷ later ≡ slot_of finding (before, x) ∷ slots_of finding (before ++ x ∷ []) rest = sym e ∙ f in
    (cc, cc)

-- what waits behind the first slot
pub waits_more : (finding : Sight → StretchTold) (all later : List Slot) (slot : Slot) (before run : List Tuple)
    (x : Tuple)
    (rest : List Tuple) → all ≡ slot ∷ later → Waits all finding (before ++ run) (x ∷ rest) →
    Waits later finding (before ++ (run ++ x ∷ [])) rest
waits_more finding all later slot before run x rest e h =
    let size = length-append (before ++ run) (x ∷ []) in
    let few = h.few in
    subst (λ ts. Waits later finding ts rest) (run_tuples before run x) (record {
      slots_are = (first_slot finding all later slot (before ++ run) x rest e h.slots_are).1;
      few_tolls = h.few_tolls;
      few = omega arith;
    })

-- the next tuple of a run
pub rest_more : (i : ℕ) (rest : List Tuple) → i < length rest → (x : Tuple) × (drop i rest ≡ x ∷ drop (i + 1) rest)
    × (take (i + 1) rest ≡ take i rest ++ x ∷ [])
rest_more i rest h =
    (get_or rest i (Travel 0), rw (← add-one i) at (drop-cons rest i (Travel 0) h), take_more rest i (Travel 0) h)

module _ (finding : Sight → StretchTold) (number : ℕ) (history : PaidHistory) where
  -- all text that is held was handed on
  pub run_flushed : (s s' : Settler) (before run : List Tuple) (old now now' : Level) (plan left : AskingPlan) →
      InRun s finding number history before run old now plan left →
      s'.settled ≡ s.settled → s'.book ≡ s.book → s'.charges ≡ s.charges →
      HandsOn {T = Unit {0}} (Ok tt) s.printer s'.printer now now' →
      HasSettled s' finding number history before run old now' plan left
  run_flushed s s' before run old now now' plan left h count book charges hands =
      let end = hands.1 (out h.earlier) (out h.told) old h.holds.prints in
      record {
        settled = count ∙ h.settled;
        book = subst (λ b. IsBook b finding (before ++ run)) (sym book) h.book;
        earlier = h.earlier;
        earlier_are = h.earlier_are;
        told = h.told;
        told_are = h.told_are;
        count = hands.0 ∙ h.count;
        took = end.took;
        none_held = end.none_held;
        wrote = end.wrote;
        charged = ap (λ cs. map charge_of cs.items) charges ∙ h.charged;
        passed = h.passed;
      }
