-- what is written of a day that is stopped
use Rattle.std.proofs.Common.{◌≡◌, ℕ, ◌+◌, ◌-◌, ◌≤◌, List, ◌++◌, length, take, drop, sym, ap, ◌∙◌, arith, subst}
use Rattle.std.proofs.Common.{append_assoc, length-append}
use Rattle.std.specs.Prelude.{Option}
use Rattle.std.specs.Io.KnownBytes.{Appends}
use Rattle.std.proofs.KnownBytes.{Appends-trans}
use Rattle.std.proofs.Math.Seq.{take-append_seam}
use Rattle.std.proofs.lemmas.List.{take-append-drop, length-take-le}
use Rattle.std.proofs.lemmas.List.Concat.{flat_map-append}
use Rattle.road_time.specs.declared.road.Tuple.{Tuple}
use Rattle.road_time.specs.declared.day.Limits.{Limits}
use Rattle.road_time.specs.Fits.{Fit}
use Rattle.road_time.specs.Sights.{Moment, moments, moments_after}
use Rattle.road_time.specs.Day.{given, rules, told_by, answer_by, notices, notices_by, merged}
use Rattle.road_time.specs.Text.{out as text_out}
use Rattle.road_time.proofs.DayLaws.{prefix_at}
use Rattle.ways_expressway.specs.Results.{AreFirst}
use Rattle.day_floor.specs.Answers.{AreNotices}
use Rattle.day_floor.specs.declared.fault.SettleFault.{SettleFault}
use Rattle.day_floor.specs.declared.fault.SettleFault.TheVariants.{KeeperFault, WriteFault, NoMemory}
use Rattle.day_floor.specs.Printing.{WritesSome, WritesFront, WritesLess}
use Rattle.day_floor.proofs.AnswerLaws.{notices_exact}
use Rattle.day_floor.proofs.StayLaws.{run_between}
use Rattle.day_floor.specs.Shares.{State, mark}
use Rattle.day_floor.specs.Steps.{after_settle}
use Rattle.day_floor.specs.Sound.{SoundState, IsTrue}
use Rattle.day_floor.specs.Written.{settled_text, written_to}
use Rattle.day_floor.specs.Floors.{Setting, WritesSomeSettled as WritesSomeOf}
use Rattle.day_floor.proofs.Marks.{is_mark, settled_le}
use Rattle.day_floor.proofs.Texts.{text_goes_on}
use Rattle.day_floor.proofs.PrintLaws.{out_both}
use Rattle.day_floor.proofs.Truths.{exact_notices}
use Rattle.day_import.specs.Fronts.{HasText, HasFront}

-- some first bytes of a text, behind a text before it, are some first bytes of any text that goes on
module _ (first old new : Option (List ℕ)) (before text rest : List ℕ) (had : Appends first old before) where
  whole : (k : ℕ) → (before ++ text) ++ rest ≡ (before ++ take k text) ++ (drop k text ++ rest)
  whole k =
      ap (λ xs. (before ++ xs) ++ rest) (sym (take-append-drop k text))
      ∙ (ap (λ xs. xs ++ rest) (sym (append_assoc before (take k text) (drop k text)))
      ∙ append_assoc (before ++ take k text) (drop k text) rest)

  first_of : (k : ℕ) → take (length (before ++ take k text)) ((before ++ text) ++ rest) ≡ before ++ take k text
  first_of k = ap (take (length (before ++ take k text))) (whole k)
      ∙ take-append_seam (before ++ take k text) (drop k text ++ rest)

  goes_on : (k : ℕ) → Appends old new (take k text) →
      Appends first new (take (length (before ++ take k text)) ((before ++ text) ++ rest))
  goes_on k put =
      subst (Appends first new) (sym (first_of k)) (Appends-trans first old new before (take k text) had put)

  pub front_more : WritesFront text old new → WritesFront ((before ++ text) ++ rest) first new
  front_more (k, put) = (length (before ++ take k text), goes_on k put)

  pub less_more : WritesLess text old new → WritesLess ((before ++ text) ++ rest) first new
  less_more (k, few, put) =
      let a = length-append before (take k text) in
      let b = length-take-le k text (omega (arith, few)) in
      let c = length-append (before ++ text) rest in
      let d = length-append before text in
      (length (before ++ take k text), omega (arith, few, a, b, c, d), goes_on k put)

  some_more : (fault : SettleFault) → WritesSome fault text old new →
      WritesSome fault ((before ++ text) ++ rest) first new
  some_more KeeperFault h = front_more h
  some_more WriteFault h = less_more h
  some_more NoMemory h = front_more h

module _ (width : ℕ) (limits : Limits) (e : Setting) (s : State) (some : 1 ≤ width) (sound : SoundState width limits s)
    (are : IsTrue e.tariffs width s) (later : List Tuple) (first : AreFirst s.fed later) (fit : Fit later limits) where
  -- the output of a day begins with the text of what is done of its first tuples
  pub text_first : (n : ℕ) → n ≤ mark width s → (kept : ℕ → ℕ → ℕ → ℕ) → (rest : List ℕ)
      × (text_out (notices later e.tariffs e.number kept) ≡ settled_text e.number kept (after_settle s n) ++ rest)
  text_first n low kept =
      let within : n ≤ length s.fed = (let l = (is_mark width s).within in omega (arith, l, low)) in
      let done = take n s.fed in
      let long : length done ≡ n = length-take-le n s.fed within in
      let left = drop n s.fed ++ first.0 in
      let parts : later ≡ done ++ left =
      first.1 ∙ (ap (λ xs. xs ++ first.0) (sym (take-append-drop n s.fed))
      ∙ append_assoc done (drop n s.fed) first.0) in
      let each = λ (m : Moment). told_by (rules later e.tariffs) m ++ answer_by (rules later e.tariffs) e.number kept
      m in
      let ms = moments later in
      let split : notices later e.tariffs e.number kept ≡ notices_by (rules later e.tariffs) e.number kept (take n ms)
      ++ notices_by (rules later e.tariffs) e.number kept (drop n ms) =
      ap (notices_by (rules later e.tariffs) e.number kept) (sym (take-append-drop n ms))
      ∙ flat_map-append each (take n ms) (drop n ms) in
      let front : notices_by (rules later e.tariffs) e.number kept (take n ms) ≡ notices done e.tariffs e.number kept =
      ap (λ d. notices_by (rules d e.tariffs) e.number kept (take n (moments d))) parts
      ∙ (ap (λ k. notices_by (rules (done ++ left) e.tariffs) e.number kept (take k (moments (done ++ left))))
      (sym long)
      ∙ (prefix_at done left (subst (λ d. Fit d limits) parts fit).in_order e.tariffs e.number kept).0) in
      let same : notices_by (rules later e.tariffs) e.number kept (take n ms) ≡ merged done s.found e.number kept =
      front ∙ sym (exact_notices width limits s some sound n low e.tariffs are e.number kept) in (
        text_out (notices_by (rules later e.tariffs) e.number kept (drop n ms)),
        ap text_out split
            ∙ (out_both (notices_by (rules later e.tariffs) e.number kept (take n ms))
            (notices_by (rules later e.tariffs) e.number kept (drop n ms))
            ∙ ap (λ ns. text_out ns ++ text_out (notices_by (rules later e.tariffs) e.number kept (drop n ms))) same),
      )

  -- nothing more was written
  pub front_before : (begin now : Option (List ℕ)) → HasText e s begin now → HasFront NoMemory e later begin now
  front_before begin now had kept known =
      let (rest, is) = text_first s.settled (settled_le width limits s sound) kept in (
        length (settled_text e.number kept s),
        subst (Appends begin now)
            (sym (ap (take (length (settled_text e.number kept s))) is
            ∙ take-append_seam (settled_text e.number kept s) rest)) (had kept known),
      )

  -- some first bytes more were written
  pub front_settled : (fault : SettleFault) (begin old new : Option (List ℕ)) → HasText e s begin old →
      WritesSomeOf fault e s (mark width s) old new → HasFront fault e later begin new
  front_settled fault begin old new had wrote kept known =
      let n = mark width s in
      let low : s.settled ≤ n = settled_le width limits s sound in
      let within : n ≤ length s.fed = (is_mark width s).within in
      let (told, told_are, put) = wrote in
      let text = written_to e.number kept s n in
      let sum : s.settled + (n - s.settled) ≡ n = omega (arith, low) in
      let run = moments_after (take s.settled s.fed) (take (n - s.settled) (drop s.settled s.fed)) in
      let between : run ≡ drop s.settled (take n (moments s.fed)) =
      run_between s.fed s.settled (n - s.settled) (omega (arith, low, within))
      ∙ ap (λ k. drop s.settled (take k (moments s.fed))) sum in
      let known_told : text_out told ≡ text =
      ap text_out
      (notices_exact (given s.found) e.number kept run told
      (subst (λ h. AreNotices (given s.found) e.number h run told) known told_are)
      ∙ ap (notices_by (given s.found) e.number kept) between) in
      let (rest, is) = text_first n (omega arith) kept in
      let goes = text_goes_on s n low within e.number kept in
      subst (λ t. WritesSome fault t begin new) (sym (is ∙ ap (λ xs. xs ++ rest) goes))
      (some_more begin old new (settled_text e.number kept s) text rest (had kept known) fault
      (subst (λ t. WritesSome fault t old new) known_told put))
