-- lawful turns, one after another
use Rattle.std.proofs.Common.{◌≡◌, ℕ, ◌≤◌, ◌<◌, List, [], ◌∷◌, ◌++◌, take, refl, arith, ap, sym, ◌∙◌, subst}
use Rattle.std.proofs.lemmas.List.{append_assoc, append-nil}
use Rattle.std.proofs.Math.Seq.{take-length}
use Rattle.road_time.specs.declared.road.Tuple.{Tuple}
use Rattle.road_time.specs.declared.day.Limits.{Limits}
use Rattle.road_time.specs.Rates.{Tariffs}
use Rattle.road_time.specs.Sights.{moments}
use Rattle.road_time.specs.Tolls.{StretchTold}
use Rattle.road_time.specs.Day.{ChargedToll, given, merged, notices, charges, charges_by}
use Rattle.road_time.specs.Text.{out}
use Rattle.ways_expressway.specs.Events.{events_for}
use Rattle.day_floor.specs.Shares.{JobStart, State, start, ahead_of, mark}
use Rattle.day_floor.specs.Sound.{HasOne, SoundState, IsTrue}
use Rattle.day_floor.specs.Starts.{started_for, HaveStarted}
use Rattle.day_floor.specs.Written.{written_to, settled_text, charged_to, settled_charges}
use Rattle.day_floor.specs.Turns.FloorTurn.{Feed, Give, Back, Settle}
use Rattle.day_floor.specs.Turns.{FloorTurn, May, after, written, charged, started, fed, answered, IsRightTurn}
use Rattle.day_floor.specs.Turns.{AreLawful}
use Rattle.day_floor.specs.Turns.{AreRight, after_all, written_all, charged_all, started_all, fed_all, answered_all}
use Rattle.day_floor.specs.Laws.{AreKept}
use Rattle.day_floor.proofs.Givens.{right_empty}
use Rattle.day_floor.proofs.Marks.{is_mark, settled_le, all_back}
use Rattle.day_floor.proofs.Sound.{sound_start, sound_feed, sound_give, sound_back, sound_settle}
use Rattle.day_floor.proofs.Texts.{first_stay, merged_same, charged_same, not_settled, long_first, text_goes_on}
use Rattle.day_floor.proofs.Texts.{charges_go_on}
use Rattle.day_floor.proofs.Truths.{one_finding, exact_notices, exact_charges, true_start, true_give, true_back}
use Rattle.day_floor.proofs.Starts.{starts_give, starts_back, started_whole}

-- what holds after turns that fed these tuples, took these findings back, wrote this text, and made these charges and
-- jobs
record SoFar (width : ℕ) (limits : Limits) (number : ℕ) (kept : ℕ → ℕ → ℕ → ℕ) (s : State) (day : List Tuple)
    (found : List (ℕ × StretchTold)) (text : List ℕ) (cs : List ChargedToll) (starts : List JobStart) : Type 0 where
  sound : SoundState width limits s
  day_is : s.fed ≡ day
  found_is : s.found ≡ found
  text_is : text ≡ settled_text number kept s
  charges_are : cs ≡ settled_charges s
  have : HaveStarted width limits.backlog s starts

module _ (width : ℕ) (limits : Limits) (number : ℕ) (kept : ℕ → ℕ → ℕ → ℕ) where
  -- the text of the settled positions when a tuple is fed
  text_fed : (s : State) (x : Tuple) → SoundState width limits s →
      settled_text number kept s ≡ settled_text number kept (after width s (Feed x))
  text_fed s x h = ap (λ d. out (merged d s.found number kept)) (sym (first_stay s.settled s.fed x h.settled))

  charges_fed : (s : State) (x : Tuple) → SoundState width limits s →
      settled_charges s ≡ settled_charges (after width s (Feed x))
  charges_fed s x h = ap (λ d. charges_by (given s.found) (moments d)) (sym (first_stay s.settled s.fed x h.settled))

  -- one turn more
  one_turn : (s : State) (day : List Tuple) (found : List (ℕ × StretchTold)) (text : List ℕ) (cs : List ChargedToll)
      (starts : List JobStart) (t : FloorTurn) → SoFar width limits number kept s day found text cs starts →
      May width limits s t → SoFar width limits number kept (after width s t) (day ++ fed t) (found ++ answered t)
      (text ++ written width number kept s t) (cs ++ charged width s t) (starts ++ started s t)
  one_turn s day found text cs starts (Feed x) h may = record {
    sound = sound_feed width limits s x h.sound may;
    day_is = ap (λ d. d ++ x ∷ []) h.day_is;
    found_is = h.found_is ∙ sym (append-nil found);
    text_is = append-nil text ∙ h.text_is ∙ text_fed s x h.sound;
    charges_are = append-nil cs ∙ h.charges_are ∙ charges_fed s x h.sound;
    have = subst (HaveStarted width limits.backlog (after width s (Feed x))) (sym (append-nil starts))
        (record { are = h.have.are; count = h.have.count; numbered = h.have.numbered; each = h.have.each; whole = h.have.whole });
  }
  one_turn s day found text cs starts (Give worker) h may = record {
    sound = sound_give width limits s worker h.sound may.0 may.1;
    day_is = h.day_is ∙ sym (append-nil day);
    found_is = h.found_is ∙ sym (append-nil found);
    text_is = append-nil text ∙ h.text_is;
    charges_are = append-nil cs ∙ h.charges_are;
    have = starts_give width limits s starts h.sound h.have worker may.0 may.1;
  }
  one_turn s day found text cs starts (Back worker number_of fs) h may =
      let later = not_settled width limits s worker number_of fs h.sound may in
      let long = long_first width limits s h.sound in
      record {
        sound = sound_back width limits s worker number_of fs h.sound may;
        day_is = h.day_is ∙ sym (append-nil day);
        found_is = ap (λ f. f ++ fs) h.found_is;
        text_is = append-nil text ∙ h.text_is
            ∙ ap out (sym (merged_same s.found fs s.settled later (take s.settled s.fed) long number kept));
        charges_are = append-nil cs ∙ h.charges_are
            ∙ sym (charged_same s.found fs s.settled later (take s.settled s.fed) long);
        have = subst (HaveStarted width limits.backlog (after width s (Back worker number_of fs)))
            (sym (append-nil starts)) (starts_back width limits s starts h.sound h.have worker fs);
      }
  one_turn s day found text cs starts Settle h may =
      let low = settled_le width limits s h.sound in
      let within = (is_mark width s).within in
      record {
        sound = sound_settle width limits s (mark width s) h.sound low (omega arith);
        day_is = h.day_is ∙ sym (append-nil day);
        found_is = h.found_is ∙ sym (append-nil found);
        text_is = ap (λ xs. xs ++ written_to number kept s (mark width s)) h.text_is
            ∙ sym (text_goes_on s (mark width s) low within number kept);
        charges_are = ap (λ xs. xs ++ charged_to s (mark width s)) h.charges_are
            ∙ sym (charges_go_on s (mark width s) low within);
        have = subst (HaveStarted width limits.backlog (after width s Settle)) (sym (append-nil starts))
            (record { are = h.have.are; count = h.have.count; numbered = h.have.numbered; each = h.have.each; whole = h.have.whole });
      }

  -- and several
  all_turns : (s : State) (day : List Tuple) (found : List (ℕ × StretchTold)) (text : List ℕ) (cs : List ChargedToll)
      (starts : List JobStart) (ts : List FloorTurn) → SoFar width limits number kept s day found text cs starts →
      AreLawful width limits s ts →
      SoFar width limits number kept (after_all width s ts) (day ++ fed_all ts) (found ++ answered_all ts)
      (text ++ written_all width number kept s ts) (cs ++ charged_all width s ts) (starts ++ started_all width s ts)
  all_turns s day found text cs starts [] h lawful =
      rw (append-nil day, append-nil found, append-nil text, append-nil cs, append-nil starts) h
  all_turns s day found text cs starts (t ∷ ts) h lawful =
      rw (
        ← append_assoc day (fed t) (fed_all ts),
        ← append_assoc found (answered t) (answered_all ts),
        ← append_assoc text (written width number kept s t) (written_all width number kept (after width s t) ts),
        ← append_assoc cs (charged width s t) (charged_all width (after width s t) ts),
        ← append_assoc starts (started s t) (started_all width (after width s t) ts),
      )
      (all_turns (after width s t) (day ++ fed t) (found ++ answered t) (text ++ written width number kept s t)
      (cs ++ charged width s t) (starts ++ started s t) ts (one_turn s day found text cs starts t h lawful.0)
      lawful.1)

  at_start : SoFar width limits number kept start [] [] [] [] []
  at_start = record {
    sound = sound_start width limits;
    day_is = refl;
    found_is = refl;
    text_is = refl;
    charges_are = refl;
    have = record { are = refl; count = refl; numbered = tt; each = tt; whole = λ w k. refl };
  }

  so_far : (ts : List FloorTurn) → AreLawful width limits start ts →
      SoFar width limits number kept (after_all width start ts) (fed_all ts) (answered_all ts)
      (written_all width number kept start ts) (charged_all width start ts) (started_all width start ts)
  so_far ts lawful = all_turns start [] [] [] [] [] ts at_start lawful

  pub each_run : (ts : List FloorTurn) → 1 ≤ width → AreLawful width limits start ts →
      AreKept width limits number kept ts (after_all width start ts)
  each_run ts some lawful =
      let h = so_far ts lawful in
      let s = after_all width start ts in
      record {
        sound = h.sound;
        fed = h.day_is;
        found = h.found_is;
        text = h.text_is ∙ ap (λ d. out (merged (take s.settled d) s.found number kept)) h.day_is
            ∙ ap (λ f. out (merged (take s.settled (fed_all ts)) f number kept)) h.found_is;
        charges = h.charges_are ∙ ap (λ d. charges_by (given s.found) (moments (take s.settled d))) h.day_is
            ∙ ap (λ f. charges_by (given f) (moments (take s.settled (fed_all ts)))) h.found_is;
        ones = subst (HasOne (take s.settled (fed_all ts))) h.found_is
            (subst (λ d. HasOne (take s.settled d) s.found) h.day_is
            (one_finding width limits s some h.sound s.settled (settled_le width limits s h.sound)));
        settled = settled_le width limits s h.sound;
        pending = h.sound.pending;
        starts = h.have;
      }

  -- right findings keep the findings true
  true_turn : (tariffs : Tariffs) (s : State) (t : FloorTurn) → SoundState width limits s → May width limits s t →
      IsRightTurn tariffs s t → IsTrue tariffs width s → IsTrue tariffs width (after width s t)
  true_turn tariffs s (Feed x) sound may right are = are
  true_turn tariffs s (Give worker) sound may right are = true_give tariffs width s worker are
  true_turn tariffs s (Back worker number_of fs) sound may right are =
      rw right (true_back tariffs width limits s worker sound may.within are)
  true_turn tariffs s Settle sound may right are = are

  sound_turn : (s : State) (t : FloorTurn) → SoundState width limits s → May width limits s t →
      SoundState width limits (after width s t)
  sound_turn s (Feed x) h may = sound_feed width limits s x h may
  sound_turn s (Give worker) h may = sound_give width limits s worker h may.0 may.1
  sound_turn s (Back worker number_of fs) h may = sound_back width limits s worker number_of fs h may
  sound_turn s Settle h may = sound_settle width limits s (mark width s) h (settled_le width limits s h) (omega arith)

  true_all : (tariffs : Tariffs) (s : State) (ts : List FloorTurn) → SoundState width limits s →
      AreLawful width limits s ts →
      AreRight width tariffs s ts → IsTrue tariffs width s → IsTrue tariffs width (after_all width s ts)
  true_all tariffs s [] sound lawful right are = are
  true_all tariffs s (t ∷ ts) sound lawful right are =
      true_all tariffs (after width s t) ts (sound_turn s t sound lawful.0) lawful.1 right.1
      (true_turn tariffs s t sound lawful.0 right.0 are)

  module _ (tariffs : Tariffs) (ts : List FloorTurn) (some : 1 ≤ width) (lawful : AreLawful width limits start ts)
      (right : AreRight width tariffs start ts) where
    all_true : IsTrue tariffs width (after_all width start ts)
    all_true = true_all tariffs start ts (sound_start width limits) lawful right (true_start tariffs width)

    pub rules_text : written_all width number kept start ts
        ≡ out (notices (take (after_all width start ts).settled (fed_all ts)) tariffs number kept)
    rules_text =
        let h = so_far ts lawful in
        let s = after_all width start ts in
        h.text_is
        ∙ ap out (exact_notices width limits s some h.sound s.settled (settled_le width limits s h.sound) tariffs
        all_true number kept)
        ∙ ap (λ d. out (notices (take s.settled d) tariffs number kept)) h.day_is

    pub rules_charges : charged_all width start ts ≡ charges (take (after_all width start ts).settled (fed_all ts))
        tariffs (moments (take (after_all width start ts).settled (fed_all ts)))
    rules_charges =
        let h = so_far ts lawful in
        let s = after_all width start ts in
        h.charges_are ∙ exact_charges width limits s some h.sound s.settled (settled_le width limits s h.sound) tariffs
        all_true
        ∙ ap (λ d. charges (take s.settled d) tariffs (moments (take s.settled d))) h.day_is

  -- what a last turn writes and charges comes last
  written_push : (s : State) (ts : List FloorTurn) (t : FloorTurn) →
      written_all width number kept s (ts ++ t ∷ []) ≡ written_all width number kept s ts ++ written width number kept
      (after_all width s ts) t
  written_push s [] t = append-nil (written width number kept s t)
  written_push s (u ∷ ts) t =
      ap (λ xs. written width number kept s u ++ xs) (written_push (after width s u) ts t)
      ∙ sym (append_assoc (written width number kept s u) (written_all width number kept (after width s u) ts)
      (written width number kept (after_all width (after width s u) ts) t))

  charged_push : (s : State) (ts : List FloorTurn) (t : FloorTurn) →
      charged_all width s (ts ++ t ∷ []) ≡ charged_all width s ts ++ charged width (after_all width s ts) t
  charged_push s [] t = append-nil (charged width s t)
  charged_push s (u ∷ ts) t =
      ap (λ xs. charged width s u ++ xs) (charged_push (after width s u) ts t)
      ∙ sym (append_assoc (charged width s u) (charged_all width (after width s u) ts)
      (charged width (after_all width (after width s u) ts) t))

  module _ (ts : List FloorTurn) (lawful : AreLawful width limits start ts)
      (none : (worker : ℕ) → worker < width → ahead_of (after_all width start ts) worker ≡ []) where
    last : SoFar width limits number kept (after width (after_all width start ts) Settle) (fed_all ts ++ [])
        (answered_all ts ++ [])
        (written_all width number kept start ts ++ written width number kept (after_all width start ts) Settle)
        (charged_all width start ts ++ charged width (after_all width start ts) Settle)
        (started_all width start ts ++ [])
    last = one_turn (after_all width start ts) (fed_all ts) (answered_all ts) (written_all width number kept start ts)
        (charged_all width start ts) (started_all width start ts) Settle (so_far ts lawful) tt

    -- the first of all are all
    all_first : take (mark width (after_all width start ts)) (after_all width start ts).fed ≡ fed_all ts
    all_first =
        let s = after_all width start ts in
        ap (λ n. take n s.fed) (all_back width s none) ∙ take-length s.fed ∙ (so_far ts lawful).day_is

    pub last_text : written_all width number kept start (ts ++ Settle ∷ [])
        ≡ out (merged (fed_all ts) (answered_all ts) number kept)
    last_text =
        let s = after_all width start ts in
        written_push start ts Settle ∙ last.text_is ∙ ap (λ d. out (merged d s.found number kept)) all_first
        ∙ ap (λ f. out (merged (fed_all ts) f number kept)) (so_far ts lawful).found_is

    pub last_charges : charged_all width start (ts ++ Settle ∷ []) ≡ charges_by (given (answered_all ts))
        (moments (fed_all ts))
    last_charges =
        let s = after_all width start ts in
        charged_push start ts Settle ∙ last.charges_are ∙ ap (λ d. charges_by (given s.found) (moments d)) all_first
        ∙ ap (λ f. charges_by (given f) (moments (fed_all ts))) (so_far ts lawful).found_is

    pub last_starts : (worker : ℕ) → worker < width →
        started_for worker (started_all width start ts) ≡ events_for (fed_all ts) worker width
    last_starts worker k =
        let h = so_far ts lawful in
        let s = after_all width start ts in
        started_whole width limits s (started_all width start ts) h.sound h.have worker k
        (right_empty (s.share worker).out (s.share worker).waiting (none worker k))
        ∙ ap (λ d. events_for d worker width) h.day_is
