-- each step keeps a state sound
use Rattle.std.proofs.Common.{◌≡◌, ℕ, zero, suc, ◌+◌, ◌<◌, ◌≤◌, List, [], ◌++◌, length, map, true, false, refl, arith}
use Rattle.std.proofs.Common.{ap, sym, ◌∙◌, subst}
use Rattle.std.specs.List.{flat_map, range_with_len}
use Rattle.std.proofs.lemmas.List.{append_assoc, append-nil, length_push}
use Rattle.road_time.specs.declared.road.Tuple.{Tuple}
use Rattle.road_time.specs.declared.day.Limits.{Limits}
use Rattle.road_time.specs.Fits.{Fit}
use Rattle.road_time.specs.Rates.{Tariffs}
use Rattle.road_time.specs.Tolls.{StretchTold}
use Rattle.road_time.proofs.EachLaws.{joined, right_part}
use Rattle.ways_expressway.specs.Events.{events_at, events_for, told_to, position_told}
use Rattle.ways_expressway.specs.Findings.{findings, found_at}
use Rattle.ways_expressway.specs.Laws.{IsFrom}
use Rattle.ways_expressway.proofs.RunLaws.{events_for_push}
use Rattle.day_floor.specs.Shares.{State, start, events_ahead, back_of, is_empty, can_give, waiting_at, mark}
use Rattle.day_floor.specs.Steps.{given_out, taken_back, after_feed, after_give, after_back, after_settle}
use Rattle.day_floor.specs.Sound.{CouldBe, CanFeed, CanBack, SoundState}
use Rattle.day_floor.proofs.Workers.{for_worker, nothing_out}
use Rattle.day_floor.proofs.Givens.{positions_then, positions_same}
use Rattle.day_floor.proofs.Marks.{is_mark, from_less}
use Rattle.day_floor.proofs.Waiting.{waiting_fed, waiting_given, waiting_back}
use Rattle.day_floor.proofs.Events.{its_position, from_more, from_all, all_ahead}

pub sound_feed : (width : ℕ) (limits : Limits) (s : State) (x : Tuple) → SoundState width limits s → CanFeed limits s x
    → SoundState width limits (after_feed width s x)
sound_feed width limits s x h can =
    let len = length_push s.fed x in
    record {
      fit = can.fit;
      settled = omega (arith, len, h.settled);
      pending = omega (arith, len, can.room);
      parts = record {
        whole = λ w k.
            let sh = s.share w in
            let new = told_to w width (events_at (s.fed, x)) in
            events_for_push w width s.fed x ∙ ap (λ es. es ++ new) (h.parts.whole w k)
            ∙ append_assoc sh.back (sh.out ++ sh.waiting) new
            ∙ ap (λ es. sh.back ++ es) (append_assoc sh.out sh.waiting new);
        next = λ w k.
            let sh = s.share w in
            let new = told_to w width (events_at (s.fed, x)) in
            subst (IsFrom s.settled) (append_assoc sh.out sh.waiting new)
            (from_more s.settled (length s.fed) (events_ahead sh) new h.settled (h.parts.next w k)
            (its_position s.fed x w width));
      };
      positions = h.positions;
      could = h.could;
      jobs = let two = waiting_fed s.fed x s.share width width in omega (arith, len, two, h.jobs);
      numbers = h.numbers;
    }

pub sound_give : (width : ℕ) (limits : Limits) (s : State) (worker : ℕ) → SoundState width limits s → worker < width →
    can_give (s.share worker) ≡ true → SoundState width limits (after_give s worker)
sound_give width limits s worker h k can =
    record {
      fit = h.fit;
      settled = h.settled;
      pending = h.pending;
      parts = record {
        whole = λ w l. for_worker (λ sh. events_for s.fed w width ≡ sh.back ++ events_ahead sh) worker w
            (given_out s.given) s.share (λ e. h.parts.whole w l ∙ ap (λ es. (s.share w).back ++ es) (moved w e))
            (h.parts.whole w l);
        next = λ w l. for_worker (λ sh. IsFrom s.settled (events_ahead sh)) worker w (given_out s.given) s.share
            (λ e. subst (IsFrom s.settled) (moved w e) (h.parts.next w l)) (h.parts.next w l);
      };
      positions = λ tariffs. positions_same tariffs width (back_of s) (back_of (after_give s worker)) s.found
          (λ w. for_worker (λ sh. sh.back ≡ (s.share w).back) worker w (given_out s.given) s.share (λ e. refl) refl)
          (h.positions tariffs);
      could = h.could;
      jobs = let less = waiting_given worker s.given s.share width k can in omega (arith, less, h.jobs);
      numbers = λ w l. for_worker (λ sh. is_empty sh.out ≡ false → sh.number < s.given + 1) worker w
          (given_out s.given) s.share (λ e some. omega arith)
          (λ some. let less = h.numbers w l some in omega (arith, less));
    }
  where
    moved : (w : ℕ) → w ≡ worker → events_ahead (s.share w) ≡ (s.share w).waiting ++ []
    moved w e = ap (λ es. es ++ (s.share w).waiting) (ap (λ v. (s.share v).out) e ∙ nothing_out (s.share worker) can)
        ∙ sym (append-nil (s.share w).waiting)

pub sound_back : (width : ℕ) (limits : Limits) (s : State) (worker number : ℕ) (fs : List (ℕ × StretchTold)) →
    SoundState width limits s → CanBack width s worker number fs → SoundState width limits (after_back s worker fs)
sound_back width limits s worker number fs h can =
    record {
      fit = h.fit;
      settled = h.settled;
      pending = h.pending;
      parts = record {
        whole = λ w l.
            for_worker (λ sh. events_for s.fed w width ≡ sh.back ++ events_ahead sh) worker w taken_back s.share
            (λ e. h.parts.whole w l ∙ sym (append_assoc (s.share w).back (s.share w).out (s.share w).waiting))
            (h.parts.whole w l);
        next = λ w l. for_worker (λ sh. IsFrom s.settled (events_ahead sh)) worker w taken_back s.share
            (λ e. from_all s.settled (s.share w).waiting
            (right_part (λ v. s.settled ≤ position_told v) (s.share w).out (s.share w).waiting
            (all_ahead width limits s h w l))) (h.parts.next w l);
      };
      positions = λ tariffs. positions_then tariffs width limits s h worker can.within fs can.shape
          (h.positions tariffs);
      could = joined CouldBe s.found fs h.could can.could;
      jobs = let same = waiting_back worker s.share width in omega (arith, same, h.jobs);
      numbers = λ w l. for_worker (λ sh. is_empty sh.out ≡ false → sh.number < s.given) worker w taken_back s.share
          (λ e some. absurd (none some)) (h.numbers w l);
    }
  where
    none : is_empty [] ≡ false → ⊥
    none q = cc

pub sound_settle : (width : ℕ) (limits : Limits) (s : State) (n : ℕ) → SoundState width limits s → s.settled ≤ n →
    n ≤ mark width s → SoundState width limits (after_settle s n)
sound_settle width limits s n h low le =
    let is = is_mark width s in
    record {
      fit = h.fit;
      settled = omega (arith, le, is.within);
      pending = omega (arith, low, h.pending);
      parts = record {
        whole = h.parts.whole;
        next = λ w k. from_less n (mark width s) (events_ahead (s.share w)) le (is.next w k);
      };
      positions = h.positions;
      could = h.could;
      jobs = h.jobs;
      numbers = h.numbers;
    }

-- nothing is found of nothing
pub nothing_found : (tariffs : Tariffs) (p a k : ℕ) →
    found_at p (flat_map (λ w. findings [] [] tariffs) (range_with_len a k)) ≡ []
nothing_found tariffs p a zero = refl
nothing_found tariffs p a (suc k) = nothing_found tariffs p (a + 1) k

none_wait : (n : ℕ) → waiting_at start.share n ≡ 0
none_wait zero = refl
none_wait (suc n) = let rest = none_wait n in omega (arith, rest)

-- a day of nothing
pub fit_none : (limits : Limits) → Fit [] limits
fit_none limits =
    record {
      valid = λ k d h. absurd (omega (arith, h));
      lines = omega arith;
      in_order = tt;
      vehicles =
          omega arith;
      rare = λ v m. omega arith;
    }

pub sound_start : (width : ℕ) (limits : Limits) → SoundState width limits start
sound_start width limits = record {
  fit = fit_none limits;
  settled = omega arith;
  pending = omega arith;
  parts = record { whole = λ w k. refl; next = λ w k. tt };
  positions = λ tariffs p. ap (map (λ f. f.0)) (sym (nothing_found tariffs p 0 width));
  could = tt;
  jobs = let none = none_wait width in omega (arith, none);
  numbers = λ w k some. absurd (no some);
}
  where
    no : is_empty [] ≡ false → ⊥
    no q = cc
