-- the jobs that were started
use Rattle.std.proofs.Common.{◌≡◌, ℕ, ◌+◌, ◌≤◌, ◌<◌, ◌==◌, ⊎_elim, true, cond, List, [], ◌∷◌, ◌++◌, length, refl, sym}
use Rattle.std.proofs.Common.{ap, ◌∙◌, arith}
use Rattle.std.specs.List.{AllByRecursion, filter, flat_map}
use Rattle.std.proofs.lemmas.List.{append_assoc, append-nil, length_push}
use Rattle.std.proofs.lemmas.List.Elements.{filter-append}
use Rattle.std.proofs.lemmas.List.Concat.{flat_map-append}
use Rattle.std.proofs.lemmas.Bool.{cases_eq, eq-eqb, ne_eqb}
use Rattle.road_time.specs.declared.day.Limits.{Limits}
use Rattle.road_time.specs.Tolls.{StretchTold}
use Rattle.road_time.proofs.EachLaws.{joined, weakened, right_part}
use Rattle.ways_expressway.specs.declared.lane_event.LaneEvent.{LaneEvent}
use Rattle.ways_expressway.specs.Events.{position_told, events_for}
use Rattle.ways_expressway.specs.Results.{AreFirst}
use Rattle.day_floor.specs.Shares.{State, JobStart, can_give}
use Rattle.day_floor.specs.Steps.{at_worker, given_out, taken_back, after_give, after_back}
use Rattle.day_floor.specs.Sound.{SoundState}
use Rattle.day_floor.specs.Starts.{next_start, started_for, AreNumbered, IsStart, HaveStarted}
use Rattle.day_floor.proofs.Workers.{for_worker, nothing_out, some_wait, at_own, at_other}
use Rattle.day_floor.proofs.Events.{all_ahead, all_below}

-- one job more has the next number
numbered_push : (n : ℕ) (js : List JobStart) (j : JobStart) → AreNumbered n js → j.number ≡ n + length js →
    AreNumbered n (js ++ j ∷ [])
numbered_push n [] j h e = (omega (arith, e), tt)
numbered_push n (k ∷ js) j h e = (h.0, numbered_push (n + 1) js j h.1 (omega (arith, e)))

-- one job more for a worker, or for another
started_push : (worker : ℕ) (js : List JobStart) (j : JobStart) →
    started_for worker (js ++ j ∷ []) ≡ started_for worker js ++ started_for worker (j ∷ [])
started_push worker js j =
    ap (flat_map (λ k. k.events)) (filter-append (λ k. k.worker == worker) js (j ∷ []))
    ∙ flat_map-append (λ k. k.events) (filter (λ k. k.worker == worker) js)
    (filter (λ k. k.worker == worker) (j ∷ []))

started_own : (worker : ℕ) (j : JobStart) → j.worker ≡ worker → started_for worker (j ∷ []) ≡ j.events
started_own worker j e = ap (λ b. flat_map (λ k. k.events) (cond b (j ∷ []) [])) (eq-eqb j.worker worker e)
    ∙ append-nil j.events

started_other : (worker : ℕ) (j : JobStart) → (j.worker ≡ worker → ⊥) → started_for worker (j ∷ []) ≡ []
started_other worker j ne = ap (λ b. flat_map (λ k. k.events) (cond b (j ∷ []) [])) (ne_eqb j.worker worker ne)

-- events of a range of positions differ by less than its length
all_near : (low backlog : ℕ) (all es : List LaneEvent) → AllByRecursion (λ f. position_told f < low + backlog) all →
    AllByRecursion (λ e. low ≤ position_told e) es →
    AllByRecursion (λ e. AllByRecursion (λ f. position_told f < position_told e + backlog) all) es
all_near low backlog all es h g =
    weakened (λ e. low ≤ position_told e) (λ e. AllByRecursion (λ f. position_told f < position_told e + backlog) all)
    (λ e more. weakened (λ f. position_told f < low + backlog) (λ f. position_told f < position_told e + backlog)
    (λ f less. omega (arith, less, more)) all h) es g

module _ (width : ℕ) (limits : Limits) (s : State) (starts : List JobStart) (sound : SoundState width limits s)
    (have : HaveStarted width limits.backlog s starts) where
  pub starts_give : (worker : ℕ) → worker < width → can_give (s.share worker) ≡ true →
      HaveStarted width limits.backlog (after_give s worker) (starts ++ next_start s worker ∷ [])
  starts_give worker within can =
      let sh = s.share worker in
      let below =
      right_part (λ e. position_told e < length s.fed) sh.out sh.waiting
      (all_below width limits s sound worker within) in
      let ahead_all =
      right_part (λ e. s.settled ≤ position_told e) sh.out sh.waiting
      (all_ahead width limits s sound worker within) in
      record {
        are = ap (λ js. js ++ next_start s worker ∷ []) have.are;
        count = length_push starts (next_start s worker) ∙ ap (λ n. n + 1) have.count;
        numbered = numbered_push 0 starts (next_start s worker) have.numbered (let c = have.count in omega (arith, c));
        each = joined (IsStart limits.backlog) starts (next_start s worker ∷ []) have.each (
          record {
            some = some_wait sh can;
            near = all_near s.settled limits.backlog sh.waiting sh.waiting
                (weakened (λ e. position_told e < length s.fed) (λ e. position_told e < s.settled + limits.backlog)
                (λ e less. let most = sound.pending in omega (arith, less, most)) sh.waiting below) ahead_all;
          },
          tt,
        );
        whole = λ w k. started_push w starts (next_start s worker)
            ∙ ap (λ es. es ++ started_for w (next_start s worker ∷ [])) (have.whole w k) ∙
            ⊎_elim
            (λ e. own w e can
            ∙ ap (λ x. x.back ++ x.out)
            (sym (ap (at_worker worker (given_out s.given) s.share) e ∙ at_own worker (given_out s.given) s.share)))
            (λ ne. ap (λ es. ((s.share w).back ++ (s.share w).out) ++ es)
            (started_other w (next_start s worker) (λ e. absurd (ne (sym e))))
            ∙ append-nil ((s.share w).back ++ (s.share w).out)
            ∙ ap (λ x. x.back ++ x.out) (sym (at_other worker w (given_out s.given) s.share ne)))
            (cases_eq w worker);
      }
    where
      own : (w : ℕ) → w ≡ worker → can_give (s.share worker) ≡ true →
          ((s.share w).back ++ (s.share w).out) ++ started_for w (next_start s worker ∷ []) ≡ (s.share worker).back
          ++ (s.share worker).waiting
      own w e can =
          ap (λ v. ((s.share v).back ++ (s.share v).out) ++ started_for v (next_start s worker ∷ [])) e
          ∙ ap (λ es. ((s.share worker).back ++ (s.share worker).out) ++ es)
          (started_own worker (next_start s worker) refl)
          ∙ ap (λ es. ((s.share worker).back ++ es) ++ (s.share worker).waiting) (nothing_out (s.share worker) can)
          ∙ ap (λ es. es ++ (s.share worker).waiting) (append-nil (s.share worker).back)

  pub starts_back : (worker : ℕ) (findings : List (ℕ × StretchTold)) →
      HaveStarted width limits.backlog (after_back s worker findings) starts
  starts_back worker findings = record {
    are = have.are;
    count = have.count;
    numbered = have.numbered;
    each = have.each;
    whole = λ w k. for_worker (λ sh. started_for w starts ≡ sh.back ++ sh.out) worker w taken_back s.share
        (λ e. have.whole w k ∙ sym (append-nil ((s.share w).back ++ (s.share w).out))) (have.whole w k);
  }

  pub started_first : (worker : ℕ) → worker < width →
      AreFirst (started_for worker starts) (events_for s.fed worker width)
  started_first worker k =
      let sh = s.share worker in (
        sh.waiting,
        sound.parts.whole worker k ∙ sym (append_assoc sh.back sh.out sh.waiting)
            ∙ ap (λ es. es ++ sh.waiting) (sym (have.whole worker k)),
      )

  pub started_whole : (worker : ℕ) → worker < width → (s.share worker).waiting ≡ [] →
      started_for worker starts ≡ events_for s.fed worker width
  started_whole worker k none =
      let sh = s.share worker in
      have.whole worker k ∙ ap (λ es. sh.back ++ es) (sym (append-nil sh.out) ∙ ap (λ es. sh.out ++ es) (sym none))
      ∙ sym (sound.parts.whole worker k)
