-- Findings that are given one toll keep the shape of a result.
use Rattle.std.proofs.Common.{◌≡◌, ◌≤◌, ℕ, ◌+◌, ◌<◌, true, List, [], ◌∷◌, ◌++◌, length, take, drop, refl, sym, ◌∙◌, ap}
use Rattle.std.proofs.Common.{subst, arith, get_or, rules, ◌==◌}
use Rattle.std.specs.Prelude.{All, OnOk, OnErr, slice_set}
use Rattle.std.proofs.lemmas.List.{take_more, drop_more, set_at, map-append, length-map, length-take-le, get_or_at}
use Rattle.std.proofs.lemmas.List.{append_assoc}
use Rattle.std.proofs.lemmas.List.Elements.{All-map, All-weaker}
use Rattle.road_time.specs.declared.tariff.TheConstants.{GREATEST_TOLL}
use Rattle.ways_expressway.specs.declared.finding.Finding.{Finding}
use Rattle.ways_expressway.specs.declared.lane_event.LaneEvent.{LaneEvent}
use Rattle.ways_expressway.specs.declared.job.Job.{Job}
use Rattle.ways_expressway.specs.declared.job.Done.{Done}
use Rattle.ways_expressway.specs.Ready.{IsReady}
use Rattle.ways_expressway.specs.Results.{IsResultOf, IsResultShaped, IsPossible, AreFirst, positions, positions_for}
use Rattle.ways_expressway.proofs.ShapeLaws.{shaped}
use Rattle.ways_crews.specs.declared.places.TicketEntry.{TicketEntry}
use Rattle.ways_crews.specs.declared.places.TicketEntry.TheVariants.{Ran, Waits, Unlisted}
use Rattle.ways_crews.specs.Marks.{marked, with_toll, have_toll, HasToll}

-- a toll leaves the positions
pub same_positions : (toll : ℕ) (fs : List Finding) → positions (marked toll fs) ≡ positions fs
same_positions toll [] = refl
same_positions toll (f ∷ fs) = ap (λ ps. f.position ∷ ps) (same_positions toll fs)

-- and what could be
pub still_possible : (toll : ℕ) → toll ≤ GREATEST_TOLL → (fs : List Finding) → All IsPossible fs →
    All IsPossible (marked toll fs)
still_possible toll small fs all =
    All-map IsPossible (with_toll toll) fs
    (All-weaker IsPossible (λ f. IsPossible (with_toll toll f))
    (λ f p. record { lav = p.lav; toll = small; alert = p.alert }) fs all)

-- a result with another toll in each finding has the shape of it
pub marked_shape : (toll : ℕ) → toll ≤ GREATEST_TOLL → (job : Job) (done : Done) → IsResultOf job done →
    IsResultShaped job (record done { findings = marked toll done.findings })
marked_shape toll small job done is =
    let s = shaped job done is in
    record {
      back = record {
        worker = s.back.worker;
        number = s.back.number;
        tariffs = s.back.tariffs;
        carried =
            s.back.carried;
      };
      found = subst
          (λ ps. OnOk done.result ((before : List LaneEvent) → IsReady job.carriage before job.events →
          ps ≡ positions_for before job)) (sym (same_positions toll done.findings)) s.found;
      first = subst
          (λ ps. OnErr done.result ((before : List LaneEvent) → IsReady job.carriage before job.events →
          AreFirst ps (positions_for before job))) (sym (same_positions toll done.findings)) s.first;
      possible = λ before ready. still_possible toll small done.findings (s.possible before ready);
    }

-- one toll more was set
pub one_set : (toll : ℕ) (all now : List Finding) (at : ℕ) (d : Finding) → at < length all →
    now ≡ marked toll (take at all) ++ drop at all →
    slice_set now at (with_toll toll (get_or now at d)) ≡ marked toll (take (at + 1) all) ++ drop (at + 1) all
one_set toll all now at d within so =
    let front = marked toll (take at all) in
    let f = get_or all at d in
    let rest = drop (at + 1) all in
    let long : length front ≡ at = length-map (take at all) (with_toll toll) ∙ length-take-le at all (omega arith) in
    let split : now ≡ front ++ f ∷ rest = so ∙ ap (λ xs. front ++ xs) (drop_more all at d within) in
    let read : get_or now at d ≡ f = ap (λ xs. get_or xs at d) split ∙ get_or_at front f rest d at long in
    let grown : marked toll (take (at + 1) all) ≡ front ++ with_toll toll f ∷ [] =
    ap (λ xs. marked toll xs) (take_more all at d within) ∙ map-append (with_toll toll) (take at all) (f ∷ []) in
    let written : slice_set now at (with_toll toll f) ≡ front ++ with_toll toll f ∷ rest =
    ap (λ xs. slice_set xs at (with_toll toll f)) split ∙ set_at front f rest (with_toll toll f) at long in
    ap (λ x. slice_set now at (with_toll toll x)) read ∙ written ∙ sym (append_assoc front (with_toll toll f ∷ []) rest)
    ∙ ap (λ xs. xs ++ rest) (sym grown)

-- an entry of a job that has run has what was done of it
pub it_ran : (toll : ℕ) (entry : TicketEntry) → HasToll toll entry → ((done : Done) → entry ≡ Ran done → ⊥) → ⊥
it_ran toll (Ran done) ran none = none done refl
it_ran toll (Waits job) ran none = absurd ran
it_ran toll (Unlisted job) ran none = absurd ran

-- marked findings have the toll
pub marked_toll : (toll : ℕ) (fs : List Finding) → have_toll toll (marked toll fs) ≡ true
marked_toll toll [] = refl
marked_toll toll (f ∷ fs) = let same : (toll == toll) ≡ true = search rules in rw same (marked_toll toll fs)
