-- a round of an import
use Rattle.std.proofs.Common.{◌≡◌, ℕ, zero, suc, ◌<◌, ◌≤◌, ⊎_elim, Bool, true, false, cond, List, [], ◌∷◌, ◌++◌, length}
use Rattle.std.proofs.Common.{take, map, refl, sym, ap, ◌∙◌, arith, subst}
use Rattle.std.specs.Prelude.{Option}
use Rattle.std.proofs.lemmas.Bool.{cases_eq}
use Rattle.road_time.specs.declared.road.Tuple.{Tuple}
use Rattle.road_time.specs.Day.{given, charges_by, charges_between, merged}
use Rattle.road_time.specs.Tolls.{StretchTold}
use Rattle.road_time.proofs.FindingLaws.{charges_same_between, told_agree}
use Rattle.road_time.specs.Text.{out as text_out}
use Rattle.road_time.specs.Sights.{moments}
use Rattle.road_time.specs.declared.day.Limits.{Limits}
use Rattle.ways_expressway.specs.Results.{AreFirst}
use Rattle.ways_expressway.specs.declared.job.Job.{Job}
use Rattle.ways_expressway.specs.declared.lane_event.LaneEvent.{LaneEvent}
use Rattle.ways_expressway.specs.declared.finding.Finding.{Finding}
use Rattle.ways_crews.specs.Told.{CrewTold}
use Rattle.day_floor.specs.Shares.{State, can_give}
use Rattle.day_floor.specs.Steps.{given_out, taken_back, after_give, after_back}
use Rattle.day_floor.specs.Written.{settled_text, settled_charges}
use Rattle.day_floor.specs.Sound.{SoundState}
use Rattle.day_floor.specs.Floors.{Setting}
use Rattle.day_floor.proofs.Workers.{for_worker, at_own, at_other}
use Rattle.day_floor.proofs.Marks.{all_back}
use Rattle.day_floor.proofs.Texts.{same_told, merged_same, charged_same, not_settled, long_first}
use Rattle.day_import.specs.Published.{settled_between}
use Rattle.day_import.specs.RoundRuns.{Runs, Stopped, CameBack, OnlyTakesBack, IsDone, after_feeds, given_all}
use Rattle.day_import.specs.RoundRuns.{ComesBack, ComeInOrder, HaveComeInOrder, after_backs}
use Rattle.day_import.specs.declared.begun.Import.{Import}
use Rattle.day_import.proofs.OpenLaws.{out_none}
use Rattle.day_import.proofs.FeedLaws.{fed_are, fed_settled, fed_found, fed_out, fed_first}
use Rattle.day_import.proofs.FinishRoundLaws.{listing_weaker}

-- a state is no earlier than itself, nor than one before one before it
pub later_same : (s : State) → OnlyTakesBack s s
later_same s =
    record {
      fed = refl;
      settled = refl;
      waiting = λ w. refl;
      text = λ d k. refl;
      charges = refl;
      between =
          λ a b. refl;
    }

-- those that came back later stand before those that came back first
backs_joined : (s : State) (late first : List (ℕ × List (ℕ × StretchTold))) →
    after_backs (after_backs s first) late ≡ after_backs s (late ++ first)
backs_joined s [] first = refl
backs_joined s (b ∷ late) first = ap (λ m. after_back m b.0 b.1) (backs_joined s late first)

-- and came in their order
order_joined : (s mid : State) (late first : List (ℕ × List (ℕ × StretchTold))) → mid ≡ after_backs s first →
    ComeInOrder mid late → ComeInOrder s first → ComeInOrder s (late ++ first)
order_joined s mid [] first is b a = a
order_joined s mid (x ∷ late) first is b a = (
  subst (λ m. ComesBack 0 m x) (ap (λ m. after_backs m late) is ∙ backs_joined s late first) b.0,
  order_joined s mid late first is b.1 a,
)

-- none came back, or more after some
pub none_came : (s : State) → HaveComeInOrder s s
none_came s = record { backs = []; is = refl; order = tt }

pub came_then : (s mid now : State) → HaveComeInOrder s mid → HaveComeInOrder mid now → HaveComeInOrder s now
came_then s mid now a b = record {
  backs = b.backs ++ a.backs;
  is = b.is ∙ (ap (λ m. after_backs m b.backs) a.is ∙ backs_joined s b.backs a.backs);
  order = order_joined s mid b.backs a.backs a.is b.order a.order;
}

-- the first of those that were out
pub came_first : (width : ℕ) (s now : State) → CameBack width 0 s now → HaveComeInOrder s now
came_first width s now came = record {
  backs = (came.worker, came.found) ∷ [];
  is = came.is;
  order = (record { placed = came.placed; found = came.can.shape }, tt);
}

pub later_then : (s mid now : State) → OnlyTakesBack s mid → OnlyTakesBack mid now → OnlyTakesBack s now
later_then s mid now a b = record {
  fed = b.fed ∙ a.fed;
  settled = b.settled ∙ a.settled;
  waiting = λ w. b.waiting w ∙ a.waiting w;
  text = λ d k. b.text d k ∙ a.text d k;
  charges = b.charges ∙ a.charges;
  between = λ n m. b.between n m ∙ a.between n m;
}

-- one that came back
pub came_later : (width place : ℕ) (limits : Limits) (s now : State) → SoundState width limits s →
    CameBack width place s now → OnlyTakesBack s now
came_later width place limits s now sound came =
    let low = not_settled width limits s came.worker came.job came.found sound came.can in
    let first = take s.settled s.fed in
    let long = long_first width limits s sound in
    subst (OnlyTakesBack s) (sym came.is) (record {
      fed = refl;
      settled = refl;
      waiting = λ w. for_worker (λ sh. sh.waiting ≡ (s.share w).waiting) came.worker w taken_back s.share
          (λ e. refl) refl;
      text = λ d k. ap text_out (merged_same s.found came.found s.settled low first long d k);
      charges = charged_same s.found came.found s.settled low first long;
      between =
          λ a b. sym
          (charges_same_between (given s.found) (given (s.found ++ came.found)) first
          (told_agree (given s.found) (given (s.found ++ came.found)) first
          (same_told s.found came.found s.settled low first long)) a b);
    })

-- a job is given where it may be
abbrev pub given_by : Bool → State → ℕ → State
given_by b s worker = cond b (after_give s worker) s

-- the text and the charges of what is settled are those of the same tuples and findings
pub text_same : (s now : State) → take now.settled now.fed ≡ take s.settled s.fed → now.found ≡ s.found →
    (d : ℕ) (k : ℕ → ℕ → ℕ → ℕ) → settled_text d k now ≡ settled_text d k s
text_same s now a b d k = ap (λ ts. text_out (merged ts now.found d k)) a
    ∙ ap (λ fs. text_out (merged (take s.settled s.fed) fs d k)) b

pub charges_same : (s now : State) → take now.settled now.fed ≡ take s.settled s.fed → now.found ≡ s.found →
    settled_charges now ≡ settled_charges s
charges_same s now a b = ap (λ ts. charges_by (given now.found) (moments ts)) a
    ∙ ap (λ fs. charges_by (given fs) (moments (take s.settled s.fed))) b

pub between_same : (s now : State) → take now.settled now.fed ≡ take s.settled s.fed → now.found ≡ s.found → (a b : ℕ) →
    settled_between now a b ≡ settled_between s a b
between_same s now first found a b = ap (λ ts. charges_between (given now.found) ts a b) first
    ∙ ap (λ fs. charges_between (given fs) (take s.settled s.fed) a b) found

-- giving feeds, settles and finds nothing
by_fed : (b : Bool) (s : State) (w : ℕ) → (given_by b s w).fed ≡ s.fed
by_fed true s w = refl
by_fed false s w = refl

by_settled : (b : Bool) (s : State) (w : ℕ) → (given_by b s w).settled ≡ s.settled
by_settled true s w = refl
by_settled false s w = refl

by_found : (b : Bool) (s : State) (w : ℕ) → (given_by b s w).found ≡ s.found
by_found true s w = refl
by_found false s w = refl

pub by_other : (b : Bool) (s : State) (w v : ℕ) → (v ≡ w → ⊥) → (given_by b s w).share v ≡ s.share v
by_other true s w v ne = at_other w v (given_out s.given) s.share ne
by_other false s w v ne = refl

pub by_own : (b : Bool) (s : State) (w : ℕ) → can_give (s.share w) ≡ b → (s.share w).out ≡ [] →
    ((given_by b s w).share w).waiting ≡ []
by_own true s w can none = ap (λ sh. sh.waiting) (at_own w (given_out s.given) s.share)
by_own false s w can none = nothing (s.share w).out (s.share w).waiting none can
  where
    nothing : (xs ys : List LaneEvent) → xs ≡ [] → can_give (record { back = []; out = xs; waiting = ys; number = 0 })
        ≡ false → ys ≡ []
    nothing [] [] h q = refl
    nothing [] (y ∷ ys) h q = cc
    nothing (x ∷ xs) ys h q = cc

pub given_fed : (s : State) (n : ℕ) → (given_all s n).fed ≡ s.fed
given_fed s zero = refl
given_fed s (suc n) = by_fed (can_give ((given_all s n).share n)) (given_all s n) n ∙ given_fed s n

pub given_settled : (s : State) (n : ℕ) → (given_all s n).settled ≡ s.settled
given_settled s zero = refl
given_settled s (suc n) = by_settled (can_give ((given_all s n).share n)) (given_all s n) n ∙ given_settled s n

pub given_found : (s : State) (n : ℕ) → (given_all s n).found ≡ s.found
given_found s zero = refl
given_found s (suc n) = by_found (can_give ((given_all s n).share n)) (given_all s n) n ∙ given_found s n

-- later workers' shares stay
given_later : (s : State) (n v : ℕ) → n ≤ v → (given_all s n).share v ≡ s.share v
given_later s zero v h = refl
given_later s (suc n) v h =
    by_other (can_give ((given_all s n).share n)) (given_all s n) n v (λ e. absurd (omega (arith, h, e)))
    ∙ given_later s n v (omega (arith, h))

-- and where none was out, no event waits then
pub given_waits : (s : State) (n : ℕ) → ((v : ℕ) → v < n → (s.share v).out ≡ []) → (v : ℕ) → v < n →
    ((given_all s n).share v).waiting ≡ []
given_waits s zero home v h = absurd (omega (arith, h))
given_waits s (suc n) home v h =
    let t = given_all s n in
    ⊎_elim
    (λ (e : v ≡ n). subst (λ w. ((given_all s (suc n)).share w).waiting ≡ []) (sym e)
    (by_own (can_give (t.share n)) t n refl
    (ap (λ sh. sh.out) (given_later s n n (omega arith)) ∙ home n (omega arith))))
    (λ ne. ap (λ sh. sh.waiting) (by_other (can_give (t.share n)) t n v ne)
    ∙ given_waits s n (λ u k. home u (omega (arith, k))) v (less v n h ne))
    (cases_eq v n)
  where
    less : (v n : ℕ) → v < suc n → (v ≡ n → ⊥) → v < n
    less v n h ne = omega (arith, h, ne)

-- an empty list has nothing before or after
none_mapped : {A B : Type 0} (f : A → B) (xs : List A) → map f xs ≡ [] → xs ≡ []
none_mapped f [] h = refl
none_mapped f (x ∷ xs) h = cc

module _ {S T : Type 0} (out : S → List ℕ) (number : T → ℕ) (holds : S → ℕ → Job → Type 0) (gave : S → T → Type 0)
    (exact : Bool) (jobs : S → Option CrewTold) (answers : S → Option (List Finding))
    (e : Setting) (told : Option CrewTold) (answered : Option (List Finding)) (run : Import T) (crew : S) (s : State)
    (h : Runs out number holds gave exact jobs answers e told answered run crew s) where
  -- without tickets no job is out
  pub all_home : run.tickets.items ≡ [] → (v : ℕ) → v < run.floor.inboxes.width → (s.share v).out ≡ []
  all_home none v k =
      let no : h.tasks ≡ [] = none_mapped (λ (t : T × Job). t.0) h.tasks (h.tickets ∙ none) in
      out_none s.share run.floor.inboxes.width
      (sym h.open'.count ∙ ap (λ ts. length (map (λ (t : T × Job). t.1) ts)) no) v k

  pub none_outs : run.tickets.items ≡ [] → s.outs ≡ []
  none_outs none =
      sym h.outs_are
      ∙ ap (map (λ (t : T × Job). t.1.worker)) (none_mapped (λ (t : T × Job). t.0) h.tasks (h.tickets ∙ none))

  -- after a refusal
  pub stopped_by : (now : Import T) → now.tickets.items ≡ run.tickets.items → (day : List Tuple) → AreFirst s.fed day →
      Stopped out number holds gave jobs told run.floor.inboxes.width run.floor.limits day now crew
  stopped_by now items day first = record {
    state = s;
    sound = h.stands.sound;
    first = first;
    tasks = h.tasks;
    tickets = h.tickets ∙ sym items;
    held = h.held;
    since = h.since;
    starts = h.starts;
    listing = listing_weaker told h.since (out crew) false (jobs crew) h.listing;
  }

  module _ (xs : List Tuple) (home : (v : ℕ) → v < run.floor.inboxes.width → (s.share v).out ≡ []) where
    abbrev w : ℕ
    w = run.floor.inboxes.width

    abbrev fed : State
    fed = after_feeds w s xs

    -- all that was fed is done, where all jobs that were given are back
    pub round_done : (now : State) → OnlyTakesBack (given_all fed w) now → HaveComeInOrder (given_all fed w) now →
        ((v : ℕ) → v < w → (now.share v).out ≡ []) → now.outs ≡ [] → IsDone w s xs now
    round_done now later came none no_outs =
        let t = given_all fed w in
        let first : take t.settled t.fed ≡ take s.settled s.fed = ap (λ n. take n t.fed) (given_settled fed w)
        ∙ (ap (take fed.settled) (given_fed fed w) ∙ fed_first w s xs h.stands.sound.settled) in
        let found : t.found ≡ s.found = given_found fed w ∙ fed_found w s xs in
        record {
          fed = later.fed ∙ (given_fed fed w ∙ fed_are w s xs);
          settled = later.settled ∙ (given_settled fed w ∙ fed_settled w s xs);
          text = λ d k. later.text d k ∙ text_same s t first found d k;
          charges = later.charges ∙ charges_same s t first found;
          between = λ a b. later.between a b ∙ between_same s t first found a b;
          done = all_back w now (λ v k.
              ap (λ es. es ++ (now.share v).waiting) (none v k)
              ∙ (later.waiting v ∙ given_waits fed w (λ u m. fed_out w s xs u ∙ home u m) v k));
          backs = came.backs;
          is = came.is;
          come = record { order = came.order; none = ap (λ m. m.outs) (sym came.is) ∙ no_outs };
        }
