-- What stays of the settled tuples when more is fed and more is found.
use Rattle.std.proofs.Common.{◌≡◌, ℕ, zero, suc, ◌+◌, ◌≤◌, ◌==◌, Bool, true, false, cond, List, [], ◌∷◌, ◌++◌, length}
use Rattle.std.proofs.Common.{take, drop, map, Option, Some, None, refl, sym, ap, subst, ◌∙◌, arith, append_assoc}
use Rattle.std.proofs.Common.{append-nil, length-append}
use Rattle.std.specs.List.{filter_map, AllByRecursion}
use Rattle.std.proofs.lemmas.Bool.{eqb-true}
use Rattle.std.proofs.lemmas.List.{length-take-le, drop_at, map-append, length-map}
use Rattle.std.proofs.Math.Seq.{drop-nil}
use Rattle.road_time.specs.declared.road.Tuple.{Tuple}
use Rattle.road_time.specs.declared.road.Tuple.TheVariants.{Report as ReportTuple, Balance as BalanceTuple}
use Rattle.road_time.specs.declared.road.Tuple.TheVariants.{Spent as SpentTuple, Travel}
use Rattle.road_time.specs.declared.road.Report as road
use Rattle.road_time.specs.declared.road.Notice.{Notice}
use Rattle.road_time.specs.declared.road.Notice.TheVariants.{Balance as BalanceNotice}
use Rattle.road_time.specs.Sights.{moments, moments_after, Sight, sights_of, previous}
use Rattle.road_time.specs.Stays.{is_told}
use Rattle.road_time.specs.Tolls.{StretchTold}
use Rattle.road_time.specs.Day.{told_if, told_sight, notices_of, sum_of, charges_to}
use Rattle.road_time.proofs.EachLaws.{joined}
use Rattle.road_time.proofs.FindingLaws.{AgreeAt, told_agree, charges_same}
use Rattle.road_time.proofs.SightLaws.{moments-append, moments_push, moments_take, length-moments, sights_of_push}
use Rattle.road_time.proofs.SightLaws.{sights_of_other}
use Rattle.day_floor.specs.Answers.{PaidHistory, AreNoticesAt, AreNotices}
use Rattle.day_floor.specs.SettlingBooks.{told_last, IsBook}
use Rattle.day_floor.specs.declared.settler.Settler.{Settler}
use Rattle.day_floor.specs.declared.due_slot.Slot.{Slot}
use Rattle.day_floor.specs.Slots.{slot_of}
use Rattle.day_floor.specs.SettlingRuns.{StandsFor, Waits}
use Rattle.day_floor.specs.Books.{Accounts}
use Rattle.day_floor.specs.Sums.{spent_by}

-- the tuples up to a run's end
pub up_to_run : (fed : List Tuple) (a count : ℕ) → a + count ≤ length fed →
    take a fed ++ take count (drop a fed) ≡ take (a + count) fed
up_to_run [] zero count h = ap (λ n. take n []) (none_first count)
  where
    none_first : (n : ℕ) → n ≡ 0 + n
    none_first n = omega arith
up_to_run [] (suc a) count h = absurd (omega arith)
up_to_run (x ∷ fed) zero count h = ap (λ n. take n (x ∷ fed)) (none_first count)
  where
    none_first : (n : ℕ) → n ≡ 0 + n
    none_first n = omega arith
up_to_run (x ∷ fed) (suc a) count h = let less : suc a + count ≡ suc (a + count) = omega arith in
    ap (λ ts. x ∷ ts) (up_to_run fed a count (omega arith)) ∙ ap (λ n. take n (x ∷ fed)) (sym less)

-- what lies behind a run
pub behind_run : (a count : ℕ) (fed : List Tuple) → drop count (drop a fed) ≡ drop (a + count) fed
behind_run zero count fed = ap (λ n. drop n fed) (none_first count)
  where
    none_first : (n : ℕ) → n ≡ 0 + n
    none_first n = omega arith
behind_run (suc a) count [] = drop-nil count ∙ sym (drop-nil (suc a + count))
behind_run (suc a) count (x ∷ fed) = let less : suc a + count ≡ suc (a + count) = omega arith in behind_run a count fed
    ∙ ap (λ n. drop n (x ∷ fed)) (sym less)

-- the moments of a run are those between its positions
pub run_between : (fed : List Tuple) (a count : ℕ) → a + count ≤ length fed →
    moments_after (take a fed) (take count (drop a fed)) ≡ drop a (take (a + count) (moments fed))
run_between fed a count h =
    let first : length (moments (take a fed)) ≡ a = length-moments [] (take a fed)
    ∙ length-take-le a fed (omega arith) in
    sym (ap (drop a)
    (moments_take (a + count) fed h
    ∙ (ap moments (sym (up_to_run fed a count h)) ∙ moments-append [] (take a fed) (take count (drop a fed))))
    ∙ drop_at (moments (take a fed)) (moments_after (take a fed) (take count (drop a fed))) a first)

module _ (f g : Sight → StretchTold) where
  told_when : (b : Bool) (s : Sight) → b ≡ true → told_if b s ≡ Some s
  told_when true s e = refl
  told_when false s e = let no : ⊥ = cc in absurd no

  last_step : (c : Bool) (before : List Tuple) (r : road.Report) (vid : ℕ) → (r.vid == vid) ≡ c →
      AgreeAt f g (before, ReportTuple r) → told_last f (sights_of before vid) ≡ told_last g (sights_of before vid) →
      told_last f (cond c ((length before, r) ∷ sights_of before vid) (sights_of before vid)) ≡ told_last g
      (cond c ((length before, r) ∷ sights_of before vid) (sights_of before vid))
  last_step false before r vid e at h = h
  last_step true before r vid e at h =
      newest (is_told (previous (sights_of before vid)) r) refl
    where
      newest : (b : Bool) → is_told (previous (sights_of before vid)) r ≡ b →
          cond b (Some (f (length before, r)).toll) (told_last f (sights_of before vid)) ≡ cond b
          (Some (g (length before, r)).toll) (told_last g (sights_of before vid))
      newest true is =
          ap (λ t. Some t.toll)
          (at (length before, r)
          (told_when (is_told (previous (sights_of before r.vid)) r) (length before, r)
          (ap (λ v. is_told (previous (sights_of before v)) r) (eqb-true r.vid vid e) ∙ is)))
      newest false is = h

  last_more : (before : List Tuple) (x : Tuple) → AgreeAt f g (before, x) →
      ((vid : ℕ) → told_last f (sights_of before vid) ≡ told_last g (sights_of before vid)) → (vid : ℕ) →
      told_last f (sights_of (before ++ x ∷ []) vid) ≡ told_last g (sights_of (before ++ x ∷ []) vid)
  last_more before (ReportTuple r) at h vid = ap (told_last f) (sights_of_push before r vid)
      ∙ (last_step (r.vid == vid) before r vid refl at (h vid) ∙ sym (ap (told_last g) (sights_of_push before r vid)))
  last_more before (BalanceTuple time v qid) at h vid = let same =
      sights_of_other before (BalanceTuple time v qid) vid refl in ap (told_last f) same
      ∙ (h vid ∙ sym (ap (told_last g) same))
  last_more before (SpentTuple time v xway qid day) at h vid = let same =
      sights_of_other before (SpentTuple time v xway qid day) vid refl in ap (told_last f) same
      ∙ (h vid ∙ sym (ap (told_last g) same))
  last_more before (Travel time) at h vid = let same = sights_of_other before (Travel time) vid refl in
      ap (told_last f) same ∙ (h vid ∙ sym (ap (told_last g) same))

  last_after : (before rest : List Tuple) → AllByRecursion (AgreeAt f g) (moments_after before rest) →
      ((vid : ℕ) → told_last f (sights_of before vid) ≡ told_last g (sights_of before vid)) → (vid : ℕ) →
      told_last f (sights_of (before ++ rest) vid) ≡ told_last g (sights_of (before ++ rest) vid)
  last_after before [] at h vid = ap (λ ts. told_last f (sights_of ts vid)) (append-nil before)
      ∙ (h vid ∙ sym (ap (λ ts. told_last g (sights_of ts vid)) (append-nil before)))
  last_after before (x ∷ xs) at h vid =
      let same = append_assoc before (x ∷ []) xs in
      ap (λ ts. told_last f (sights_of ts vid)) (sym same)
      ∙ (last_after (before ++ x ∷ []) xs at.1 (last_more before x at.0 h) vid
      ∙ ap (λ ts. told_last g (sights_of ts vid)) same)

  -- a book stands by findings that agree
  pub book_same : (b : Accounts) (before : List Tuple) → AllByRecursion (AgreeAt f g) (moments before) →
      IsBook b f before → IsBook b g before
  book_same b before at h = record {
    told = λ vid. h.told vid ∙ last_after [] before at (λ _. refl) vid;
    spent = h.spent ∙ ap spent_by (charges_same f g before at);
    made = h.made ∙ ap length (charges_same f g before at);
  }

  notices_at : (o : Option Sight) → ((s : Sight) → o ≡ Some s → f s ≡ g s) → notices_of f o ≡ notices_of g o
  notices_at None h = refl
  notices_at (Some s) h = ap (λ t. notices_of (λ _. t) (Some s)) (h s refl)

  same_at : (number : ℕ) (history : PaidHistory) (before : List Tuple) (x : Tuple) (ns : List Notice) →
      AllByRecursion (AgreeAt f g) (moments before) → AgreeAt f g (before, x) →
      AreNoticesAt f number history (before, x) ns → AreNoticesAt g number history (before, x) ns
  same_at number history before (ReportTuple r) ns all at h = h ∙ notices_at (told_sight (before, ReportTuple r)) at
  same_at number history before (BalanceTuple time vid qid) ns all at h =
      h ∙ ap (λ cs. BalanceNotice time qid (sum_of (charges_to vid cs)) ∷ []) (charges_same f g before all)
  same_at number history before (SpentTuple time vid xway qid day) ns all at h = h
  same_at number history before (Travel time) ns all at h = h

  -- so do notices
  pub notices_stay : (number : ℕ) (history : PaidHistory) (before rest : List Tuple) (ns : List Notice) →
      AllByRecursion (AgreeAt f g) (moments before) → AllByRecursion (AgreeAt f g) (moments_after before rest) →
      AreNotices f number history (moments_after before rest) ns →
      AreNotices g number history (moments_after before rest) ns
  notices_stay number history before [] ns all at h = h
  notices_stay number history before (x ∷ xs) ns all at h =
      let more : AllByRecursion (AgreeAt f g) (moments (before ++ x ∷ [])) =
      subst (AllByRecursion (AgreeAt f g)) (sym (moments_push before x))
      (joined (AgreeAt f g) (moments before) ((before, x) ∷ []) all (at.0, tt)) in (
        h.0,
        h.1,
        h.2,
        same_at number history before x h.0 all at.0 h.3,
        notices_stay number history
            (before ++ x ∷ []) xs h.1 more at.1 h.4,
      )

-- a settler stands by findings that are the same where its tuples are told
pub stands_by : (s : Settler) (finding other : Sight → StretchTold) (number : ℕ) (history : PaidHistory)
    (before : List Tuple) → AllByRecursion (λ t. finding t ≡ other t) (filter_map told_sight (moments before)) →
    StandsFor s finding number history before → StandsFor s other number history before
stands_by s finding other number history before same h =
    let at = told_agree finding other before same in
    record {
      settled = h.settled;
      book = book_same finding other s.book before at h.book;
      told = h.told;
      told_are = notices_stay finding other number history [] before h.told tt at h.told_are;
      count = h.count;
      took = h.took;
      none_held = h.none_held;
      none_charged = h.none_charged;
    }

-- a slot more waits when a tuple more is fed
pub waits_fed : (slots : List Slot) (finding : Sight → StretchTold) (before rest : List Tuple) (x : Tuple) →
    Waits slots finding before rest → length before + length rest + 1 ≤ 16000000 →
    Waits (slots ++ slot_of finding (before ++ rest, x) ∷ []) finding before (rest ++ x ∷ [])
waits_fed slots finding before rest x h short =
    let size = length-append rest (x ∷ []) in
    record {
      slots_are = ap (λ ss. ss ++ slot_of finding (before ++ rest, x) ∷ []) h.slots_are
          ∙ (sym (map-append (slot_of finding) (moments_after before rest) ((before ++ rest, x) ∷ []))
          ∙ ap (map (slot_of finding)) (sym (moments-append before rest (x ∷ []))));
      few_tolls = h.few_tolls;
      few = omega arith;
    }

-- as many slots wait as tuples
pub waits_long : (slots : List Slot) (finding : Sight → StretchTold) (before rest : List Tuple) →
    Waits slots finding before rest → length slots ≡ length rest
waits_long slots finding before rest h = ap length h.slots_are
    ∙ (length-map (moments_after before rest) (slot_of finding) ∙ length-moments before rest)
