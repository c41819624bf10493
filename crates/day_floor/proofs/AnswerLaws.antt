-- What is told and answered.
use Rattle.std.proofs.Common.{◌≡◌, ℕ, ◌-◌, ◌*◌, ◌≤◌, Bool, true, false, List, [], ◌∷◌, ◌++◌, length, Option, Some, None}
use Rattle.std.proofs.Common.{refl, sym, ap, subst, ◌∙◌, arith, append_assoc, append-nil, length-append}
use Rattle.road_time.specs.declared.road.Tuple.{Tuple}
use Rattle.road_time.specs.declared.road.Tuple.TheVariants.{Report as ReportTuple, Balance as BalanceTuple}
use Rattle.road_time.specs.declared.road.Tuple.TheVariants.{Spent as SpentTuple, Travel}
use Rattle.road_time.specs.declared.road.Report.{Report}
use Rattle.road_time.specs.declared.road.Notice.{Notice}
use Rattle.road_time.specs.declared.road.Notice.TheVariants.{Toll as TollNotice, Balance as BalanceNotice}
use Rattle.road_time.specs.declared.road.Notice.TheVariants.{Spent as SpentNotice}
use Rattle.road_time.specs.Sights.{Moment, Sight, sights_of, previous}
use Rattle.road_time.specs.Stays.{is_told}
use Rattle.road_time.specs.Tolls.{StretchTold}
use Rattle.road_time.specs.Day.{told_if, told_by, told_sight, notices_of, alert_of, answer_by, notices_by, balance_by}
use Rattle.day_floor.specs.Sums.{account_in}
use Rattle.day_floor.specs.Books.{Accounts}
use Rattle.day_floor.specs.Slots.{slot_of, found_of}
use Rattle.day_floor.specs.Answers.{PaidHistory, IsPaid, AreNoticesAt, AreNotices, alert_to, told_notices, IsSaid}

-- each history allows some amount
pub some_paid : (history : PaidHistory) (day vid xway : ℕ) → (amount : ℕ) × IsPaid history day vid xway amount
some_paid None day vid xway = (0, tt)
some_paid (Some kept) day vid xway = (kept day vid xway, refl)

-- an alert is the same by both words
alert_same : (r : Report) (alert : Option ℕ) → alert_to r.time r.vid alert ≡ alert_of r alert
alert_same r None = refl
alert_same r (Some seg) = refl

-- what a report is told is the same by both words
told_same : (b : Bool) (finding : Sight → StretchTold) (s : Sight) →
    told_notices b s.1.time s.1.vid (found_of (finding s)) ≡ notices_of finding (told_if b s)
told_same false finding s = refl
told_same true finding s = ap (λ ns. ns ++ TollNotice s.1.vid s.1.time (finding s).lav (finding s).toll ∷ [])
    (alert_same s.1 (finding s).alert)

module _ (finding : Sight → StretchTold) (number : ℕ) (history : PaidHistory) where
  -- what a slot says is what its moment has
  pub said_is : (before : List Tuple) (x : Tuple) (b : Accounts) (ns : List Notice) →
      ((vid : ℕ) → account_in b.spent vid ≡ balance_by finding vid before) →
      IsSaid history number (slot_of finding (before, x)).due (slot_of finding (before, x)).found b ns →
      AreNoticesAt finding number history (before, x) ns
  said_is before (ReportTuple r) b ns same h =
      h ∙ told_same (is_told (previous (sights_of before r.vid)) r) finding (length before, r)
  said_is before (BalanceTuple time vid qid) b ns same h = h ∙ ap (λ n. BalanceNotice time qid n ∷ []) (same vid)
  said_is before (SpentTuple time vid xway qid day) b ns same h = h
  said_is before (Travel time) b ns same h = h

  -- notices of some moments, and those of later ones
  pub notices_both : (ms later : List Moment) (ns more : List Notice) → AreNotices finding number history ms ns →
      AreNotices finding number history later more → AreNotices finding number history (ms ++ later) (ns ++ more)
  notices_both [] later ns more h k = subst (AreNotices finding number history later) (ap (λ t. t ++ more) (sym h)) k
  notices_both (m ∷ ms) later ns more h k =
      (h.0, h.1 ++ more, ap (λ t. t ++ more) h.2 ∙ append_assoc h.0 h.1 more, h.3, notices_both ms later h.1 more h.4 k)

  -- those of one moment
  pub notices_one : (m : Moment) (ns : List Notice) → AreNoticesAt finding number history m ns →
      AreNotices finding number history (m ∷ []) ns
  notices_one m ns h = (ns, [], sym (append-nil ns), h, refl)

  -- each moment has some notices
  some_at : (m : Moment) → (ns : List Notice) × AreNoticesAt finding number history m ns
  some_at (before, ReportTuple r) = (told_by finding (before, ReportTuple r), refl)
  some_at (before, BalanceTuple time vid qid) = (BalanceNotice time qid (balance_by finding vid before) ∷ [], refl)
  some_at (before, SpentTuple time vid xway qid day) =
      let amount = some_paid history (number - day) vid xway in
      (SpentNotice time qid amount.0 ∷ [], (amount.0, amount.1, refl))
  some_at (before, Travel time) = ([], refl)

  -- and so have some moments
  pub some_notices : (ms : List Moment) → (ns : List Notice) × AreNotices finding number history ms ns
  some_notices [] = ([], refl)
  some_notices (m ∷ ms) =
      let first = some_at m in
      let later = some_notices ms in
      (first.0 ++ later.0, (first.0, later.0, refl, first.1, later.1))

  few_told : (o : Option Sight) → length (notices_of finding o) ≤ 2
  few_told None = omega arith
  few_told (Some s) = few_by s (finding s).alert
    where
      few_by : (s : Sight) (alert : Option ℕ) →
          length (alert_of s.1 alert ++ TollNotice s.1.vid s.1.time (finding s).lav (finding s).toll ∷ []) ≤ 2
      few_by s None = omega arith
      few_by s (Some seg) = omega arith

  few_at : (m : Moment) (ns : List Notice) → AreNoticesAt finding number history m ns → length ns ≤ 2
  few_at (before, ReportTuple r) ns h =
      subst (λ t. length t ≤ 2) (sym h) (few_told (told_sight (before, ReportTuple r)))
  few_at (before, BalanceTuple time vid qid) ns h = subst (λ t. length t ≤ 2) (sym h) (omega arith)
  few_at (before, SpentTuple time vid xway qid day) ns h = subst (λ t. length t ≤ 2) (sym h.2) (omega arith)
  few_at (before, Travel time) ns h = subst (λ t. length t ≤ 2) (sym h) (omega arith)

  -- at most two a moment
  pub notices_few : (ms : List Moment) (ns : List Notice) → AreNotices finding number history ms ns →
      length ns ≤ 2 * length ms
  notices_few [] ns h = subst (λ t. length t ≤ 0) (sym h) (omega arith)
  notices_few (m ∷ ms) ns h =
      let first = few_at m h.0 h.3 in
      let later = notices_few ms h.1 h.4 in
      let size = ap length h.2 in
      let both = length-append h.0 h.1 in
      omega arith

-- where the history is told, the notices are those of the definitions
module _ (finding : Sight → StretchTold) (number : ℕ) (kept : ℕ → ℕ → ℕ → ℕ) where
  exact_at : (m : Moment) (ns : List Notice) → AreNoticesAt finding number (Some kept) m ns →
      ns ≡ told_by finding m ++ answer_by finding number kept m
  exact_at (before, ReportTuple r) ns h = h ∙ sym (append-nil (told_by finding (before, ReportTuple r)))
  exact_at (before, BalanceTuple time vid qid) ns h = h
  exact_at (before, SpentTuple time vid xway qid day) ns h = h.2 ∙ ap (λ n. SpentNotice time qid n ∷ []) h.1
  exact_at (before, Travel time) ns h = h

  pub notices_exact : (ms : List Moment) (ns : List Notice) → AreNotices finding number (Some kept) ms ns →
      ns ≡ notices_by finding number kept ms
  notices_exact [] ns h = h
  notices_exact (m ∷ ms) ns h =
      h.2 ∙ (ap (λ t. t ++ h.1) (exact_at m h.0 h.3)
      ∙ ap (λ t. (told_by finding m ++ answer_by finding number kept m) ++ t) (notices_exact ms h.1 h.4))
