-- The book of the tuples that are settled.
use Rattle.std.proofs.Common.{◌≡◌, ℕ, ◌+◌, ◌≤◌, ◌==◌, Bool, true, false, cond, not, List, [], ◌∷◌, ◌++◌, length, Option}
use Rattle.std.proofs.Common.{Some, None, IsSome, refl, sym, ap, subst, ◌∙◌, arith, length-append}
use Rattle.std.specs.Option.{unwrap_or}
use Rattle.std.specs.List.{fold}
use Rattle.std.specs.Cmp.{nat_cmp_total, unsigned_tied, nat_eq_equiv}
use Rattle.std.specs.Ordering.{nat_cmp}
use Rattle.std.specs.FinMap.{get, empty, get-insert, get-empty}
use Rattle.std.proofs.lemmas.Bool.{and_from, and_left, eqb-true}
use Rattle.std.proofs.lemmas.List.Sums.{fold-append}
use Rattle.road_time.specs.declared.tariff.TheConstants.{GREATEST_TOLL}
use Rattle.road_time.specs.declared.road.Tuple.{Tuple}
use Rattle.road_time.specs.declared.road.Tuple.TheVariants.{Report as ReportTuple, Balance as BalanceTuple}
use Rattle.road_time.specs.declared.road.Tuple.TheVariants.{Spent as SpentTuple, Travel}
use Rattle.road_time.specs.declared.road.Report as road
use Rattle.road_time.specs.Sights.{Moment, moments, Sight, sights_of, previous}
use Rattle.road_time.specs.Stays.{begins, is_told, is_charged, stay_start}
use Rattle.road_time.specs.Tolls.{StretchTold}
use Rattle.road_time.specs.Day.{ChargedToll as Owed, toll_told, xway_of, owed_if, owed_by, charges_by, balance_by}
use Rattle.road_time.specs.Day.{total_by, HasFewTolls}
use Rattle.road_time.proofs.SightLaws.{sights_of_push, sights_of_other, length-moments}
use Rattle.road_time.proofs.FindingLaws.{outside, still_outside, charged_outside}
use Rattle.road_time.proofs.AccountLaws.{charges_push}
use Rattle.day_floor.specs.declared.tracked.Charge.TheVariants.{No, Last}
use Rattle.day_floor.specs.Told.{charge_by}
use Rattle.day_floor.specs.Sums.{with_charge, spent_by, account_in, total_in}
use Rattle.day_floor.specs.Books.{Accounts}
use Rattle.day_floor.proofs.SumLaws.{account_by, total_by as total_by_sums}
use Rattle.day_floor.specs.declared.due_slot.Due.{Due}
use Rattle.day_floor.specs.declared.due_slot.Due.TheVariants.{Nothing, Report, Balance, Spent}
use Rattle.day_floor.specs.Slots.{slot_of, found_for}
use Rattle.day_floor.specs.SettlingBooks.{told_last, IsBook, charges_for, charged_with, told_with, charges_in}
use Rattle.day_floor.specs.SettlingBooks.{book_after}
use Rattle.day_floor.specs.SettlingBooks.{WasTold, CanSettle}

module _ (finding : Sight → StretchTold) where
  last_step : (s : Sight) (older : List Sight) (b : Bool) → begins (previous older) s.1 ≡ b → not (s.1.lane == 4) ≡ true
      → (outside (previous older) ≡ true → begins (previous older) s.1 ≡ false →
      told_last finding older ≡ Some (toll_told finding (stay_start older))) →
      cond (is_told (previous older) s.1) (Some (finding s).toll) (told_last finding older)
      ≡ Some (toll_told finding (cond b (Some s) (stay_start older)))
  last_step s older true is e rest =
      ap (λ b. cond b (Some (finding s).toll) (told_last finding older))
      (and_from (begins (previous older) s.1) (not (s.1.lane == 4)) is e)
  last_step s older false is e rest =
      ap (λ b. cond b (Some (finding s).toll) (told_last finding older))
      (and_left (begins (previous older) s.1) (not (s.1.lane == 4)) is)
      ∙ rest (still_outside (previous older) s.1 is e) is

  -- a vehicle whose newest report is outside lane 4 was told the toll of its stay last
  told_stay : (s : Sight) (older : List Sight) → outside (previous (s ∷ older)) ≡ true →
      told_last finding (s ∷ older) ≡ Some (toll_told finding (stay_start (s ∷ older)))
  told_stay s [] e = last_step s [] (begins None s.1) refl e (λ _ bad. let no : ⊥ = cc in absurd no)
  told_stay s (t ∷ older) e =
      last_step s (t ∷ older) (begins (previous (t ∷ older)) s.1) refl e (λ out _. told_stay t older out)

  -- where a report charges a stay, the toll that its vehicle was told last is that of the stay
  pub told_charged : (own : List Sight) (r : road.Report) → is_charged (previous own) r ≡ true →
      told_last finding own ≡ Some (toll_told finding (stay_start own))
  told_charged [] r e = let no : ⊥ = cc in absurd no
  told_charged (s ∷ older) r e = told_stay s older (charged_outside (previous (s ∷ older)) r e)

  module _ (b : Accounts) (before : List Tuple) (book : IsBook b finding before) where
    charged_step : (c : Bool) (r : road.Report) → is_charged (previous (sights_of before r.vid)) r ≡ c →
        charges_for (cond c (Last (xway_of (previous (sights_of before r.vid)))) No) r.vid b ≡ owed_if c finding
        (sights_of before r.vid) r
    charged_step false r e = refl
    charged_step true r e =
        ap (λ o. record { vid = r.vid; xway = xway_of (previous (sights_of before r.vid)); toll = unwrap_or o 0 } ∷ [])
        (book.told r.vid ∙ told_charged (sights_of before r.vid) r e)

    -- what a slot charges is what its moment owes
    pub charges_are : (x : Tuple) → charges_in (slot_of finding (before, x)).due b ≡ owed_by finding (before, x)
    charges_are (ReportTuple r) = charged_step (is_charged (previous (sights_of before r.vid)) r) r refl
    charges_are (BalanceTuple time vid qid) = refl
    charges_are (SpentTuple time vid xway qid day) = refl
    charges_are (Travel time) = refl

    can_step : (c : Bool) (r : road.Report) → is_charged (previous (sights_of before r.vid)) r ≡ c →
        WasTold (cond c (Last (xway_of (previous (sights_of before r.vid)))) No) r.vid b
    can_step false r e = tt
    can_step true r e = subst IsSome (sym (book.told r.vid ∙ told_charged (sights_of before r.vid) r e)) refl

    -- and its vehicle was told a toll
    pub can_settle : (x : Tuple) → CanSettle (slot_of finding (before, x)).due b
    can_settle (ReportTuple r) = can_step (is_charged (previous (sights_of before r.vid)) r) r refl
    can_settle (BalanceTuple time vid qid) = tt
    can_settle (SpentTuple time vid xway qid day) = tt
    can_settle (Travel time) = tt

-- what charges do to a book
charged_told : (cs : List Owed) (b : Accounts) → (charged_with cs b).told ≡ b.told
charged_told [] b = refl
charged_told (c ∷ cs) b = charged_told cs (record { told = b.told; spent = with_charge b.spent c; made = b.made + 1 })

charged_spent : (cs : List Owed) (b : Accounts) → (charged_with cs b).spent ≡ fold with_charge b.spent cs
charged_spent [] b = refl
charged_spent (c ∷ cs) b = charged_spent cs (record { told = b.told; spent = with_charge b.spent c; made = b.made + 1 })

charged_made : (cs : List Owed) (b : Accounts) → (charged_with cs b).made ≡ b.made + length cs
charged_made [] b = omega arith
charged_made (c ∷ cs) b = let rest =
    charged_made cs (record { told = b.told; spent = with_charge b.spent c; made = b.made + 1 }) in omega arith

-- a toll told leaves what was charged
told_spent : (t : Bool) (vid toll : ℕ) (b : Accounts) → (told_with t vid toll b).spent ≡ b.spent
told_spent false vid toll b = refl
told_spent true vid toll b = refl

told_made : (t : Bool) (vid toll : ℕ) (b : Accounts) → (told_with t vid toll b).made ≡ b.made
told_made false vid toll b = refl
told_made true vid toll b = refl

same_both : (c : Bool) (o : Option ℕ) → o ≡ cond c o o
same_both true o = refl
same_both false o = refl

-- what a vehicle is told last after one more toll
told_get : (t : Bool) (vid toll : ℕ) (b : Accounts) (v : ℕ) →
    get (told_with t vid toll b).told v ≡ cond (vid == v) (cond t (Some toll) (get b.told v)) (get b.told v)
told_get false vid toll b v = same_both (vid == v) (get b.told v)
told_get true vid toll b v = get-insert nat_cmp_total b.told vid toll v
    ∙ ap (λ c. cond c (Some toll) (get b.told v)) (unsigned_tied v vid ∙ nat_eq_equiv.symm v vid)

-- what a slot does to a book, by its charges
after_spent : (due : Due) (toll : ℕ) (b : Accounts) →
    (book_after due toll b).spent ≡ fold with_charge b.spent (charges_in due b)
after_spent Nothing toll b = refl
after_spent (Report time vid charge t) toll b = told_spent t vid toll (charged_with (charges_for charge vid b) b)
    ∙ charged_spent (charges_for charge vid b) b
after_spent (Balance time vid qid) toll b = refl
after_spent (Spent time vid qid xway day) toll b = refl

after_made : (due : Due) (toll : ℕ) (b : Accounts) → (book_after due toll b).made ≡ b.made + length (charges_in due b)
after_made Nothing toll b = omega arith
after_made (Report time vid charge t) toll b = told_made t vid toll (charged_with (charges_for charge vid b) b)
    ∙ charged_made (charges_for charge vid b) b
after_made (Balance time vid qid) toll b = omega arith
after_made (Spent time vid qid xway day) toll b = omega arith

module _ (finding : Sight → StretchTold) (b : Accounts) (before : List Tuple) (book : IsBook b finding before) where
  told_step : (c : Bool) (r : road.Report) (v : ℕ) → (r.vid == v) ≡ c →
      cond c (cond (is_told (previous (sights_of before r.vid)) r) (Some (finding (length before, r)).toll)
      (told_last finding (sights_of before v))) (told_last finding (sights_of before v))
      ≡ told_last finding (cond c ((length before, r) ∷ sights_of before v) (sights_of before v))
  told_step true r v e =
      ap (λ k. cond (is_told (previous (sights_of before k)) r) (Some (finding (length before, r)).toll)
      (told_last finding (sights_of before v))) (eqb-true r.vid v e)
  told_step false r v e = refl

  told_more : (x : Tuple) (v : ℕ) →
      get (book_after (slot_of finding (before, x)).due (slot_of finding (before, x)).found.toll b).told v
      ≡ told_last finding (sights_of (before ++ x ∷ []) v)
  told_more (ReportTuple r) v =
      let cs = charges_for (charge_by (previous (sights_of before r.vid)) r) r.vid b in
      let toll = (finding (length before, r)).toll in
      let t = is_told (previous (sights_of before r.vid)) r in
      let same : get (charged_with cs b).told v ≡ told_last finding (sights_of before v) =
      ap (λ m. get m v) (charged_told cs b) ∙ book.told v in
      told_get t r.vid toll (charged_with cs b) v
      ∙ (ap (λ o. cond (r.vid == v) (cond t (Some toll) o) o) same
      ∙ (told_step (r.vid == v) r v refl ∙ ap (told_last finding) (sym (sights_of_push before r v))))
  told_more (BalanceTuple time vid qid) v =
      book.told v ∙ ap (told_last finding) (sym (sights_of_other before (BalanceTuple time vid qid) v refl))
  told_more (SpentTuple time vid xway qid day) v =
      book.told v ∙ ap (told_last finding) (sym (sights_of_other before (SpentTuple time vid xway qid day) v refl))
  told_more (Travel time) v = book.told v ∙ ap (told_last finding) (sym (sights_of_other before (Travel time) v refl))

  -- a slot settled leaves the book of one tuple more
  pub book_more : (x : Tuple) →
      IsBook (book_after (slot_of finding (before, x)).due (slot_of finding (before, x)).found.toll b) finding
      (before ++ x ∷ [])
  book_more x =
      let due = (slot_of finding (before, x)).due in
      let toll = (slot_of finding (before, x)).found.toll in
      let charges = charges_by finding (moments before) in
      let owed = owed_by finding (before, x) in
      let is = charges_are finding b before book x in
      let push = charges_push finding before x in
      let size = length-append charges owed in
      let counted = after_made due toll b in
      record {
        told = told_more x;
        spent = after_spent due toll b
            ∙ (ap (λ m. fold with_charge m (charges_in due b)) book.spent
            ∙ (ap (fold with_charge (spent_by charges)) is
            ∙ (sym (fold-append with_charge empty charges owed) ∙ ap spent_by (sym push))));
        made = counted
            ∙ (ap (λ n. n + length (charges_in due b)) book.made
            ∙ (ap (λ cs. length charges + length cs) is ∙ (sym size ∙ ap length (sym push))));
      }

  -- its accounts and its total are those of the tuples
  pub account_is : (vid : ℕ) → account_in b.spent vid ≡ balance_by finding vid before
  account_is vid = ap (λ m. account_in m vid) book.spent ∙ account_by (charges_by finding (moments before)) vid

  pub total_is : total_in b.spent ≡ total_by finding before
  total_is = ap total_in book.spent ∙ total_by_sums (charges_by finding (moments before))

-- no tuples have a book of nothing
pub book_none : (finding : Sight → StretchTold) (b : Accounts) → b ≡ record { told = empty; spent = empty; made = 0 } →
    IsBook b finding []
book_none finding b e =
    subst (λ a. IsBook a finding []) (sym e) (record { told = λ vid. get-empty nat_cmp vid; spent = refl; made = refl })

module _ (finding : Sight → StretchTold) where
  owed_few_by : (c : Bool) (own : List Sight) (r : road.Report) → length (owed_if c finding own r) ≤ 1
  owed_few_by false own r = omega arith
  owed_few_by true own r = omega arith

  owed_few : (m : Moment) → length (owed_by finding m) ≤ 1
  owed_few (before, ReportTuple r) =
      owed_few_by (is_charged (previous (sights_of before r.vid)) r) (sights_of before r.vid) r
  owed_few (before, BalanceTuple time vid qid) = omega arith
  owed_few (before, SpentTuple time vid xway qid day) = omega arith
  owed_few (before, Travel time) = omega arith

  -- at most one charge a moment
  pub charges_few : (ms : List Moment) → length (charges_by finding ms) ≤ length ms
  charges_few [] = omega arith
  charges_few (m ∷ ms) = let one = owed_few m in let rest = charges_few ms in let size =
      length-append (owed_by finding m) (charges_by finding ms) in omega arith

-- at most one charge a tuple was made
pub made_few : (finding : Sight → StretchTold) (b : Accounts) (before : List Tuple) → IsBook b finding before →
    b.made ≤ length before
made_few finding b before book = let made = book.made in let few = charges_few finding (moments before) in let size =
    length-moments [] before in omega arith

-- the tolls of slots are few
pub found_few : (finding : Sight → StretchTold) → HasFewTolls finding → (m : Moment) →
    (found_for finding m).toll ≤ GREATEST_TOLL
found_few finding few (before, ReportTuple r) = few (length before, r)
found_few finding few (before, BalanceTuple time vid qid) = omega arith
found_few finding few (before, SpentTuple time vid xway qid day) = omega arith
found_few finding few (before, Travel time) = omega arith
