-- the slots of a day, and the book and the notices that they leave
use lib.IntN.{pos}
use Rattle.std.proofs.Common.{◌≡◌, ℕ, ◌<◌, List, [], ◌∷◌, ◌++◌, length, take, get_or, Option, Some, None}
use Rattle.std.proofs.Common.{refl, sym, ap, subst, ◌∙◌, arith}
use Rattle.std.proofs.lemmas.List.{length-take-le}
use Rattle.road_time.specs.declared.road.Tuple.{Tuple}
use Rattle.road_time.specs.declared.road.Tuple.TheVariants.{Report as ReportTuple}
use Rattle.road_time.specs.declared.road.Report.{Report}
use Rattle.road_time.specs.declared.road.Notice.{Notice}
use Rattle.road_time.specs.Day.{no_finding, given}
use Rattle.road_time.specs.Sights.{Sight, moments}
use Rattle.road_time.specs.Tolls.{StretchTold}
use Rattle.road_time.proofs.SightLaws.{moments_push}
use Rattle.day_floor.specs.declared.tracked.Tracked.{Tracked}
use Rattle.road_time.specs.Tuples.{reports, place_of}
use Rattle.road_time.specs.Stays.{begins}
use Rattle.road_time.specs.Stops.{trail, stands, left_by}
use Rattle.day_floor.specs.Told.{newest, charge_by}
use Rattle.day_floor.specs.CrossingsLaws.{TellsOfDay}
use Rattle.day_floor.proofs.DayLaws.{told_is_of_the_day}
use Rattle.day_floor.specs.Books.{Accounts}
use Rattle.day_floor.specs.declared.due_slot.Found.{Found}
use Rattle.day_floor.specs.declared.due_slot.Slot.{Slot}
use Rattle.day_floor.specs.Answers.{IsSaid, AreNotices}
use Rattle.day_floor.specs.SettlingBooks.{IsBook, book_after}
use Rattle.day_floor.specs.Slots.{slot_of, found_of}
use Rattle.day_floor.proofs.AnswerLaws.{said_is, notices_both, notices_one}
use Rattle.day_floor.proofs.SettlingBookLaws.{account_is, book_more}
use Rattle.ways_audit.specs.Seen.{tracked_of, tracked_by, tracked_after}
use Rattle.ways_audit.specs.Closing.{IsPlaced}
use Rattle.ways_audit.proofs.RoutingLaws.{same_told, shown_here, no_tuple}

-- what a report tells after a day's tuples is told by them
told_of_day : (day : List Tuple) (r : Report) → TellsOfDay (tracked_of day r) day r
told_of_day day r =
    let own = trail (reports day) r.vid in
    let by : Tracked =
    record {
      begins = begins (newest own) r;
      stopped = stands (r ∷ own) (place_of r);
      left = left_by own r;
      charge =
          charge_by (newest own) r;
    } in
    let told = told_is_of_the_day day r by (record { begins = refl; stopped = refl; left = refl; charge = refl }) in
    record { begins = refl; charge = refl; stopped = refl; left = told.left }

-- two slots with the same parts
slot_made : {f g : Found} (x y : Slot) → f ≡ g → x.due ≡ y.due →
    ◌≡◌ {A = Slot} (record { found = f; due = x.due }) (record { found = g; due = y.due })
slot_made x y e h = rw (e, h) refl

-- the slot of a report, by what it told and what was found
pub slot_is : (finding : Sight → StretchTold) (before : List Tuple) (x : Tuple) (r : Report) (t : Tracked)
    (o : Option Tracked) (found : Found) (slot : Slot) → x ≡ ReportTuple r → o ≡ Some t → o ≡ tracked_by (before, x) →
    ((r : Report) → found ≡ found_of (finding (length before, r))) →
    ((f : Sight → StretchTold) (day : List Tuple) → TellsOfDay t day r → f (length day, r) ≡ no_finding →
    slot ≡ slot_of f (day, ReportTuple r)) →
    ◌≡◌ {A = Slot} (record { found = found; due = slot.due }) (slot_of finding (before, x))
slot_is finding before x r t o found slot is some told here slots =
    let same : t ≡ tracked_of before r =
    same_told t (tracked_of before r) (sym some ∙ told ∙ ap (λ y. tracked_by (before, y)) is) in
    let due : slot ≡ slot_of (λ s. no_finding) (before, ReportTuple r) =
    slots (λ s. no_finding) before (subst (λ u. TellsOfDay u before r) (sym same) (told_of_day before r)) refl in
    slot_made slot (slot_of (λ s. no_finding) (before, ReportTuple r)) (here r) (ap (λ (s : Slot). s.due) due)
    ∙ sym (ap (λ y. slot_of finding (before, y)) is)

-- what is at a place where there is none
abbrev pub no_found : Found
no_found = record { toll = 0; lav = pos 0; alert = None }

-- the slot of the tuple at a place
pub slot_here : (found : List (ℕ × StretchTold)) (ts : List Tuple) (tracked : List (Option Tracked))
    (places : List Found)
    (i : ℕ) (slot : Slot) →
    tracked ≡ tracked_after [] ts → IsPlaced places found → length places ≡ length ts → i < length ts →
    ((finding : Sight → StretchTold) (before : List Tuple) →
    get_or tracked i None ≡ tracked_by (before, get_or ts i no_tuple) →
    ((r : Report) → get_or places i no_found ≡ found_of (finding (length before, r))) →
    slot ≡ slot_of finding (before, get_or ts i no_tuple)) →
    slot ≡ slot_of (given found) (take i ts, get_or ts i no_tuple)
slot_here found ts tracked places i slot are placed long within is =
    let size : length (take i ts) ≡ i = length-take-le i ts (omega (arith, within)) in
    is (given found) (take i ts) (shown_here ts tracked i no_tuple None are within)
    (λ r. placed i no_found r (subst (λ n. i < n) (sym long) within)
    ∙ ap (λ n. found_of (given found (n, r))) (sym size))

-- tuples are closed: the book is theirs, and these are their notices
pub record AreClosed (found : List (ℕ × StretchTold)) (number : ℕ) (kept : ℕ → ℕ → ℕ → ℕ) (day : List Tuple)
    (book : Accounts) (notices : List Notice) : Type 0 where
  pub book_is : IsBook book (given found) day
  pub said : AreNotices (given found) number (Some kept) (moments day) notices

-- one tuple more
pub closed_more : (found : List (ℕ × StretchTold)) (number : ℕ) (kept : ℕ → ℕ → ℕ → ℕ) (day : List Tuple) (x : Tuple)
    (b b' : Accounts) (ns said ns' : List Notice) (slot : Slot) →
    AreClosed found number kept day b ns → slot ≡ slot_of (given found) (day, x) →
    b' ≡ book_after slot.due slot.found.toll b →
    IsSaid (Some kept) number slot.due slot.found b said → ns' ≡ ns ++ said →
    AreClosed found number kept (day ++ x ∷ []) b' ns'
closed_more found number kept day x b b' ns said ns' slot h is booked says more = record {
  book_is =
      subst (λ a. IsBook a (given found) (day ++ x ∷ []))
      (sym (booked ∙ ap (λ (s : Slot). book_after s.due s.found.toll b) is))
      (book_more (given found) b day h.book_is x);
  said = subst (λ ms. AreNotices (given found) number (Some kept) ms ns') (sym (moments_push day x))
      (subst (AreNotices (given found) number (Some kept) (moments day ++ (day, x) ∷ [])) (sym more)
      (notices_both (given found) number (Some kept) (moments day) ((day, x) ∷ []) ns said h.said
      (notices_one (given found) number (Some kept) (day, x) said
      (said_is (given found) number (Some kept) day x b said (account_is (given found) b day h.book_is)
      (subst (λ (s : Slot). IsSaid (Some kept) number s.due s.found b said) is says)))));
}
