-- What a closing line says, and what may stand before it.
use Rattle.std.proofs.Common.{◌≡◌, ◌≢◌, ◌==◌, ℕ, Bool, true, false, List, length, Option, Some, Ok, refl, sym, ap, ◌∙◌}
use Rattle.std.proofs.Common.{arith, [], ◌<◌, take, if◌then◌else◌, subst}
use Rattle.std.proofs.lemmas.List.{take_all, take-take, length-take}
use Rattle.std.proofs.lemmas.Option.{none-some}
use Rattle.std.specs.Io.KnownBytes.{Appends}
use Rattle.road_io.proofs.SinkLaws.{appends_none}
use Rattle.keep_office.specs.declared.kept.KeepFault.{KeepFault}
use Rattle.day_reading.specs.declared.whole_day.ReadStop.{ReadStop}
use Rattle.office_commands.specs.declared.closing.Closing.{Closing}
use Rattle.office_commands.specs.declared.closing.Closing.TheVariants.{Words, ReadFault, KeeperFault, NoMemory}
use Rattle.office_commands.specs.declared.closing.Closing.TheVariants.{Checked}
use Rattle.office_commands.specs.Closings.{status_of}
use Rattle.office_commands.specs.Commands.{Answer}
use Rattle.office_commands.specs.Endings.{Sort, Own, Unread, Unkept, Unroomed, sort_of, IsTextFront, StandsBy}
use Rattle.office_commands.specs.Endings.{StandsBefore, StandsByFault, Wrote, WroteShort, stopping, refusing}
use Rattle.keep_office.specs.declared.kept.KeepFault.TheVariants as keeping
use Rattle.day_reading.specs.declared.whole_day.ReadStop.TheVariants as stops

-- what a closing line of a sort is
abbrev pub IsOf : Sort → Closing → Type 0
IsOf Own c = (status_of c ≢ 4) × (status_of c ≢ 5) × (status_of c ≢ 6) × (status_of c ≢ 8)
IsOf Unread c = c ≡ ReadFault
IsOf Unkept c = c ≡ KeeperFault
IsOf Unroomed c = c ≡ NoMemory

-- a check ends with 0 or 2
check_status : (refused n : ℕ) → n ≢ 0 → n ≢ 2 → status_of (Checked 0 0 refused) ≢ n
check_status refused n some other e = go (refused == 0) e
  where
    go : (b : Bool) → (if b then 0 else 2) ≡ n → ⊥
    go true is = some (sym is)
    go false is = other (sym is)

-- each closing line is of its sort
pub is_of : (c : Closing) → IsOf (sort_of c) c
is_of (Checked day good refused) = (
  check_status refused 4 (λ e. omega (arith, e)) (λ e. omega (arith, e)),
  check_status refused 5 (λ e. omega (arith, e)) (λ e. omega (arith, e)),
  check_status refused 6 (λ e. omega (arith, e)) (λ e. omega (arith, e)),
  check_status refused 8 (λ e. omega (arith, e)) (λ e. omega (arith, e)),
)
is_of ReadFault = refl
is_of KeeperFault = refl
is_of NoMemory = refl
is_of _ = (λ e. omega (arith, e), λ e. omega (arith, e), λ e. omega (arith, e), λ e. omega (arith, e))

-- a status of 4 is that of a source that failed
pub is_unread : (c : Closing) → status_of c ≡ 4 → c ≡ ReadFault
is_unread c e = go (sort_of c) (is_of c)
  where
    go : (s : Sort) → IsOf s c → c ≡ ReadFault
    go Own is = absurd (is.0 e)
    go Unread is = is
    go Unkept is = absurd (omega (arith, ap status_of is, e))
    go Unroomed is = absurd (omega (arith, ap status_of is, e))

-- one of 6 that of a keeper that failed
pub is_unkept : (c : Closing) → status_of c ≡ 6 → c ≡ KeeperFault
is_unkept c e = go (sort_of c) (is_of c)
  where
    go : (s : Sort) → IsOf s c → c ≡ KeeperFault
    go Own is = absurd (is.2 e)
    go Unread is = absurd (omega (arith, ap status_of is, e))
    go Unkept is = is
    go Unroomed is = absurd (omega (arith, ap status_of is, e))

-- and one of 1 that of other words
pub is_words : (c : Closing) → status_of c ≡ 1 → c ≡ Words
is_words Words e = refl
is_words (Checked day good refused) e =
    absurd (check_status refused 1 (λ n. omega (arith, n)) (λ n. omega (arith, n)) e)
is_words _ e = absurd (omega (arith, e))

-- a whole text is some first bytes of itself
pub whole_front : (text whole : List ℕ) → text ≡ whole → IsTextFront text whole
whole_front text whole e = (length whole, e ∙ sym (take_all (length whole) whole (omega arith)))

-- what may stand before a closing line of any sort may stand before that of a fault
fault_by : (s : Sort) (a : Answer) (c : Closing) (text : List ℕ) → StandsBy s a c text → StandsByFault a text
fault_by Own a c text h = (whole_front text a.text h.1, λ none. absurd (none-some c (none ∙ sym h.0)))
fault_by _ a c text h = h

-- and so what may stand before this one
pub fault_of : (a : Answer) (c : Closing) (text : List ℕ) → StandsBefore a c text → StandsByFault a text
fault_of a c text h = fault_by (sort_of c) a c text h

-- some first bytes of these, and not all, are some of the text, and not all
pub short_of : (a : Answer) (c : Closing) (text : List ℕ) (old new : Option (List ℕ)) (k : ℕ) →
    StandsBefore a c text → k < length text → Appends old new (take k text) → WroteShort a old new
short_of a c text old new k stands short wrote =
    let front = (fault_of a c text stands).0 in
    let size = length-take front.0 a.text in
    let same = ap (take k) front.1 ∙ take-take k front.0 a.text (omega (arith, short, ap length front.1, size)) in
    (k, omega (arith, short, ap length front.1, size), subst (λ bytes. Appends old new bytes) same wrote)

-- nothing may stand before the closing line of any fault
pub fault_empty : (a : Answer) → StandsByFault a []
fault_empty a = ((0, refl), λ none. refl)

-- a run that found no memory wrote nothing
pub wrote_unroomed : (a : Answer) (old : Option (List ℕ)) → Wrote a (Ok (Some NoMemory)) old old
wrote_unroomed a old = ([], fault_empty a, appends_none old)

-- nor one that could not read
pub wrote_nothing : (a : Answer) (s : ReadStop) (old : Option (List ℕ)) → Wrote a (Ok (Some (stopping s))) old old
wrote_nothing a stops.ReadFault old = ([], fault_empty a, appends_none old)
wrote_nothing a stops.NoMemory old = ([], fault_empty a, appends_none old)

-- nothing stands before the closing line of a run that could not read
pub stops_empty : (a : Answer) (s : ReadStop) → StandsBefore a (stopping s) []
stops_empty a stops.ReadFault = fault_empty a
stops_empty a stops.NoMemory = fault_empty a

-- nor before that of a refusal
pub refuses_empty : (a : Answer) (fault : KeepFault) → StandsBefore a (refusing fault) []
refuses_empty a keeping.Failed = fault_empty a
refuses_empty a keeping.NoMemory = fault_empty a

-- the whole text stands before the own closing line of a command
pub stands_whole : (a : Answer) (c : Closing) (text : List ℕ) → Some c ≡ a.closing → text ≡ a.text →
    StandsBefore a c text
stands_whole a c text is whole = go (sort_of c)
  where
    go : (s : Sort) → StandsBy s a c text
    go Own = (is, whole)
    go Unread = fault_by Own a c text (is, whole)
    go Unkept = fault_by Own a c text (is, whole)
    go Unroomed = fault_by Own a c text (is, whole)

-- nothing stands before the own closing line of a command without a text
pub stands_alone : (a : Answer) (c : Closing) → Some c ≡ a.closing → [] ≡ a.text → StandsBefore a c []
stands_alone a c is none = go (sort_of c)
  where
    go : (s : Sort) → StandsBy s a c []
    go Own = (is, none)
    go Unread = fault_empty a
    go Unkept = fault_empty a
    go Unroomed = fault_empty a
