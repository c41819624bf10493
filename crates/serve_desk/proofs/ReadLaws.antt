-- Laws of a body that was read so far.
use Rattle.std.proofs.Common.{◌≡◌, ◌≢◌, ◌≤◌, ◌<◌, ◌-◌, ◌+◌, ◌∙◌, ◌⊎◌, ℕ, Bool, List, [], ◌∷◌, ◌++◌, length}
use Rattle.std.proofs.Common.{take, drop, zero, suc}
use Rattle.std.proofs.Common.{Option, Some, None, inl, inr, refl, sym, ap, subst, arith}
use Rattle.std.specs.Io.KnownBytes.{prepend_known}
use Rattle.std.proofs.lemmas.List.{drop-drop, length-drop, length-append}
use Rattle.road_io.specs.Faults.{Rose}
use Rattle.road_io.specs.Plans.{NeverFails}
use Rattle.road_io.specs.Within.{ReadsWithin}
use Rattle.road_time.specs.declared.day.Limits.{Limits}
use Rattle.keep_office.specs.Calls.{WhenRefused}
use Rattle.keep_office.specs.Office.{Office}
use Rattle.keep_office.specs.declared.kept.DayRecord.{DayRecord}
use Rattle.day_import.specs.declared.outcomes.Outcome.{Outcome}
use Rattle.day_import.specs.declared.outcomes.Outcome.TheVariants.{Stored, ReadFault, WriteFault, KeeperFault}
use Rattle.day_import.specs.Faults.{NamesNoOther}
use Rattle.serve_requests.specs.AskedBodies.{filled, body_left, IsBehind, IsSure, LeavesBody, HasEndCause}
use Rattle.serve_requests.proofs.AskedBodyLaws.{sure_plan, none_left}
use Rattle.serve_requests.specs.declared.body_end.BodyEnd.{BodyEnd}
use Rattle.serve_requests.specs.declared.body_end.BodyEnd.TheVariants as body
use Rattle.serve_requests.specs.declared.session_end.SessionEnd.{SessionEnd}
use Rattle.serve_desk.specs.declared.imported.ReadTo.{ReadTo}
use Rattle.serve_desk.specs.declared.imported.ReadTo.TheVariants.{Open, Cut, LinkFault}
use Rattle.serve_desk.specs.Answers.{Wire, AnswersOutcome}
use Rattle.serve_desk.specs.Imports.{DeskState, Imports, ImportsDay, AnswersBody, IsCutShort, FailsInBody}
use Rattle.serve_desk.specs.Reading.{IsReadTo, HasReadCause, IsStopped, HasNoneLeft, FitsRead, FinishesBody, Finishes}
use Rattle.serve_desk.specs.Reading.{ReadsBody, ReadsOn, Skips}
use Rattle.serve_desk.proofs.ImportLaws.{filled_whole}

some_is : (xs ys : List ℕ) → Some xs ≡ Some ys → xs ≡ ys
some_is xs ys e = cc e

-- a body that is cut has more bytes than there were
pub cut_short : (count left : ℕ) (bytes : Option (List ℕ)) (early : List ℕ) (known : Option (List ℕ)) → left ≤ count →
    IsBehind (count - left) bytes early known →
    (0 < left) × (early ≡ []) × ((all : List ℕ) → known ≡ Some all → all ≡ []) →
    (all : List ℕ) → bytes ≡ Some all → length all < count
cut_short count left bytes early None inside behind off all is = absurd (cc (behind all is).0)
cut_short count left bytes early (Some xs) inside behind off all is =
    let (some, none, over) = off in
    let same = some_is _ _ (behind all is).0 in
    let parts = length-append early xs in
    let long = length-drop (count - left) all in
    omega (arith, some, inside, parts, long, ap length same, ap length none, ap length (over xs refl))

-- what a body stands for has as many bytes as it has
length_filled : (n : ℕ) (xs : List ℕ) → length (filled n xs) ≡ n
length_filled zero xs = refl
length_filled (suc n) [] = ap suc (length_filled n [])
length_filled (suc n) (x ∷ xs) = ap suc (length_filled n xs)

-- a source that read so much of a body has the rest of it left
pub few_read : (count left most : ℕ) (early all : List ℕ) (known : Option (List ℕ)) →
    ReadsWithin most (Some (filled count all)) (body_left left early known) → count ≤ left + most
few_read count left most early all None within = absurd (cc (within (filled count all) refl).2)
few_read count left most early all (Some xs) within =
    let (n, less, is) = within (filled count all) refl in
    let same = ap length (some_is _ _ is) in
    let long = length-drop n (filled count all) in
    let whole = length_filled count all in
    let rest = length_filled left (early ++ xs) in
    omega (arith, less, same, long, whole, rest)

-- no call to come fails, in the words of a link
pub plan_sure : (plan : Option (ℕ → Bool)) → IsSure plan → NeverFails plan
plan_sure None sure = absurd (cc (sure 0))
plan_sure (Some p) sure = sure

-- a count that rose, then or later, rose
pub rose_by : (plan : Option (ℕ → Bool)) (before mid now : ℕ) (read : ReadTo) → HasReadCause plan before mid read →
    before ≤ mid → mid ≤ now → (read ≢ LinkFault → Rose mid now) → Rose before now
rose_by plan before mid now (Open left) cause early late rose = (let r = rose (λ e. cc e) in omega (arith, early, r))
rose_by plan before mid now Cut cause early late rose = (let r = rose (λ e. cc e) in omega (arith, early, r))
rose_by plan before mid now LinkFault cause early late rose = (let r = cause.0 in omega (arith, late, r))

-- where no call fails a body was not failed in
pub never_failed : (plan : Option (ℕ → Bool)) (before now : ℕ) (read : ReadTo) → HasReadCause plan before now read →
    NeverFails plan → read ≢ LinkFault
never_failed plan before now (Open left) cause never = λ is. cc is
never_failed plan before now Cut cause never = λ is. cc is
never_failed plan before now LinkFault cause never = λ is. absurd (cause.1 (sure_plan plan never))

-- what came early fits
pub fits : (count : ℕ) (bytes : Option (List ℕ)) (early : List ℕ) (known : Option (List ℕ)) (read : ReadTo) →
    IsReadTo count bytes early known read → FitsRead early read
fits count bytes early known (Open left) h = h.0
fits count bytes early known Cut h = tt
fits count bytes early known LinkFault h = tt

-- what came early of a body of which nothing is left is nothing, and what follows it is what is left of the link
pub none_early : (left : ℕ) (early rest : List ℕ) (known : Option (List ℕ)) → length early ≤ left → left ≡ 0 →
    prepend_known early known ≡ Some rest → known ≡ Some (drop left rest)
none_early left [] rest None few none is = absurd (cc is)
none_early left [] rest (Some xs) few none is = is ∙ ap (λ n. Some (drop n rest)) (sym none)
none_early left (b ∷ early) rest known few none is = absurd (omega (arith, few, none))

-- a day that is stored ended at no fault
pub stored_unfailed : (outcome : Outcome) (kept : DayRecord) → outcome ≡ Stored kept →
    (outcome ≢ ReadFault) × NamesNoOther outcome
stored_unfailed outcome kept is = (λ bad. cc (sym is ∙ bad), (λ bad. cc (sym is ∙ bad), λ bad. cc (sym is ∙ bad)))

-- what is so unless a body was read to its end without a fault is so unless it ended so
pub unless_whole : (Same : Type 0) (left faults : ℕ) (early : List ℕ) (known : Option (List ℕ)) (read : ReadTo) →
    Same ⊎ ((body_left left early known ≡ Some []) × (faults ≡ 0)) → (left ≡ 0 → faults ≡ 0 → HasNoneLeft read) →
    Same ⊎ HasNoneLeft read
unless_whole Same left faults early known read (inl same) over = inl same
unless_whole Same left faults early known read (inr (whole, sound)) over =
    inr (over (none_left left early known whole) sound)

-- what is so unless nothing is left is so where something is
unless_none : (Same : Type 0) (left n : ℕ) → n < left → Same ⊎ (left ≡ 0) → Same
unless_none Same left n short (inl same) = same
unless_none Same left n short (inr none) = absurd (omega (arith, short, none))

-- what is so unless what never comes is so
unless_never : (Same : Type 0) → Same ⊎ ⊥ → Same
unless_never Same (inl same) = same
unless_never Same (inr none) = absurd none

-- what is answered behind the rest of a body is answered behind the body, and what is so of the bytes that it stands for
-- is so of it; what is so unless nothing was left is so where it was cut or failed in
by_rest : (I : List ℕ → Type 0) (Same : Type 0) (count left : ℕ) (all : List ℕ) (old mid new : Wire) (outcome : Outcome)
    (end : SessionEnd) →
    left ≤ count → count - left ≤ length all → mid.written ≡ old.written → mid.room ≡ old.room →
    (NeverFails old.plan → NeverFails mid.plan) → outcome ≢ ReadFault → outcome ≢ WriteFault →
    ((kept : DayRecord) → outcome ≡ Stored kept → left ≡ 0) → Same ⊎ (left ≡ 0) →
    I (filled count all) → FinishesBody left (drop (count - left) all) outcome mid new end →
    (AnswersBody count all outcome old new end × I (take count all))
    ⊎ ((IsCutShort count all outcome old new end ⊎ FailsInBody old new end) × Same × I (filled count all))
by_rest I Same count left all old mid new outcome end less there written room sure unread unwritten stored still imports
    (inl (whole, rest, answers)) =
    let long = length-drop (count - left) all in
    let enough : count ≤ length all = omega (arith, less, there, long, whole) in
    let back : (count - left) + left ≡ count = omega (arith, less) in
    inl (
      (
        enough,
        rest ∙ ap Some (drop-drop left (count - left) all ∙ ap (λ n. drop n all) back),
        (unread, unwritten),
        subst (λ r. AnswersOutcome outcome r old.written new.written end) room
            (subst (λ t. AnswersOutcome outcome mid.room t new.written end) written answers),
      ),
      subst I (filled_whole count all enough) imports,
    )
by_rest I Same count left all old mid new outcome end less there written room sure unread unwritten stored still imports
    (inr (inl (cut, short, same))) =
    let long = length-drop (count - left) all in
    inr (
      inl (
        cut,
        omega (arith, less, there, long, short),
        same ∙ written,
        λ kept is. (let none = stored kept is in omega (arith, none, short)),
      ),
      unless_none Same left _ short still,
      imports,
    )
by_rest I Same count left all old mid new outcome end less there written room sure unread unwritten stored still imports
    (inr (inr (some, (failed, same, never)))) =
    inr (inr (failed, same ∙ written, λ none. never (sure none)), unless_none Same left 0 some still, imports)

-- a body that was read so far, and then what is left to do of its request, are the body and its answer; what is so of
-- the bytes that it stands for is so of it, and what is so unless it was read to its end is so where it was cut or
-- failed in
ends_as : (I : List ℕ → Type 0) (Same : Type 0) (count : ℕ) (all : List ℕ) (old mid new : Wire) (early : List ℕ)
    (read : ReadTo) (outcome : Outcome) (end : SessionEnd) (before after : ℕ) →
    IsReadTo count (Some all) early mid.left read →
    HasReadCause old.plan before after read → mid.written ≡ old.written → mid.room ≡ old.room →
    (NeverFails old.plan → NeverFails mid.plan) → (outcome ≡ ReadFault → IsStopped read) → outcome ≢ WriteFault →
    ((kept : DayRecord) → outcome ≡ Stored kept → HasNoneLeft read) → Same ⊎ HasNoneLeft read →
    I (filled count all) → Finishes early outcome mid new read end →
    (AnswersBody count all outcome old new end × I (take count all))
    ⊎ ((IsCutShort count all outcome old new end ⊎ FailsInBody old new end) × Same × I (filled count all))
ends_as I Same count all old mid new early (Open left) outcome end before after reads cause written room sure unread
    unwritten stored still imports finishes =
    let (few, less, behind) = reads in
    let (is, there) = behind all refl in
    by_rest I Same count left all old mid new outcome end less there written room sure unread unwritten stored still
    imports (finishes (drop (count - left) all) is)
ends_as I Same count all old mid new early Cut outcome end before after reads cause written room sure unread unwritten
    stored still imports finishes =
    inr (
      inl (finishes.0, reads all refl, finishes.1 ∙ written, λ kept is. absurd (stored kept is)),
      unless_never Same still,
      imports,
    )
ends_as I Same count all old mid new early LinkFault outcome end before after reads cause written room sure unread
    unwritten stored still imports finishes =
    inr (
      inr (finishes.0, finishes.1 ∙ written, λ never. cause.1 (sure_plan old.plan never)),
      unless_never Same still,
      imports,
    )

unsaid : (A B C : Type 0) → A ⊎ (B × Unit {0} × C) → A ⊎ (B × C)
unsaid A B C (inl whole) = inl whole
unsaid A B C (inr (short, none, rest)) = inr (short, rest)

-- the same, where nothing is said of what is kept
pub finishes_as : (I : List ℕ → Type 0) (count : ℕ) (all : List ℕ) (old mid new : Wire) (early : List ℕ)
    (read : ReadTo) (outcome : Outcome) (end : SessionEnd) (before after : ℕ) →
    IsReadTo count (Some all) early mid.left read →
    HasReadCause old.plan before after read → mid.written ≡ old.written → mid.room ≡ old.room →
    (NeverFails old.plan → NeverFails mid.plan) → (outcome ≡ ReadFault → IsStopped read) → outcome ≢ WriteFault →
    ((kept : DayRecord) → outcome ≡ Stored kept → HasNoneLeft read) →
    I (filled count all) → Finishes early outcome mid new read end →
    (AnswersBody count all outcome old new end × I (take count all))
    ⊎ ((IsCutShort count all outcome old new end ⊎ FailsInBody old new end) × I (filled count all))
finishes_as I count all old mid new early read outcome end before after reads cause written room sure unread unwritten
    stored imports finishes =
    unsaid _ _ _ (ends_as I (Unit {0}) count all old mid new early read outcome end before after reads cause written
    room sure unread unwritten stored (inl tt) imports finishes)

-- an import, and then what is left to do of its request, are the import of a day and its answer
pub composes : (w : WhenRefused) (exact : Bool) (day : ℕ) (limits : Limits) (count : ℕ) (all : List ℕ) (o : Office)
    (was now : DeskState) (old mid new : Wire) (early : List ℕ) (read : ReadTo) (outcome : Outcome) (end : SessionEnd)
    (before after : ℕ) →
    (outcome ≡ KeeperFault → Rose was.faults now.faults) → IsReadTo count (Some all) early mid.left read →
    HasReadCause old.plan before after read → mid.written ≡ old.written → mid.room ≡ old.room →
    (NeverFails old.plan → NeverFails mid.plan) → (outcome ≡ ReadFault → IsStopped read) → outcome ≢ WriteFault →
    ((kept : DayRecord) → outcome ≡ Stored kept → HasNoneLeft read) → (now.told ≡ was.told) ⊎ HasNoneLeft read →
    Imports w exact day limits (filled count all) o now.told was.posted (Some now.posted) outcome →
    Finishes early outcome mid new read end → ImportsDay w exact day limits count all o was now old new end
composes w exact day limits count all o was now old mid new early read outcome end before after rose reads cause
    written room sure unread unwritten stored still imports finishes = (
      outcome,
      rose,
      ends_as (λ bytes. Imports w exact day limits bytes o now.told was.posted (Some now.posted) outcome)
          (now.told ≡ was.told) count all old mid new early read outcome end before after reads cause written room sure
          unread unwritten stored still imports finishes,
    )

-- how a POST ends, whatever is kept
pub posts_as : (count : ℕ) (all : List ℕ) (old new : Wire) (outcome : Outcome) (end : SessionEnd) →
    (AnswersBody count all outcome old new end × Unit {0})
    ⊎ ((IsCutShort count all outcome old new end ⊎ FailsInBody old new end) × Unit {0}) →
    AnswersBody count all outcome old new end
    ⊎ (IsCutShort count all outcome old new end ⊎ FailsInBody old new end)
posts_as count all old new outcome end (inl (whole, none)) = inl whole
posts_as count all old new outcome end (inr (stopped, none)) = inr stopped

-- a body that was skipped was read
pub skipped : (left : ℕ) (rest : List ℕ) (old new : Wire) (before now : ℕ) (end : BodyEnd) →
    LeavesBody left rest new.left end → HasEndCause old.plan before now end → ReadsBody left rest old new
skipped left rest old new before now body.Whole leaves cause = inl leaves
skipped left rest old new before now body.Cut leaves cause = inr (inl leaves)
skipped left rest old new before now body.LinkFault leaves cause =
    inr (inr (λ never. cause.1 (sure_plan old.plan never)))

-- what was left of a body was read, and so the body was
on_rest : (count left : ℕ) (all : List ℕ) (old mid new : Wire) → left ≤ count → count - left ≤ length all →
    (NeverFails old.plan → NeverFails mid.plan) → ReadsBody left (drop (count - left) all) mid new →
    ReadsBody count all old new
on_rest count left all old mid new less there sure (inl (whole, rest)) =
    let long = length-drop (count - left) all in
    let enough : count ≤ length all = omega (arith, less, there, long, whole) in
    let back : (count - left) + left ≡ count = omega (arith, less) in
    inl (enough, rest ∙ ap Some (drop-drop left (count - left) all ∙ ap (λ n. drop n all) back))
on_rest count left all old mid new less there sure (inr (inl short)) =
    (let long = length-drop (count - left) all in inr (inl (omega (arith, less, there, long, short))))
on_rest count left all old mid new less there sure (inr (inr never)) = inr (inr (λ none. never (sure none)))

-- a body that was read so far, and then what is left of it, was read
pub reads_on : (count : ℕ) (early : List ℕ) (old mid new : Wire) (later : List ℕ) (read : ReadTo) (before after : ℕ) →
    IsReadTo count (prepend_known early old.left) later mid.left read → HasReadCause old.plan before after read →
    (NeverFails old.plan → NeverFails mid.plan) → Skips later mid new read → ReadsOn count early old new
reads_on count early old mid new later (Open left) before after reads cause sure skips = λ all known.
    let (few, less, behind) = reads in
    let (is, there) = behind all known in
    on_rest count left all old mid new less there sure (skips (drop (count - left) all) is)
reads_on count early old mid new later Cut before after reads cause sure skips =
    λ all known. inr (inl (reads all known))
reads_on count early old mid new later LinkFault before after reads cause sure skips =
    λ all known. inr (inr (λ never. cause.1 (sure_plan old.plan never)))

-- so it was by links that have the same left and fail alike
pub reads_as : (count : ℕ) (early : List ℕ) (old new p q : Wire) → p.left ≡ old.left → p.plan ≡ old.plan →
    q.left ≡ new.left → ReadsOn count early old new → ReadsOn count early p q
reads_as count early old new p q left plan after reads = λ all known.
    alike all (reads all (ap (λ l. prepend_known early l) (sym left) ∙ known))
  where
    alike : (all : List ℕ) → ReadsBody count all old new → ReadsBody count all p q
    alike all (inl (some, rest)) = inl (some, after ∙ rest)
    alike all (inr (inl short)) = inr (inl short)
    alike all (inr (inr never)) = inr (inr (λ none. never (subst NeverFails plan none)))
