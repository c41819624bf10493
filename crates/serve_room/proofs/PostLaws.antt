-- Laws of who leaves the room first.
use Rattle.std.proofs.Common.{◌≡◌, ◌≢◌, slice_set, ◌⊎◌, inl, inr, ⊎_elim, ℕ, zero, suc, ◌<◌, ◌+◌, Bool, true, false, List, [], ◌∷◌}
use Rattle.std.proofs.Common.{length, drop, slice_get, Option, Some, None, IfSome, refl, sym, ap, subst, ◌∙◌, arith}
use Rattle.std.proofs.lemmas.Bool.{cond-true, cond-false, false≢true}
use Rattle.std.specs.declared.time.Instant.{Instant}
use Rattle.road_time.proofs.EachLaws.{some_is, no_some}
use Rattle.serve_room.specs.declared.seat.Seat.{Seat}
use Rattle.serve_room.specs.declared.posts.Who.{Who}
use Rattle.serve_room.specs.declared.posts.Kind.TheVariants.{Post, Read}
use Rattle.serve_room.specs.Posts.{ends_line, line_of, kind_of, of_kind, is_meant, HasNone, OnlyOthersWait, NoneBefore, NoneBelow, Leaves, IsFirstBelow, IsFirst}
use Rattle.std.proofs.lemmas.Option.{slice_get_within}
use Rattle.serve_room.specs.Posts.{Precedes, one_of, meant_in, GivesSeat}

-- below the next number is a number or below it
below_or_at : (k at : ℕ) → k < suc at → (k < at) ⊎ (k ≡ at)
below_or_at zero zero less = inr refl
below_or_at zero (suc at) less = inl (omega arith)
below_or_at (suc k) zero less = absurd (omega (arith, less))
below_or_at (suc k) (suc at) less =
    ⊎_elim (λ (b : k < at). inl (omega (arith, b))) (λ (e : k ≡ at). inr (ap suc e))
    (below_or_at k at (omega (arith, less)))

-- whoever sits in one place is one
same_seat : (seats : List (Option Seat)) (k at : ℕ) (a b : Seat) → slice_get seats at ≡ Some (Some a) →
    slice_get seats k ≡ Some (Some b) → k ≡ at → b ≡ a
same_seat seats k at a b here there e =
    some_is b a (some_is (Some b) (Some a) (sym there ∙ ap (slice_get seats) e ∙ here))

-- nobody below the next place is meant, where nobody was below this one and nobody is in it
pub none_on : (who : Who) (seats : List (Option Seat)) (at : ℕ) → NoneBelow who seats at →
    ((seat : Seat) → slice_get seats at ≡ Some (Some seat) → is_meant who seat ≡ false) →
    NoneBelow who seats (at + 1)
none_on who seats at none here k other less is =
    ⊎_elim (λ (b : k < at). none k other b is)
    (λ (e : k ≡ at). here other (sym (ap (slice_get seats) e) ∙ is)) (below_or_at k at (omega (arith, less)))

-- no moment comes behind itself
precedes_itself : (last : Bool) (one : Instant) → Precedes last one one
precedes_itself false one = omega arith
precedes_itself true one = omega arith

-- nor behind one that does not come behind another that it does not come behind
precedes_on : (last : Bool) (one other more : Instant) → Precedes last one other → Precedes last other more →
    Precedes last one more
precedes_on false one other more a b = omega (arith, a, b)
precedes_on true one other more a b = omega (arith, a, b)

-- the same of those that go before one of a moment
pub before_on : (who : Who) (seats : List (Option Seat)) (at : ℕ) (since : Instant) →
    NoneBefore who seats at since → ((seat : Seat) → slice_get seats at ≡ Some (Some seat) →
    is_meant who seat ≡ true → Precedes who.last since seat.since) →
    NoneBefore who seats (at + 1) since
before_on who seats at since none here k other less is may =
    ⊎_elim (λ (b : k < at). none k other b is may)
    (λ (e : k ≡ at). here other (sym (ap (slice_get seats) e) ∙ is) may) (below_or_at k at (omega (arith, less)))

-- the first so far stays it, where nobody in the next place is meant
pub stays : (who : Who) (seats : List (Option Seat)) (at : ℕ) (first : Option (ℕ × Instant)) →
    IsFirstBelow who seats at first →
    ((seat : Seat) → slice_get seats at ≡ Some (Some seat) → is_meant who seat ≡ false) →
    IsFirstBelow who seats (at + 1) first
stays who seats at None none here = none_on who seats at none here
stays who seats at (Some first) (seat, since, leaves) here = (
  seat,
  since,
  record {
    sits = leaves.sits;
    leaves = leaves.leaves;
    oldest = before_on who seats at seat.since leaves.oldest
        (λ other is may. absurd (false≢true (sym (here other is) ∙ may)));
  },
)

-- the first so far stays it, where who sits in the next place does not go before it
pub stays_before : (who : Who) (seats : List (Option Seat)) (at : ℕ) (first : ℕ × Instant) (next : Seat) →
    IsFirstBelow who seats at (Some first) → slice_get seats at ≡ Some (Some next) →
    Precedes who.last first.1 next.since → IsFirstBelow who seats (at + 1) (Some first)
stays_before who seats at first next (seat, since, leaves) here later = (
  seat,
  since,
  record {
    sits = leaves.sits;
    leaves = leaves.leaves;
    oldest = before_on who seats at seat.since leaves.oldest
        (λ other is may. rw (same_seat seats at at next other here is refl)
        (subst (λ s. Precedes who.last s next.since) since later));
  },
)

-- who sits in the next place is the first, where nobody below it is meant
pub begins : (who : Who) (seats : List (Option Seat)) (at : ℕ) (next : Seat) →
    NoneBelow who seats at → slice_get seats at ≡ Some (Some next) → is_meant who next ≡ true →
    IsFirstBelow who seats (at + 1) (Some (at, next.since))
begins who seats at next none here may = (
  next,
  refl,
  record {
    sits = here;
    leaves = may;
    oldest = before_on who seats at next.since
        (λ k other less is leaves. absurd (false≢true (sym (none k other less is) ∙ leaves)))
        (λ other is leaves. rw (same_seat seats at at next other here is refl) (precedes_itself who.last next.since));
  },
)

-- who sits in the next place is the first, where it goes before the first so far
pub overtakes : (who : Who) (seats : List (Option Seat)) (at : ℕ) (first : ℕ × Instant) (next : Seat) →
    IsFirstBelow who seats at (Some first) → slice_get seats at ≡ Some (Some next) →
    is_meant who next ≡ true → Precedes who.last next.since first.1 →
    IsFirstBelow who seats (at + 1) (Some (at, next.since))
overtakes who seats at first next (seat, since, leaves) here may earlier = (
  next,
  refl,
  record {
    sits = here;
    leaves = may;
    oldest = before_on who seats at next.since
        (λ k other less is may_too. precedes_on who.last next.since first.1 other.since earlier
        (subst (λ s. Precedes who.last s other.since) (sym since) (leaves.oldest k other less is may_too)))
        (λ other is leaves_too.
        rw (same_seat seats at at next other here is refl) (precedes_itself who.last next.since));
  },
)

-- the first below all places is the first of all
pub whole : (who : Who) (seats : List (Option Seat)) (below : ℕ) (first : Option (ℕ × Instant))
    (found : ℕ × Instant)
    → IsFirstBelow who seats below first → first ≡ Some found → below ≡ length seats →
    (seat : Seat) × IsFirst who seats found.0 seat
whole who seats below first found h is end =
    let (seat, since, leaves) = subst (IsFirstBelow who seats below) is h in
    (seat, subst (λ n. Leaves who seats n found.0 seat) end leaves)

-- a byte that ends a line is passed over
pub line_on : (held : List ℕ) (at byte : ℕ) → slice_get held at ≡ Some byte → ends_line byte ≡ true →
    line_of (drop at held) ≡ line_of (drop (suc at) held)
line_on [] at byte is ends = absurd (no_some byte is)
line_on (b ∷ held) zero byte is ends =
    cond-true _ _ _ (ap ends_line (some_is b byte is) ∙ ends)
line_on (b ∷ held) (suc at) byte is ends = line_on held at byte is ends

-- of those that are to wait no more, who posts a day is meant only where those are
pub posts_meant : (who : Who) (seat : Seat) → is_meant who seat ≡ true → who.waiting ≡ false →
    kind_of seat.held.items ≡ Post → who.posts ≡ true
posts_meant who seat meant called kind = by_called seat.called refl
  where
    by_called : (b : Bool) → seat.called ≡ b → who.posts ≡ true
    by_called true is = sym (ap (of_kind who) kind) ∙ (sym (cond-true _ _ _ is) ∙ meant)
    by_called false is = absurd (false≢true (sym called ∙ (sym (cond-false _ _ _ is) ∙ meant)))

-- and who asks for what is kept where those are
pub reads_meant : (who : Who) (seat : Seat) → is_meant who seat ≡ true → who.waiting ≡ false →
    kind_of seat.held.items ≡ Read → who.reads ≡ true
reads_meant who seat meant called kind = by_called seat.called refl
  where
    by_called : (b : Bool) → seat.called ≡ b → who.reads ≡ true
    by_called true is = sym (ap (of_kind who) kind) ∙ (sym (cond-true _ _ _ is) ∙ meant)
    by_called false is = absurd (false≢true (sym called ∙ (sym (cond-false _ _ _ is) ∙ meant)))

-- where nobody is meant and all others are, of those that are to wait no more only two kinds sit
pub others_wait : (who : Who) (seats : List (Option Seat)) → who.free ≡ true → HasNone who seats →
    OnlyOthersWait seats
others_wait who seats free none k seat less sits called kind =
    absurd (false≢true (sym (none k seat less sits)
    ∙ (cond-true _ _ _ called ∙ (ap (of_kind who) kind ∙ free))))

-- in a place that is set stands what was put there
pub set_here : (seats : List (Option Seat)) (at : ℕ) (new : Option Seat) → at < length seats →
    slice_get (slice_set seats at new) at ≡ Some new
set_here [] at new less = absurd (omega (arith, less))
set_here (s ∷ seats) zero new less = refl
set_here (s ∷ seats) (suc at) new less = set_here seats at new (omega (arith, less))

-- and in each other what stood there
pub set_there : (seats : List (Option Seat)) (at k : ℕ) (new : Option Seat) → k ≢ at →
    slice_get (slice_set seats at new) k ≡ slice_get seats k
set_there [] at k new other = refl
set_there (s ∷ seats) zero zero new other = absurd (other refl)
set_there (s ∷ seats) zero (suc k) new other = refl
set_there (s ∷ seats) (suc at) zero new other = refl
set_there (s ∷ seats) (suc at) (suc k) new other = set_there seats at k new (λ e. other (ap suc e))

-- whoever goes first sits in its place
pub sits_here : (who : Who) (seats : List (Option Seat)) (at : ℕ) (seat : Seat) → IsFirst who seats at seat →
    (place : Option Seat) → slice_get seats at ≡ Some place → Some seat ≡ place
sits_here who seats at seat first place here = some_is (Some seat) place (sym first.sits ∙ here)

-- so it gives its seat, where that place is emptied
pub gives_here : (who : Who) (seats : List (Option Seat)) (at : ℕ) (seat : Seat) → IsFirst who seats at seat →
    (place : Option Seat) → slice_get seats at ≡ Some place →
    IfSome place (λ s. GivesSeat who seats (slice_set seats at None) s)
gives_here who seats at seat first place here =
    subst (λ p. IfSome p (λ s. GivesSeat who seats (slice_set seats at None) s))
    (sits_here who seats at seat first place here) (
      at,
      first,
      set_here seats at None (slice_get_within seats at _ first.sits),
      λ k other. set_there seats at k None other,
    )

-- and that place was none of nobody
pub not_nobody : (who : Who) (seats : List (Option Seat)) (at : ℕ) (seat : Seat) → IsFirst who seats at seat →
    (place : Option Seat) → slice_get seats at ≡ Some place → place ≡ None → ⊥
not_nobody who seats at seat first place here none =
    no_some seat (sym (sits_here who seats at seat first place here ∙ none))

-- who sits in a place counts among those from it on
pub counted_on : (who : Who) (seats : List (Option Seat)) (at : ℕ) (place : Option Seat) →
    slice_get seats at ≡ Some place → meant_in who (drop at seats) ≡ one_of who place + meant_in who (drop (suc at) seats)
counted_on who [] at place is = absurd (no_some place is)
counted_on who (s ∷ seats) zero place is = ap (λ p. one_of who p + meant_in who seats) (some_is s place is)
counted_on who (s ∷ seats) (suc at) place is = counted_on who seats at place is
