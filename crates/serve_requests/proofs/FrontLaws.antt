-- Laws of what stands first in a link's bytes.
use Rattle.std.proofs.Common.{◌≡◌, ℕ, Bool, Result, ◌+◌, ◌<◌, ◌≤◌, inl, inr, List, [], ◌∷◌, ◌++◌, length, take, drop}
use Rattle.std.proofs.Common.{Option, Some, None, refl, sym, ap, subst, ◌∙◌, arith, append_assoc}
use Rattle.std.specs.Io.KnownBytes.{Keeps, Consumes, IsAtEnd, prepend_known}
use Rattle.std.proofs.lemmas.List.{append-nil, take_all, take-append-drop, take-append-le, take-take}
use Rattle.road_io.specs.Plans.{AsPlanned, NeverFails}
use Rattle.httparse.specs.Grammar.{HasNoRequest}
use Rattle.serve_requests.specs.Fronts.{front_of, HasHead, HasNoHead, NeverHasHead, IsBadHead, MayGoOn, IsCutHead}
use Rattle.serve_requests.specs.Fronts.{HeldSoon, ReadsSoon}

-- what was read and what is left are all that there was
pub known_front : (h bytes : List ℕ) (o : Option (List ℕ)) → Keeps (Some bytes) (prepend_known h o) → (more : List ℕ)
    × (o ≡ Some more) × (bytes ≡ h ++ more)
known_front h bytes None k = absurd k
known_front h bytes (Some more) k = (more, refl, sym k)

-- the same, as one text
pub known_whole : (h bytes : List ℕ) (o : Option (List ℕ)) → Keeps (Some bytes) (prepend_known h o) →
    prepend_known h o ≡ Some bytes
known_whole h bytes None k = absurd k
known_whole h bytes (Some more) k = ap Some k

-- nothing was left
pub known_end : (h bytes : List ℕ) (old new : Option (List ℕ)) → Keeps (Some bytes) (prepend_known h old) →
    Consumes old new [] → IsAtEnd new → bytes ≡ h
known_end h bytes None new k c e = absurd k
known_end h bytes (Some more) None k c e = absurd c
known_end h bytes (Some more) (Some after) k c e = sym k ∙ ap (λ l. h ++ l) (c ∙ e) ∙ append-nil h

-- the front goes on where what was read ends
front_more : (h more : List ℕ) → length h ≤ 8192 → (x : List ℕ) × (front_of (h ++ more) ≡ h ++ x)
front_more h more le =
    let f = front_of (h ++ more) in (
      drop (length h) f,
      sym (take-append-drop (length h) f)
          ∙ ap (λ l. l ++ drop (length h) f)
          (take-take (length h) 8192 (h ++ more) le ∙ take-append-le (length h) h more (omega arith)
          ∙ take_all (length h) h (omega arith)),
    )

-- where no head can come, none comes
pub never_bad : (h bytes more : List ℕ) → length h ≤ 8192 → bytes ≡ h ++ more → NeverHasHead h →
    IsBadHead (front_of bytes)
never_bad h bytes more le is never =
    let f = front_more h more le in
    let all : NeverHasHead (h ++ f.0) =
    λ next head rest has. never (f.0 ++ next) head rest
    (subst (λ l. HasHead l head rest) (append_assoc h f.0 next) has) in
    let none : HasNoHead (h ++ f.0) =
    λ head rest has. all [] head rest (subst (λ l. HasHead l head rest) (sym (append-nil (h ++ f.0))) has) in
    subst IsBadHead (sym (ap front_of is ∙ f.1)) (none, inr all)

-- where there is no request there is no head
no_head : (h : List ℕ) → HasNoRequest h → HasNoHead h
no_head h none head rest has = none head rest has.0

-- a head that is not whole in all the room
pub open_bad : (h bytes more : List ℕ) → length h ≡ 8192 → bytes ≡ h ++ more → HasNoRequest h →
    IsBadHead (front_of bytes)
open_bad h bytes more size is none =
    let same : front_of (h ++ more) ≡ h = take-append-le 8192 h more (omega arith) ∙ take_all 8192 h (omega arith) in
    subst IsBadHead (sym (ap front_of is ∙ same)) (no_head h none, inl size)

-- a head that the end of the link cuts
pub open_cut : (h bytes : List ℕ) → length h < 8192 → bytes ≡ h → HasNoRequest h → MayGoOn h →
    IsCutHead (front_of bytes)
open_cut h bytes less is none may =
    subst IsCutHead (sym (ap front_of is ∙ take_all 8192 h (omega arith))) (no_head h none, less, may)

-- more was read behind what is held
pub known_on : (h t now : List ℕ) (first before after : Option (List ℕ)) → Keeps first (prepend_known h before) →
    Consumes before after t → now ≡ h ++ t → Keeps first (prepend_known now after)
known_on h t now None before after k c e = tt
known_on h t now (Some bytes) None after k c e = absurd k
known_on h t now (Some bytes) (Some xs) None k c e = absurd c
known_on h t now (Some bytes) (Some xs) (Some ys) k c e =
    ap (λ z. z ++ ys) e ∙ append_assoc h t ys ∙ ap (λ z. h ++ z) (sym c) ∙ k

-- no call fails after one that was planned
pub sure_on : {T E : Type 0} (before after : Option (ℕ → Bool)) (r : Result T E) → NeverFails before →
    AsPlanned before after r → NeverFails after
sure_on None after r never planned = absurd never
sure_on (Some p) None r never planned = absurd planned
sure_on (Some p) (Some q) r never planned = λ n. planned.1 n ∙ never (n + 1)

-- what is behind the front
drop_front : (h more : List ℕ) → drop (length h) (h ++ more) ≡ more
drop_front [] more = refl
drop_front (b ∷ h) more = drop_front h more

-- no more was read than is held
pub read_within : (h bytes : List ℕ) (o : Option (List ℕ)) → length h ≤ 8192 → Keeps (Some bytes) (prepend_known h o) →
    (count : ℕ) × (count ≤ 8192) × (o ≡ Some (drop count bytes))
read_within h bytes None le k = absurd k
read_within h bytes (Some more) le k = (length h, le, ap Some (sym (ap (drop (length h)) (sym k) ∙ drop_front h more)))

-- a read that gave nothing
pub known_kept : (h : List ℕ) (first before after : Option (List ℕ)) → Keeps first (prepend_known h before) →
    Keeps before after → Keeps first (prepend_known h after)
known_kept h None before after k e = tt
known_kept h (Some bytes) None after k e = absurd k
known_kept h (Some bytes) (Some xs) None k e = absurd e
known_kept h (Some bytes) (Some xs) (Some ys) k e = ap (λ l. h ++ l) e ∙ k

-- what gives nothing leaves all
pub keeps_none : (before after : Option (List ℕ)) → Consumes before after [] → Keeps before after
keeps_none None after e = tt
keeps_none (Some xs) None e = absurd e
keeps_none (Some xs) (Some ys) e = sym e

-- what is held of some bytes are their first
held_first : (h bytes : List ℕ) (o : Option (List ℕ)) → Keeps (Some bytes) (prepend_known h o) →
    take (length h) bytes ≡ h
held_first h bytes None k = absurd k
held_first h bytes (Some more) k =
    ap (take (length h)) (sym k) ∙ take-append-le (length h) h more (omega arith) ∙ take_all (length h) h (omega arith)

-- a read behind what was held, in which no head stood first
pub soon_on : (h bytes : List ℕ) (o : Option (List ℕ)) (most held n : ℕ) → Keeps (Some bytes) (prepend_known h o) →
    length h ≡ held → HasNoRequest h → MayGoOn h → n ≤ most → HeldSoon most bytes (held + n)
soon_on h bytes o most held n k size none may few =
    (let first = sym (held_first h bytes o k) in
    inr (length h, omega (arith, size, few), subst HasNoHead first (no_head h none), subst MayGoOn first may))

-- what is held was read, and no more
pub soon_left : (h bytes : List ℕ) (o : Option (List ℕ)) (most held : ℕ) → Keeps (Some bytes) (prepend_known h o) →
    length h ≡ held → HeldSoon most bytes held → ReadsSoon most bytes o
soon_left h bytes None most held k size soon = absurd k
soon_left h bytes (Some more) most held k size soon =
    (held, ap Some (sym (ap (drop held) (sym k) ∙ subst (λ n. drop n (h ++ more) ≡ more) size (drop_front h more))), soon)
