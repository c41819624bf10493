-- Laws of the body of a request.
use Rattle.std.proofs.Common.{◌≡◌, ℕ, Bool, true, ◌+◌, ◌≤◌, ◌==◌, List, [], ◌∷◌, ◌++◌, length, take, drop, zero, suc}
use Rattle.std.proofs.Common.{Option, Some, None, Result, Err, refl, sym, ap, subst, ◌∙◌, arith, append_assoc}
use Rattle.std.specs.Io.KnownBytes.{Keeps, Consumes, prepend_known}
use Rattle.std.proofs.lemmas.List.{take-append-drop, drop-append-le, drop-drop, length-take-le, length-drop}
use Rattle.std.proofs.lemmas.List.{length-append}
use Rattle.std.proofs.lemmas.Bool.{eqb-true}
use Rattle.road_io.specs.Faults.{Rose}
use Rattle.road_io.specs.Plans.{AsPlanned, NeverFails}
use Rattle.serve_requests.specs.declared.body_end.BodyEnd.{BodyEnd}
use Rattle.serve_requests.specs.declared.body_end.BodyEnd.TheVariants.{Whole, Cut, LinkFault}
use Rattle.serve_requests.specs.AskedBodies.{HasEndCause, filled, body_left, IsBehind, IsSure}

-- nothing more was read
pub behind_kept : (k : ℕ) (bytes : Option (List ℕ)) (early : List ℕ) (before after : Option (List ℕ)) →
    IsBehind k bytes early before → Keeps before after → IsBehind k bytes early after
behind_kept k bytes early None after h e = λ all is. absurd (cc (h all is).0)
behind_kept k bytes early (Some xs) None h e = absurd e
behind_kept k bytes early (Some xs) (Some ys) h e =
    λ all is. (ap (λ zs. Some (early ++ zs)) e ∙ (h all is).0, (h all is).1)

drop_front : (t ys : List ℕ) → drop (length t) (t ++ ys) ≡ ys
drop_front [] ys = refl
drop_front (b ∷ t) ys = drop_front t ys

some_inj : (xs ys : List ℕ) → Some xs ≡ Some ys → xs ≡ ys
some_inj xs ys e = cc e

-- some of the link's bytes were read
pub behind_read : (k n next : ℕ) (bytes : Option (List ℕ)) (t : List ℕ) (before after : Option (List ℕ)) →
    IsBehind k bytes [] before → Consumes before after t → length t ≡ n → next ≡ k + n → IsBehind next bytes [] after
behind_read k n next bytes t None after h e size is = λ all at. absurd (cc (h all at).0)
behind_read k n next bytes t (Some xs) None h e size is = absurd e
behind_read k n next bytes t (Some xs) (Some ys) h e size is = λ all at.
    let front : drop n xs ≡ ys = ap (λ m. drop m xs) (sym size) ∙ ap (drop (length t)) e ∙ drop_front t ys in
    let rest = some_inj _ _ (h all at).0 in
    let long = length-drop k all in
    let parts = length-append t ys in (
      ap Some (sym front ∙ ap (drop n) rest ∙ drop-drop n k all ∙ ap (λ m. drop m all) (sym is)),
      omega (arith, (h all at).1, long, parts, size, is, ap length e, ap length rest),
    )

-- some of the early bytes were read
pub behind_early : (k n next : ℕ) (bytes : Option (List ℕ)) (early rest : List ℕ) (known : Option (List ℕ)) →
    IsBehind k bytes early known → n ≤ length early → rest ≡ drop n early → next ≡ k + n →
    IsBehind next bytes rest known
behind_early k n next bytes early rest None h le r is = λ all at. absurd (cc (h all at).0)
behind_early k n next bytes early rest (Some xs) h le r is = λ all at.
    let front = some_inj _ _ (h all at).0 in
    let long = length-drop k all in
    let parts = length-append early xs in (
      ap Some (ap (λ l. l ++ xs) r ∙ sym (drop-append-le n early xs le) ∙ ap (drop n) front ∙ drop-drop n k all
          ∙ ap (λ m. drop m all) (sym is)),
      omega (arith, (h all at).1, long, parts, le, is, ap length front),
    )

-- the calls to come do not fail
pub sure_on : {T E : Type 0} (before after : Option (ℕ → Bool)) (r : Result T E) → AsPlanned before after r →
    IsSure before → IsSure after
sure_on None after r planned h = absurd (cc (h 0))
sure_on (Some p) None r planned h = absurd planned
sure_on (Some p) (Some q) r planned h = λ n. planned.1 n ∙ h (n + 1)

-- where none fails, none failed
pub not_sure : {E : Type 0} (T : Type 0) (before after : Option (ℕ → Bool)) (e : E) →
    AsPlanned {T = T} before after (Err e) → IsSure before → ⊥
not_sure T None after e planned h = cc (h 0)
not_sure T (Some p) None e planned h = planned
not_sure T (Some p) (Some q) e planned h = cc (planned.0 ∙ h 0)

-- what is filled, in two parts
pub filled_more : (t ys : List ℕ) (n m : ℕ) → n ≡ length t + m → filled n (t ++ ys) ≡ t ++ filled m ys
filled_more [] ys n m is = (let same : n ≡ m = omega arith in ap (λ k. filled k ys) same)
filled_more (b ∷ t) ys n m is =
    let next : suc (length t + m) ≡ n = omega arith in
    subst (λ k. filled k (b ∷ (t ++ ys)) ≡ b ∷ (t ++ filled m ys)) next
    (ap (λ l. b ∷ l) (filled_more t ys (length t + m) m refl))

-- a read of the link takes the first of what is left of the body
pub takes_link : (n m : ℕ) (t : List ℕ) (before after : Option (List ℕ)) → Consumes before after t → n ≡ length t + m →
    Consumes (body_left n [] before) (body_left m [] after) t
takes_link n m t None after e is = tt
takes_link n m t (Some xs) None e is = absurd e
takes_link n m t (Some xs) (Some ys) e is = ap (filled n) e ∙ filled_more t ys n m is

-- so does a read of the early bytes
pub takes_early : (n m k : ℕ) (early rest : List ℕ) (known : Option (List ℕ)) → k ≤ length early → rest ≡ drop k early →
    n ≡ k + m → Consumes (body_left n early known) (body_left m rest known) (take k early)
takes_early n m k early rest None le r is = tt
takes_early n m k early rest (Some xs) le r is =
    let size = length-take-le k early le in
    ap (λ l. filled n (l ++ xs)) (sym (take-append-drop k early))
    ∙ ap (filled n) (append_assoc (take k early) (drop k early) xs)
    ∙ filled_more (take k early) (drop k early ++ xs) n m (omega (arith, size))
    ∙ ap (λ l. take k early ++ filled m (l ++ xs)) (sym r)

pub empty : (xs : List ℕ) → true ≡ (length xs == 0) → xs ≡ []
empty [] e = refl
empty (x ∷ xs) e = absurd (let zero_long = eqb-true (length (x ∷ xs)) 0 (sym e) in omega (arith, zero_long))

-- a later fault rose too
pub rose_from : (before now after : ℕ) → before ≤ now → Rose now after → Rose before after
rose_from before now after le rose = omega (arith, le, rose)

-- what a body tells where it begins
pub body_told : (count : ℕ) (early all : List ℕ) (left : Option (List ℕ)) → prepend_known early left ≡ Some all →
    body_left count early left ≡ Some (filled count all)
body_told count early all None is = absurd (cc is)
body_told count early all (Some xs) is = ap (λ l. Some (filled count l)) (some_inj _ _ is)

filled_none : (n : ℕ) (xs : List ℕ) → filled n xs ≡ [] → n ≡ 0
filled_none zero xs e = refl
filled_none (suc n) [] e = absurd (cc e)
filled_none (suc n) (x ∷ xs) e = absurd (cc e)

-- a body of which nothing is left
pub none_left : (n : ℕ) (early : List ℕ) (known : Option (List ℕ)) → body_left n early known ≡ Some [] → n ≡ 0
none_left n early None e = absurd (cc e)
none_left n early (Some xs) e = filled_none n (early ++ xs) (some_inj _ _ e)

-- no call to come fails, in the words of a body
pub sure_plan : (plan : Option (ℕ → Bool)) → NeverFails plan → IsSure plan
sure_plan None never = absurd never
sure_plan (Some p) never = never

-- where no call fails a body does not end at a fault of its link
pub never_faulty : (plan : Option (ℕ → Bool)) (before now : ℕ) (end : BodyEnd) → HasEndCause plan before now end →
    NeverFails plan → end ≡ LinkFault → ⊥
never_faulty plan before now Whole cause never is = cc is
never_faulty plan before now Cut cause never is = cc is
never_faulty plan before now LinkFault cause never is = cause.1 (sure_plan plan never)
