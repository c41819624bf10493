-- Laws of writing one piece after another.
use Rattle.std.proofs.Common.{◌≡◌, ℕ, ◌+◌, ◌<◌, List, [], ◌++◌, Option, Some, None, sym, ap, ◌∙◌, append_assoc, arith}
use Rattle.std.specs.Io.KnownBytes.{Appends, Keeps}
use Rattle.std.proofs.lemmas.List.{append-nil}
use Rattle.road_io.specs.Rooms.{Room, Untold, Bound, Endless, Takes, Refuses}
use Rattle.road_io.specs.Levels.{Fills}

pub appends_none : (a : Option (List ℕ)) → Appends a a []
appends_none None = tt
appends_none (Some x) = sym (append-nil x)

pub appends_on : (a b c : Option (List ℕ)) (xs ys zs : List ℕ) → Appends a b xs → Appends b c ys → zs ≡ xs ++ ys →
    Appends a c zs
appends_on None b c xs ys zs h k e = tt
appends_on (Some x) None c xs ys zs h k e = absurd h
appends_on (Some x) (Some y) None xs ys zs h k e = absurd k
appends_on (Some x) (Some y) (Some z) xs ys zs h k e = k ∙ ap (λ l. l ++ ys) h ∙ append_assoc x xs ys
    ∙ ap (λ l. x ++ l) (sym e)

pub appends_kept : (a b c : Option (List ℕ)) (xs : List ℕ) → Appends a b xs → Keeps b c → Appends a c xs
appends_kept None b c xs h k = tt
appends_kept (Some x) None c xs h k = absurd h
appends_kept (Some x) (Some y) None xs h k = absurd k
appends_kept (Some x) (Some y) (Some z) xs h k = k ∙ h

pub takes_none : (a : Room) → Takes a a 0
takes_none Untold = tt
takes_none (Bound m) = omega arith
takes_none Endless = tt

pub takes_on : (a b c : Room) (m n k : ℕ) → Takes a b m → Takes b c n → m + n ≡ k → Takes a c k
takes_on Untold b c m n k h j e = tt
takes_on (Bound x) Untold c m n k h j e = absurd h
takes_on (Bound x) Endless c m n k h j e = absurd h
takes_on (Bound x) (Bound y) Untold m n k h j e = absurd j
takes_on (Bound x) (Bound y) Endless m n k h j e = absurd j
takes_on (Bound x) (Bound y) (Bound z) m n k h j e = omega arith
takes_on Endless Untold c m n k h j e = absurd h
takes_on Endless (Bound y) c m n k h j e = absurd h
takes_on Endless Endless Untold m n k h j e = absurd j
takes_on Endless Endless (Bound z) m n k h j e = absurd j
takes_on Endless Endless Endless m n k h j e = tt

pub refuses_on : (a b c : Room) (m k : ℕ) → Takes a b m → Refuses b c 1 → m < k → Refuses a c k
refuses_on Untold b c m k h j e = tt
refuses_on (Bound x) Untold c m k h j e = absurd h
refuses_on (Bound x) Endless c m k h j e = absurd h
refuses_on (Bound x) (Bound y) Untold m k h j e = absurd j
refuses_on (Bound x) (Bound y) Endless m k h j e = absurd j
refuses_on (Bound x) (Bound y) (Bound z) m k h j e = (omega (arith, h, j.0), j.1)
refuses_on Endless Untold c m k h j e = absurd h
refuses_on Endless (Bound y) c m k h j e = absurd h
refuses_on Endless Endless c m k h j e = absurd j

-- a room that was filled after some bytes were taken
pub fills_on : (a b c : Room) (m : ℕ) → Takes a b m → Refuses b c 1 → Fills a c m
fills_on Untold b c m h j = tt
fills_on (Bound x) Untold c m h j = absurd h
fills_on (Bound x) Endless c m h j = absurd h
fills_on (Bound x) (Bound y) Untold m h j = absurd j
fills_on (Bound x) (Bound y) Endless m h j = absurd j
fills_on (Bound x) (Bound y) (Bound z) m h j = (omega (arith, h, j.0), ap Bound j.1)
fills_on Endless Untold c m h j = absurd h
fills_on Endless (Bound y) c m h j = absurd h
fills_on Endless Endless c m h j = absurd j

pub keeps_of_appends : (a b : Option (List ℕ)) → Appends a b [] → Keeps a b
keeps_of_appends None b h = tt
keeps_of_appends (Some x) None h = absurd h
keeps_of_appends (Some x) (Some y) h = h ∙ append-nil x
