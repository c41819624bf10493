-- Laws of the desk's routes: each path of a route's form finds that route.
use Rattle.std.proofs.Common.{◌≡◌, ℕ, suc, ◌-◌, ◌<◌, ◌==◌, ◌&&◌, Bool, true, false, cond, List, [], ◌∷◌, ◌++◌, codes}
use Rattle.std.proofs.Common.{length, drop, Some, lt-ltb, nat_eq, refl, ap, ◌∙◌, arith}
use Rattle.std.specs.Cmp.Lexicographic.{pointwise}
use Rattle.std.proofs.lemmas.Bool.{ne_eqb, cond-false, and_from, and_parts}
use Rattle.std.proofs.lemmas.List.{length-append, drop_all}
use Rattle.matchit.specs.Rows.{Rows}
use Rattle.matchit.specs.Seek.{seek, first, step, param_step, segment, has_slash, cuts}
use Rattle.matchit.proofs.SeekLemmas.{seek-empty, seek-drop, or_else-none, param_step-empty}
use Rattle.serve_requests.specs.Rows.{desk_rows, IsPart, FindRoutes}

-- a row that begins with a parameter goes on with no byte
no_step : (b k : ℕ) (w : List ℕ) → b < 256 → step b ((256 ∷ w, k) ∷ []) ≡ []
no_step b k w less = cond-false (256 == b) _ _ (ne_eqb 256 b (λ e. omega (arith, e)))

-- what is behind a text
drop_self : (t rest : List ℕ) → drop (length t) (t ++ rest) ≡ rest
drop_self [] rest = refl
drop_self (b ∷ t) rest = drop_self t rest

-- the last part of a path
pub last_part : (k b : ℕ) (t : List ℕ) → b < 256 → has_slash (b ∷ t) ≡ false →
    seek 0 ((256 ∷ [], k) ∷ []) (b ∷ t) ≡ Some k
unfolding seek param_step
last_part k b t less whole =
    let skip : seek (length t) (([], k) ∷ []) t ≡ Some k = seek-drop (length t) (([], k) ∷ []) t
    ∙ ap (seek 0 (([], k) ∷ [])) (drop_all (length t) t (omega arith)) in
    let other : (256 == b) ≡ false = ne_eqb 256 b (λ e. omega (arith, e)) in
    let one : suc (length t) - 1 ≡ length t = omega arith in
    rw (other, whole, one, skip, seek-empty 0 t) refl

-- the segment of a part with a slash behind it
segment_part : (part rest : List ℕ) → has_slash part ≡ false → segment (part ++ 47 ∷ rest) ≡ part ++ 47 ∷ []
segment_part [] rest whole = refl
segment_part (b ∷ part) rest whole = by (b == 47) whole (λ w. segment_part part rest w)
  where
    by : (v : Bool) → cond v true (has_slash part) ≡ false →
        (has_slash part ≡ false → segment (part ++ 47 ∷ rest) ≡ part ++ 47 ∷ []) →
        cond v (b ∷ []) (b ∷ segment (part ++ 47 ∷ rest)) ≡ b ∷ (part ++ 47 ∷ [])
    by true w ih = absurd (cc w)
    by false w ih = ap (λ l. b ∷ l) (ih w)

-- a slash can be cut from the end of a segment that has more
cuts_part : (part : List ℕ) → 0 < length part → cuts (part ++ 47 ∷ []) (47 ∷ []) ≡ true
cuts_part part some =
    let size = length-append part (47 ∷ []) in
    let at : length (part ++ 47 ∷ []) - 1 ≡ length part = omega (arith, size) in
    let end : drop (length (part ++ 47 ∷ []) - 1) (part ++ 47 ∷ []) ≡ 47 ∷ [] = ap (λ n. drop n (part ++ 47 ∷ [])) at
    ∙ drop_self part (47 ∷ []) in
    and_from _ _ (lt-ltb 1 (length (part ++ 47 ∷ [])) (omega (arith, size, some)))
    (ap (λ l. pointwise nat_eq (47 ∷ []) l) end)

-- a parameter takes a part before a slash
param_part : (k : ℕ) (w path part : List ℕ) → segment path ≡ part ++ 47 ∷ [] → 0 < length part →
    param_step ((47 ∷ w, k) ∷ []) path ≡ (length part, (47 ∷ w, k) ∷ [])
unfolding param_step
param_part k w path part is some =
    let size = length-append part (47 ∷ []) in
    let at : length (part ++ 47 ∷ []) - 1 ≡ length part = omega (arith, size) in
    rw (is, cuts_part part some, at) refl

-- a part with a slash behind it
pub next_part : (k b : ℕ) (t rest w : List ℕ) → b < 256 → has_slash (b ∷ t) ≡ false →
    seek 0 ((256 ∷ 47 ∷ w, k) ∷ []) (b ∷ (t ++ 47 ∷ rest)) ≡ seek 0 ((47 ∷ w, k) ∷ []) (47 ∷ rest)
unfolding seek param_step
next_part k b t rest w less whole =
    let rows = (47 ∷ w, k) ∷ [] in
    let skip : seek (length t) rows (t ++ 47 ∷ rest) ≡ seek 0 rows (47 ∷ rest) =
    seek-drop (length t) rows (t ++ 47 ∷ rest) ∙ ap (seek 0 rows) (drop_self t (47 ∷ rest)) in
    let other : (256 == b) ≡ false = ne_eqb 256 b (λ e. omega (arith, e)) in
    let one : suc (length t) - 1 ≡ length t = omega arith in
    let took = param_part k w (b ∷ (t ++ 47 ∷ rest)) (b ∷ t) (segment_part (b ∷ t) rest whole) (omega arith) in
    rw (other, took, one, skip, seek-empty 0 (t ++ 47 ∷ rest)) (or_else-none (seek 0 rows (47 ∷ rest)))

-- rows that go on with a byte alone
lit : (b : ℕ) (rs : Rows) (p : List ℕ) → step 256 rs ≡ [] → step 257 rs ≡ [] → seek 0 rs (b ∷ p) ≡ seek 0 (step b rs) p
unfolding seek
lit b rs p none all =
    rw (none, all, param_step-empty (b ∷ p), seek-empty ((param_step {K = ℕ} [] (b ∷ p)).0 - 1) p)
    (or_else-none (seek 0 (step b rs) p))

-- whether there are no rows
abbrev is_none : Rows → Bool
is_none [] = true
is_none (r ∷ rs) = false

-- then there are none
from_none : (rs : Rows) → is_none rs ≡ true → rs ≡ []
from_none [] e = refl
from_none (r ∷ rs) e = absurd (cc e)

-- the rows after some bytes, and whether each step is by a byte alone
abbrev steps : List ℕ → Rows → Rows
steps [] rs = rs
steps (d ∷ ds) rs = steps ds (step d rs)

-- whether each step of these bytes is by a byte alone
abbrev are_lit : List ℕ → Rows → Bool
are_lit [] rs = true
are_lit (d ∷ ds) rs = is_none (step 256 rs) && (is_none (step 257 rs) && are_lit ds (step d rs))

-- rows that go on with these bytes alone
lits : (ds : List ℕ) (rs : Rows) (p : List ℕ) → are_lit ds rs ≡ true → seek 0 rs (ds ++ p) ≡ seek 0 (steps ds rs) p
lits [] rs p e = refl
lits (d ∷ ds) rs p e =
    let a = and_parts _ _ e in
    let b = and_parts _ _ a.1 in
    lit d rs (ds ++ p) (from_none _ a.0) (from_none _ b.0) ∙ lits ds (step d rs) p b.1

-- the last part of a path, as a part
last_of : (k : ℕ) (part : List ℕ) → IsPart part → seek 0 ((256 ∷ [], k) ∷ []) part ≡ Some k
last_of k [] p = absurd (omega (arith, p.some))
last_of k (b ∷ t) p = last_part k b t p.text.0 p.whole

-- a part with a slash behind it, as a part
next_of : (k : ℕ) (part rest w : List ℕ) → IsPart part →
    seek 0 ((256 ∷ 47 ∷ w, k) ∷ []) (part ++ 47 ∷ rest) ≡ seek 0 ((47 ∷ w, k) ∷ []) (47 ∷ rest)
next_of k [] rest w p = absurd (omega (arith, p.some))
next_of k (b ∷ t) rest w p = next_part k b t rest w p.text.0 p.whole

-- the path of all accounts
live_found : first desk_rows (codes "/live") ≡ Some 2
unfolding seek param_step
live_found = refl

-- the path of all kept days
days_found : first desk_rows (codes "/days") ≡ Some 4
unfolding seek param_step
days_found = refl

-- the path of the page
page_found : first desk_rows (codes "/") ≡ Some 6
unfolding seek param_step
page_found = refl

-- the path of the keeper's health
health_found : first desk_rows (codes "/health") ≡ Some 8
unfolding seek param_step
health_found = refl

-- each path of a route's form finds that route
pub find_routes : FindRoutes
find_routes = (
  live_found,
  λ day p. lits (codes "/days/") desk_rows day refl ∙ last_of 0 day p,
  λ vid p. lits (codes "/live/") desk_rows vid refl ∙ last_of 1 vid p,
  λ day xway vid p q r.
      lits (codes "/spent/") desk_rows (day ++ 47 ∷ (xway ++ 47 ∷ vid)) refl
      ∙ next_of 3 day (xway ++ 47 ∷ vid) (256 ∷ 47 ∷ 256 ∷ []) p
      ∙ lits (47 ∷ []) ((47 ∷ 256 ∷ 47 ∷ 256 ∷ [], 3) ∷ []) (xway ++ 47 ∷ vid) refl
      ∙ next_of 3 xway vid (256 ∷ []) q ∙ lits (47 ∷ []) ((47 ∷ 256 ∷ [], 3) ∷ []) vid refl
      ∙ last_of 3 vid r,
  days_found,
  λ vid from to p q r.
      lits (codes "/vehicles/") desk_rows (vid ++ 47 ∷ (from ++ 47 ∷ to)) refl
      ∙ next_of 5 vid (from ++ 47 ∷ to) (256 ∷ 47 ∷ 256 ∷ []) p
      ∙ lits (47 ∷ []) ((47 ∷ 256 ∷ 47 ∷ 256 ∷ [], 5) ∷ []) (from ++ 47 ∷ to) refl
      ∙ next_of 5 from to (256 ∷ []) q ∙ lits (47 ∷ []) ((47 ∷ 256 ∷ [], 5) ∷ []) to refl
      ∙ last_of 5 to r,
  page_found,
  λ day p. lits (codes "/answers/") desk_rows day refl ∙ last_of 7 day p,
  health_found,
)
