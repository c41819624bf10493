-- sums by vehicle and expressway, as entries and as a map
use Rattle.std.proofs.Common.{◌≡◌, ℕ, ◌+◌, ◌≤◌, ◌==◌, ◌&&◌, Bool, true, false, cond, T, List, [], ◌∷◌, length, Option}
use Rattle.std.proofs.Common.{Some, None, refl, sym, ap, ◌∙◌, arith}
use Rattle.std.specs.Option.{unwrap_or}
use Rattle.std.specs.List.{filter, fold, sum_by}
use Rattle.std.specs.Map.{lookup}
use Rattle.std.specs.declared.cmp.Ordering.{Ordering}
use Rattle.std.specs.Ordering.{is_eq, is_lt, eq_by_cmp}
use Rattle.std.specs.declared.cmp.Ordering.TheVariants.{Less, Equal, Greater}
use Rattle.std.specs.FinMap.{empty, get, insert, entries, find, put, is_sorted, same_map, get-empty, get-insert}
use Rattle.std.specs.FinMap.{get-from_entries, get-entries, entries-insert, entries_sorted, len-empty, len-entries}
use Rattle.std.specs.FinMap.Entries.{below_all, by_order}
use Rattle.std.proofs.lemmas.List.Sums.{sum_by-cons}
use Rattle.std.proofs.lemmas.Bool.{cond_both, cond-true, cond-false}
use Rattle.road_time.specs.Day.{ChargedToll, sum_of, charges_to}
use Rattle.road_time.specs.Rows.{charges_on, spent}
use Rattle.day_floor.specs.Sums.{owner_cmp, SpentMap, sums_of, amount_in, account_in, total_in, with_charge, spent_by}
use Rattle.day_floor.specs.Sums.{same_owner}
use Rattle.day_floor.proofs.OwnerOrder.{owner_total, owner_ties, owner_tied, same_flip, same_is}

-- look-ups

-- the map finds in entries what a look-up finds
find_owner : (es : List ((ℕ × ℕ) × ℕ)) (q : ℕ × ℕ) → find owner_cmp q es ≡ lookup (same_owner q) es
find_owner [] q = refl
find_owner (e ∷ es) q =
    ap (λ b. cond b (Some e.1) (find owner_cmp q es)) (owner_tied q e.0)
    ∙ ap (λ o. cond (same_owner q e.0) (Some e.1) o) (find_owner es q)

-- the map of entries has what a look-up finds in them
pub get_sums : (es : List ((ℕ × ℕ) × ℕ)) (q : ℕ × ℕ) → get (sums_of es) q ≡ lookup (same_owner q) es
get_sums es q = get-from_entries owner_total es q ∙ find_owner es q

-- entries that look up alike but for one are the map with that one put in
pub sums_after : (es fs : List ((ℕ × ℕ) × ℕ)) (k : ℕ × ℕ) (n : ℕ) →
    ((q : ℕ × ℕ) → lookup (same_owner q) fs ≡ cond (same_owner k q) (Some n) (lookup (same_owner q) es)) →
    sums_of fs ≡ insert (sums_of es) k n
sums_after es fs k n h =
    same_map owner_total owner_ties (sums_of fs) (insert (sums_of es) k n)
    (λ q. get_sums fs q
    ∙ (h q ∙ (ap (λ b. cond b (Some n) (lookup (same_owner q) es)) (same_flip k q ∙ sym (owner_tied q k))
    ∙ (ap (λ o. cond (eq_by_cmp owner_cmp q k) (Some n) o) (sym (get_sums es q))
    ∙ sym (get-insert owner_total (sums_of es) k n q)))))

-- sums over entries

-- the entries whose owners pass a test, added up
abbrev weight : (ℕ × ℕ → Bool) → List ((ℕ × ℕ) × ℕ) → ℕ
weight p es = sum_by (λ e. cond (p e.0) e.1 0) es

-- the first of two tests that pass
left_part : (a b : Bool) → T (a && b) → T a
left_part true b h = tt
left_part false b h = h

-- the second of two tests that pass
right_part : (a b : Bool) → T (a && b) → T b
right_part true b h = h
right_part false b h = absurd h

-- what is tested as less is less
less_is : (r : Ordering) → T (is_lt r) → r ≡ Less
less_is Less h = refl
less_is Equal h = absurd h
less_is Greater h = absurd h

-- an owner below all entries has none
none_below : (es : List ((ℕ × ℕ) × ℕ)) (k x : ℕ × ℕ) → owner_cmp k x ≡ Less → T (below_all owner_cmp x es) →
    find owner_cmp k es ≡ None
none_below [] k x l h = refl
none_below (e ∷ es) k x l h =
    ap (λ r. cond (is_eq r) (Some e.1) (find owner_cmp k es))
    (owner_total.trans k x e.0 l (less_is (owner_cmp x e.0) (left_part _ _ h)))
    ∙ none_below es k x l (right_part _ _ h)

-- nothing, either way
cond_zero : (b : Bool) → ◌≡◌ {A = ℕ} (cond b 0 0) 0
cond_zero true = refl
cond_zero false = refl

-- the same with one entry before the others
put_step : (p : ℕ × ℕ → Bool) (k : ℕ × ℕ) (v : ℕ) (e : (ℕ × ℕ) × ℕ) (es : List ((ℕ × ℕ) × ℕ)) →
    T (below_all owner_cmp e.0 es) →
    weight p (put owner_cmp k v es) + cond (p k) (unwrap_or (find owner_cmp k es) 0) 0 ≡ weight p es + cond (p k) v 0 →
    (r : Ordering) → owner_cmp k e.0 ≡ r →
    weight p (by_order r ((k, v) ∷ e ∷ es) ((e.0, v) ∷ es) (e ∷ put owner_cmp k v es)) + cond (p k)
    (unwrap_or (cond (is_eq r) (Some e.1) (find owner_cmp k es)) 0) 0 ≡ weight p (e ∷ es) + cond (p k) v 0
put_step p k v e es below rest Less is =
    let none : cond (p k) (unwrap_or (find owner_cmp k es) 0) 0 ≡ 0 =
    ap (λ o. cond (p k) (unwrap_or o 0) 0) (none_below es k e.0 is below) ∙ cond_zero (p k) in
    let more = sum_by-cons (λ (e : (ℕ × ℕ) × ℕ). cond (p e.0) e.1 0) (k, v) (e ∷ es) in
    omega (arith, none, more)
put_step p k v e es below rest Equal is =
    let same : p k ≡ p e.0 = ap p (owner_ties k e.0 is) in
    let old = sum_by-cons (λ (e : (ℕ × ℕ) × ℕ). cond (p e.0) e.1 0) e es in
    let new = sum_by-cons (λ (e : (ℕ × ℕ) × ℕ). cond (p e.0) e.1 0) (e.0, v) es in
    let a : cond (p k) e.1 0 ≡ cond (p e.0) e.1 0 = ap (λ b. cond b e.1 0) same in
    let b : cond (p k) v 0 ≡ cond (p e.0) v 0 = ap (λ b. cond b v 0) same in
    omega (arith, old, new, a, b)
put_step p k v e es below rest Greater is =
    let old = sum_by-cons (λ (e : (ℕ × ℕ) × ℕ). cond (p e.0) e.1 0) e es in
    let new = sum_by-cons (λ (e : (ℕ × ℕ) × ℕ). cond (p e.0) e.1 0) e (put owner_cmp k v es) in
    omega (arith, old, new, rest)

-- putting a number in for another changes the sum by as much
weight_put : (p : ℕ × ℕ → Bool) (k : ℕ × ℕ) (v : ℕ) (es : List ((ℕ × ℕ) × ℕ)) → T (is_sorted owner_cmp es) →
    weight p (put owner_cmp k v es) + cond (p k) (unwrap_or (find owner_cmp k es) 0) 0 ≡ weight p es + cond (p k) v 0
weight_put p k v [] h =
    let none = cond_zero (p k) in
    let one = sum_by-cons (λ (e : (ℕ × ℕ) × ℕ). cond (p e.0) e.1 0) (k, v) [] in
    omega (arith, none, one)
weight_put p k v (e ∷ es) h = put_step p k v e es (left_part _ _ h) (weight_put p k v es (right_part _ _ h))
    (owner_cmp k e.0) refl

-- a sum of filtered entries weighs each by the test
filtered : (p : ℕ × ℕ → Bool) (es : List ((ℕ × ℕ) × ℕ)) → sum_by (λ e. e.1) (filter (λ e. p e.0) es) ≡ weight p es
filtered p [] = refl
filtered p (e ∷ es) =
    let rest = filtered p es in
    let all = sum_by-cons (λ (e : (ℕ × ℕ) × ℕ). cond (p e.0) e.1 0) e es in
    let one = sum_by-cons (λ (e : (ℕ × ℕ) × ℕ). e.1) e (filter (λ e. p e.0) es) in
    cond_both (p e.0) (e ∷ filter (λ e. p e.0) es) (filter (λ e. p e.0) es)
    (λ zs. sum_by (λ e. e.1) zs ≡ weight p (e ∷ es))
    (λ t. let there : cond (p e.0) e.1 0 ≡ e.1 = cond-true (p e.0) e.1 0 t in omega (arith, rest, all, one, there))
    (λ t. let gone : cond (p e.0) e.1 0 ≡ 0 = cond-false (p e.0) e.1 0 t in omega (arith, rest, all, gone))

-- what an old number and its growth leave
settle : (b : Bool) (x y a t : ℕ) → x + cond b a 0 ≡ y + cond b (a + t) 0 → x ≡ y + cond b t 0
settle true x y a t h = omega arith
settle false x y a t h = omega arith

-- the sum of what passes a test, with one charge more
weight_more : (p : ℕ × ℕ → Bool) (m : SpentMap) (c : ChargedToll) →
    weight p (entries (with_charge m c)) ≡ weight p (entries m) + cond (p (c.vid, c.xway)) c.toll 0
weight_more p m c =
    settle (p (c.vid, c.xway)) (weight p (entries (with_charge m c))) (weight p (entries m)) (amount_in m c.vid c.xway)
    c.toll
    (ap (λ es. weight p es + cond (p (c.vid, c.xway)) (amount_in m c.vid c.xway) 0)
    (entries-insert owner_total m (c.vid, c.xway) (amount_in m c.vid c.xway + c.toll))
    ∙ (ap (λ o. weight p (put owner_cmp (c.vid, c.xway) (amount_in m c.vid c.xway + c.toll) (entries m)) + cond
    (p (c.vid, c.xway)) (unwrap_or o 0) 0) (get-entries m (c.vid, c.xway))
    ∙ weight_put p (c.vid, c.xway) (amount_in m c.vid c.xway + c.toll) (entries m) (entries_sorted m)))

-- an account with one charge more
pub account_more : (m : SpentMap) (c : ChargedToll) (vid : ℕ) →
    account_in (with_charge m c) vid ≡ account_in m vid + cond (c.vid == vid) c.toll 0
account_more m c vid =
    filtered (λ k. k.0 == vid) (entries (with_charge m c))
    ∙ (weight_more (λ k. k.0 == vid) m c
    ∙ ap (λ n. n + cond (c.vid == vid) c.toll 0) (sym (filtered (λ k. k.0 == vid) (entries m))))

-- the total with one charge more
pub total_more : (m : SpentMap) (c : ChargedToll) → total_in (with_charge m c) ≡ total_in m + c.toll
total_more m c = weight_more (λ _. true) m c

-- a look-up after a number was put in
picked : (b : Bool) (a t : ℕ) (o : Option ℕ) → (b ≡ true → unwrap_or o 0 ≡ a) →
    unwrap_or (cond b (Some (a + t)) o) 0 ≡ unwrap_or o 0 + cond b t 0
picked true a t o h = let e = h refl in omega (arith, e)
picked false a t o h = omega arith

-- a sum with one charge more
pub amount_more : (m : SpentMap) (c : ChargedToll) (v x : ℕ) →
    amount_in (with_charge m c) v x ≡ amount_in m v x + cond (c.vid == v && c.xway == x) c.toll 0
amount_more m c v x =
    ap (λ o. unwrap_or o 0) (get-insert owner_total m (c.vid, c.xway) (amount_in m c.vid c.xway + c.toll) (v, x))
    ∙ (ap (λ b. unwrap_or (cond b (Some (amount_in m c.vid c.xway + c.toll)) (get m (v, x))) 0)
    (owner_tied (v, x) (c.vid, c.xway) ∙ same_flip (v, x) (c.vid, c.xway))
    ∙ picked (same_owner (c.vid, c.xway) (v, x)) (amount_in m c.vid c.xway) c.toll (get m (v, x))
    (λ e. ap (λ q. unwrap_or (get m q) 0) (sym (same_is (c.vid, c.xway) (v, x) e))))

-- a part is at most the whole
weight_few : (p : ℕ × ℕ → Bool) (es : List ((ℕ × ℕ) × ℕ)) → weight p es ≤ weight (λ _. true) es
weight_few p [] = omega arith
weight_few p (e ∷ es) =
    let rest = weight_few p es in
    let a = sum_by-cons (λ (e : (ℕ × ℕ) × ℕ). cond (p e.0) e.1 0) e es in
    let b = sum_by-cons (λ (e : (ℕ × ℕ) × ℕ). e.1) e es in
    let one : cond (p e.0) e.1 0 ≤ e.1 = cond_both (p e.0) e.1 0 (λ n. n ≤ e.1) (λ _. same e.1) (λ _. omega arith) in
    omega (arith, rest, a, b, one)
  where
    same : (n : ℕ) → n ≤ n
    same n = omega arith

-- an account is at most the total
pub account_few : (m : SpentMap) (vid : ℕ) → account_in m vid ≤ total_in m
account_few m vid = let e = filtered (λ k. k.0 == vid) (entries m) in let few =
    weight_few (λ k. k.0 == vid) (entries m) in omega (arith, e, few)

-- what is found is at most the whole
found_few : (q : ℕ × ℕ) (es : List ((ℕ × ℕ) × ℕ)) → unwrap_or (find owner_cmp q es) 0 ≤ weight (λ _. true) es
found_few q [] = omega arith
found_few q (e ∷ es) =
    let rest = found_few q es in
    let all = sum_by-cons (λ (e : (ℕ × ℕ) × ℕ). e.1) e es in
    cond_both (eq_by_cmp owner_cmp q e.0) (Some e.1) (find owner_cmp q es)
    (λ o. unwrap_or o 0 ≤ weight (λ _. true) (e ∷ es)) (λ _. omega (arith, all)) (λ _. omega (arith, rest, all))

-- a sum is at most the total
pub amount_few : (m : SpentMap) (v x : ℕ) → amount_in m v x ≤ total_in m
amount_few m v x = let e = ap (λ o. unwrap_or o 0) (get-entries m (v, x)) in let few = found_few (v, x) (entries m) in
    omega (arith, e, few)

-- the sums of charges

-- no entries where their number is 0
no_entries : (es : List ((ℕ × ℕ) × ℕ)) → length es ≡ 0 → es ≡ []
no_entries [] h = refl
no_entries (e ∷ es) h = absurd (omega arith)

-- the empty map has none
empty_is : entries (empty {X = ℕ} {R = owner_cmp}) ≡ []
empty_is =
    no_entries (entries (empty {X = ℕ} {R = owner_cmp}))
    (sym (len-entries (empty {X = ℕ} {R = owner_cmp})) ∙ len-empty owner_cmp ℕ)

-- nothing is charged at first
pub account_none : (vid : ℕ) → account_in empty vid ≡ 0
account_none vid = ap (λ es. sum_by (λ e. e.1) (filter (λ e. e.0.0 == vid) es)) empty_is

-- to nobody
pub total_none : total_in empty ≡ 0
total_none = ap (λ es. sum_by (λ e. e.1) es) empty_is

-- one charge more, where a test picks charges
charged_more : (c : ChargedToll) (cs : List ChargedToll) (p : ChargedToll → Bool) →
    sum_of (filter p (c ∷ cs)) ≡ cond (p c) c.toll 0 + sum_of (filter p cs)
charged_more c cs p =
    let one = sum_by-cons (λ (x : ChargedToll). x.toll) c (filter p cs) in
    cond_both (p c) (c ∷ filter p cs) (filter p cs) (λ zs. sum_of zs ≡ cond (p c) c.toll 0 + sum_of (filter p cs))
    (λ t. let there : cond (p c) c.toll 0 ≡ c.toll = cond-true (p c) c.toll 0 t in omega (arith, one, there))
    (λ t. let gone : cond (p c) c.toll 0 ≡ 0 = cond-false (p c) c.toll 0 t in omega (arith, gone))

-- an account after some charges
account_fold : (cs : List ChargedToll) (m : SpentMap) (vid : ℕ) →
    account_in (fold with_charge m cs) vid ≡ account_in m vid + sum_of (charges_to vid cs)
account_fold [] m vid = omega arith
account_fold (c ∷ cs) m vid =
    let rest = account_fold cs (with_charge m c) vid in
    let one = account_more m c vid in
    let more = charged_more c cs (λ c. c.vid == vid) in
    omega (arith, rest, one, more)

-- the total after some charges
total_fold : (cs : List ChargedToll) (m : SpentMap) → total_in (fold with_charge m cs) ≡ total_in m + sum_of cs
total_fold [] m = omega arith
total_fold (c ∷ cs) m =
    let rest = total_fold cs (with_charge m c) in
    let one = total_more m c in
    let more = sum_by-cons (λ (x : ChargedToll). x.toll) c cs in
    omega (arith, rest, one, more)

-- one charge more, by vehicle and expressway
spent_more : (c : ChargedToll) (cs : List ChargedToll) (v x : ℕ) →
    spent (c ∷ cs) v x ≡ cond (c.vid == v && c.xway == x) c.toll 0 + spent cs v x
spent_more c cs v x =
    cond_both (c.vid == v) (c ∷ charges_to v cs) (charges_to v cs)
    (λ zs. sum_of (charges_on x zs) ≡ cond (c.vid == v && c.xway == x) c.toll 0 + spent cs v x)
    (λ t. rw t (charged_more c (charges_to v cs) (λ c. c.xway == x)))
    (λ t. rw t (zero_first (spent cs v x)))
  where
    zero_first : (n : ℕ) → n ≡ 0 + n
    zero_first n = omega arith

-- a sum after some charges
amount_fold : (cs : List ChargedToll) (m : SpentMap) (v x : ℕ) →
    amount_in (fold with_charge m cs) v x ≡ amount_in m v x + spent cs v x
amount_fold [] m v x = omega arith
amount_fold (c ∷ cs) m v x =
    let rest = amount_fold cs (with_charge m c) v x in
    let one = amount_more m c v x in
    let more = spent_more c cs v x in
    omega (arith, rest, one, more)

-- the account of some charges
pub account_by : (cs : List ChargedToll) (vid : ℕ) → account_in (spent_by cs) vid ≡ sum_of (charges_to vid cs)
account_by cs vid = let all = account_fold cs empty vid in let none = account_none vid in omega (arith, all, none)

-- their total
pub total_by : (cs : List ChargedToll) → total_in (spent_by cs) ≡ sum_of cs
total_by cs = let all = total_fold cs empty in let none = total_none in omega (arith, all, none)

-- their sum by vehicle and expressway
pub amount_by : (cs : List ChargedToll) (v x : ℕ) → amount_in (spent_by cs) v x ≡ spent cs v x
amount_by cs v x =
    let all = amount_fold cs empty v x in
    let none : amount_in empty v x ≡ 0 = ap (λ o. unwrap_or o 0) (get-empty owner_cmp (v, x)) in
    omega (arith, all, none)
