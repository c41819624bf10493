-- sums by vehicle, as entries and as a map
use Rattle.std.proofs.Common.{◌≡◌, ℕ, ◌==◌, Bool, cond, List, [], ◌∷◌, Some, refl, sym, ap, ◌∙◌, nat_eq}
use Rattle.std.specs.Option.{unwrap_or}
use Rattle.std.specs.Map.{lookup}
use Rattle.std.specs.Ordering.{nat_cmp}
use Rattle.std.specs.Cmp.{nat_cmp_total, unsigned_tied, nat_eq_equiv}
use Rattle.std.specs.FinMap.{FinMap, get, insert, find, from_entries, nat_cmp-IsAntisymmetric, same_map, get-insert}
use Rattle.std.specs.FinMap.{get-from_entries}
use Rattle.day_floor.specs.declared.publisher.Charged.{Charged}
use Rattle.serve_board.specs.Totals.{Totals, added, entry_sum, owed_in, with_charged}

-- the map finds in entries what a look-up finds
find_sum : (es : List (ℕ × ℕ)) (q : ℕ) → find nat_cmp q es ≡ lookup (nat_eq q) es
find_sum [] q = refl
find_sum (e ∷ es) q = ap (λ b. cond b (Some e.1) (find nat_cmp q es)) (unsigned_tied q e.0)
    ∙ ap (λ o. cond (q == e.0) (Some e.1) o) (find_sum es q)

-- the map of entries has what a look-up finds in them
pub get_sum : (es : List (ℕ × ℕ)) (q : ℕ) → get (from_entries {R = nat_cmp} es) q ≡ lookup (nat_eq q) es
get_sum es q = get-from_entries nat_cmp_total es q ∙ find_sum es q

-- entries that look up alike make one map
pub sums_same : (es fs : List (ℕ × ℕ)) → ((v : ℕ) → lookup (nat_eq v) fs ≡ lookup (nat_eq v) es) →
    from_entries {R = nat_cmp} fs ≡ from_entries es
sums_same es fs h = same_map nat_cmp_total nat_cmp-IsAntisymmetric (from_entries fs) (from_entries es)
    (λ q. get_sum fs q ∙ (h q ∙ sym (get_sum es q)))

-- entries that look up alike but for one are the map with that one put in
sums_after : (es fs : List (ℕ × ℕ)) (vid n : ℕ) →
    ((v : ℕ) → lookup (nat_eq v) fs ≡ cond (nat_eq vid v) (Some n) (lookup (nat_eq v) es)) →
    from_entries {R = nat_cmp} fs ≡ insert (from_entries es) vid n
sums_after es fs vid n h =
    same_map nat_cmp_total nat_cmp-IsAntisymmetric (from_entries fs) (insert (from_entries es) vid n)
    (λ q. get_sum fs q
    ∙ (h q ∙ (ap (λ b. cond b (Some n) (lookup (nat_eq q) es)) (nat_eq_equiv.symm vid q ∙ sym (unsigned_tied q vid))
    ∙ (ap (λ o. cond (Rattle.std.specs.Ordering.eq_by_cmp nat_cmp q vid) (Some n) o) (sym (get_sum es q))
    ∙ sym (get-insert nat_cmp_total (from_entries es) vid n q)))))

-- a sum of entries is that of the map
pub sum_is : (es : List (ℕ × ℕ)) (vid : ℕ) → entry_sum es vid ≡ owed_in (from_entries es) vid
sum_is es vid = ap (λ o. unwrap_or o 0) (sym (get_sum es vid))

-- entries with a charge more are the map with a charge more
pub charged_is : (es fs : List (ℕ × ℕ)) (c : Charged) →
    ((v : ℕ) → lookup (nat_eq v) fs ≡ cond (nat_eq c.vid v) (Some (added (entry_sum es c.vid) c.toll))
    (lookup (nat_eq v) es)) → from_entries {R = nat_cmp} fs ≡ with_charged (from_entries es) c
charged_is es fs c h = sums_after es fs c.vid _ h
    ∙ ap (λ n. insert (from_entries es) c.vid (added n c.toll)) (sum_is es c.vid)

-- two totals with the same parts
pub totals_made : {d d' : Bool} {a a' b b' : ℕ} {s s' : FinMap nat_cmp ℕ} {w w' : ℕ} → d ≡ d' → a ≡ a' → b ≡ b' →
    s ≡ s' → w ≡ w' → ◌≡◌ {A = Totals} (record { begun = d; number = a; mark = b; sums = s; whole = w })
    (record { begun = d'; number = a'; mark = b'; sums = s'; whole = w' })
totals_made o p q r t = cc
