-- a book's entries stay sound, and stand for its maps
use Rattle.std.proofs.Common.{◌≡◌, ℕ, ◌+◌, ◌*◌, ◌^◌, ◌≤◌, ◌<◌, ◌==◌, ◌&&◌, Bool, true, false, cond, not, List, [], ◌∷◌}
use Rattle.std.proofs.Common.{map, Option, Some, None, IfSome, refl, sym, ap, subst, ◌∙◌, arith, nat_eq}
use Rattle.std.specs.Option.{unwrap_or, option_map}
use Rattle.std.specs.List.{IsDistinct}
use Rattle.std.specs.Map.{lookup, keys_of}
use Rattle.std.specs.Ordering.{nat_cmp}
use Rattle.std.specs.Cmp.{nat_cmp_total, unsigned_tied, nat_eq_equiv}
use Rattle.std.specs.FinMap.{FinMap, get, insert, find, nat_cmp-IsAntisymmetric, same_map, get-insert, get-from_entries}
use Rattle.std.proofs.lemmas.Bool.{cond_both, eqb-true}
use Rattle.road_time.specs.declared.tariff.TheConstants.{GREATEST_TOLL}
use Rattle.day_floor.specs.declared.vehicle.First.{First}
use Rattle.day_floor.specs.declared.vehicle.Vehicle.{Vehicle}
use Rattle.day_floor.specs.Sums.{SpentMap, amount_in, account_in, total_in, with_charge, same_owner, sum_at}
use Rattle.day_floor.specs.Entries.{vehicle_at, is_further, sum_of_first, first_sum, first_after, all_sums, looked_up}
use Rattle.day_floor.specs.Books.{Accounts, retold, told_of, spent_sums, IsBalanced}
use Rattle.day_floor.proofs.SumLaws.{account_more, total_more, account_none, total_none, account_few, amount_few}
use Rattle.day_floor.proofs.EntryLaws.{get_spent, spent_after, spent_same, all_apart, charged_up, parts_few}

-- two books with the same parts
pub book_made : {a a' : FinMap nat_cmp ℕ} {b b' : SpentMap} {n n' : ℕ} → a ≡ a' → b ≡ b' → n ≡ n' →
    ◌≡◌ {A = Accounts} (record { told = a; spent = b; made = n }) (record { told = a'; spent = b'; made = n' })
book_made p q r = cc

-- a toll is looked up in a choice of entries
pushed : (b : Bool) (v : Vehicle) (o : Option Vehicle) →
    cond b (Some v.told) (option_map (λ x. x.told) o) ≡ option_map (λ x. x.told) (cond b (Some v) o)
pushed true v o = refl
pushed false v o = refl

-- the toll that an entry has
find_told : (vs : List (ℕ × Vehicle)) (q : ℕ) →
    find nat_cmp q (map (λ e. (e.0, e.1.told)) vs) ≡ option_map (λ x. x.told) (lookup (nat_eq q) vs)
find_told [] q = refl
find_told (e ∷ es) q =
    ap (λ b. cond b (Some e.1.told) (find nat_cmp q (map (λ e. (e.0, e.1.told)) es))) (unsigned_tied q e.0)
    ∙ (ap (λ o. cond (q == e.0) (Some e.1.told) o) (find_told es q) ∙ pushed (q == e.0) e.1 (lookup (nat_eq q) es))

-- what a vehicle was told, by its entry
pub get_told : (vs : List (ℕ × Vehicle)) (q : ℕ) → get (told_of vs) q ≡ option_map (λ x. x.told) (lookup (nat_eq q) vs)
get_told vs q = get-from_entries nat_cmp_total (map (λ e. (e.0, e.1.told)) vs) q ∙ find_told vs q

-- a vehicle is told a toll
pub told_put : (vs ws : List (ℕ × Vehicle)) (vid : ℕ) (is : Vehicle) →
    ((v : ℕ) → lookup (nat_eq v) ws ≡ cond (nat_eq vid v) (Some is) (lookup (nat_eq v) vs)) →
    told_of ws ≡ insert (told_of vs) vid is.told
told_put vs ws vid is h =
    same_map nat_cmp_total nat_cmp-IsAntisymmetric (told_of ws) (insert (told_of vs) vid is.told)
    (λ q. get_told ws q ∙ (ap (option_map (λ x. x.told)) (h q) ∙ (sym (pushed (nat_eq vid q) is (lookup (nat_eq q) vs))
    ∙ (ap (λ o. cond (nat_eq vid q) (Some is.told) o) (sym (get_told vs q))
    ∙ (ap (λ b. cond b (Some is.told) (get (told_of vs) q)) (nat_eq_equiv.symm vid q ∙ sym (unsigned_tied q vid))
    ∙ sym (get-insert nat_cmp_total (told_of vs) vid is.told q))))))

-- an entry put in with the same toll tells the same
same_told : (b : Bool) (v w : Vehicle) (o : Option Vehicle) → v.told ≡ w.told → (b ≡ true → o ≡ Some w) →
    option_map (λ x. x.told) (cond b (Some v) o) ≡ option_map (λ x. x.told) o
same_told true v w o e h = ap Some e ∙ ap (option_map (λ x. x.told)) (sym (h refl))
same_told false v w o e h = refl

-- a charge leaves what was told
pub told_kept : (vs ws : List (ℕ × Vehicle)) (vid : ℕ) (was is : Vehicle) → Some was ≡ lookup (nat_eq vid) vs →
    is.told ≡ was.told → ((v : ℕ) → lookup (nat_eq v) ws ≡ cond (nat_eq vid v) (Some is) (lookup (nat_eq v) vs)) →
    told_of ws ≡ told_of vs
told_kept vs ws vid was is there same h =
    same_map nat_cmp_total nat_cmp-IsAntisymmetric (told_of ws) (told_of vs)
    (λ q. get_told ws q
    ∙ (ap (option_map (λ x. x.told)) (h q)
    ∙ (same_told (nat_eq vid q) is was (lookup (nat_eq q) vs) same
    (λ e. ap (λ v. lookup (nat_eq v) vs) (sym (eqb-true vid q e)) ∙ sym there) ∙ sym (get_told vs q))))

-- a charge puts the next toll that is told, if there is one
pub told_after : (next : Option ℕ) (vs ws : List (ℕ × Vehicle)) (vid : ℕ) (was is : Vehicle) →
    Some was ≡ lookup (nat_eq vid) vs → is.told ≡ unwrap_or next was.told →
    ((v : ℕ) → lookup (nat_eq v) ws ≡ cond (nat_eq vid v) (Some is) (lookup (nat_eq v) vs)) →
    told_of ws ≡ retold (told_of vs) vid next
told_after None vs ws vid was is there same h = told_kept vs ws vid was is there same h
told_after (Some toll) vs ws vid was is there same h =
    told_put vs ws vid is h ∙ ap (insert (told_of vs) vid) same

-- and it is a toll, where the one before is
pub next_few : (next : Option ℕ) (was : ℕ) → was ≤ GREATEST_TOLL → IfSome next (λ toll. toll ≤ GREATEST_TOLL) →
    unwrap_or next was ≤ GREATEST_TOLL
next_few None was few next = few
next_few (Some toll) was few next = next

-- what an entry has, zeros where there is none
abbrev entry_or : Option Vehicle → Vehicle
entry_or o = unwrap_or o (record { told = 0; sum = 0; first = None })

-- a new book is sound
pub sound_new : (vs : List (ℕ × Vehicle)) (es : List ((ℕ × ℕ) × ℕ)) → vs ≡ [] → es ≡ [] → IsDistinct nat_eq (keys_of vs)
    → IsBalanced vs es 0 0
sound_new vs es p q unique = record {
  unique = unique;
  apart = λ vid xway _. ap (lookup (same_owner (vid, xway))) q;
  told = λ vid. rw p (omega arith);
  account = λ vid. rw (p, q) (sym (account_none vid));
  whole = rw (p, q) (sym total_none);
  bound = omega arith;
  few = omega arith;
}

module _ (vs ws : List (ℕ × Vehicle)) (vid : ℕ) (is : Vehicle)
    (vehicles : (v : ℕ) → lookup (nat_eq v) ws ≡ cond (nat_eq vid v) (Some is) (lookup (nat_eq v) vs)) where
  -- what holds of the entry that is put in and of each that was there holds of all
  pub each_put : (P : ℕ → Vehicle → Type 0) → P vid is → ((v : ℕ) → P v (vehicle_at vs v)) → (v : ℕ) →
      P v (vehicle_at ws v)
  each_put P here there v =
      subst (λ o. P v (entry_or o)) (sym (vehicles v))
      (cond_both (nat_eq vid v) (Some is) (lookup (nat_eq v) vs) (λ o. P v (entry_or o))
      (λ t. subst (λ k. P k is) (eqb-true vid v t) here) (λ _. there v))

  module _ (es : List ((ℕ × ℕ) × ℕ)) (total made : ℕ) (sound : IsBalanced vs es total made)
      (unique : IsDistinct nat_eq (keys_of ws)) (sum : is.sum ≡ (vehicle_at vs vid).sum)
      (first : is.first ≡ (vehicle_at vs vid).first) where
    -- a toll told leaves what was charged
    pub spent_told : spent_sums ws es ≡ spent_sums vs es
    spent_told =
        spent_same vs ws es sound.unique unique (each_put (λ v e. e.first ≡ (vehicle_at vs v).first) first (λ v. refl))

    -- and a book sound
    pub sound_told : is.told ≤ GREATEST_TOLL → IsBalanced ws es total made
    sound_told few = record {
      unique = unique;
      apart = each_put (λ v e. (xway : ℕ) → is_further e.first xway ≡ false → lookup (same_owner (v, xway)) es ≡ None)
          (λ xway h. sound.apart vid xway (ap (λ f. is_further f xway) (sym first) ∙ h)) sound.apart;
      told = each_put (λ v e. e.told ≤ GREATEST_TOLL) few sound.told;
      account = λ v. each_put (λ v e. e.sum ≡ account_in (spent_sums vs es) v) (sum ∙ sound.account vid) sound.account v
          ∙ ap (λ m. account_in m v) (sym spent_told);
      whole = sound.whole ∙ ap total_in (sym spent_told);
      bound = sound.bound;
      few = sound.few;
    }

-- a book's sums are of owners apart
pub sums_apart : (vs : List (ℕ × Vehicle)) (es : List ((ℕ × ℕ) × ℕ)) (total made : ℕ) → IsBalanced vs es total made →
    IsDistinct same_owner (keys_of es) → IsDistinct same_owner (keys_of (all_sums vs es))
sums_apart vs es total made sound further =
    all_apart vs es sound.unique further
    (λ vid v f l p. sound.apart vid f.xway
    (ap (λ o. is_further (entry_or o).first f.xway) l
    ∙ (ap (λ o. is_further o f.xway) p ∙ ap not (nat_eq_equiv.refl f.xway))))

-- after a charge, a sum that the first charge's entry keeps stands nowhere else
first_stays : (first : Option First) (xway toll x n : ℕ) (o : Option ℕ) → (is_further first x ≡ false → o ≡ None) →
    is_further (Some (first_after first xway toll)) x ≡ false →
    cond (is_further first xway && xway == x) (Some n) o ≡ None
first_stays None xway toll x n o apart h = apart refl
first_stays (Some f) xway toll x n o apart h = stays_by (f.xway == xway) refl h
  where
    stays_by : (b : Bool) → f.xway == xway ≡ b →
        is_further (Some (cond b (record { xway = xway; sum = f.sum + toll }) f)) x ≡ false →
        cond (not b && xway == x) (Some n) o ≡ None
    stays_by true e g = apart (ap (λ k. not (k == x)) (eqb-true f.xway xway e) ∙ g)
    stays_by false e g =
        cond_both (xway == x) (Some n) o (λ p. p ≡ None)
        (λ t. let other = ap not (ap (λ k. f.xway == k) (sym (eqb-true xway x t)) ∙ e) in let never = sym other ∙ g in
        cc)
        (λ _. apart g)

module _ (vs : List (ℕ × Vehicle)) (es : List ((ℕ × ℕ) × ℕ)) (total made : ℕ) (sound : IsBalanced vs es total made)
    (vid : ℕ) (was : Vehicle) (there : Some was ≡ lookup (nat_eq vid) vs) where
  -- the vehicle's entry
  entry_was : vehicle_at vs vid ≡ was
  entry_was = ap entry_or (sym there)

  -- what a vehicle was told is a toll
  pub told_few : was.told ≤ GREATEST_TOLL
  told_few = subst (λ e. e.told ≤ GREATEST_TOLL) entry_was (sound.told vid)

  -- its sum is its account
  pub sum_is : was.sum ≡ account_in (spent_sums vs es) vid
  sum_is = ap (λ e. e.sum) (sym entry_was) ∙ sound.account vid

  -- which the charges made bound
  pub sum_few : was.sum ≤ GREATEST_TOLL * made
  sum_few =
      let is = sum_is in
      let few = account_few (spent_sums vs es) vid in
      let whole = sound.whole in
      let bound = sound.bound in
      omega (arith, is, few, whole, bound)

  -- and fits with one charge more
  pub sum_fits : made < 16000000 → was.sum + was.told < 2 ^ 64
  sum_fits h = let a = sum_few in let b = told_few in omega (arith, a, b, h)

  -- what the first charge's entry keeps stands nowhere else
  pub was_apart : (xway : ℕ) → is_further was.first xway ≡ false → lookup (same_owner (vid, xway)) es ≡ None
  was_apart xway h = sound.apart vid xway (ap (λ e. is_further e.first xway) entry_was ∙ h)

  module _ (few : made < 16000000) (xway : ℕ) where
    -- a sum on an expressway is bounded too
    amount_most : unwrap_or (sum_of_first was.first xway (lookup (same_owner (vid, xway)) es)) 0 ≤ GREATEST_TOLL * made
    amount_most =
        let found : amount_in (spent_sums vs es) vid xway ≡ unwrap_or (looked_up vs es (vid, xway)) 0 =
        ap (λ o. unwrap_or o 0) (get_spent vs es sound.unique (vid, xway)) in
        let is : unwrap_or (looked_up vs es (vid, xway)) 0 ≡ unwrap_or
        (sum_of_first was.first xway (lookup (same_owner (vid, xway)) es)) 0 =
        ap (λ e. unwrap_or (sum_of_first e.first xway (lookup (same_owner (vid, xway)) es)) 0) entry_was in
        let most = amount_few (spent_sums vs es) vid xway in
        let whole = sound.whole in
        let bound = sound.bound in
        omega (arith, found, is, most, whole, bound)

    -- so are its part on a further expressway
    pub further_fits : sum_at es (vid, xway) + was.told < 2 ^ 64
    further_fits =
        let part = (parts_few was.first xway (lookup (same_owner (vid, xway)) es) (was_apart xway)).0 in
        let most = amount_most in
        let b = told_few in
        omega (arith, part, most, b, few)

    -- and that on the first charge's
    pub first_fits : first_sum was.first xway + was.told < 2 ^ 64
    first_fits =
        let part = (parts_few was.first xway (lookup (same_owner (vid, xway)) es) (was_apart xway)).1 in
        let most = amount_most in
        let b = told_few in
        omega (arith, part, most, b, few)

    module _ (ws : List (ℕ × Vehicle)) (fs : List ((ℕ × ℕ) × ℕ)) (is : Vehicle) (told : is.told ≤ GREATEST_TOLL)
        (sum : is.sum ≡ was.sum + was.told) (first : is.first ≡ Some (first_after was.first xway was.told))
        (unique : IsDistinct nat_eq (keys_of ws))
        (vehicles : (v : ℕ) → lookup (nat_eq v) ws ≡ cond (nat_eq vid v) (Some is) (lookup (nat_eq v) vs))
        (sums : (q : ℕ × ℕ) → lookup (same_owner q) fs ≡ cond (is_further was.first xway && same_owner (vid, xway) q)
        (Some (sum_at es (vid, xway) + was.told)) (lookup (same_owner q) es)) where
      -- a charge, as the entries take it
      pub spent_charged : spent_sums ws fs ≡ with_charge (spent_sums vs es)
          (record { vid = vid; xway = xway; toll = was.told })
      spent_charged =
          spent_after vs ws es fs sound.unique unique (vid, xway) (unwrap_or (looked_up vs es (vid, xway)) 0 + was.told)
          (charged_up vs ws es fs vid xway was.told was is there first (was_apart xway) vehicles sums)
          ∙ ap (λ o. insert (spent_sums vs es) (vid, xway) (unwrap_or o 0 + was.told))
          (sym (get_spent vs es sound.unique (vid, xway)))

      -- what the first charge's entry keeps stands nowhere else after it
      charged_apart : (v x : ℕ) → is_further (vehicle_at ws v).first x ≡ false → lookup (same_owner (v, x)) fs ≡ None
      charged_apart v x h =
          sums (v, x) ∙ apart_by (nat_eq vid v) refl (ap (λ o. is_further (entry_or o).first x) (sym (vehicles v)) ∙ h)
        where
          apart_by : (b : Bool) → nat_eq vid v ≡ b →
              is_further (entry_or (cond b (Some is) (lookup (nat_eq v) vs))).first x ≡ false →
              cond (is_further was.first xway && (b && xway == x)) (Some (sum_at es (vid, xway) + was.told))
              (lookup (same_owner (v, x)) es) ≡ None
          apart_by true e g =
              first_stays was.first xway was.told x (sum_at es (vid, xway) + was.told) (lookup (same_owner (v, x)) es)
              (λ k. ap (λ n. lookup (same_owner (n, x)) es) (sym (eqb-true vid v e)) ∙ was_apart x k)
              (ap (λ f. is_further f x) (sym first) ∙ g)
          apart_by false e g =
              ap (λ b. cond b (Some (sum_at es (vid, xway) + was.told)) (lookup (same_owner (v, x)) es))
              (and_false (is_further was.first xway)) ∙ sound.apart v x g
            where
              and_false : (b : Bool) → (b && false) ≡ false
              and_false true = refl
              and_false false = refl

      -- the account of each vehicle with the charge
      sum_each : (v : ℕ) → (vehicle_at ws v).sum ≡ account_in (spent_sums vs es) v + cond (vid == v) was.told 0
      sum_each v =
          ap (λ o. (entry_or o).sum) (vehicles v) ∙ sum_by (nat_eq vid v) refl
        where
          sum_by : (b : Bool) → nat_eq vid v ≡ b → (entry_or (cond b (Some is) (lookup (nat_eq v) vs))).sum ≡
              account_in (spent_sums vs es) v + cond b was.told
              0
          sum_by true e = let mine : was.sum ≡ account_in (spent_sums vs es) v =
              sum_is ∙ ap (account_in (spent_sums vs es)) (eqb-true vid v e) in omega (arith, mine, sum)
          sum_by false e = let theirs = sound.account v in omega (arith, theirs)

      -- a book with one charge more is sound
      pub sound_charged : IsBalanced ws fs (total + was.told) (made + 1)
      sound_charged = record {
        unique = unique;
        apart = charged_apart;
        told = each_put vs ws vid is vehicles (λ v e. e.told ≤ GREATEST_TOLL)
            told sound.told;
        account = λ v. sum_each v
            ∙ (sym (account_more (spent_sums vs es) (record { vid = vid; xway = xway; toll = was.told }) v)
            ∙ ap (λ m. account_in m v) (sym spent_charged));
        whole = ap (λ n. n + was.told) sound.whole
            ∙ (sym (total_more (spent_sums vs es) (record { vid = vid; xway = xway; toll = was.told }))
            ∙ ap total_in (sym spent_charged));
        bound = let a = sound.bound in let b = told_few in omega (arith, a, b);
        few = omega (arith, few);
      }
