-- totals show a board as changes are applied to both
use Rattle.std.proofs.Common.{◌≡◌, ℕ, ◌+◌, ◌%◌, ◌^◌, ◌<◌, ◌≤◌, ◌==◌, Bool, true, false, cond, not, List, [], ◌∷◌, ◌++◌}
use Rattle.std.proofs.Common.{map, Option, Some, None, refl, sym, ap, ◌∙◌, arith, le_refl, subst, if◌then◌else◌}
use Rattle.std.specs.Option.{unwrap_or}
use Rattle.std.specs.List.{fold}
use Rattle.std.specs.Ordering.{nat_cmp}
use Rattle.std.specs.Cmp.{nat_cmp_total, unsigned_tied, nat_eq_equiv}
use Rattle.std.specs.FinMap.{FinMap, empty, get, get-empty, get-insert}
use Rattle.std.proofs.Math.Nat.{mod-add-mod}
use Rattle.std.proofs.lemmas.Bool.{eqb-true}
use Rattle.std.proofs.lemmas.List.Filters.{sum_by-filter_both}
use Rattle.std.proofs.lemmas.List.Sums.{sum_by-append, sum_by-cons}
use Rattle.std.proofs.lemmas.List.Elements.{filter-append}
use Rattle.std.proofs.lemmas.List.{append_assoc, append-nil}
use Rattle.road_time.specs.Day.{ChargedToll, sum_of, charges_to}
use Rattle.day_floor.specs.declared.publisher.Charged.{Charged}
use Rattle.day_floor.specs.Operations.{charge_of}
use Rattle.day_floor.specs.Boards.{BoardState, board_with, account, all_accounts}
use Rattle.day_floor.specs.Shown.{shown_with, shown_by, board_on}
use Rattle.serve_board.specs.declared.live.Live.{Live}
use Rattle.serve_board.specs.declared.change.Change.{Change}
use Rattle.serve_board.specs.declared.change.Change.TheVariants.{Begins, Charges}
use Rattle.serve_board.specs.Totals.{Totals, Shows, no_totals, added, owed_in, with_charged, with_charges, whole_with}
use Rattle.serve_board.specs.declared.page.Page.{Page}
use Rattle.serve_board.specs.declared.page.Post.{Post}
use Rattle.serve_board.specs.declared.page.Post.TheVariants.{Changed, Reached}
use Rattle.serve_board.specs.Changes.{operation_of, operations_of, totals_at, totals_with, page_with}
use Rattle.serve_board.specs.Passes.{balance_on, total_on}
use Rattle.serve_board.proofs.AnswerLaws.{live_made}

-- no map has a sum
sum_none : (vid : ℕ) → owed_in empty vid ≡ 0
sum_none vid = ap (λ o. unwrap_or o 0) (get-empty nat_cmp vid)

-- a sum of all charges with one more
sum_more : (cs : List ChargedToll) (c : ChargedToll) → sum_of (cs ++ c ∷ []) ≡ sum_of cs + c.toll
sum_more cs c = let both = sum_by-append (λ (x : ChargedToll). x.toll) cs (c ∷ []) in omega (arith, both)

-- what one charge adds to a vehicle's account
one_to : (b : Bool) (c : ChargedToll) → sum_of (cond b (c ∷ []) []) ≡ cond b c.toll 0
one_to true c = let one = sum_by-cons (λ (x : ChargedToll). x.toll) c [] in omega (arith, one)
one_to false c = refl

-- an account with one charge more
account_more : (vid : ℕ) (cs : List ChargedToll) (c : ChargedToll) →
    sum_of (charges_to vid (cs ++ c ∷ [])) ≡ sum_of (charges_to vid cs) + cond (c.vid == vid) c.toll 0
account_more vid cs c =
    ap sum_of (filter-append (λ (x : ChargedToll). x.vid == vid) cs (c ∷ []))
    ∙ (sum_by-append (λ (x : ChargedToll). x.toll) (charges_to vid cs) (charges_to vid (c ∷ []))
    ∙ ap (λ n. sum_of (charges_to vid cs) + n) (one_to (c.vid == vid) c))

-- a number with a toll more, in 64 bits
added_is : (n s toll : ℕ) → n ≡ s % 2 ^ 64 → added n toll ≡ (s + toll) % 2 ^ 64
added_is n s toll e = ap (λ k. (k + toll) % 2 ^ 64) e ∙ mod-add-mod s (2 ^ 64) toll

-- each sum stays its account, in 64 bits, with one charge more
each_step : (sums : FinMap nat_cmp ℕ) (bs : List ChargedToll) (c : Charged) →
    ((v : ℕ) → owed_in sums v ≡ sum_of (charges_to v bs) % 2 ^ 64) →
    (v : ℕ) → owed_in (with_charged sums c) v ≡ sum_of (charges_to v (bs ++ charge_of c ∷ [])) % 2 ^ 64
each_step sums bs c h v =
    let n : ℕ = added (owed_in sums c.vid) c.toll in
    ap (λ o. unwrap_or o 0) (get-insert nat_cmp_total sums c.vid n v)
    ∙ (ap (λ b. unwrap_or (cond b (Some n) (get sums v)) 0) (unsigned_tied v c.vid ∙ nat_eq_equiv.symm v c.vid)
    ∙ (pick (c.vid == v) refl ∙ ap (λ k. k % 2 ^ 64) (sym (account_more v bs (charge_of c)))))
  where
    pick : (b : Bool) → c.vid == v ≡ b → unwrap_or (cond b (Some (added (owed_in sums c.vid) c.toll)) (get sums v)) 0
        ≡ (sum_of (charges_to v bs) + cond b c.toll 0) % 2 ^ 64
    pick true e =
        added_is (owed_in sums c.vid) (sum_of (charges_to v bs)) c.toll
        (ap (owed_in sums) (eqb-true c.vid v e) ∙ h v)
    pick false e = h v ∙ ap (λ k. k % 2 ^ 64) (add-zero (sum_of (charges_to v bs)))
      where
        add-zero : (k : ℕ) → k ≡ k + 0
        add-zero k = omega arith

-- and with some charges more
each_with : (cs : List Charged) (sums : FinMap nat_cmp ℕ) (bs : List ChargedToll) →
    ((v : ℕ) → owed_in sums v ≡ sum_of (charges_to v bs) % 2 ^ 64) →
    (v : ℕ) → owed_in (with_charges sums cs) v ≡ sum_of (charges_to v (bs ++ map charge_of cs)) % 2 ^ 64
each_with [] sums bs h v = h v ∙ ap (λ xs. sum_of (charges_to v xs) % 2 ^ 64) (sym (append-nil bs))
each_with (c ∷ cs) sums bs h v =
    each_with cs (with_charged sums c) (bs ++ charge_of c ∷ []) (each_step sums bs c h) v
    ∙ ap (λ xs. sum_of (charges_to v xs) % 2 ^ 64) (append_assoc bs (charge_of c ∷ []) (map charge_of cs))

-- so does the sum of all
whole_is : (cs : List Charged) (n : ℕ) (bs : List ChargedToll) → n ≡ sum_of bs % 2 ^ 64 →
    whole_with n cs ≡ sum_of (bs ++ map charge_of cs) % 2 ^ 64
whole_is [] n bs h = h ∙ ap (λ xs. sum_of xs % 2 ^ 64) (sym (append-nil bs))
whole_is (c ∷ cs) n bs h =
    whole_is cs (added n c.toll) (bs ++ charge_of c ∷ [])
    (added_is n (sum_of bs) c.toll h ∙ ap (λ k. k % 2 ^ 64) (sym (sum_more bs (charge_of c))))
    ∙ ap (λ xs. sum_of xs % 2 ^ 64) (append_assoc bs (charge_of c ∷ []) (map charge_of cs))

-- a change keeps what the totals show
pub shows_with : (t : Totals) (s : Option BoardState) (o : Change) → Shows t s →
    Shows (totals_with t o) (shown_with s (operation_of o))
shows_with t s (Begins day) h = record { begun = refl; number = refl; mark = refl; each = sum_none; whole = refl }
shows_with t None (Charges cs mark) h =
    subst (λ (begun : Bool). Shows (if begun then totals_at t cs.items mark else t) None) (sym h.begun) h
shows_with t (Some b) (Charges cs mark) h =
    subst (λ (begun : Bool). Shows (if begun then totals_at t cs.items mark else t)
    (Some (board_with b (operation_of (Charges cs mark))))) (sym h.begun)
    (record {
      begun = h.begun;
      number = h.number;
      mark = refl;
      each = each_with cs.items t.sums b.charged h.each;
      whole = whole_is cs.items t.whole b.charged h.whole;
    })

-- so do posts
pub shows_posts : (ps : List Post) (p : Page) (s : Option BoardState) → Shows p.shown s →
    Shows (fold page_with p ps).shown (fold shown_with s (operations_of ps))
shows_posts [] p s h = h
shows_posts (Changed c ∷ ps) p s h =
    shows_posts ps (page_with p (Changed c)) (shown_with s (operation_of c)) (shows_with p.shown s c h)
shows_posts (Reached f ∷ ps) p s h = shows_posts ps (page_with p (Reached f)) s h

-- totals of nothing show that nothing was published
pub shows_nothing : Shows no_totals (shown_by [])
shows_nothing = record { begun = refl; number = refl; mark = refl; each = sum_none; whole = refl }

-- an account is a part of what all vehicles owe
account_few : (b : BoardState) (vid : ℕ) → account b vid ≤ all_accounts b
account_few b vid =
    let both =
    sum_by-filter_both (λ (c : ChargedToll). c.vid == vid) (λ (c : ChargedToll). not (c.vid == vid)) (λ _. refl)
    (λ (c : ChargedToll). c.toll) b.charged in
    omega (arith, both)

-- a number below 2^63 is itself in 64 bits
small : (n m : ℕ) → n ≤ m → m < 2 ^ 63 → n % 2 ^ 64 ≡ n
small n m few fits = omega (arith, few, fits)

-- where all that is owed is below 2^63, the totals have each account
pub account_is : (t : Totals) (s : Option BoardState) (vid : ℕ) → Shows t s → all_accounts (board_on s) < 2 ^ 63 →
    owed_in t.sums vid ≡ account (board_on s) vid
account_is t s vid h fits =
    h.each vid ∙ small (account (board_on s) vid) (all_accounts (board_on s)) (account_few (board_on s) vid) fits

-- and what all vehicles owe
pub all_is : (t : Totals) (s : Option BoardState) → Shows t s → all_accounts (board_on s) < 2 ^ 63 →
    t.whole ≡ all_accounts (board_on s)
all_is t s h fits =
    h.whole ∙ small (all_accounts (board_on s)) (all_accounts (board_on s)) (le_refl (all_accounts (board_on s))) fits

-- the totals answer what the board has
pub balance_is : (t : Totals) (s : Option BoardState) (vid : ℕ) → Shows t s → all_accounts (board_on s) < 2 ^ 63 →
    ◌≡◌ {A = Live} (record { day = t.number; as_of = t.mark; amount = owed_in t.sums vid })
    (balance_on (board_on s) vid)
balance_is t s vid h fits = live_made h.number h.mark (account_is t s vid h fits)

-- and what all vehicles owe on it
pub total_is : (t : Totals) (s : Option BoardState) → Shows t s → all_accounts (board_on s) < 2 ^ 63 →
    ◌≡◌ {A = Live} (record { day = t.number; as_of = t.mark; amount = t.whole }) (total_on (board_on s))
total_is t s h fits = live_made h.number h.mark (all_is t s h fits)
