-- the positions of a shard's reports, and what it sees when it goes over them alone
use Rattle.std.proofs.Common.{◌≡◌, ℕ, suc, ◌+◌, ◌<◌, Bool, true, false, cond, List, [], ◌∷◌, ◌++◌, length, get_or}
use Rattle.std.proofs.Common.{refl, sym, ap, subst, ◌∙◌, arith, length-append, drop}
use Rattle.std.specs.List.{cons_option}
use Rattle.std.proofs.lemmas.List.{append-nil, append_assoc, drop_more}
use Rattle.road_time.specs.declared.road.Tuple.{Tuple}
use Rattle.road_time.specs.declared.road.Tuple.TheVariants.{Report as ReportTuple, Balance, Spent, Travel}
use Rattle.day_floor.specs.Stands.{StandsFor}
use Rattle.ways_audit.specs.declared.shard.Shard.{Shard}
use Rattle.road_time.specs.Tuples.{reports}
use Rattle.ways_audit.specs.Own.{own_of, own_tracked, tracked_own, is_own, places_from}
use Rattle.ways_audit.proofs.OwnLaws.{Took, took_none, took_more, own_push_no, own_other}

-- one tuple more
pub places_push : (shard shards at : ℕ) (xs : List Tuple) (x : Tuple) →
    places_from shard shards at (xs ++ x ∷ [])
    ≡ places_from shard shards at xs ++ cond (is_own shard shards x) ((at + length xs) ∷ []) []
places_push shard shards at [] x = ap (λ m. cond (is_own shard shards x) (m ∷ []) []) (no_more at)
  where
    no_more : (n : ℕ) → n ≡ n + 0
    no_more n = omega arith
places_push shard shards at (y ∷ ys) x =
    ap (λ ps. cond (is_own shard shards y) (at ∷ ps) ps)
    (places_push shard shards (suc at) ys x
    ∙ ap (λ m. places_from shard shards (suc at) ys ++ cond (is_own shard shards x) (m ∷ []) []) (moved at (length ys)))
    ∙ front (is_own shard shards y) at (places_from shard shards (suc at) ys)
    (cond (is_own shard shards x) ((at + suc (length ys)) ∷ []) [])
  where
    moved : (n k : ℕ) → suc n + k ≡ n + suc k
    moved n k = omega arith

    front : (b : Bool) (p : ℕ) (ps more : List ℕ) → cond b (p ∷ ps ++ more) (ps ++ more) ≡ cond b (p ∷ ps) ps ++ more
    front true p ps more = refl
    front false p ps more = refl

-- a tuple that is not the shard's changes nothing
skipped : (shard shards : ℕ) (was now : Shard) (done : List Tuple) (x : Tuple) → is_own shard shards x ≡ false →
    Took shard shards was now done → Took shard shards was now (done ++ x ∷ [])
skipped shard shards was now done (ReportTuple r) e took =
    took_more shard shards was now now done (ReportTuple r) took
    (λ day t. subst (StandsFor now.tracker) (sym (own_push_no shard shards day r e)) t)
    (λ day t. sym (ap (λ b. now.told.items ++ cons_option (tracked_own b day r) []) e ∙ append-nil now.told.items))
skipped shard shards was now done (Balance time vid qid) e took =
    took_more shard shards was now now done (Balance time vid qid) took
    (λ day t. subst (StandsFor now.tracker) (sym (own_other shard shards day (Balance time vid qid) refl)) t)
    (λ day t. sym (append-nil now.told.items))
skipped shard shards was now done (Spent time vid xway qid past) e took =
    took_more shard shards was now now done (Spent time vid xway qid past) took
    (λ day t. subst (StandsFor now.tracker) (sym (own_other shard shards day (Spent time vid xway qid past) refl)) t)
    (λ day t. sym (append-nil now.told.items))
skipped shard shards was now done (Travel time) e took =
    took_more shard shards was now now done (Travel time) took
    (λ day t. subst (StandsFor now.tracker) (sym (own_other shard shards day (Travel time) refl)) t)
    (λ day t. sym (append-nil now.told.items))

-- a shard went over the first of some tuples: of those that are left these positions are its own
pub record Through (shard shards : ℕ) (was now : Shard) (tuples : List Tuple) (ps : List ℕ) : Type 0 where
  pub done : List Tuple
  pub rest : List Tuple
  pub whole : done ++ rest ≡ tuples
  pub left : places_from shard shards (length done) rest ≡ ps
  pub took : Took shard shards was now done

-- it went over those before the next of its own
pub record Ahead (shard shards : ℕ) (was now : Shard) (tuples : List Tuple) (p : ℕ) (ps : List ℕ) : Type 0 where
  pub done : List Tuple
  pub x : Tuple
  pub later : List Tuple
  pub whole : done ++ x ∷ later ≡ tuples
  pub at : length done ≡ p
  pub left : places_from shard shards (suc (length done)) later ≡ ps
  pub took : Took shard shards was now done

pub through_none : (shard shards : ℕ) (was : Shard) (tuples : List Tuple) (ps : List ℕ) →
    ps ≡ places_from shard shards 0 tuples → Through shard shards was was tuples ps
through_none shard shards was tuples ps e = record {
  done = [];
  rest = tuples;
  whole = refl;
  left = sym e;
  took = took_none shard shards was;
}

one_longer : (done : List Tuple) (x : Tuple) → length (done ++ x ∷ []) ≡ suc (length done)
one_longer done x = let long = length-append done (x ∷ []) in omega (arith, long)

same_head : (a b : ℕ) (ps qs : List ℕ) → a ∷ ps ≡ b ∷ qs → a ≡ b
same_head a b ps qs e = cc

same_tail : (a b : ℕ) (ps qs : List ℕ) → a ∷ ps ≡ b ∷ qs → ps ≡ qs
same_tail a b ps qs e = cc

none_some : (p : ℕ) (ps : List ℕ) → ◌≡◌ {A = List ℕ} [] (p ∷ ps) → ⊥
none_some p ps e = cc

step : (shard shards : ℕ) (was now : Shard) (tuples done : List Tuple) (x : Tuple) (xs : List Tuple) (p : ℕ)
    (ps : List ℕ) (b : Bool) → is_own shard shards x ≡ b → done ++ x ∷ xs ≡ tuples →
    places_from shard shards (length done) (x ∷ xs) ≡ p ∷ ps → Took shard shards was now done →
    (places_from shard shards (length (done ++ x ∷ [])) xs ≡ p ∷ ps → Took shard shards was now (done ++ x ∷ []) →
    Ahead shard shards was now tuples p ps) → Ahead shard shards was now tuples p ps
step shard shards was now tuples done x xs p ps true e whole left took further =
    let others = places_from shard shards (suc (length done)) xs in
    let here : length done ∷ others ≡ p ∷ ps =
    subst (λ b. cond b (length done ∷ others) others ≡ p ∷ ps) e left in
    record {
      done = done;
      x = x;
      later = xs;
      whole = whole;
      at = same_head (length done) p others ps here;
      left = same_tail (length done) p others ps here;
      took = took;
    }
step shard shards was now tuples done x xs p ps false e whole left took further =
    let others = places_from shard shards (suc (length done)) xs in
    further
    (ap (λ n. places_from shard shards n xs) (one_longer done x)
    ∙ subst (λ b. cond b (length done ∷ others) others ≡ p ∷ ps) e left)
    (skipped shard shards was now done x e took)

-- where one of its own is left, it stands behind tuples that are not
search_on : (shard shards : ℕ) (was now : Shard) (tuples done rest : List Tuple) (p : ℕ) (ps : List ℕ) →
    done ++ rest ≡ tuples → places_from shard shards (length done) rest ≡ p ∷ ps → Took shard shards was now done →
    Ahead shard shards was now tuples p ps
search_on shard shards was now tuples done [] p ps whole left took = absurd (none_some p ps left)
search_on shard shards was now tuples done (x ∷ xs) p ps whole left took =
    step shard shards was now tuples done x xs p ps (is_own shard shards x) refl whole left took
    (λ l t. search_on shard shards was now tuples (done ++ x ∷ []) xs p ps (append_assoc done (x ∷ []) xs ∙ whole) l t)

pub ahead : (shard shards : ℕ) (was now : Shard) (tuples : List Tuple) (p : ℕ) (ps : List ℕ) →
    Through shard shards was now tuples (p ∷ ps) → Ahead shard shards was now tuples p ps
ahead shard shards was now tuples p ps h =
    search_on shard shards was now tuples h.done h.rest p ps h.whole h.left h.took

-- it stands at its position
pub is_at : (done : List Tuple) (x : Tuple) (later : List Tuple) (d : Tuple) →
    get_or (done ++ x ∷ later) (length done) d ≡ x
is_at [] x later d = refl
is_at (y ∷ ys) x later d = is_at ys x later d

pub found_at : (shard shards : ℕ) (was now : Shard) (tuples : List Tuple) (p : ℕ) (ps : List ℕ) (d : Tuple) →
    (h : Ahead shard shards was now tuples p ps) → get_or tuples p d ≡ h.x
found_at shard shards was now tuples p ps d h =
    ap (λ n. get_or tuples n d) (sym h.at)
    ∙ ap (λ ts. get_or ts (length h.done) d) (sym h.whole) ∙ is_at h.done h.x h.later d

pub within : (shard shards : ℕ) (was now : Shard) (tuples : List Tuple) (p : ℕ) (ps : List ℕ) →
    Ahead shard shards was now tuples p ps → p < length tuples
within shard shards was now tuples p ps h =
    let long = length-append h.done (h.x ∷ h.later) in
    let all : length (h.done ++ h.x ∷ h.later) ≡ length tuples = ap length h.whole in
    let here = h.at in
    omega (arith, long, all, here)

-- the next of its own, where positions are left
pub next_own : (shard shards : ℕ) (was now : Shard) (tuples : List Tuple) (ps : List ℕ) (i : ℕ) → i < length ps →
    Through shard shards was now tuples (drop i ps) → Ahead shard shards was now tuples (get_or ps i 0) (drop (i + 1) ps)
next_own shard shards was now tuples ps i less h =
    ahead shard shards was now tuples (get_or ps i 0) (drop (i + 1) ps)
    (subst (Through shard shards was now tuples) (drop_more ps i 0 less) h)

-- and when it saw that one too
pub saw_next : (shard shards : ℕ) (was now next : Shard) (tuples : List Tuple) (p : ℕ) (ps : List ℕ) (x : Tuple) →
    (h : Ahead shard shards was now tuples p ps) → x ≡ h.x →
    ((day : List Tuple) → StandsFor now.tracker (own_of shard shards (reports day)) →
    StandsFor next.tracker (own_of shard shards (reports (day ++ x ∷ [])))) →
    ((day : List Tuple) → StandsFor now.tracker (own_of shard shards (reports day)) →
    next.told.items ≡ now.told.items ++ cons_option (own_tracked shard shards (day, x)) []) →
    Through shard shards was next tuples ps
saw_next shard shards was now next tuples p ps x h same tracks told = record {
  done = h.done ++ h.x ∷ [];
  rest = h.later;
  whole = append_assoc h.done (h.x ∷ []) h.later ∙ h.whole;
  left = ap (λ n. places_from shard shards n h.later) (one_longer h.done h.x) ∙ h.left;
  took = took_more shard shards was now next h.done h.x h.took
      (λ day t. subst (λ y. StandsFor next.tracker (own_of shard shards (reports (day ++ y ∷ [])))) same (tracks day t))
      (λ day t. told day t ∙ ap (λ y. now.told.items ++ cons_option (own_tracked shard shards (day, y)) []) same);
}

-- where none of its own is left it went over all
none_on : (shard shards : ℕ) (was now : Shard) (tuples done rest : List Tuple) → done ++ rest ≡ tuples →
    places_from shard shards (length done) rest ≡ [] → Took shard shards was now done →
    Took shard shards was now tuples
none_on shard shards was now tuples done [] whole left took =
    subst (Took shard shards was now) (sym (append-nil done) ∙ whole) took
none_on shard shards was now tuples done (x ∷ xs) whole left took =
    other shard shards was now tuples done x xs (is_own shard shards x) refl left took
    (λ l t. none_on shard shards was now tuples (done ++ x ∷ []) xs (append_assoc done (x ∷ []) xs ∙ whole) l t)
  where
    other : (shard shards : ℕ) (was now : Shard) (tuples done : List Tuple) (x : Tuple) (xs : List Tuple) (b : Bool) →
        is_own shard shards x ≡ b → places_from shard shards (length done) (x ∷ xs) ≡ [] →
        Took shard shards was now done → (places_from shard shards (length (done ++ x ∷ [])) xs ≡ [] →
        Took shard shards was now (done ++ x ∷ []) → Took shard shards was now tuples) →
        Took shard shards was now tuples
    other shard shards was now tuples done x xs true e left took further =
        let others = places_from shard shards (suc (length done)) xs in
        absurd (none_some (length done) others (sym (subst (λ b. cond b (length done ∷ others) others ≡ []) e left)))
    other shard shards was now tuples done x xs false e left took further =
        let others = places_from shard shards (suc (length done)) xs in
        further
        (ap (λ n. places_from shard shards n xs) (one_longer done x)
        ∙ subst (λ b. cond b (length done ∷ others) others ≡ []) e left)
        (skipped shard shards was now done x e took)

pub all_through : (shard shards : ℕ) (was now : Shard) (tuples : List Tuple) →
    Through shard shards was now tuples [] → Took shard shards was now tuples
all_through shard shards was now tuples h = none_on shard shards was now tuples h.done h.rest h.whole h.left h.took
