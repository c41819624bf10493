-- places in order, and those at which there was a report
use Rattle.std.proofs.Common.{◌≡◌, ℕ, ◌==◌, ◌&&◌, ◌⊎◌, ⊎_elim, inl, inr, true, [], not, List, ◌∷◌, map, refl, sym, ap}
use Rattle.std.proofs.Common.{◌∙◌, nat_le}
use Rattle.std.specs.List.{fold, list_any, AllByRecursion}
use Rattle.std.specs.Ordering.{nat_cmp, ordering_then, ordering_reverse, match_ordering, is_eq}
use Rattle.std.specs.declared.cmp.Ordering.{Ordering}
use Rattle.std.specs.declared.cmp.Ordering.TheVariants.{Less, Equal, Greater}
use Rattle.std.specs.BTreeSet.{insert_key}
use Rattle.std.specs.Cmp.{unsigned_tied}
use Rattle.std.specs.Cmp.Lexicographic.{slice_cmp}
use Rattle.std.proofs.lemmas.Cmp.{nat_list_cmp_total}
use Rattle.std.proofs.lemmas.Bool.{and_parts}
use Rattle.road_time.specs.declared.road.Report.{Report}
use Rattle.road_time.specs.declared.road.Place.{Place}
use Rattle.road_time.specs.Tuples.{place_of, same_place}
use Rattle.road_time.specs.Stops.{Stop, is_stopped, up_to}
use Rattle.road_time.specs.Tolls.{stops_at}
use Rattle.road_time.specs.Log.{stands_at, place_cmp, places_of}
use Rattle.road_time.proofs.EachLaws.{weakened}
use Rattle.road_time.proofs.MemberLaws.{Mem, mem_map, mem_filter_from, any_mem}
use Rattle.road_time.proofs.SameLaws.{place_is}

-- places in order

then_eq : (o p : Ordering) → is_eq (ordering_then o p) ≡ (is_eq o && is_eq p)
then_eq Less p = refl
then_eq Equal p = refl
then_eq Greater p = refl

tied_place : (a b : Place) → is_eq (place_cmp a b) ≡ same_place a b
tied_place a b =
    then_eq (nat_cmp a.xway b.xway) _ ∙ ap (λ x. is_eq (nat_cmp a.xway b.xway) && x) (then_eq (nat_cmp a.dir b.dir) _
    ∙ ap (λ x. is_eq (nat_cmp a.dir b.dir) && x)
    (then_eq (nat_cmp a.lane b.lane) _
    ∙ ap (λ x. is_eq (nat_cmp a.lane b.lane) && x) (then_eq (nat_cmp a.seg b.seg) (nat_cmp a.pos b.pos))))
    ∙ rw (
      unsigned_tied a.xway b.xway,
      unsigned_tied a.dir b.dir,
      unsigned_tied a.lane b.lane,
      unsigned_tied a.seg b.seg,
      unsigned_tied a.pos b.pos,
    ) refl

place_parts : {a b c d e a' b' c' d' e' : ℕ} → a ≡ a' → b ≡ b' → c ≡ c' → d ≡ d' → e ≡ e' →
    ◌≡◌ {A = Place} (record { xway = a; dir = b; lane = c; seg = d; pos = e })
    (record { xway = a'; dir = b'; lane = c'; seg = d'; pos = e' })
place_parts p q r s t = cc

equal_is : (a b : Place) → place_cmp a b ≡ Equal → a ≡ b
equal_is a b e = place_is a b (sym (tied_place a b) ∙ ap is_eq e)

abbrev key : Place → List ℕ
key p = p.xway ∷ p.dir ∷ p.lane ∷ p.seg ∷ p.pos ∷ []

then_equal : (o : Ordering) → ordering_then o Equal ≡ o
then_equal Less = refl
then_equal Equal = refl
then_equal Greater = refl

by_key : (a b : Place) → place_cmp a b ≡ slice_cmp nat_cmp (key a) (key b)
by_key a b =
    ap (λ o. ordering_then (nat_cmp a.xway b.xway)
    (ordering_then (nat_cmp a.dir b.dir)
    (ordering_then (nat_cmp a.lane b.lane) (ordering_then (nat_cmp a.seg b.seg) o))))
    (sym (then_equal (nat_cmp a.pos b.pos)))

below_trans : (a b c : Place) → place_cmp a b ≡ Less → place_cmp b c ≡ Less → place_cmp a c ≡ Less
below_trans a b c h g = by_key a c ∙ nat_list_cmp_total.trans (key a) (key b) (key c) (sym (by_key a b) ∙ h)
    (sym (by_key b c) ∙ g)

below_turned : (a b : Place) → place_cmp a b ≡ Greater → place_cmp b a ≡ Less
below_turned a b h = by_key b a ∙ nat_list_cmp_total.antisymm (key b) (key a)
    ∙ ap ordering_reverse (sym (by_key a b) ∙ h)

abbrev pub Below : Place → List Place → Type 0
Below p ps = AllByRecursion (λ q. place_cmp p q ≡ Less) ps

abbrev pub Placed : List Place → Type 0
Placed [] = Unit {0}
Placed (p ∷ ps) = Below p ps × Placed ps

choose : (o : Ordering) (P : List Place → Type 0) (xs ys zs : List Place) → (o ≡ Less → P xs) → (o ≡ Equal → P ys) →
    (o ≡ Greater → P zs) → P (match_ordering o xs ys zs)
choose Less P xs ys zs f g h = f refl
choose Equal P xs ys zs f g h = g refl
choose Greater P xs ys zs f g h = h refl

insert_below : (p k : Place) (ps : List Place) → Below p ps → place_cmp p k ≡ Less → Below p (insert_key place_cmp ps k)
insert_below p k [] h e = (e, tt)
insert_below p k (q ∷ qs) h e =
    choose (place_cmp k q) (Below p) (k ∷ q ∷ qs) (q ∷ qs) (q ∷ insert_key place_cmp qs k) (λ _. (e, h)) (λ _. h)
    (λ _. (h.0, insert_below p k qs h.1 e))

insert_placed : (k : Place) (ps : List Place) → Placed ps → Placed (insert_key place_cmp ps k)
insert_placed k [] h = (tt, tt)
insert_placed k (q ∷ qs) h =
    choose (place_cmp k q) Placed (k ∷ q ∷ qs) (q ∷ qs) (q ∷ insert_key place_cmp qs k)
    (λ e. (
      (e, weakened (λ r. place_cmp q r ≡ Less) (λ r. place_cmp k r ≡ Less) (λ r g. below_trans k q r e g) qs h.0),
      h,
    )) (λ _. h)
    (λ e. (insert_below q k qs h.0 (below_turned k q e), insert_placed k qs h.1))

insert_mem : (k q : Place) (ps : List Place) → Mem ps q ⊎ (k ≡ q) → Mem (insert_key place_cmp ps k) q
insert_mem k q [] h = ⊎_elim (λ m. absurd m) (λ e. inl e) h
insert_mem k q (r ∷ rs) h =
    choose (place_cmp k r) (λ ps. Mem ps q) (k ∷ r ∷ rs) (r ∷ rs) (r ∷ insert_key place_cmp rs k)
    (λ _. ⊎_elim (λ m. inr m) (λ e. inl e) h)
    (λ e. ⊎_elim (λ m. m) (λ i. inl (sym (equal_is k r e) ∙ i)) h)
    (λ _. ⊎_elim (λ m. ⊎_elim (λ e. inl e) (λ n. inr (insert_mem k q rs (inl n))) m)
    (λ e. inr (insert_mem k q rs (inr e))) h)

placed_from : (acc ps : List Place) → Placed acc → Placed (fold (insert_key place_cmp) acc ps)
placed_from acc [] h = h
placed_from acc (p ∷ ps) h = placed_from (insert_key place_cmp acc p) ps (insert_placed p acc h)

mem_from : (acc ps : List Place) (q : Place) → Mem acc q ⊎ Mem ps q → Mem (fold (insert_key place_cmp) acc ps) q
mem_from acc [] q h = ⊎_elim (λ m. m) (λ m. absurd m) h
mem_from acc (p ∷ ps) q h =
    mem_from (insert_key place_cmp acc p) ps q
    (⊎_elim (λ m. inl (insert_mem p q acc (inl m)))
    (λ m. ⊎_elim (λ e. inl (insert_mem p q acc (inr e))) (λ n. inr n) m) h)

-- the places are in order, and are those of the reports
pub places_placed : (rs : List Report) → Placed (places_of rs)
places_placed rs = placed_from [] (map place_of rs) tt

places_mem : (rs : List Report) (r : Report) → Mem rs r → Mem (places_of rs) (place_of r)
places_mem rs r m = mem_from [] (map place_of rs) (place_of r) (inr (mem_map place_of rs r m))

mem_map_from : {X Y : Type 0} (f : X → Y) (xs : List X) (y : Y) → Mem (map f xs) y → (x : X) × Mem xs x × (f x ≡ y)
mem_map_from f [] y h = absurd h
mem_map_from f (x ∷ xs) y h =
    ⊎_elim (λ e. (x, inl refl, e)) (λ m. let c = mem_map_from f xs y m in (c.0, inr c.1, c.2)) h

-- where an accident stands there was a report
pub stood_mem : (rs : List Report) (place : Place) (t : ℕ) → stands_at rs place t ≡ true → Mem (places_of rs) place
stood_mem rs place t e =
    let one =
    any_mem (λ a. same_place a.1 place && list_any (λ b. same_place b.1 place && not (a.0 == b.0)) (stops_at rs t))
    (stops_at rs t) e in
    let parts = and_parts (same_place one.0.1 place) _ one.2 in
    let among =
    mem_filter_from (λ (s : Stop). is_stopped (up_to t rs) s.0 s.1) (map (λ r. (r.vid, place_of r)) (up_to t rs))
    one.0 one.1 in
    let two = mem_map_from (λ r. (r.vid, place_of r)) (up_to t rs) one.0 among in
    let here : place_of two.0 ≡ place = ap (λ (s : Stop). s.1) two.2 ∙ place_is one.0.1 place parts.0 in
    rw (← here) (places_mem rs two.0 (mem_filter_from (λ r. nat_le r.time t) rs two.0 two.1))
