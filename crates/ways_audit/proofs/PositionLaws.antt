-- what is told at each position
use Rattle.std.proofs.Common.{◌≡◌, ℕ, zero, suc, ◌<◌, List, [], ◌∷◌, ◌++◌, length, map, take, get_or, Some, refl, sym}
use Rattle.std.proofs.Common.{ap, ◌∙◌, arith, slice_get}
use Rattle.std.proofs.lemmas.List.{append-nil, append_assoc, map-append}
use Rattle.road_time.specs.declared.road.Tuple.{Tuple}
use Rattle.road_time.specs.Sights.{moments_after}
use Rattle.road_time.proofs.SightLaws.{moments-append}
use Rattle.ways_audit.specs.Seen.{tracked_by, tracked_if, tracked_at, tracked_after}

got_is : {X : Type 0} (xs : List X) (i : ℕ) (d : X) → i < length xs → slice_get xs i ≡ Some (get_or xs i d)
got_is [] i d h = absurd (omega (arith, h))
got_is (x ∷ xs) zero d h = refl
got_is (x ∷ xs) (suc i) d h = got_is xs i d (omega (arith, h))

told_at : (before day : List Tuple) (i : ℕ) (d : Tuple) → i < length day →
    slice_get (tracked_after before day) i ≡ Some (tracked_by (before ++ take i day, get_or day i d))
told_at before [] i d h = absurd (omega (arith, h))
told_at before (x ∷ xs) zero d h = ap (λ zs. Some (tracked_by (zs, x))) (sym (append-nil before))
told_at before (x ∷ xs) (suc i) d h = told_at (before ++ x ∷ []) xs i d (omega (arith, h))
    ∙ ap (λ zs. Some (tracked_by (zs, get_or xs i d))) (append_assoc before (x ∷ []) (take i xs))

pub seen_at : (day : List Tuple) (i : ℕ) (d : Tuple) → i < length day →
    slice_get (tracked_after [] day) i ≡ Some (tracked_at day i)
seen_at day i d h = told_at [] day i d h ∙ ap (λ o. Some (tracked_if (take i day) o)) (sym (got_is day i d h))

pub in_parts : (before day : List Tuple) →
    tracked_after [] (before ++ day) ≡ tracked_after [] before ++ tracked_after before day
in_parts before day = ap (map tracked_by) (moments-append [] before day)
    ∙ map-append tracked_by (moments_after [] before) (moments_after before day)
