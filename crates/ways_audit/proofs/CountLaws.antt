-- How often notices are kept by their numbers.
use Rattle.std.proofs.Common.{◌≡◌, ◌∙◌, ◌+◌, ◌<◌, ◌==◌, ◌&&◌, ℕ, Bool, cond, true, false, refl, sym, ap, List}
use Rattle.std.proofs.Common.{get_or, length, take, true≢false}
use Rattle.std.proofs.lemmas.Bool.{eqb-true}
use Rattle.std.proofs.lemmas.Bool.Decides.{Decides-int_eq}
use Rattle.std.proofs.lemmas.List.Sums.{count_by_more_yes, count_by_more_no}
use Rattle.std.specs.Ordering.{int_eq}
use Rattle.road_time.specs.declared.road.Notice.{Notice}
use Rattle.ways_audit.specs.declared.numbers.Numbers.{Numbers}
use Rattle.ways_audit.specs.Seconds.{numbers_of, same_numbers, same_notice, how_many, still, count_in}

-- both hold
both : (a b : Bool) → (a && b) ≡ true → (a ≡ true) × (b ≡ true)
both true b e = (refl, e)
both false b e = absurd (true≢false (sym e))

-- numbers that are the same are equal
pub numbers_same : (a b : Numbers) → same_numbers a b ≡ true → a ≡ b
numbers_same a b e =
    let kind = both (a.kind == b.kind) _ e in
    let time = both (a.time == b.time) _ kind.1 in
    let name = both (a.name == b.name) _ time.1 in
    let lav = both (int_eq a.lav b.lav) _ name.1 in
    let seg = both (a.seg == b.seg) (a.amount == b.amount) lav.1 in
    λ i. record {
      kind = eqb-true a.kind b.kind kind.0 i;
      time = eqb-true a.time b.time time.0 i;
      name = eqb-true a.name b.name name.0 i;
      lav = (Decides-int_eq a.lav b.lav).0 lav.0 i;
      seg = eqb-true a.seg b.seg seg.0 i;
      amount = eqb-true a.amount b.amount seg.1 i;
    }

-- a notice more is counted
pub counted : (old new : List (Numbers × ℕ)) (ns : List Notice) (i : ℕ) (d : Notice) → i < length ns
    → ((p : Numbers) → how_many new p ≡ cond (same_numbers (numbers_of (get_or ns i d)) p)
    (how_many old (numbers_of (get_or ns i d)) + 1) (how_many old p))
    → ((x : Notice) → still old x ≡ count_in (take i ns) x) → (x : Notice) → still new x ≡ count_in (take (i + 1) ns) x
counted old new ns i d within more so_far x = go (same_notice w x) refl
  where
    w : Notice
    w = get_or ns i d

    go : (b : Bool) → same_notice w x ≡ b → still new x ≡ count_in (take (i + 1) ns) x
    go true e =
        more (numbers_of x)
        ∙ rw e (ap (λ p. how_many old p + 1) (numbers_same (numbers_of w) (numbers_of x) e)
        ∙ ap (λ n. n + 1) (so_far x))
        ∙ sym (count_by_more_yes (λ v. same_notice v x) ns i d within e)
    go false e =
        more (numbers_of x) ∙ rw e (so_far x) ∙ sym (count_by_more_no (λ v. same_notice v x) ns i d within e)
