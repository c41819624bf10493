use Rattle.std.proofs.Common.{◌≡◌, ℕ, ◌+◌, ◌<◌, List, length, take, get_or, ◌++◌, ◌∷◌, [], subst}
use Rattle.std.proofs.lemmas.List.{take_all, take_more}
use Rattle.road_rules.specs.Payments.{amount_in}
use Rattle.road_rules.specs.Outputs.{IsOutput}
use Rattle.road_rules.proofs.output.outputs.Goals as goal

one_more : {X : Type 0} (P : List X → Type 0) (xs : List X) (i : ℕ) (d : X) → i < length xs →
    P (take i xs ++ get_or xs i d ∷ []) → P (take (i + 1) xs)
one_more P xs i d inside p = rw (take_more xs i d inside) p

pub loop-tuple-preserved : goal.loop-tuple-preserved
loop-tuple-preserved c =
    let day = c.in_ok-gathered.gathered.tuples.now in
    one_more (IsOutput day c.args.tariffs.now c.args.day (amount_in c.in_ok-payments.payments) c.take_tuple.new.output) day
    c.loop-tuple.tuple-index _ c.loop-tuple-test.true
    (c.in_ok-take_tuple.ensures (take c.loop-tuple.tuple-index day) c.loop-tuple.invariant)

pub returns : goal.returns
returns c =
    let day = c.in_ok-gathered.gathered.tuples.now in
    let made = c.loop-tuple.output in
    let kept : ℕ → ℕ → ℕ → ℕ = amount_in c.in_ok-payments.payments in
    let all : take c.loop-tuple.tuple-index day ≡ day = take_all c.loop-tuple.tuple-index day c.loop-tuple-test.false in
    let of_day : IsOutput day c.args.tariffs.now c.args.day kept made day =
    subst (IsOutput day c.args.tariffs.now c.args.day kept made) all c.loop-tuple.invariant in
    let of_all : IsOutput c.args.tuples.now c.args.tariffs.now c.args.day kept made c.args.tuples.now =
    subst (λ ts. IsOutput ts c.args.tariffs.now c.args.day kept made ts) c.in_ok-gathered.ensures.tuples of_day in
    subst (λ amounts. IsOutput c.args.tuples.now c.args.tariffs.now c.args.day amounts made c.args.tuples.now)
    (λ i of vid xway. c.in_ok-payments.ensures of vid xway i) of_all
