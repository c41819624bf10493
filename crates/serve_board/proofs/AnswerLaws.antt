-- answers of a day that is being published
use Rattle.std.proofs.Common.{◌≡◌, ℕ, ◌<◌, List, [], ◌∷◌, ◌++◌, length, refl, sym, ap, subst, arith}
use Rattle.road_time.specs.declared.road.Tuple.{Tuple}
use Rattle.road_time.specs.Rates.{Tariffs}
use Rattle.day_floor.specs.Operations.{Operation, Begin, Step}
use Rattle.day_floor.specs.Boards.{AreSteps, IsLive}
use Rattle.day_floor.specs.AccountsLaws.{LiveLaw}
use Rattle.serve_board.specs.declared.live.Live.{Live}
use Rattle.serve_board.specs.Laws.{AnswersLaw}

-- a beginning that is longer than a first part has that part, the operation behind it, and a beginning of the others
cut : (earlier : List Operation) (x : Operation) (steps seen rest : List Operation) →
    earlier ++ x ∷ steps ≡ seen ++ rest → length earlier < length seen →
    (first : List Operation) × (seen ≡ earlier ++ x ∷ first) × (steps ≡ first ++ rest)
cut earlier x steps [] rest e l = absurd (omega (arith, l))
cut [] x steps (y ∷ ys) rest e l = let p : x ≡ y = cc in let q : steps ≡ ys ++ rest = cc in
    (ys, ap (λ z. z ∷ ys) (sym p), q)
cut (w ∷ ws) x steps (y ∷ ys) rest e l =
    let p : w ≡ y = cc in
    let q : ws ++ x ∷ steps ≡ ys ++ rest = cc in
    let found = cut ws x steps ys rest q (omega (arith, l)) in
    (found.0, (λ i. sym p i ∷ found.1 i), found.2)

-- a beginning of steps is steps
first_steps : (day : List Tuple) (tariffs : Tariffs) (mark : ℕ) (first rest : List Operation) →
    AreSteps day tariffs mark (first ++ rest) → AreSteps day tariffs mark first
first_steps day tariffs mark [] rest h = tt
first_steps day tariffs mark (Begin n ∷ ops) rest h = h
first_steps day tariffs mark (Step cs next ∷ ops) rest h = (h.0, h.1, h.2, first_steps day tariffs next ops rest h.3)

-- two answers with the same parts
pub live_made : {a a' b b' n n' : ℕ} → a ≡ a' → b ≡ b' → n ≡ n' →
    ◌≡◌ {A = Live} (record { day = a; as_of = b; amount = n }) (record { day = a'; as_of = b'; amount = n' })
live_made p q r = cc

-- each answer is the day's account at its mark
pub answers : LiveLaw → AnswersLaw
answers law day tariffs number earlier steps seen are begins long =
    let found = cut earlier (Begin number) steps seen begins.0 begins.1 long in
    let live : IsLive day tariffs number seen =
    record {
      earlier = earlier;
      steps = found.0;
      whole = found.1;
      exact =
          first_steps day tariffs 0 found.0 begins.0 (subst (AreSteps day tariffs 0) found.2 are);
    } in
    let shown = law day tariffs number seen live in
    (shown.1, (λ vid. live_made shown.0 refl (shown.2 vid)), live_made shown.0 refl shown.3)
