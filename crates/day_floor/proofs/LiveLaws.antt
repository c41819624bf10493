-- steps from mark to mark make the charges up to the last mark
use Rattle.std.proofs.Common.{◌≡◌, ℕ, ◌≤◌, ◌<◌, List, [], ◌∷◌, ◌++◌, length, take, refl, sym, ◌∙◌, arith, subst}
use Rattle.std.specs.List.{fold}
use Rattle.std.proofs.lemmas.List.{length-append}
use Rattle.std.proofs.lemmas.List.Sums.{fold-append}
use Rattle.road_time.specs.declared.road.Tuple.{Tuple}
use Rattle.road_time.specs.Order.{AreTimesInOrder}
use Rattle.road_time.specs.Rates.{Tariffs}
use Rattle.road_time.specs.Sights.{moments}
use Rattle.road_time.specs.Day.{ChargedToll, rules, charges_between, charges}
use Rattle.road_time.proofs.AccountLaws.{charges_step}
use Rattle.road_time.proofs.StepLaws.{between_before}
use Rattle.day_floor.specs.Operations.{Operation, Begin, Step}
use Rattle.day_floor.specs.Boards.{BoardState, blank, board_with, board_after, AreSteps, IsLive}

-- a board shows a day's charges at its mark
pub record Shows (day : List Tuple) (tariffs : Tariffs) (number : ℕ) (b : BoardState) : Type 0 where
  pub of_day : b.number ≡ number
  pub inside : b.mark ≤ length day
  pub exact : b.charged ≡ charges day tariffs (moments (take b.mark day))

module _ (day : List Tuple) (tariffs : Tariffs) (number : ℕ) where
  -- a step from its mark keeps that
  shows_step : (b : BoardState) (cs : List ChargedToll) (next : ℕ) → Shows day tariffs number b → b.mark < next →
      next ≤ length day → cs ≡ charges_between (rules day tariffs) day b.mark next →
      Shows day tariffs number (board_with b (Step cs next))
  shows_step b cs next h less inside is = record {
    of_day = h.of_day;
    inside = inside;
    exact = rw (h.exact, is) (sym (charges_step (rules day tariffs) day b.mark next (omega (arith, less)) inside));
  }

  -- so do steps
  shows_steps : (b : BoardState) (ops : List Operation) → Shows day tariffs number b → AreSteps day tariffs b.mark ops →
      Shows day tariffs number (fold board_with b ops)
  shows_steps b [] h steps = h
  shows_steps b (Begin n ∷ ops) h steps = absurd steps
  shows_steps b (Step cs next ∷ ops) h steps =
      shows_steps (board_with b (Step cs next)) ops (shows_step b cs next h steps.0 steps.1 steps.2) steps.3

  -- a day that begins shows nothing charged
  begun : (b : BoardState) → Shows day tariffs number (board_with b (Begin number))
  begun b = record { of_day = refl; inside = omega arith; exact = refl }

  -- a day and its steps, whatever was published before
  pub shown : (earlier steps : List Operation) → AreSteps day tariffs 0 steps →
      Shows day tariffs number (board_after (earlier ++ Begin number ∷ steps))
  shown earlier steps h =
      subst (Shows day tariffs number) (sym (fold-append board_with blank earlier (Begin number ∷ steps)))
      (shows_steps (board_with (board_after earlier) (Begin number)) steps (begun (board_after earlier)) h)

module _ (day later : List Tuple) (order : AreTimesInOrder (day ++ later)) (tariffs : Tariffs) where
  -- steps of a day are steps of a longer one
  grown : (mark : ℕ) (ops : List Operation) → AreSteps day tariffs mark ops → AreSteps (day ++ later) tariffs mark ops
  grown mark [] h = tt
  grown mark (Begin n ∷ ops) h = h
  grown mark (Step cs next ∷ ops) h =
      (h.0, longer h.1, h.2 ∙ sym (between_before day later order tariffs mark next h.1), grown next ops h.3)
    where
      longer : next ≤ length day → next ≤ length (day ++ later)
      longer e = omega (arith, e, length-append day later)

  -- and so is what is published of it
  pub live_more : (number : ℕ) (ops : List Operation) → IsLive day tariffs number ops →
      IsLive (day ++ later) tariffs number ops
  live_more number ops live =
      record { earlier = live.earlier; steps = live.steps; whole = live.whole; exact = grown 0 live.steps live.exact }
