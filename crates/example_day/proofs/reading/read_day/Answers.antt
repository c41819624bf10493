use Rattle.std.proofs.Common.{◌≡◌, ◌++◌, ◌∷◌, [], Some, Ok, sym, subst, ◌∙◌}
use Rattle.std.proofs.lemmas.Bool.{cond-true}
use Rattle.road_time.specs.declared.day.TheConstants.Limits.{DAY}
use Rattle.day_reading.specs.Readings.{IsGathering, GathersOn}
use Rattle.example_day.proofs.reading.read_day.Goals as goal

pub reading-init : goal.reading-init
reading-init g c = record {
  gathering =
      subst (λ xs. IsGathering c.in-Ok.reader DAY 0 xs) (sym c.new-tuples.ensures.items) c.in-Ok.ensures.gathering;
}

pub reading-preserved : goal.reading-preserved
reading-preserved g c =
    let new = c.next.new.self in
    let before = c.reading.tuples.items in
    let x = c.in-Ok-Some.tuple in
    let inv = c.reading.invariant in
    let some : c.next.result ≡ Ok (Some x) = cc in
    let pushed : c.push.new.self.items ≡ before ++ x ∷ [] = c.push.ensures.items
    ∙ cond-true _ _ _ c.if-is_err.ensures.negation in
    record {
      gathering =
          subst (λ xs. IsGathering new DAY 0 xs) (sym pushed)
          (subst (λ r. GathersOn r new DAY 0 before) some (c.next.ensures.gathers DAY 0 before inv.gathering));
    }
