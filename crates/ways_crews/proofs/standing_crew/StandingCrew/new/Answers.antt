use Rattle.std.proofs.Common.{rules, arith, ap, ◌<◌}
use Rattle.std.specs.Prelude.{None}
use Rattle.ways_crews.specs.Views.{Sat}
use Rattle.ways_crews.proofs.Numbers.{free_all}
use Rattle.ways_crews.proofs.Tellings.{new_tells}
use Rattle.ways_crews.specs.Crews.{is_unlisted}
use Rattle.ways_crews.proofs.Opening.{new_free, new_wide}
use Rattle.ways_crews.proofs.standing_crew.StandingCrew.new.Goals as goal

pub invariant_of-result : goal.invariant_of-result
invariant_of-result g c = let long = c.from_fn.ensures.items.long in record {
  at = c.requires.at.0;
  first = c.requires.at.1;
  idle = ap (λ (m : Sat). m.0.taken) c.requires.new;
  hands = ap (λ (m : Sat). m.1) c.requires.new;
  wide = new_wide c.args.board.count c.args.seat.me c.requires.new;
  all = long;
  free = new_free c.from_fn.result c.args.board.count c.args.seat.me c.requires.new
      (λ i lt. (let within : i < 64 = omega arith in let h = c.from_fn.ensures.items.at i None within in search rules));
}

pub returns-clause-out : goal.returns-clause-out
returns-clause-out g c = let long = c.from_fn.ensures.items.long in
    free_all 0 c.from_fn.result
    (λ i lt. (let within : i < 64 = omega arith in let h = c.from_fn.ensures.items.at i None within in search rules))

pub returns-clause-jobs : goal.returns-clause-jobs
returns-clause-jobs g c =
    let long = c.from_fn.ensures.items.long in
    new_tells is_unlisted _ _ _ c.new.ensures
    (free_all 0 c.from_fn.result
    (λ i lt. (let within : i < 64 = omega arith in let h = c.from_fn.ensures.items.at i None within in
    search rules)))
