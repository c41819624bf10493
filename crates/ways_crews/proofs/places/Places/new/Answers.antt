use Rattle.std.proofs.Common.{rules, ◌<◌, arith}
use Rattle.std.specs.Prelude.{None}
use Rattle.ways_crews.proofs.Numbers.{free_all}
use Rattle.ways_crews.proofs.places.Places.new.Goals as goal

pub returns : goal.returns
returns c = let long = c.from_fn.ensures.items.long in
    free_all 0 c.from_fn.result
    (λ i lt. (let within : i < 64 = omega arith in let h = c.from_fn.ensures.items.at i None within in search rules))
