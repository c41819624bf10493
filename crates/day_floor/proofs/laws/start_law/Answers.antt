use Rattle.std.proofs.Common.{refl}
use Rattle.day_floor.proofs.Events.{events_grow}
use Rattle.day_floor.proofs.Starts.{starts_give, starts_back, started_first, started_whole}
use Rattle.day_floor.proofs.laws.start_law.Goals as goal

pub returns-clause-starts : goal.returns-clause-starts
returns-clause-starts c = λ width limits. (
  record { are = refl; count = refl; numbered = tt; each = tt; whole = λ w k. refl },
  λ s starts sound have. (
    λ x. record { are = have.are; count = have.count; numbered = have.numbered; each = have.each; whole = have.whole },
    λ worker within can. starts_give width limits s starts sound have worker within can,
    λ worker findings. starts_back width limits s starts sound have worker findings,
    λ n. record { are = have.are; count = have.count; numbered = have.numbered; each = have.each; whole = have.whole },
  ),
)

pub returns-clause-whole : goal.returns-clause-whole
returns-clause-whole c =
    λ width limits s starts sound have worker k.
    (started_first width limits s starts sound have worker k, started_whole width limits s starts sound have worker k)

pub returns-clause-grows : goal.returns-clause-grows
returns-clause-grows c = events_grow
