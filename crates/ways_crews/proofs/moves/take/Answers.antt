use Rattle.std.proofs.Common.{rules, arith, ap, Some}
use Rattle.ways_crews.specs.Views.{Sat}
use Rattle.ways_crews.specs.declared.cells.Parcel.TheVariants.{Waiting}
use Rattle.ways_crews.proofs.Asked.{turn_of}
use Rattle.ways_crews.proofs.TakerSteps.{take_allowed}
use Rattle.ways_crews.proofs.moves.take.Goals as goal

pub compare_exchange-requires : goal.compare_exchange-requires
compare_exchange-requires c =
    (search rules, (let w = c.requires.seat.1 in omega arith), take_allowed _ _ _ _ _ c.requires.cell c.requires.idle)

pub exchange-requires : goal.exchange-requires
exchange-requires c =
    let found = c.compare_exchange.ensures.2.0 c.if-compare_exchange-ne-READY.false in
    (search rules, (Some (Waiting found.0), turn_of _ _ _ _ (ap (λ (m : Sat). m.1) found.2)))
