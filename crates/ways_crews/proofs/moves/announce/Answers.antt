use Rattle.std.proofs.Common.{rules, arith, ◌∙◌, None, ap}
use Rattle.ways_crews.specs.Views.{Sat, input_of}
use Rattle.ways_crews.proofs.Asked.{open_at, announce_at, turn_of}
use Rattle.ways_crews.proofs.moves.announce.Goals as goal

pub compare_exchange-requires : goal.compare_exchange-requires
compare_exchange-requires c = (
  search rules,
  (let w = c.requires.crew.0.1 in omega arith),
  open_at _ _ _ c.args.seat.now.me c.requires.cell
      c.requires.crew.1,
)

pub exchange-requires : goal.exchange-requires
exchange-requires c = let found = c.compare_exchange.ensures.2.0 c.if-compare_exchange-ne-FREE.false in
    (search rules, (None, turn_of _ _ _ _ (ap (λ (m : Sat). m.1) found)))

pub store-requires : goal.store-requires
store-requires c =
    let found = c.compare_exchange.ensures.2.0 c.if-compare_exchange-ne-FREE.false in (
      search rules,
      (let w = c.requires.crew.0.1 in omega arith),
      announce_at _ _ _ _ _ _ _ c.requires.cell
          (c.exchange.ensures.1 ∙ (c.compare_exchange.ensures.1 ∙ c.requires.crew.1)) c.exchange.ensures.3
          (ap (λ (m : Sat). input_of m.0 c.args.cell) found ∙ c.requires.free) c.requires.ready,
    )
