use Rattle.std.proofs.Common.{◌++◌, ap, sym, ◌∙◌}
use Rattle.std.proofs.lemmas.List.{append_assoc}
use Rattle.road_digest.proofs.beside_digester.BesideDigester.add.Goals as goal

pub returns-in-Ok-clause-took : goal.returns-in-Ok-clause-took
returns-in-Ok-clause-took g c bytes took =
    let t = c.make_room.ensures.took bytes took in (
      t.0,
      t.1,
      ap (λ xs. xs ++ c.args.piece.now) t.2
          ∙ append_assoc t.0 c.make_room.new.self.waiting.items c.args.piece.now
          ∙ ap (λ xs. t.0 ++ xs) (sym c.in-Ok.ensures.items),
    )

pub returns-in-Err-clause-took : goal.returns-in-Err-clause-took
returns-in-Err-clause-took g c bytes took =
    let t = c.make_room.ensures.took bytes took in
    c.add_here-in-Err.ensures.took bytes (t.0, t.1, t.2 ∙ ap (λ xs. t.0 ++ xs) (sym c.in-Err.ensures.items))
