use Rattle.std.proofs.Common.{◌++◌, refl, subst}
use Rattle.day_floor.specs.TextDigests.{TookText}
use Rattle.day_floor.specs.declared.printer.Printer.{Printer}
use Rattle.road_io.specs.Levels.{Level, Adds, FillsUp}
use Rattle.day_floor.proofs.PrintLaws.{failed_piece, whole_piece}
use Rattle.day_floor.proofs.printer.Printer.flush.Goals as goal

pub returns-in-Ok-clause-hands : goal.returns-in-Ok-clause-hands
returns-in-Ok-clause-hands g c =
    let p = c.args.self.now in
    let q : Printer = record { piece = c.clear.new.self; digest = c.add.new.self; notices = p.notices } in
    let mid : Level = (g.O.Sink.written c.args.sink.now, g.O.Sink.room c.args.sink.now) in
    let new : Level = (g.O.Sink.written c.put_all.new.sink, g.O.Sink.room c.put_all.new.sink) in (
      refl,
      λ earlier run old s. whole_piece p q earlier run old mid new s
          (subst (Adds mid new) c.as_slice.ensures.value (c.in-Ok.ensures.bytes, c.in-Ok.ensures.took)) c.clear.ensures.items
          (λ text took. subst (λ xs. TookText c.add.new.self (text ++ xs)) c.deref.ensures.value
          (c.add.ensures.took text took)),
    )

pub returns-in-Err-clause-hands : goal.returns-in-Err-clause-hands
returns-in-Err-clause-hands g c = λ earlier run old s.
    let mid : Level = (g.O.Sink.written c.args.sink.now, g.O.Sink.room c.args.sink.now) in
    let new : Level = (g.O.Sink.written c.put_all.new.sink, g.O.Sink.room c.put_all.new.sink) in
    failed_piece c.args.self.now earlier run old mid new s
    (subst (λ xs. FillsUp xs mid new) c.as_slice.ensures.value c.in-Err.ensures.fills)
