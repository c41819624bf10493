use Rattle.std.proofs.Common.{◌≡◌, ◌+◌, ◌∷◌, [], ◌++◌, length, refl, rules, arith}
use Rattle.std.specs.Vec.{vec_len}
use Rattle.road_time.specs.Text.{notice_text}
use Rattle.day_floor.specs.declared.printer.Printer.{Printer}
use Rattle.road_io.specs.Levels.{Level}
use Rattle.day_floor.proofs.PrintLaws.{says_no_memory, says_short, says_piece}
use Rattle.day_floor.proofs.printer.Printer.put.Goals as goal

pub returns-then-is_err-clause-says : goal.returns-then-is_err-clause-says
returns-then-is_err-clause-says g c =
    says_no_memory c.args.self.now c.args.self.now (g.O.Sink.written c.args.sink.now, g.O.Sink.room c.args.sink.now)
    (c.args.notice.now ∷ [])

pub returns-then-len-lt-PIECE-clause-says : goal.returns-then-len-lt-PIECE-clause-says
returns-then-len-lt-PIECE-clause-says g c =
    let p = c.args.self.now in
    let n = c.args.notice.now in
    let q : Printer = record { piece = c.put_notice.new.out; digest = p.digest; notices = p.notices + 1 } in
    let w : Level = (g.O.Sink.written c.args.sink.now, g.O.Sink.room c.args.sink.now) in
    let held : q.piece.items ≡ p.piece.items ++ (notice_text n ++ 10 ∷ []) = search rules in
    let size : vec_len q.piece ≡ length q.piece.items = search rules in
    says_short p q n held refl w refl (omega (arith, size, c.len.ensures, c.if-len-lt-PIECE.true))

pub returns-clause-says : goal.returns-clause-says
returns-clause-says g c =
    let p = c.args.self.now in
    let n = c.args.notice.now in
    let q : Printer = record { piece = c.put_notice.new.out; digest = p.digest; notices = p.notices + 1 } in
    let w : Level = (g.O.Sink.written c.args.sink.now, g.O.Sink.room c.args.sink.now) in
    let z : Level = (g.O.Sink.written c.flush.new.sink, g.O.Sink.room c.flush.new.sink) in
    let held : q.piece.items ≡ p.piece.items ++ (notice_text n ++ 10 ∷ []) = search rules in
    let size : vec_len q.piece ≡ length q.piece.items = search rules in
    says_piece p q n held refl c.flush.result c.flush.new.self w z refl
    (omega (arith, size, c.len.ensures, c.if-len-lt-PIECE.false)) c.flush.ensures.hands
