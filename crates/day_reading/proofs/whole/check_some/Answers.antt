use Rattle.std.proofs.Common.{◌≡◌, length, take, arith}
use Rattle.std.proofs.lemmas.Bool.{ltb-false}
use Rattle.day_reading.proofs.WholeLaws.{piece_more, piece_last}
use Rattle.day_reading.proofs.whole.check_some.Goals as goal

pub returns-in-Ok-take-clause-checks : goal.returns-in-Ok-take-clause-checks
returns-in-Ok-take-clause-checks g c = λ limits late bytes h.
    let n = c.in-Ok.count in
    let piece = take n c.read.new.buf in
    let old = g.S.Source.left c.args.source.now in
    let new = g.S.Source.left c.read.new.self in
    let consumed = c.in-Ok.ensures.bytes in
    let took = c.in-Ok-take.ensures limits late in (
      piece_more c.args.checker.now c.take.new.self limits late old bytes piece h took new consumed.0,
      λ none. piece_last c.args.checker.now c.take.new.self limits late old bytes piece h took new consumed.0
          (consumed.1 (omega (arith, ltb-false 0 n none)) (omega (arith, c.requires, c.read.auto.buf))),
    )
