use Rattle.std.proofs.Common.{◌∙◌, sym, arith, length-append}
use Rattle.day_reading.proofs.consumed.Consumed.add.Goals as goal

pub returns-clause-taken : goal.returns-clause-taken
returns-clause-taken g c = λ bytes h.
    let same = sym c.digest_piece.ensures.digested in (
      λ asked. c.digest_piece.ensures.took bytes (same ∙ asked) (h.0 (same ∙ asked)),
      omega (arith, h.1, c.digest_piece.ensures.count, length-append bytes c.args.piece.now),
    )
