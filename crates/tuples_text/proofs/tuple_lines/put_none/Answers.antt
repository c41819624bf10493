use Rattle.std.proofs.Common.{◌∷◌, ◌++◌, drop, sym, ap, ◌∙◌}
use Rattle.tuples_text.proofs.NoticeLaws.{minus_one}
use Rattle.tuples_text.proofs.tuple_lines.put_none.Goals as goal

pub returns-clause-written : goal.returns-clause-written
returns-clause-written c =
    c.put_byte.ensures.written ∙ ap (λ l. 44 ∷ l) c.put_byte-at-2.ensures.written
    ∙ ap (λ l. 44 ∷ 45 ∷ l) c.put_byte-at.ensures.written
    ∙ ap (λ ds. 44 ∷ (ds ++ drop c.args.end c.args.line.now)) (sym minus_one)
