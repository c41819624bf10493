use Rattle.std.proofs.Common.{arith, sym, ap, subst, ◌∙◌}
use Rattle.std.specs.Str.{IsUtf8}
use Rattle.std.specs.Fmt.{decimal}
use Rattle.std.specs.Result.{result_unwrap_or}
use Rattle.std.proofs.lemmas.Str.{IsUtf8-from_ascii}
use Rattle.std.proofs.lemmas.Fmt.{IsAscii-decimal, parse-decimal}
use Rattle.tuples_text.proofs.notice_reader.word.Goals as goal

pub returns-in_default : goal.returns-in_default
returns-in_default c =
    λ n h e. absurd
    (c.in_default.ensures.cases.0
    (subst IsUtf8 (sym e) (IsUtf8-from_ascii (decimal n) (IsAscii-decimal n (omega (arith, h))))))

pub returns : goal.returns
returns c = λ n h e. c.unwrap_or.ensures
    ∙ ap (λ r. result_unwrap_or r 0)
    (parse-decimal 32 n c.in-Ok.text.now c.parse.result h (omega (arith, h)) (c.in-Ok.ensures.cases.0 ∙ e)
    c.parse.ensures.value.0)
