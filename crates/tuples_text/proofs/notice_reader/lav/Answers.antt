use Rattle.std.proofs.Common.{◌≡◌, pos, sym, ap, subst, ◌∙◌, to_z, of_z, w16, rules}
use Rattle.std.specs.Str.{IsUtf8}
use Rattle.std.specs.Result.{result_unwrap_or}
use Rattle.std.proofs.lemmas.Str.{IsUtf8-from_ascii}
use Rattle.std.proofs.lemmas.Fmt.{IsAscii-signed, parse-signed_decimal}
use Rattle.tuples_text.proofs.CandidateLaws.{lav_small, lav_fits}
use Rattle.tuples_text.proofs.notice_reader.lav.Goals as goal

pub returns-in_default : goal.returns-in_default
returns-in_default c =
    λ z h e. absurd
    (c.in_default.ensures.cases.0 (subst IsUtf8 (sym e) (IsUtf8-from_ascii _ (IsAscii-signed z (lav_small z h)))))

pub returns : goal.returns
returns c = λ z h e.
    let whole : to_z w16 (of_z w16 c.unwrap_or.result) ≡ c.unwrap_or.result = search rules in
    whole ∙ c.unwrap_or.ensures
    ∙ ap (λ r. result_unwrap_or r (pos 0))
    (parse-signed_decimal w16 z c.in-Ok.text.now c.parse.result (lav_fits z h) (lav_small z h)
    (c.in-Ok.ensures.cases.0 ∙ e) c.parse.ensures.value.0)
