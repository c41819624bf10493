use Rattle.std.proofs.Common.{◌≡◌, ◌∷◌, length, option_copied, Some, arith, sym, ap, ◌∙◌, to_z, of_z, w16, rules}
use Rattle.tuples_text.specs.Fields.{fields_after}
use Rattle.tuples_text.proofs.CandidateLaws.{notice_count, notice_fields, short_is, toll_is}
use Rattle.tuples_text.proofs.notice_reader.candidate.Goals as goal

pub returns-in_err-rest : goal.returns-in_err-rest
returns-in_err-rest c = λ n e is.
    let none = c.split_field.ensures
    ∙ ap (λ o. c.split_field.result.0.now ∷ fields_after (option_copied o)) c.in_err-rest.was in
    absurd (omega (arith, (notice_count c.args.line.now n e is).0, ap length none))

pub returns-in_err-rest-2 : goal.returns-in_err-rest-2
returns-in_err-rest-2 c = λ n e is.
    let one = c.split_field.ensures
    ∙ ap (λ o. c.split_field.result.0.now ∷ fields_after (option_copied o)) c.in_ok-rest.was in
    let none = c.split_field-2.ensures
    ∙ ap (λ o. c.split_field-2.result.0.now ∷ fields_after (option_copied o)) c.in_err-rest-2.was in
    absurd (omega (arith, (notice_count c.args.line.now n e is).0, ap length one, ap length none))

pub returns-in_err-rest-3 : goal.returns-in_err-rest-3
returns-in_err-rest-3 c = λ n e is.
    let one = c.split_field.ensures
    ∙ ap (λ o. c.split_field.result.0.now ∷ fields_after (option_copied o)) c.in_ok-rest.was in
    let two = c.split_field-2.ensures
    ∙ ap (λ o. c.split_field-2.result.0.now ∷ fields_after (option_copied o)) c.in_ok-rest-2.was in
    let none = c.split_field-3.ensures
    ∙ ap (λ o. c.split_field-3.result.0.now ∷ fields_after (option_copied o)) c.in_err-rest-3.was in
    absurd (omega (arith, (notice_count c.args.line.now n e is).0, ap length one, ap length two, ap length none))

pub returns-in-None : goal.returns-in-None
returns-in-None c = λ n e is.
    let one = c.split_field.ensures
    ∙ ap (λ o. c.split_field.result.0.now ∷ fields_after (option_copied o)) c.in_ok-rest.was in
    let two = c.split_field-2.ensures
    ∙ ap (λ o. c.split_field-2.result.0.now ∷ fields_after (option_copied o)) c.in_ok-rest-2.was in
    let three = c.split_field-3.ensures
    ∙ ap (λ o. c.split_field-3.result.0.now ∷ fields_after (option_copied o)) c.in_ok-rest-3.was in
    let four = c.split_field-4.ensures
    ∙ ap (λ o. c.split_field-4.result.0.now ∷ fields_after (option_copied o)) c.in-None.is in
    let tail = three ∙ ap (λ fs. c.split_field-3.result.0.now ∷ fs) four in
    let all =
    one ∙ ap (λ fs. c.split_field.result.0.now ∷ fs) (two ∙ ap (λ fs. c.split_field-2.result.0.now ∷ fs) tail) in
    c.short.ensures ∙ short_is n c.split_field.result.0.now c.split_field-2.result.0.now c.split_field-3.result.0.now
    c.split_field-4.result.0.now c.word.result c.word-in-None.result c.word-in-None-2.result c.amount.result
    e (sym (notice_fields c.args.line.now n e is) ∙ all) c.word.ensures c.word-in-None.ensures c.word-in-None-2.ensures
    c.amount.ensures

pub returns-in-Some : goal.returns-in-Some
returns-in-Some c = λ n e is.
    let one = c.split_field.ensures
    ∙ ap (λ o. c.split_field.result.0.now ∷ fields_after (option_copied o)) c.in_ok-rest.was in
    let two = c.split_field-2.ensures
    ∙ ap (λ o. c.split_field-2.result.0.now ∷ fields_after (option_copied o)) c.in_ok-rest-2.was in
    let three = c.split_field-3.ensures
    ∙ ap (λ o. c.split_field-3.result.0.now ∷ fields_after (option_copied o)) c.in_ok-rest-3.was in
    let four = c.split_field-4.ensures
    ∙ ap (λ o. c.split_field-4.result.0.now ∷ fields_after (option_copied o)) c.in-Some.is in
    let five = four ∙ ap (λ fs. c.split_field-4.result.0.now ∷ fs) c.split_field-in-Some.ensures in
    let tail = three ∙ ap (λ fs. c.split_field-3.result.0.now ∷ fs) five in
    let all =
    one ∙ ap (λ fs. c.split_field.result.0.now ∷ fs) (two ∙ ap (λ fs. c.split_field-2.result.0.now ∷ fs) tail) in
    let whole : to_z w16 (of_z w16 c.lav.result) ≡ c.lav.result = search rules in
    ap Some (toll_is n c.split_field.result.0.now c.split_field-2.result.0.now c.split_field-3.result.0.now
    c.split_field-4.result.0.now c.split_field-in-Some.result.0.now
    (fields_after (option_copied c.split_field-in-Some.result.1))
    c.word-in-Some.result c.word-in-Some-2.result c.amount-in-Some.result (to_z w16 (of_z w16 c.lav.result))
    e (sym (notice_fields c.args.line.now n e is) ∙ all) c.word-in-Some.ensures c.word-in-Some-2.ensures
    (λ z h f. whole ∙ c.lav.ensures z h f) c.amount-in-Some.ensures)
