use Rattle.std.proofs.Common.{Bool, arith, sym, ap, ◌∙◌}
use Rattle.std.specs.List.{list_any}
use Rattle.std.proofs.lemmas.List.{take_all}
use Rattle.std.proofs.lemmas.List.Folds.{list_any_at}
use Rattle.httparse.specs.Spans.{header_bytes}
use Rattle.httparse.specs.declared.spans.HeaderSpan.{HeaderSpan}
use Rattle.serve_requests.specs.Origins.{is_foreign_field}
use Rattle.serve_requests.proofs.OriginLaws.{any_map, none_more}
use Rattle.serve_requests.proofs.origins.is_foreign.Goals as goal

pub returns : goal.returns
returns c =
    let buf = c.args.buf.now in
    let p : HeaderSpan → Bool = λ f. is_foreign_field (header_bytes buf f) in
    let whole = take_all c.loop-field.field-index c.args.fields.now (omega arith) in
    sym (any_map is_foreign_field (header_bytes buf) c.args.fields.now ∙ ap (list_any p) (sym whole)
    ∙ c.loop-field.invariant)

pub returns-then-is_foreign_field : goal.returns-then-is_foreign_field
returns-then-is_foreign_field c =
    let buf = c.args.buf.now in
    let p : HeaderSpan → Bool = λ f. is_foreign_field (header_bytes buf f) in
    sym (any_map is_foreign_field (header_bytes buf) c.args.fields.now
    ∙ list_any_at p c.args.fields.now c.loop-field.field-index _ c.loop-field-test.true
    (sym c.is_foreign_field.ensures ∙ c.if-is_foreign_field.true))

pub loop-field-preserved : goal.loop-field-preserved
loop-field-preserved c =
    let buf = c.args.buf.now in
    let p : HeaderSpan → Bool = λ f. is_foreign_field (header_bytes buf f) in
    none_more p c.args.fields.now c.loop-field.field-index _ c.loop-field-test.true c.loop-field.invariant
    (sym c.is_foreign_field.ensures ∙ c.if-is_foreign_field.false)
