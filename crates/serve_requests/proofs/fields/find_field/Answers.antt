use Rattle.std.proofs.Common.{subst, sym, option_map}
use Rattle.httparse.specs.Spans.{header_bytes, span_bytes}
use Rattle.serve_requests.specs.Fields.{Finds}
use Rattle.serve_requests.proofs.FieldLaws.{values_on}
use Rattle.serve_requests.proofs.fields.find_field.Goals as goal

pub loop-field-preserved : goal.loop-field-preserved
loop-field-preserved c = record {
  found = subst (λ vs. Finds vs (option_map (span_bytes c.args.buf.now) c.look_at.result.0) c.look_at.result.1)
      (sym (values_on c.args.name.now (header_bytes c.args.buf.now) c.args.fields.now c.loop-field.field-index _
      c.loop-field-test.true))
      (c.look_at.ensures.found _ c.loop-field.invariant.found);
  within = c.look_at.ensures.within;
}
