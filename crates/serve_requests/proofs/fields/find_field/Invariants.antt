use Rattle.std.proofs.Common.{length, take, map, option_map, IfSome}
use Rattle.httparse.specs.Spans.{IsWithin, header_bytes, span_bytes}
use Rattle.serve_requests.specs.Requests.{values_of}
use Rattle.serve_requests.specs.Fields.{Finds}
use Rattle.serve_requests.proofs.fields.find_field.Given as goal

abbrev pub invariant-loop-field : goal.invariant-loop-field
invariant-loop-field l = record {
  found : Finds (values_of l.name (map (header_bytes l.buf) (take l.field-index l.fields)))
      (option_map (span_bytes l.buf) l.first) l.several;
  within : IfSome l.first (IsWithin (length l.buf));
}
