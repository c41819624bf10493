use Rattle.std.proofs.Common.{◌≡◌, false, take}
use Rattle.std.specs.List.{list_any}
use Rattle.httparse.specs.Spans.{header_bytes}
use Rattle.serve_requests.specs.Origins.{is_foreign_field}
use Rattle.serve_requests.proofs.origins.is_foreign.Given as goal

abbrev pub invariant-loop-field : goal.invariant-loop-field
invariant-loop-field l = list_any (λ f. is_foreign_field (header_bytes l.buf f)) (take l.field-index l.fields) ≡ false
