use Rattle.std.specs.Fmt.{digits}
use Rattle.std.proofs.Common.{refl}
use Rattle.serve_requests.proofs.streams.stream_head.Goals as goal

pub returns : goal.returns
unfolding digits
returns c = refl
