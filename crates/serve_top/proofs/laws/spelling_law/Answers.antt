use Rattle.std.proofs.Common.{map, string_bytes}
use Rattle.serve_top.proofs.Law.{spelled}
use Rattle.serve_top.proofs.laws.spelling_law.Goals as goal

pub returns : goal.returns
returns c = spelled (map string_bytes c.args.words.now)
