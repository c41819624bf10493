use Rattle.std.proofs.Common.{map, string_bytes}
use Rattle.serve_top.proofs.Law.{law}
use Rattle.serve_top.proofs.laws.words_law.Goals as goal

pub returns : goal.returns
returns c = law (map string_bytes c.args.words.now)
