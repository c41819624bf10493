-- Whether a connection has the pass of the waiting room, which a POST of a day needs.

use Rattle.std.specs.Prelude.{Bool, is_some}
use Rattle.serve_top.specs.declared.tcp_turn.TcpTurn.{TcpTurn}

-- whether it has the pass
abbrev pub has_turn : {R : Type 0} → TcpTurn R → Bool
has_turn t = is_some t.own
