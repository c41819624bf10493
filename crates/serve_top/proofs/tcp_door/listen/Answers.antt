use Rattle.std.proofs.Common.{All, sym, subst}
use Rattle.serve_top.specs.TcpDoors.{HearsAt}
use Rattle.serve_top.proofs.tcp_door.listen.Goals as goal

pub returns-clause-hears : goal.returns-clause-hears
returns-clause-hears g c =
    subst (All (λ ear. HearsAt ear c.args.port)) (sym c.from_vec.ensures) c.in_ok-add-2.ensures.hears
