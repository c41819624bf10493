use Rattle.std.proofs.Common.{◌≡◌, ◌++◌, ◌∷◌, [], All, sym, subst, rules}
use Rattle.std.proofs.lemmas.List.Elements.{All-push}
use Rattle.serve_top.specs.TcpDoors.{HearsAt}
use Rattle.serve_top.proofs.tcp_door.add.Goals as goal

pub returns-clause-hears : goal.returns-clause-hears
returns-clause-hears g c =
    let grown : c.push.new.self.items ≡ c.args.ears.now.items ++ c.args.ear ∷ [] = search rules in
    subst (All (λ ear. HearsAt ear c.args.port)) (sym grown)
    (All-push (λ ear. HearsAt ear c.args.port) c.args.ears.now.items c.args.ear c.requires.hears c.requires.own)
