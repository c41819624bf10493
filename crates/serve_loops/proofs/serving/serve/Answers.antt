use Rattle.std.proofs.Common.{◌≡◌, rules, refl, true}
use Rattle.std.specs.List.{AllZip, list_any}
use Rattle.std.proofs.lemmas.List.Folds.{Any-from_list_any}
use Rattle.serve_loops.specs.Acceptors.{AcceptorServes}
use Rattle.serve_loops.proofs.AcceptorLaws.{any_rose}
use Rattle.serve_loops.proofs.serving.serve.Goals as goal

pub returns-then-failed-clause-end : goal.returns-then-failed-clause-end
returns-then-failed-clause-end g c =
    let failed : list_any (λ acceptor. acceptor.failed) c.from_vec.result ≡ true = search rules in
    ((λ _. Any-from_list_any (λ acceptor. acceptor.failed) c.from_vec.result failed), λ _. refl)

pub returns-then-failed-clause-cause : goal.returns-then-failed-clause-cause
returns-then-failed-clause-cause g c = λ _.
    let failed : list_any (λ acceptor. acceptor.failed) c.from_vec.result ≡ true = search rules in
    let served : AllZip (AcceptorServes g.N.Listener.faults g.H.Host.follows) c.args.acceptors.now c.from_vec.result = search rules in
    any_rose g.N.Listener.faults g.H.Host.follows c.args.acceptors.now c.from_vec.result served failed
