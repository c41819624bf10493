use Rattle.std.proofs.Common.{◌≡◌, ◌∙◌, ap, refl, true, map, string_bytes, subst}
use Rattle.clap.specs.Words.{app_of}
use Rattle.clap.specs.Simple.{App}
use Rattle.clap.specs.Kinds.{FailsBy}
use Rattle.clap.specs.Faults.{is_simple_and_free, fault_of}
use Rattle.serve_top.specs.App.{server_app}
use Rattle.serve_top.proofs.table.parse.Goals as goal

simple : is_simple_and_free server_app ≡ true
simple = refl

pub returns-clause-kinds : goal.returns-clause-kinds
returns-clause-kinds c =
    let is : app_of c.in_ok-server.field-0 ≡ server_app = c.in_ok-server.ensures in
    subst (λ (a : App). FailsBy (fault_of a (map string_bytes c.args.words.now)) c.try_get_matches_from.result) is
    (c.try_get_matches_from.ensures.kinds (ap is_simple_and_free is ∙ simple))
