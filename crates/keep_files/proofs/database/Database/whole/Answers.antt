use Rattle.std.proofs.Common.{None, inr, string_bytes}
use Rattle.keep_files.specs.Openings.{AsWhole}
use Rattle.keep_files.specs.Origins.{OfFile, PutsNothing}
use Rattle.keep_files.proofs.OriginLaws.{adopted_from, lacks_from}
use Rattle.keep_files.proofs.database.Database.whole.Goals as goal

pub returns-in-Ok-clause-ready : goal.returns-in-Ok-clause-ready
returns-in-Ok-clause-ready g c =
    adopted_from g.S.Store (λ conn. OfFile g.S.Store g.S.Opens.gives PutsNothing
    (string_bytes c.args.self.now.path) None (AsWhole conn))
    c.args.conn c.requires c.in-Ok.kept c.in-Ok.ensures.made

pub returns-in-Err-clause-refused : goal.returns-in-Err-clause-refused
returns-in-Err-clause-refused g c =
    inr
    (lacks_from g.S.Store (λ conn. OfFile g.S.Store g.S.Opens.gives PutsNothing
    (string_bytes c.args.self.now.path) None (AsWhole conn))
    c.args.conn c.requires c.in-Err.cause c.in-Err.ensures.unmade)
