use Rattle.std.proofs.Common.{None, inr, string_bytes, subst, sym}
use Rattle.keep_files.specs.Openings.{AsWhole}
use Rattle.keep_files.specs.Origins.{IsFirst, OfFile, PutsNothing}
use Rattle.keep_files.proofs.OriginLaws.{adopted_comes, adopted_from, lacks_from}
use Rattle.keep_files.proofs.database.Database.made.Goals as goal

pub returns-in-Err-clause-refused : goal.returns-in-Err-clause-refused
returns-in-Err-clause-refused g c =
    inr
    (lacks_from g.S.Store (λ conn. OfFile g.S.Store g.S.Opens.gives PutsNothing
    (string_bytes c.args.self.now.path) None (AsWhole conn))
    c.args.conn c.requires c.in-Err.cause c.in-Err.ensures.unmade)

-- the connection is that of the keeper
pub taken_over-requires : goal.taken_over-requires
taken_over-requires g c =
    subst (λ conn. OfFile g.S.Store g.S.Opens.gives PutsNothing (string_bytes c.args.self.now.path) None (AsWhole conn))
    (sym c.give_up.ensures)
    (adopted_comes g.S.Store g.S.Opens.gives PutsNothing (IsFirst g.S.Opens.gives
    (string_bytes c.args.self.now.path) None)
    c.in-Ok.kept
    (adopted_from g.S.Store (λ conn. OfFile g.S.Store g.S.Opens.gives PutsNothing
    (string_bytes c.args.self.now.path) None (AsWhole conn))
    c.args.conn c.requires c.in-Ok.kept c.in-Ok.ensures.made))

pub returns-in-Some-clause-ready : goal.returns-in-Some-clause-ready
returns-in-Some-clause-ready g c =
    adopted_from g.S.Store (λ conn. OfFile g.S.Store g.S.Opens.gives PutsNothing
    (string_bytes c.args.self.now.path) None (AsWhole conn))
    c.args.conn c.requires c.in-Ok.kept c.in-Ok.ensures.made
