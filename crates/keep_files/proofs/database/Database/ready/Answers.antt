use Rattle.std.proofs.Common.{IfOk, IfErr, string_bytes, subst, sym, ◌∙◌}
use Rattle.keep_files.specs.Asked.{IsReadyOf, IsUnreadOf}
use Rattle.keep_files.specs.Origins.{TriesPath}
use Rattle.keep_files.proofs.OriginLaws.{ready_held}
use Rattle.keep_files.proofs.database.Database.ready.Goals as goal

-- something is held
pub returns-in-Some-clause-tried : goal.returns-in-Some-clause-tried
returns-in-Some-clause-tried g c none =
    absurd (let wrong = sym none ∙ sym c.take.ensures.value ∙ c.in-Some.is in cc)

pub returns-in-Some-clause-ready : goal.returns-in-Some-clause-ready
returns-in-Some-clause-ready g c =
    ready_held g.S.Store g.S.Opens.gives g.P.Pages (string_bytes c.args.self.now.path) c.args.self.now.kept
    c.in-Some.kept (sym c.take.ensures.value ∙ c.in-Some.is)

-- nothing is
pub returns-clause-tried : goal.returns-clause-tried
returns-clause-tried g c =
    subst (TriesPath g.S.Store g.S.Opens.gives g.S.Opens.refuses (string_bytes c.args.self.now.path))
    (sym (sym c.take.ensures.value ∙ c.in_default.is)) c.opened_there.ensures.tried

pub returns-clause-ready : goal.returns-clause-ready
returns-clause-ready g c =
    subst (λ old. IfOk c.opened_there.result (IsReadyOf g.S.Store g.S.Opens.gives g.P.Pages
    (string_bytes c.args.self.now.path) old))
    (sym (sym c.take.ensures.value ∙ c.in_default.is)) c.opened_there.ensures.ready

pub returns-clause-refused : goal.returns-clause-refused
returns-clause-refused g c =
    subst
    (λ old. IfErr c.opened_there.result (IsUnreadOf g.S.Store g.S.Opens.gives g.S.Opens.refuses
    (string_bytes c.args.self.now.path) old))
    (sym (sym c.take.ensures.value ∙ c.in_default.is)) c.opened_there.ensures.refused
